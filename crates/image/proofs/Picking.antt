-- A pack is sound where header and footer agree and stand in its own slot, and the newer sound one is picked: so of
-- slots that are settled, or between two packs, one of the packs always is.
use Rattle.std.proofs.Common.{◌≡◌, ◌⊎◌, inl, inr, ⊎_elim, ℕ, zero, suc, ◌+◌, ◌-◌, ◌<◌, ◌≤◌, List, Bool, true, false, Some, None, refl, sym, ◌∙◌, ap, subst, arith}
use Rattle.std.specs.Prelude.{if◌then◌else◌, max}
use Rattle.std.specs.Bool.{Decides}
use Rattle.std.proofs.lemmas.Bool.{cases_lt}
use Rattle.std.proofs.lemmas.Bool.Decides.{Decides-and, Decides-eqb, Decides-ltb}
use Rattle.image.proofs.Marking.{true_or_false}
use Rattle.image.specs.Slots.{Slot, version_of, slot_of, is_sound, sound_version, slot_from, pick, picked_slot, picked, body_in, IsSound, IsPicked, IsSettled, IsBetween}

sound_Decides : (slot header footer : ℕ) → Decides (is_sound slot header footer) ((header ≡ footer) × ((0 < header) × (slot_of header ≡ slot)))
sound_Decides slot header footer = Decides-and _ _ (Decides-eqb header footer) (Decides-and _ _ (Decides-ltb 0 header) (Decides-eqb (slot_of header) slot))

from_positive : (version : ℕ) → 0 < version → slot_from version ≡ Some (slot_of version)
from_positive zero low = absurd (omega arith)
from_positive (suc version) low = refl

from_none : (version : ℕ) → slot_from version ≡ None → version ≡ 0
from_none zero is = refl
from_none (suc version) is = absurd cc

version_if : (slot header footer : ℕ) → is_sound slot header footer ≡ true → sound_version slot header footer ≡ header
version_if slot header footer is = ap (λ b. if b then header else 0) is

version_else : (slot header footer : ℕ) → is_sound slot header footer ≡ false → sound_version slot header footer ≡ 0
version_else slot header footer is = ap (λ b. if b then header else 0) is

-- the choice by what is sound
pick_first : (header footer header' footer' : ℕ) → is_sound 0 header footer ≡ true → (is_sound 1 header' footer' ≡ true → header' ≤ header) → pick header footer header' footer' ≡ Some 0
pick_first header footer header' footer' here there =
    let sound = (sound_Decides 0 header footer).0 here in
    let first : sound_version 0 header footer ≡ header = version_if 0 header footer here in
    let second : sound_version 1 header' footer' ≤ header = ⊎_elim
    (λ yes. let v : sound_version 1 header' footer' ≡ header' = version_if 1 header' footer' yes in omega (arith, v, there yes))
    (λ no. let v : sound_version 1 header' footer' ≡ 0 = version_else 1 header' footer' no in omega (arith, v))
    (true_or_false (is_sound 1 header' footer')) in
    let top : max (sound_version 0 header footer) (sound_version 1 header' footer') ≡ header = omega (arith, first, second) in
    ap slot_from top ∙ from_positive header sound.1.0 ∙ ap (λ k. Some k) sound.1.1

pick_second : (header footer header' footer' : ℕ) → is_sound 1 header' footer' ≡ true → (is_sound 0 header footer ≡ true → header < header') → pick header footer header' footer' ≡ Some 1
pick_second header footer header' footer' here there =
    let sound = (sound_Decides 1 header' footer').0 here in
    let second : sound_version 1 header' footer' ≡ header' = version_if 1 header' footer' here in
    let first : sound_version 0 header footer ≤ header' = ⊎_elim
    (λ yes. let v : sound_version 0 header footer ≡ header = version_if 0 header footer yes in omega (arith, v, there yes))
    (λ no. let v : sound_version 0 header footer ≡ 0 = version_else 0 header footer no in omega (arith, v))
    (true_or_false (is_sound 0 header footer)) in
    let top : max (sound_version 0 header footer) (sound_version 1 header' footer') ≡ header' = omega (arith, first, second) in
    ap slot_from top ∙ from_positive header' sound.1.0 ∙ ap (λ k. Some k) sound.1.1

pick_none : (header footer header' footer' : ℕ) → is_sound 0 header footer ≡ false → is_sound 1 header' footer' ≡ false → pick header footer header' footer' ≡ None
pick_none header footer header' footer' first second =
    ap slot_from (ap (λ v. max v (sound_version 1 header' footer')) (version_else 0 header footer first) ∙ ap (λ v. max 0 v) (version_else 1 header' footer' second))

module _ (slots : ℕ → Slot) where
  abbrev version_in : ℕ → ℕ
  version_in slot = version_of (slots slot).body

  abbrev test : ℕ → Bool
  test slot = is_sound slot (version_in slot) (slots slot).footer

  tested : (slot : ℕ) → test slot ≡ true → IsSound slots slot
  tested slot is = let all = (sound_Decides slot _ _).0 is in record { same = all.0; positive = all.1.0; parity = all.1.1 }

  passes : (slot : ℕ) → IsSound slots slot → test slot ≡ true
  passes slot is = (sound_Decides slot _ _).1 (is.same, (is.positive, is.parity))

  pub slot_chosen : (slot : ℕ) → IsPicked slots slot → picked_slot slots ≡ Some slot
  slot_chosen zero is = pick_first (version_in 0) (slots 0).footer (version_in 1) (slots 1).footer (passes 0 is.sound) (λ other. let lower = is.highest (tested 1 other) in omega arith)
  slot_chosen (suc zero) is = pick_second (version_in 0) (slots 0).footer (version_in 1) (slots 1).footer (passes 1 is.sound) (λ other. is.highest (tested 0 other))
  slot_chosen (suc (suc slot)) is = absurd (let within = is.within in omega arith)

  first_picked : IsSound slots 0 → (IsSound slots 1 → version_in 1 ≤ version_in 0) → IsPicked slots 0
  first_picked sound low = record {
    within = omega arith;
    sound = sound;
    highest = λ other. let at = other.parity in let here = sound.parity in let le = low other in omega arith;
  }

  second_picked : IsSound slots 1 → (IsSound slots 0 → version_in 0 < version_in 1) → IsPicked slots 1
  second_picked sound low = record { within = omega arith; sound = sound; highest = low }

  -- a slot is picked, or neither is sound
  pub picked_or_none : ((slot : ℕ) × IsPicked slots slot) ⊎ ((picked_slot slots ≡ None) × ((slot : ℕ) → slot ≤ 1 → IsSound slots slot → ⊥))
  picked_or_none = ⊎_elim
      (λ zeroth. ⊎_elim
      (λ first. ⊎_elim
      (λ lower. inl (1, second_picked (tested 1 first) (λ other. lower)))
      (λ higher. inl (0, first_picked (tested 0 zeroth) (λ other. higher)))
      (cases_lt (version_in 0) (version_in 1)))
      (λ unsound. inl (0, first_picked (tested 0 zeroth) (λ other. let passed = passes 1 other in cc)))
      (true_or_false (test 1)))
      (λ none. ⊎_elim
      (λ first. inl (1, second_picked (tested 1 first) (λ other. let passed = passes 0 other in cc)))
      (λ unsound. inr (pick_none (version_in 0) (slots 0).footer (version_in 1) (slots 1).footer none unsound, neither none unsound))
      (true_or_false (test 1)))
      (true_or_false (test 0))
    where
      neither : test 0 ≡ false → test 1 ≡ false → (slot : ℕ) → slot ≤ 1 → IsSound slots slot → ⊥
      neither none unsound zero le sound = let passed = passes 0 sound in cc
      neither none unsound (suc zero) le sound = let passed = passes 1 sound in cc
      neither none unsound (suc (suc slot)) le sound = omega arith

  pub is_picked : (slot : ℕ) → picked_slot slots ≡ Some slot → IsPicked slots slot
  is_picked slot is = ⊎_elim
      (λ found. let chosen = slot_chosen found.0 found.1 in let at : found.0 ≡ slot = cc in subst (IsPicked slots) at found.1)
      (λ none. let never = none.0 in cc)
      picked_or_none

  pub is_none : picked_slot slots ≡ None → (slot : ℕ) → slot ≤ 1 → IsSound slots slot → ⊥
  is_none is slot le sound = ⊎_elim (λ found. let chosen = slot_chosen found.0 found.1 in cc) (λ none. none.1 slot le sound) picked_or_none

  pub picks : (slot : ℕ) → IsPicked slots slot → picked slots ≡ Some (slots slot).body
  picks slot is = ap (body_in slots) (slot_chosen slot is)

  -- a body that stands whole in its slot
  pub stands_sound : (old : List ℕ) → 0 < version_of old → (slots (slot_of (version_of old))).body ≡ old → (slots (slot_of (version_of old))).footer ≡ version_of old → IsSound slots (slot_of (version_of old))
  stands_sound old positive body footer =
      let is : version_in (slot_of (version_of old)) ≡ version_of old = ap version_of body in
      record { same = is ∙ sym footer; positive = omega (arith, is); parity = ap slot_of is }

  old_picked : (old : List ℕ) → 0 < version_of old → (slots (slot_of (version_of old))).body ≡ old → (slots (slot_of (version_of old))).footer ≡ version_of old
      → (IsSound slots (1 - slot_of (version_of old)) → version_in (1 - slot_of (version_of old)) < version_of old) → picked slots ≡ Some old
  old_picked old positive body footer highest =
      let is : version_in (slot_of (version_of old)) ≡ version_of old = ap version_of body in
      picks (slot_of (version_of old)) (record {
        within = omega arith;
        sound = stands_sound old positive body footer;
        highest = λ other. subst (λ (n : ℕ). version_in (1 - slot_of (version_of old)) < n) (sym is) (highest other);
      })
      ∙ ap (λ (l : List ℕ). Some l) body

  -- settled slots stand for their old pack
  pub settled_picks : (old : List ℕ) → IsSettled slots old → picked slots ≡ Some old
  settled_picks old s = old_picked old s.positive s.body s.footer (λ other. let same = other.same in let below = s.below in omega arith)

  abbrev other_slot : List ℕ → ℕ
  other_slot old = 1 - slot_of (version_of old)

  -- and slots between two packs for one of them
  pub between_picks : (old new : List ℕ) → IsBetween slots old new → (picked slots ≡ Some old) ⊎ (picked slots ≡ Some new)
  between_picks old new b = ⊎_elim low held b.other
    where
      low : (slots (other_slot old)).footer < version_of old → (picked slots ≡ Some old) ⊎ (picked slots ≡ Some new)
      low below = inl (old_picked old b.positive b.body b.footer (λ there. let same = there.same in omega arith))

      held : (slots (other_slot old)).body ≡ new → (picked slots ≡ Some old) ⊎ (picked slots ≡ Some new)
      held body = ⊎_elim
          (λ sound.
          let is : version_in (other_slot old) ≡ version_of old + 1 = ap version_of body ∙ b.next in
          let back : 1 - other_slot old ≡ slot_of (version_of old) = omega arith in
          let was : version_in (1 - other_slot old) ≡ version_of old = ap version_in back ∙ ap version_of b.body in
          inr (picks (other_slot old) (record { within = omega arith; sound = tested (other_slot old) sound; highest = λ there. omega (arith, is, was) }) ∙ ap (λ (l : List ℕ). Some l) body))
          (λ unsound. inl (old_picked old b.positive b.body b.footer (λ there. let passed = passes (other_slot old) there in cc)))
          (true_or_false (test (other_slot old)))
