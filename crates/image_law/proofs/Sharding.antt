-- A slot stands for one number only, 16 times its place and the shard: so a number has one entry at most, in the shard
-- of its remainder, and the slot at its quotient has it.
use Rattle.image.specs.declared.image.NodeEntry.{NodeEntry}
use Rattle.std.proofs.Common.{◌≡◌, refl, sym, ◌∙◌, ap, ℕ, zero, suc, ◌+◌, ◌*◌, ◌/◌, ◌%◌, ◌<◌, ◌≤◌, inl, inr, Bool, true, false, List, [], ◌∷◌, length, get_or, if◌then◌else◌, ◌==◌, eqb-true, is_some, arith}
use Rattle.std.specs.Prelude.{Option, Some, None}
use Rattle.std.proofs.Math.Nat.{mul-add-mod_self_right, mod-eq_of_lt, div-add-mod'}
use Rattle.std.proofs.lemmas.Bool.{eq-eqb, ne_eqb}
use Rattle.std.proofs.lemmas.Bool.Decides.{eqb_tells}
use Rattle.geometry.specs.declared.geometry.Geometry.{Geometry}
use Rattle.image.specs.Image.{no_entry}
use Rattle.geometry.specs.Weights.{weigh}
use Rattle.image_law.specs.Items.{Among}
use Rattle.image_law.specs.Parts.{Token, found, ShardLaw}
use Rattle.image_law.specs.ShardSlots.{tokens_from, entry_in, SlotsLaw}
use Rattle.image_law.proofs.Weighing.{among_of_weigh}
use Rattle.image_law.proofs.Linking.{of_nid}

-- a token stands in a slot
slot_of_token : (k j : ℕ) (slots : List (Option NodeEntry)) (t : Token) → Among t (tokens_from k j slots)
    → (d : ℕ) × (d < length slots) × (t.nid ≡ (j + d) * 16 + k) × (is_some (get_or slots d None) ≡ true)
slot_of_token k j [] t m = absurd m
slot_of_token k j (None ∷ slots) t m =
    let r = slot_of_token k (suc j) slots t m in
    (suc r.0, (let l = r.1 in omega arith), (let e = r.2 in omega arith), r.3)
slot_of_token k j (Some e ∷ slots) t (inl same) =
    let n = ap (λ (x : Token). x.nid) same in (0, omega arith, omega arith, refl)
slot_of_token k j (Some e ∷ slots) t (inr m) =
    let r = slot_of_token k (suc j) slots t m in
    (suc r.0, (let l = r.1 in omega arith), (let e = r.2 in omega arith), r.3)

-- lower numbers don't stand in the slots from j on
none_before : (k j nid : ℕ) (slots : List (Option NodeEntry)) → nid < j * 16 + k → weigh (of_nid nid) (tokens_from k j slots) ≡ 0
none_before k j nid slots low = go (weigh (of_nid nid) (tokens_from k j slots)) refl
  where
    hit : (t : Token) → 0 < of_nid nid t → t.nid ≡ nid
    hit t some = by_test (t.nid == nid) refl some
      where
        by_test : (b : Bool) → (t.nid == nid) ≡ b → 0 < (if b then 1 else 0) → t.nid ≡ nid
        by_test true e s = eqb-true t.nid nid e
        by_test false e s = absurd (omega arith)

    go : (w : ℕ) → weigh (of_nid nid) (tokens_from k j slots) ≡ w → weigh (of_nid nid) (tokens_from k j slots) ≡ 0
    go zero e = e
    go (suc w) e =
        let t = among_of_weigh (of_nid nid) (tokens_from k j slots) (omega arith) in
        let s = slot_of_token k j slots t.0 t.1 in
        let n = hit t.0 t.2 in
        let m = s.2 in absurd (omega arith)

single : (k j nid : ℕ) (slots : List (Option NodeEntry)) → weigh (of_nid nid) (tokens_from k j slots) ≤ 1
single k j nid [] = omega arith
single k j nid (None ∷ slots) = single k (suc j) nid slots
single k j nid (Some e ∷ slots) =
    elim (eqb_tells (j * 16 + k) nid) [
      | inl (t, same) ↦
          let rest = none_before k (suc j) nid slots (omega arith) in
          let one : ◌≡◌ {A = ℕ} (if j * 16 + k == nid then 1 else 0) 1 = rw t refl in omega arith
      | inr (t, apart) ↦
          let rest = single k (suc j) nid slots in
          let none : ◌≡◌ {A = ℕ} (if j * 16 + k == nid then 1 else 0) 0 = rw t refl in omega arith
    ]

found_none : (nid : ℕ) (es : List Token) → weigh (of_nid nid) es ≡ 0 → found nid es ≡ no_entry
found_none nid [] none = refl
found_none nid (e ∷ es) none =
    elim (eqb_tells e.nid nid) [
      | inl (t, same) ↦ let one : of_nid nid e ≡ 1 = rw t refl in absurd (omega arith)
      | inr (t, apart) ↦ rw t (found_none nid es (omega arith))
    ]

found_from : (k j d nid : ℕ) (slots : List (Option NodeEntry)) → nid ≡ (j + d) * 16 + k → found nid (tokens_from k j slots) ≡ entry_in (get_or slots d None)
found_from k j d nid [] is = refl
found_from k j zero nid (None ∷ slots) is = found_none nid (tokens_from k (suc j) slots) (none_before k (suc j) nid slots (omega arith))
found_from k j (suc d) nid (None ∷ slots) is = found_from k (suc j) d nid slots (omega arith)
found_from k j zero nid (Some e ∷ slots) is = rw (eq-eqb (j * 16 + k) nid (omega arith)) refl
found_from k j (suc d) nid (Some e ∷ slots) is =
    rw (ne_eqb (j * 16 + k) nid (λ z. omega arith)) (found_from k (suc j) d nid slots (omega arith))

module _ (geometry : Geometry) (k : ℕ) (slots : List (Option NodeEntry)) (law : SlotsLaw geometry k slots) where
  pub slots_keep_law : ShardLaw geometry k (tokens_from k 0 slots)
  slots_keep_law = record {
    home = λ e m.
        let s = slot_of_token k 0 slots e m in
        let below = law.shard in
        let is : e.nid ≡ s.0 * 16 + k = let n = s.2 in omega arith in
        ap (λ (n : ℕ). n % 16) is ∙ mul-add-mod_self_right s.0 16 k ∙ mod-eq_of_lt below;
    range = λ e m.
        let s = slot_of_token k 0 slots e m in
        let r = law.room s.0 s.1 in
        let n = s.2 in
        (positive e.nid s.0 s.2 s.3, omega arith);
    single = λ nid. single k 0 nid slots;
  }
    where
      positive : (nid d : ℕ) → nid ≡ (0 + d) * 16 + k → is_some (get_or slots d None) ≡ true → 1 ≤ nid
      positive zero zero is some =
          let free = law.zero_is_free (omega arith) in
          let no : true ≡ false = sym some ∙ ap is_some free in absurd cc
      positive zero (suc d) is some = absurd (omega arith)
      positive (suc nid) d is some = omega arith

  -- the entry of a node number of this shard
  pub found_slot : (nid : ℕ) → nid % 16 ≡ k → found nid (tokens_from k 0 slots) ≡ entry_in (get_or slots (nid / 16) None)
  found_slot nid home = let e = div-add-mod' nid 16 in found_from k 0 (nid / 16) nid slots (omega arith)
