-- Bits, summaries and count tell the same blocks to be valid: one place set or cleared in all three changes the count
-- by one, so they agree again.
use Rattle.std.proofs.Common.{◌≡◌, ℕ, zero, suc, [], ◌∷◌, refl, ◌+◌, ◌-◌, ◌^◌, ◌<◌, List, Option, Some, None, Bool, true, false, map, length, get_or, set, replicate, sym, ap, ◌∙◌, arith}
use Rattle.std.proofs.lemmas.List.{map-set, length-set, length-map, length-replicate}
use Rattle.std.specs.Prelude.{IsSome}
use Rattle.geometry.specs.declared.owner.Owner.{Owner}
use Rattle.geometry.specs.declared.owner.Summary.{Summary}
use Rattle.geometry.specs.Owner.{IsOwner}
use Rattle.geometry.specs.Summary.{summary_of, owner_in}
use Rattle.geometry.proofs.Summaries.{owner_in-summary_of}
use Rattle.sit.specs.Summaries.{is_set, summary_in, count_of}
use Rattle.sit.specs.Bits.{IsFirstTrue}
use Rattle.sit.specs.NextValid.{IsNextValid}
use Rattle.sit.specs.Valid.{AreValid}
use Rattle.sit.proofs.Lists.{count-set, count-clear, count_most, count_none, map_replicate}

abbrev none : Summary
none = record { nid = 0; slot = 0 }

pub shown_set : (summaries : List Summary) (o : ℕ) (owner : Owner) → IsOwner owner → map owner_in (set summaries o (summary_of owner)) ≡ set (map owner_in summaries) o (Some owner)
shown_set summaries o owner is = map-set owner_in summaries o (summary_of owner) ∙ ap (set (map owner_in summaries) o) (owner_in-summary_of owner is)

pub shown_cleared : (summaries : List Summary) (o : ℕ) → map owner_in (set summaries o none) ≡ set (map owner_in summaries) o None
shown_cleared summaries o = map-set owner_in summaries o none

pub shown_none : (n : ℕ) → map owner_in (replicate n none) ≡ replicate n None
shown_none n = map_replicate owner_in n none

pub valid_none : (n : ℕ) → n < 2 ^ 32 → AreValid (replicate n false) (replicate n none) 0
valid_none n few = record {
  bits_are = sym (ap (map is_set) (shown_none n) ∙ map_replicate is_set n None);
  count_is = sym (ap count_of (shown_none n) ∙ count_none n);
  rows_are = sym (ap (map summary_in) (shown_none n) ∙ map_replicate summary_in n None);
  few = let l = length-replicate {A = Summary} n none in omega arith;
}

module _ (bits : List Bool) (summaries : List Summary) (count : ℕ) (law : AreValid bits summaries count) where
  abbrev shown : List (Option Owner)
  shown = map owner_in summaries

  pub length-shown : length shown ≡ length summaries
  length-shown = length-map summaries owner_in

  module _ (o : ℕ) (owner : Owner) (within : o < length shown) (clear : get_or shown o None ≡ None) (is : IsOwner owner) where
    pub set_count : count_of (map owner_in (set summaries o (summary_of owner))) ≡ count + 1
    set_count = ap count_of (shown_set summaries o owner is) ∙ count-set shown o owner within clear ∙ ap (λ n. n + 1) (sym law.count_is)

    pub set_fits : count + 1 < 2 ^ 32
    set_fits =
        let most = count_most (set shown o (Some owner)) in
        let long = length-set shown o (Some owner) in
        let same = length-shown in
        let more = count-set shown o owner within clear in
        let is_count = law.count_is in
        let few = law.few in omega arith

    pub valid_set : (bits' : List Bool) → bits' ≡ set bits o true → AreValid bits' (set summaries o (summary_of owner)) (count + 1)
    valid_set bits' bits_set = record {
      bits_are = bits_set ∙ ap (λ bs. set bs o true) law.bits_are ∙ sym (map-set is_set shown o (Some owner)) ∙ ap (map is_set) (sym (shown_set summaries o owner is));
      count_is = sym set_count;
      rows_are = ap (λ ss. set ss o (summary_of owner)) law.rows_are ∙ sym (map-set summary_in shown o (Some owner))
          ∙ ap (map summary_in) (sym (shown_set summaries o owner is));
      few = let long = length-set summaries o (summary_of owner) in let few = law.few in omega arith;
    }

  module _ (o : ℕ) (within : o < length shown) (valid : is_set (get_or shown o None) ≡ true) where
    pub clear_count : count_of (map owner_in (set summaries o none)) + 1 ≡ count
    clear_count = ap (λ ss. count_of ss + 1) (shown_cleared summaries o) ∙ count-clear shown o within valid ∙ sym law.count_is

    pub valid_clear : (bits' : List Bool) → bits' ≡ set bits o false → AreValid bits' (set summaries o none) (count - 1)
    valid_clear bits' bits_set = record {
      bits_are = bits_set ∙ ap (λ bs. set bs o false) law.bits_are ∙ sym (map-set is_set shown o None) ∙ ap (map is_set) (sym (shown_cleared summaries o));
      count_is = let less = clear_count in omega arith;
      rows_are = ap (λ ss. set ss o none) law.rows_are ∙ sym (map-set summary_in shown o None)
          ∙ ap (map summary_in) (sym (shown_cleared summaries o));
      few = let long = length-set summaries o none in let few = law.few in omega arith;
    }

  -- the bit at a place tells whether the block is valid
  bit_is : (p : ℕ) → get_or bits p false ≡ is_set (get_or shown p None)
  bit_is p = ap (λ bs. get_or bs p false) law.bits_are ∙ go shown p
    where
      go : (ss : List (Option Owner)) (i : ℕ) → get_or (map is_set ss) i false ≡ is_set (get_or ss i None)
      go [] i = refl
      go (s ∷ ss) zero = refl
      go (s ∷ ss) (suc i) = go ss i

  not_set : (s : Option Owner) → is_set s ≡ false → s ≡ None
  not_set (Some owner) e = absurd (let no : true ≡ false = e in cc)
  not_set None e = refl

  is_some_of : (s : Option Owner) → is_set s ≡ true → IsSome s
  is_some_of (Some owner) e = refl
  is_some_of None e = absurd (let no : false ≡ true = e in cc)

  pub next_valid : (from : ℕ) (place : Option ℕ) → IsFirstTrue bits from place → IsNextValid shown from place
  next_valid from None none = λ o le. not_set _ (sym (bit_is o) ∙ none o le)
  next_valid from (Some o) found = (
    found.0,
    (let e = ap length law.bits_are in let l = length-map shown is_set in let w = found.1 in omega arith),
    is_some_of _ (sym (bit_is o) ∙ found.2),
    λ p le lt. not_set _ (sym (bit_is p) ∙ found.3 p le lt),
  )
