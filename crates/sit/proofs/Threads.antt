-- The holes that a log fills.
use Rattle.std.proofs.Common.{◌≡◌, ℕ, List, Option, Some, None, Bool, false, map, length, sym, ap, ◌∙◌}
use Rattle.std.proofs.lemmas.List.{length-map}
use Rattle.geometry.specs.declared.owner.Owner.{Owner}
use Rattle.sit.specs.Bits.{IsFirstTrue, neither_of, has_true}
use Rattle.sit.specs.Summaries.{is_set}
use Rattle.sit.specs.Thread.{Thread, HasBegun, IsNextHole}
use Rattle.sit.proofs.BitLemmas.{has-first, none-same, length-neither_of}

pub next_is : (t : Thread) (log : ℕ) (r : Option ℕ) → t.log ≡ log → IsFirstTrue t.holes 0 r → IsNextHole t log r
next_is t log None same none = λ its. sym (has-first t.holes None none)
next_is t log (Some o) same first = (same, first)

-- where there is no hole, nothing has changed
pub not_begun : (log : ℕ) (ss : List (Option Owner)) (t : Thread) (holes : List Bool) → length ss ≡ length t.kept → length t.holes ≡ length t.kept → has_true t.holes ≡ false
    → holes ≡ neither_of (map is_set ss) t.kept → has_true holes ≡ false → HasBegun false log ss t (record t { holes = holes })
not_begun log ss t holes many as_many none is empty =
    let long = ap length is ∙ length-neither_of (map is_set ss) t.kept ∙ length-map ss is_set ∙ many ∙ sym as_many in
    (λ k. record t { holes = none-same holes t.holes empty none long k }, ap has_true (sym is) ∙ empty)

pub begun_sized : (ss : List (Option Owner)) (t : Thread) (holes : List Bool) → length ss ≡ length t.kept → holes ≡ neither_of (map is_set ss) t.kept → length holes ≡ length t.kept
begun_sized ss t holes many is = ap length is ∙ length-neither_of (map is_set ss) t.kept ∙ length-map ss is_set ∙ many
