-- A segment that was loaded is free exactly where the image has no valid block in it and no log in it; so the slips that
-- came out of the image are those of its free segments, and the pass lists no others.
use Rattle.std.proofs.Common.{◌≡◌, ◌≢◌, ℕ, zero, suc, ◌+◌, ◌-◌, ◌<◌, ◌==◌, ◌&&◌, ◌||◌, Bool, true, false, not, if◌then◌else◌, List, [], ◌∷◌, length, get_or, Option, Some, None, refl, sym, ap, subst, ◌∙◌, eq-eqb, ne_eqb, arith}
use Rattle.std.specs.List.{list_any}
use Rattle.std.proofs.lemmas.Bool.{eqb-true}
use Rattle.geometry.specs.Weights.{weigh}
use Rattle.geometry.proofs.Weighing.{weigh-append}
use Rattle.atomic_table.specs.Seated.{TableId}
use Rattle.geometry.specs.declared.geometry.Geometry.{Geometry}
use Rattle.geometry.specs.declared.state.State.{State}
use Rattle.image.specs.declared.image.LogHead.{LogHead}
use Rattle.image.specs.Image.{Image, info_of}
use Rattle.image.specs.Files.{below}
use Rattle.image.specs.Free.{is_free, stands_in}
use Rattle.words.specs.Tokens.{FreeSegment, OpenSegment}
use Rattle.pool.specs.declared.law.Account.{Account}
use Rattle.pool.specs.Pools.{first_account}
use Rattle.sit.specs.Registered.{Registered}
use Rattle.area.specs.Slips.{HavePut}
use Rattle.mount_blocks.specs.States.{AreSegmentsFrom, IsStateIn, when_free, slip_weight}
use Rattle.mount.specs.Pooled.{HasPutFree, HasSameLists}

neither : (a b : Bool) → (a || b) ≡ false → (a ≡ false) × (b ≡ false)
neither true b neg = absurd cc
neither false b neg = (refl, neg)

-- a log that stands in a segment, or none does
none_at : (segment : ℕ) (logs : List (Option LogHead)) → list_any (stands_in segment) logs ≡ false
    → (log : ℕ) (place : LogHead) → get_or logs log None ≡ Some place → place.segment ≢ segment
none_at segment [] neg log place is = absurd cc
none_at segment (x ∷ logs) neg zero place is = λ here.
    (let out : stands_in segment (Some place) ≡ false = ap (stands_in segment) (sym is) ∙ (neither (stands_in segment x) (list_any (stands_in segment) logs) neg).0 in
    let yes : (place.segment == segment) ≡ true = eq-eqb place.segment segment here in cc)
none_at segment (x ∷ logs) neg (suc log) place is = none_at segment logs (neither (stands_in segment x) (list_any (stands_in segment) logs) neg).1 log place is

abbrev Stands : ℕ → List (Option LogHead) → Type 0
Stands segment logs = (log : ℕ) × ((place : LogHead) × ((get_or logs log None ≡ Some place) × (place.segment ≡ segment)))

some_at : (segment : ℕ) (logs : List (Option LogHead)) → list_any (stands_in segment) logs ≡ true → Stands segment logs
some_at segment [] stood = absurd cc
some_at segment (None ∷ logs) stood = let found = some_at segment logs stood in (suc found.0, found.1)
some_at segment (Some place ∷ logs) stood = by_bit (place.segment == segment) refl stood (some_at segment logs)
  where
    by_bit : (b : Bool) → (place.segment == segment) ≡ b → (b || list_any (stands_in segment) logs) ≡ true
        → (list_any (stands_in segment) logs ≡ true → Stands segment logs) → Stands segment (Some place ∷ logs)
    by_bit true here stood rest = (zero, (place, (refl, eqb-true place.segment segment here)))
    by_bit false other stood rest = let found = rest stood in (suc found.0, found.1)

-- what the slip of a segment weighs
module _ (image : Image) (segment : ℕ) (state : State) (next : ℕ) (is : IsStateIn image segment state next) (n : ℕ) where
  abbrev Weighs : Bool → Type 0
  Weighs b = when_free state n ≡ (if b then n else 0)

  by_count : (count : ℕ) → (info_of image segment).count ≡ count → list_any (stands_in segment) image.logs ≡ false → Weighs (count == 0)
  by_count zero none out = ap (λ s. when_free s n) (is.free (none_at segment image.logs out) none)
  by_count (suc count) some out = subst Weighs (sym (ne_eqb (suc count) 0 (λ e. omega arith))) (ap (λ s. when_free s n) (is.sealed (none_at segment image.logs out) (omega arith)))

  and_true : (b : Bool) → (b && true) ≡ b
  and_true true = refl
  and_true false = refl

  and_false : (b : Bool) → (b && false) ≡ false
  and_false true = refl
  and_false false = refl

  by_logs : (b : Bool) → list_any (stands_in segment) image.logs ≡ b → Weighs (((info_of image segment).count == 0) && not b)
  by_logs true stood =
      let found = some_at segment image.logs stood in
      subst Weighs (sym (and_false ((info_of image segment).count == 0)))
      (ap (λ s. when_free s n) (is.open_at found.0 found.1.0 found.1.1.0 found.1.1.1).0)
  by_logs false neg =
      subst Weighs (sym (and_true ((info_of image segment).count == 0))) (by_count (info_of image segment).count refl neg)

  free_weighs : Weighs (is_free image segment)
  free_weighs = by_logs (list_any (stands_in segment) image.logs) refl

-- a list whose last item is the first of so many
falling : {A : Type 0} (w : A → ℕ) (v : ℕ → ℕ) (xs : List A) → ((k : ℕ) (other : A) → k < length xs → w (get_or xs k other) ≡ v (length xs - 1 - k))
    → weigh w xs ≡ weigh v (below (length xs))
falling w v [] each = refl
falling w v (x ∷ xs) each =
    let place : suc (length xs) - 1 - 0 ≡ length xs = omega arith in
    let here : w x ≡ v (length xs) = each 0 x (omega arith) ∙ ap v place in
    let rest : weigh w xs ≡ weigh v (below (length xs))
    = falling w v xs (λ k other low. (let at : suc (length xs) - 1 - suc k ≡ length xs - 1 - k = omega arith in each (suc k) other (omega arith) ∙ ap v at)) in
    let both = weigh-append v (below (length xs)) (length xs ∷ []) in
    omega arith

module _ (geometry : Geometry) (image : Image) (book table : TableId) (states : List Registered) (free : List FreeSegment) (logs : List (Option OpenSegment)) (are : AreSegmentsFrom geometry image book table 0 states free logs) where
  abbrev weight_in : (ℕ → ℕ) → ℕ → ℕ
  weight_in h segment = if is_free image segment then h segment else 0

  slips_weigh : (h : ℕ → ℕ) → weigh (λ (s : FreeSegment). h s.segment) free ≡ weigh (weight_in h) (below geometry.segments)
  slips_weigh h =
      let count : length states ≡ geometry.segments = let c = are.count in omega arith in
      are.slips (λ (s : FreeSegment). h s.segment)
      ∙ (falling (slip_weight (λ (s : FreeSegment). h s.segment)) (weight_in h) states (λ k other low.
      (let one = are.each k other low in
      let at : geometry.segments - 1 - k ≡ length states - 1 - k = omega arith in
      ap (λ m. when_free (get_or states k other).segment.state (h m)) one.number_is
      ∙ (free_weighs image (geometry.segments - 1 - k) (get_or states k other).segment.state (get_or states k other).segment.next one.state (h (geometry.segments - 1 - k)) ∙ ap (weight_in h) at)))
      ∙ ap (λ m. weigh (weight_in h) (below m)) count)

  pub has_put : (old put new : Account) → old ≡ first_account → HavePut [] old put free [] → HasSameLists put new → HasPutFree geometry image new
  has_put old put new first slips same = record {
    put = λ h.
        let all = slips.slips h in
        let weighs = slips_weigh h in
        let none = ap (λ (a : Account). weigh h a.ordinary.put + weigh h a.reserve.put) first in
        let ordinary = ap (weigh h) same.put.0 in
        let reserve = ap (weigh h) same.put.1 in
        omega arith;
    taken = (
      same.taken.0 ∙ (slips.taken.0 ∙ ap (λ (a : Account). a.ordinary.taken) first),
      same.taken.1 ∙ (slips.taken.1 ∙ ap (λ (a : Account). a.reserve.taken) first),
    );
  }
