-- The turns of the segments up to one more are found once its own is.
use Rattle.std.proofs.Common.{◌≡◌, ℕ, ◌+◌, ◌<◌, List, Some, length, slice_get, get_or, set, ⊎_elim, sym, ap, ◌∙◌, subst, arith}
use Rattle.std.proofs.lemmas.Bool.{cases_eq}
use Rattle.std.proofs.lemmas.List.{length-set, get_or-set_same, get_or-set_other}
use Rattle.sit.specs.Registered.{Registered}
use Rattle.area.specs.declared.unsettled.SegmentTask.{SegmentTask}
use Rattle.checkpoint_sync.specs.Turned.{IsTurnOf}

abbrev pub AreFound : List Registered → List SegmentTask → ℕ → Type 0
AreFound segments turns number =
    (k : ℕ) (r : Registered) (other : SegmentTask) → k < number → slice_get segments k ≡ Some r → k < length turns → IsTurnOf r (get_or turns k other)

one_segment : (r here : Registered) → Some r ≡ Some here → here ≡ r
one_segment r here e = cc

pub found_more : (segments : List Registered) (turns : List SegmentTask) (number : ℕ) (here : Registered) (turn : SegmentTask)
    → slice_get segments number ≡ Some here → IsTurnOf here turn → AreFound segments turns number → AreFound segments (set turns number turn) (number + 1)
found_more segments turns number here turn at is before k r other below there within =
    let long = length-set turns number turn in
    ⊎_elim
    (λ (e : k ≡ number).
    let same : here ≡ r = one_segment r here (sym there ∙ (ap (slice_get segments) e ∙ at)) in
    let found = ap (λ j. get_or (set turns number turn) j other) e ∙ get_or-set_same turns number turn other (omega arith) in
    subst (λ t. IsTurnOf r t) (sym found) (subst (λ s. IsTurnOf s turn) same is))
    (λ apart. subst (IsTurnOf r) (sym (get_or-set_other turns number k turn other apart)) (before k r other (omega arith) there (omega arith)))
    (cases_eq k number)
