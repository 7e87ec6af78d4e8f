-- A seat has one pin on each noted segment and none on others: segment by segment they are pinned, and letting go of them
-- one after the other leaves none at the end.
use Rattle.std.proofs.Common.{◌≡◌, ◌≢◌, ℕ, ◌+◌, ◌<◌, ◌≤◌, List, [], ◌∷◌, zero, suc, length, get_or, Bool, true, false, if◌then◌else◌, refl, sym, ap, ◌∙◌, inl, inr, arith}
use Rattle.std.proofs.lemmas.List.{get_or_past}
use Rattle.std.proofs.lemmas.Bool.{cases_eq, cases_lt}
use Rattle.words.specs.declared.claim.Pins.{Pins}
use Rattle.words.specs.Claims.{times}
use Rattle.words.specs.Steps.{pins_with, pins_without}
use Rattle.words.proofs.Counts.{at_here}
use Rattle.words.proofs.Held.{times-pins_with, times-pins_with-other, times-pins_without, times-pins_without-other}
use Rattle.file_cells.specs.Law.{ArePins}

-- 1 where a segment is noted
pub noted_one : (b : Bool) → b ≡ true → ◌≡◌ {A = ℕ} (if b then 1 else 0) 1
noted_one b is = ap (λ x. if x then 1 else 0) is

noted_none : (b : Bool) → b ≡ false → ◌≡◌ {A = ℕ} (if b then 1 else 0) 0
noted_none b is = ap (λ x. if x then 1 else 0) is

noted_same : (a b : Bool) → a ≡ b → ◌≡◌ {A = ℕ} (if a then 1 else 0) (if b then 1 else 0)
noted_same a b is = ap (λ x. if x then 1 else 0) is

-- a seat that pins no segment holds no pin
pub none_held : (held : List (ℕ × ℕ)) → ((s : ℕ) → times s held ≡ 0) → held ≡ []
none_held [] none = refl
none_held (p ∷ held) none = let z = none p.0 in let one = at_here p.0 1 in absurd (omega arith)

-- the noted segments below one are pinned, each once, and no other
pub record ArePinnedTo (noted : List Bool) (below : ℕ) (held : List (ℕ × ℕ)) : Type 0 where
  pub pinned : (s : ℕ) → s < below → times s held ≡ (if get_or noted s false then 1 else 0)
  pub free : (s : ℕ) → below ≤ s → times s held ≡ 0

pub pinned_none : (noted : List Bool) (held : List (ℕ × ℕ)) → held ≡ [] → ArePinnedTo noted 0 held
pinned_none noted held none = record { pinned = λ s lt. absurd (omega arith); free = λ s le. ap (times s) none }

pub pinned_kept : (noted : List Bool) (k : ℕ) (held : List (ℕ × ℕ)) → ArePinnedTo noted k held → get_or noted k false ≡ false → ArePinnedTo noted (k + 1) held
pinned_kept noted k held so free = record {
  pinned = λ s lt. elim (cases_lt s k) [
    | inl low ↦ so.pinned s low
    | inr high ↦
        let e : s ≡ k = omega arith in
        let none = so.free s high in
        let bit = noted_none (get_or noted s false) (ap (λ z. get_or noted z false) e ∙ free) in omega arith
  ];
  free = λ s le. so.free s (omega arith);
}

pub pinned_one : (noted : List Bool) (k i : ℕ) (old new : Pins) → ArePinnedTo noted k old.held → get_or noted k false ≡ true → new ≡ pins_with old k i
    → ArePinnedTo noted (k + 1) new.held
pinned_one noted k i old new so there is = record {
  pinned = λ s lt. elim (cases_eq s k) [
    | inl e ↦
        let one = times-pins_with old k i in
        let none = so.free k (omega arith) in
        let here : times s new.held ≡ times k (pins_with old k i).held = held s ∙ ap (λ z. times z (pins_with old k i).held) e in
        let bit = noted_one (get_or noted s false) (ap (λ z. get_or noted z false) e ∙ there) in omega arith
    | inr ne ↦
        let other = times-pins_with-other old k i s ne in
        let here = held s in
        let was = so.pinned s (omega arith) in omega arith
  ];
  free = λ s le.
      let ne : s ≢ k = λ q. omega arith in
      let other = times-pins_with-other old k i s ne in
      let here = held s in
      let was = so.free s (omega arith) in omega arith;
}
  where
    held : (s : ℕ) → times s new.held ≡ times s (pins_with old k i).held
    held s = ap (λ (p : Pins). times s p.held) is

-- all are
pub pinned_all : (noted : List Bool) (n : ℕ) (held : List (ℕ × ℕ)) → length noted ≤ n → ArePinnedTo noted n held → ArePins noted held
pinned_all noted n held long so s = elim (cases_lt s n) [
  | inl low ↦ so.pinned s low
  | inr high ↦
      let past : get_or noted s false ≡ false = get_or_past noted s false (omega arith) in
      let bit = noted_none (get_or noted s false) past in
      let none = so.free s high in omega arith
]

-- the pins on the segments below one were let go
pub record AreLetGo (pinned : List Bool) (below : ℕ) (held : List (ℕ × ℕ)) : Type 0 where
  pub gone : (s : ℕ) → s < below → times s held ≡ 0
  pub left : (s : ℕ) → below ≤ s → times s held ≡ (if get_or pinned s false then 1 else 0)

pub let_go_first : (pinned : List Bool) (held : List (ℕ × ℕ)) → ArePins pinned held → AreLetGo pinned 0 held
let_go_first pinned held pins = record { gone = λ s lt. absurd (omega arith); left = λ s le. pins s }

pub let_go_kept : (pinned : List Bool) (k : ℕ) (held : List (ℕ × ℕ)) → AreLetGo pinned k held → get_or pinned k false ≡ false → AreLetGo pinned (k + 1) held
let_go_kept pinned k held so free = record {
  gone = λ s lt. elim (cases_lt s k) [
    | inl low ↦ so.gone s low
    | inr high ↦
        let e : s ≡ k = omega arith in
        let here = so.left k (omega arith) in
        let bit = noted_none (get_or pinned k false) free in
        let same = ap (λ z. times z held) e in omega arith
  ];
  left = λ s le. so.left s (omega arith);
}

pub let_go_one : (pinned : List Bool) (k : ℕ) (old new : Pins) → AreLetGo pinned k old.held → get_or pinned k false ≡ true → new ≡ pins_without old k
    → (0 < times k old.held) × AreLetGo pinned (k + 1) new.held
let_go_one pinned k old new so noted is =
    let here = so.left k (omega arith) in
    let bit = noted_one (get_or pinned k false) noted in
    let some : 0 < times k old.held = omega arith in (
      some,
      record {
        gone = λ s lt.
            let e : times s new.held ≡ times s (pins_without old k).held = ap (λ (p : Pins). times s p.held) is in
            elim (cases_eq s k) [
              | inl same ↦
                  let less = times-pins_without old k some in
                  let f : times s (pins_without old k).held ≡ times k (pins_without old k).held = ap (λ z. times z (pins_without old k).held) same in omega arith
              | inr ne ↦
                  let other = times-pins_without-other old k some s ne in
                  let was = so.gone s (omega arith) in omega arith
            ];
        left = λ s le.
            let e : times s new.held ≡ times s (pins_without old k).held = ap (λ (p : Pins). times s p.held) is in
            let ne : s ≢ k = λ q. omega arith in
            let other = times-pins_without-other old k some s ne in
            let was = so.left s (omega arith) in omega arith;
      },
    )

-- all were
pub let_go_all : (pinned : List Bool) (n : ℕ) (held : List (ℕ × ℕ)) → length pinned ≤ n → AreLetGo pinned n held → held ≡ []
let_go_all pinned n held long so = none_held held (λ s. elim (cases_lt s n) [
  | inl low ↦ so.gone s low
  | inr high ↦
      let past : get_or pinned s false ≡ false = get_or_past pinned s false (omega arith) in
      let bit = noted_none (get_or pinned s false) past in
      let here = so.left s high in omega arith
])

-- an item that was read, as what is noted
pub noted_at : (pinned : List Bool) (k : ℕ) (b : Bool) → k < length pinned → b ≡ get_or pinned k b → get_or pinned k false ≡ b
noted_at [] k b within is = absurd (omega arith)
noted_at (x ∷ pinned) zero b within is = sym is
noted_at (x ∷ pinned) (suc k) b within is = noted_at pinned k b (omega arith) is
