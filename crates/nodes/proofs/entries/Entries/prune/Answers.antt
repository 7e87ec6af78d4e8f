-- Entries are pruned from the last to the one in which the length falls, and one that gave nothing has nothing past it:
-- so a spare of one is one of all, and without any all past is empty.
use Rattle.std.proofs.Common.{Bool, false, ◌≡◌, ℕ, ◌+◌, ◌*◌, ◌-◌, ◌<◌, ◌≤◌, ◌/◌, ◌%◌, None, arith, ap, ◌∙◌, inl, inr}
use Rattle.std.proofs.lemmas.Nat.{div-add-mod', le-div}
use Rattle.std.proofs.lemmas.Bool.{cases_lt}
use Rattle.std.proofs.Math.Nat.{div-mul-le_self, div-le_self, lt-div-mul-add}
use Rattle.nodes.specs.Tree.{entry_at, UsefulIn, AsksPast}
use Rattle.nodes.specs.TreeUseful.{within}
use Rattle.nodes.proofs.Below.{useful_below, hands_below}
use Rattle.nodes.proofs.entries.Entries.prune.Goals as goal

pub loop-at-preserved : goal.loop-at-preserved
loop-at-preserved g c =
    let before = c.loop-at.invariant in
    let items : c.loop-at.self.slots.items ≡ c.args.self.now.slots.items = ap (λ b. b.slots.items) before.same in
    let same = c.in_default.ensures.none.0 ∙ before.same in
    let empty = rw (items, c.saturating_sub.ensures) at c.in_default.ensures.none.1 in
    let nothing = rw (items, c.saturating_sub.ensures) at c.in_default.ensures.none.2 in
    let past = rw (ap (λ b. b.slots.items) same, c.saturating_sub.ensures) at c.in_default.ensures.past in record {
      same = same;
      bound = let b = before.bound in omega arith;
      empty = λ m le. elim (cases_lt m c.loop-at.at) [ inl lt ↦ (let here : m ≡ c.loop-at.at - 1 = omega arith in rw here empty) | inr ge ↦ before.empty m ge ];
      useful = λ m le. elim (cases_lt m c.loop-at.at) [ inl lt ↦ (let here : m ≡ c.loop-at.at - 1 = omega arith in rw here past) | inr ge ↦ before.useful m ge ];
      nothing = λ m le. elim (cases_lt m c.loop-at.at) [ inl lt ↦ (let here : m ≡ c.loop-at.at - 1 = omega arith in rw here nothing) | inr ge ↦ before.nothing m ge ];
    }

pub returns-in-Some-clause-useful : goal.returns-in-Some-clause-useful
returns-in-Some-clause-useful g c =
    let C = g.C.Subtree in
    let e = c.args.entries in
    let span = C.span_of e in
    let at = c.loop-at.at - 1 in
    let xs = c.args.self.now.slots.items in
    let same : c.loop-at.self.slots.items ≡ xs = ap (λ b. b.slots.items) c.loop-at.invariant.same in
    let entry = rw same at c.prune_at.ensures.entry in
    let kept = rw (same, c.saturating_sub.ensures, c.span-span.ensures) at c.prune_at.ensures.useful in
    λ asked first spares. useful_below (C.useful e) span asked first at xs c.prune_at.new.self.slots.items entry
    (kept asked (first + at * span) (λ start end past. spares start end (omega arith)))

pub returns-in-Some-clause-past : goal.returns-in-Some-clause-past
returns-in-Some-clause-past g c =
    let span = g.C.Subtree.span_of c.args.entries in
    let is : c.span-span.result ≡ span = c.span-span.ensures in
    let positive : 0 < span = g.met.C.Subtree.span_positive c.args.entries c.requires.some in
    let start : c.args.from / span < c.loop-at.at = rw is at c.loop-at-test.true in
    let bound = c.loop-at.invariant.bound in
    let far = within (c.args.from / span) c.args.count span (omega arith) in
    let low : c.args.from < c.args.from / span * span + span = lt-div-mul-add positive in omega arith

pub returns-in-Some-clause-cases : goal.returns-in-Some-clause-cases
returns-in-Some-clause-cases g c =
    let C = g.C.Subtree in
    let laws = g.met.C.Subtree in
    let e = c.args.entries in
    let span = C.span_of e in
    let at = c.loop-at.at - 1 in
    let xs = c.args.self.now.slots.items in
    let same : c.loop-at.self.slots.items ≡ xs = ap (λ b. b.slots.items) c.loop-at.invariant.same in
    let bound : (i : ℕ) → span ≤ i → C.find e (entry_at xs at) i ≡ None = λ i h. laws.find_past e (entry_at xs at) i c.requires.some (c.requires.shaped.1 at) h in
    let entry = rw same at c.prune_at.ensures.entry in
    let handed = rw (same, c.saturating_sub.ensures, c.span-span.ensures) at c.in-Some.ensures.out in
    hands_below (C.find e) span xs c.prune_at.new.self.slots.items at entry bound c.args.from c.in-Some.spare handed

pub returns-else-names_nothing-clause-cases : goal.returns-else-names_nothing-clause-cases
returns-else-names_nothing-clause-cases g c =
    let span = g.C.Subtree.span_of c.args.entries in
    let is : c.span-span.result ≡ span = c.span-span.ensures in
    let positive : 0 < span = g.met.C.Subtree.span_positive c.args.entries c.requires.some in
    let same : c.loop-at.self.slots.items ≡ c.args.self.now.slots.items = ap (λ b. b.slots.items) c.loop-at.invariant.same in
    let start : c.loop-at.at ≤ c.args.from / span = rw is at c.loop-at-test.false in
    let nothing : c.args.from ≡ 0 → (k : ℕ) → entry_at c.args.self.now.slots.items k ≡ None =
    λ z k. (let r = div-le_self c.args.from span in c.loop-at.invariant.nothing k (omega arith) (omega arith)) in (
      c.loop-at.invariant.same,
      λ j h. (let q = div-add-mod' j span in
          let r = div-mul-le_self c.args.from span in
          let m : c.args.from / span ≤ j / span = le-div (c.args.from / span) j span positive (omega arith) in
          c.loop-at.invariant.empty (j / span) (omega arith) (j % span) (rw is (omega arith))),
      λ z. (let no = c.if-names_nothing.ensures.1 (λ k. rw same (nothing z k)) in cc),
    )

pub returns-else-names_nothing-clause-past : goal.returns-else-names_nothing-clause-past
returns-else-names_nothing-clause-past g c =
    let C = g.C.Subtree in
    let laws = g.met.C.Subtree in
    let e = c.args.entries in
    let span = C.span_of e in
    let is : c.span-span.result ≡ span = c.span-span.ensures in
    let xs = c.args.self.now.slots.items in
    let same : c.loop-at.self.slots.items ≡ xs = ap (λ b. b.slots.items) c.loop-at.invariant.same in
    let start : c.loop-at.at ≤ c.args.from / span = rw is at c.loop-at-test.false in
    let useful : (asked : ℕ → ℕ → Bool) (first : ℕ) → AsksPast asked first (first + c.args.from) → UsefulIn (C.useful e) span asked first xs =
    λ asked first test k. elim (cases_lt k (c.args.from / span)) [
      | inl before ↦
          let far = within k (c.args.from / span) span before in
          let low = div-mul-le_self c.args.from span in
          laws.useful_either e asked (λ _ _. false) (λ _ _. false) (first + k * span) (entry_at xs k) c.requires.some (c.requires.shaped.1 k)
          (λ one end from some to a. let no = test one end (omega arith) some a in absurd (omega arith))
          (laws.useful_never e (first + k * span) (entry_at xs k)) (laws.useful_never e (first + k * span) (entry_at xs k))
      | inr reached ↦
          c.loop-at.invariant.useful k (omega arith) asked (first + k * span)
          (λ one end from some a. let more = test one end (omega arith) some a in rw is (omega arith))
    ] in (
      λ asked first test. rw same (useful asked first test),
      λ none. (let no = c.if-names_nothing.ensures.1 none in cc),
    )
