use Rattle.std.proofs.Common.{◌≡◌, ◌<◌, None, length, refl, sym, ◌∙◌, arith}
use Rattle.geometry.specs.Weights.{weigh}
use Rattle.geometry.proofs.Weighing.{weigh-at}
use Rattle.nodes.specs.Change.{each_marked}
use Rattle.nodes.specs.Laws.{no_leaf}
use Rattle.nodes.proofs.Changes.{weigh_used, entry_is}
use Rattle.nodes.proofs.entries.Entries.is_clean.Goals as goal

pub returns-then-not-is_clean : goal.returns-then-not-is_clean
returns-then-not-is_clean g c =
    let xs = c.args.self.now.slots.items in
    let i = c.loop-at.at in
    let f = g.C.Subtree.weight each_marked in
    let inside : i < length xs = omega arith in
    let there = entry_is xs i c.index.result.now inside c.index.ensures in
    let most = weigh-at f xs i None inside in (
      λ no. absurd (no_leaf no),
      λ h. (let all : weigh f xs ≡ 0 = h.1 in
          let zero = rw there at most in
          sym c.if-not-is_clean.true ∙ c.is_clean.ensures.1 (omega arith)),
    )

pub returns : goal.returns
returns g c =
    let none = g.met.C.Subtree.weight_none each_marked in (
      λ _. (c.if-self.false, weigh_used (g.C.Subtree.weight each_marked) c.args.self.now.slots.items c.end-at-end.result none c.end-at-end.ensures.nothing (λ k h. c.loop-at.invariant k (omega arith))),
      λ _. refl,
    )
