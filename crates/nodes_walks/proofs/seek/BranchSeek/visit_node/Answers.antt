use Rattle.std.proofs.Common.{sym, ap, ◌∙◌, Some}
use Rattle.nodes_walks.proofs.FindingBelow.{node_of, own_among, own_moves}
use Rattle.nodes_walks.proofs.seek.BranchSeek.visit_node.Goals as goal

pub visit_branch-requires : goal.visit_branch-requires
visit_branch-requires g c =
    let C = g.C.Subtree in
    let b = c.in-Some.branch in
    c.requires.ready (node_of C.is_leaf C.number C.weight b) (sym c.number.ensures ∙ c.if-number-nid.false) (rw c.in-Some.is (own_among C.is_leaf C.number C.weight b))

pub returns-in-Ok-clause-visited : goal.returns-in-Ok-clause-visited
returns-in-Ok-clause-visited g c = λ _.
    (let C = g.C.Subtree in
    let b = c.in-Some.branch in
    let done = c.in-Ok.ensures in
    rw (c.in-Some.is) (
      node_of C.is_leaf C.number C.weight b,
      c.visit_branch.new.branch.token,
      own_moves C.is_leaf C.number C.weight b c.visit_branch.new.branch done.number done.entries,
      done.visited,
    ))

pub returns-in-Err-clause-refused : goal.returns-in-Err-clause-refused
returns-in-Err-clause-refused g c =
    let C = g.C.Subtree in
    let b = c.in-Some.branch in
    let done = c.in-Err.ensures in (
      ap Some done.same ∙ sym c.in-Some.is,
      node_of C.is_leaf C.number C.weight b,
      rw c.in-Some.is (own_among C.is_leaf C.number C.weight b),
      done.refused,
    )
