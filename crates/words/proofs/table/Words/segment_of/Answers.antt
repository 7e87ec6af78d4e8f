use Rattle.std.proofs.Common.{ap, sym, ◌∙◌, arith}
use Rattle.words.proofs.table.Words.segment_of.Goals as goal

pub returns-clause-within : goal.returns-clause-within
returns-clause-within c =
    let table = ap (λ s. s.table) c.slip.view_is ∙ (c.requires ∙ sym (ap (λ w. w.table) c.self.view_is)) in
    let wide = ap (λ t. t.words) table in
    let long = c.self.invariant.1 in
    let within = c.slip.invariant.2 in
    let count = ap (λ w. w.segments) c.self.view_is in omega arith
