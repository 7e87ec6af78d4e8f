-- A number that is there has the row of its place; the others lie beside it.
use Rattle.std.proofs.Common.{◌≡◌, sym, ◌∙◌, ap, subst, ℕ, ◌+◌, ◌-◌, List, length, arith}
use Rattle.image.specs.Pack.{entry_bytes}
use Rattle.checkpoint_image.specs.Kept.{row_in, IsRowPut}
use Rattle.checkpoint_image.proofs.placing.put_entry.Given as given
use Rattle.checkpoint_image.proofs.placing.put_entry.Goals as goal

-- the row has eight bytes
put_there : (g : given.Over) (c : goal.After-put_row g) → IsRowPut 56 8 (c.args.number - 1) c.spell_entry-row.result c.args.body.now.bytes.items c.put_row.new.body.bytes.items
put_there g c =
    subst (λ (n : ℕ). IsRowPut 56 n (c.args.number - 1) c.spell_entry-row.result c.args.body.now.bytes.items c.put_row.new.body.bytes.items)
    (ap (λ (row : List ℕ). length row) c.spell_entry-row.ensures.bytes) c.put_row.ensures.put

pub returns-clause-own : goal.returns-clause-own
returns-clause-own g c = λ k below is.
    let here : k ≡ c.args.number - 1 = omega (arith, is) in
    ap (λ (n : ℕ). row_in 56 8 n c.put_row.new.body.bytes.items) here ∙ (put_there g c).own ∙ c.spell_entry-row.ensures.bytes ∙ ap entry_bytes c.entry_of.ensures

pub returns-clause-others : goal.returns-clause-others
returns-clause-others g c = λ k below apart. (put_there g c).beside k (λ same. apart (omega (arith, same, c.if-number-eq0.false)))

pub returns-clause-behind : goal.returns-clause-behind
returns-clause-behind g c = λ p n le. (put_there g c).behind p n (omega (arith, le, c.if-number-nodes.false, c.if-number-eq0.false))
