use Rattle.std.proofs.Common.{◌≡◌, refl, ◌∙◌, ap, ℕ, zero, suc}
use Rattle.std.specs.Prelude.{◌≢◌}
use Rattle.std.proofs.lemmas.Result.{IfOk-weaker}
use Rattle.geometry.specs.declared.shape.Shape.{Shape}
use Rattle.geometry.specs.File.{Block}
use Rattle.image.specs.Reading.{node_at, read_node}
use Rattle.pack_tables.specs.File.{block_in}
use Rattle.pack_tables.proofs.file.node_at.Goals as goal

at_some : (shape : Shape) (blocks : ℕ → Block) (address : ℕ) → address ≢ 0 → read_node shape (blocks address) ≡ node_at shape blocks address
at_some shape blocks zero some = absurd (some refl)
at_some shape blocks (suc address) some = refl

pub returns : goal.returns
returns c =
    let shape = c.args.geometry.now.shape in
    let blocks = block_in c.args.geometry.now c.args.file.now in
    let e : read_node shape c.block_at.result.now ≡ node_at shape blocks c.args.address
    = ap (read_node shape) c.block_at.ensures ∙ at_some shape blocks c.args.address c.if-address-eq0.false in
    IfOk-weaker c.decode_node.result _ _ (λ found is. is ∙ e) c.decode_node.ensures.read
