-- A read leaves each block's address and bytes, so what is decoded is the node of the bytes at the address; address 0
-- and one past the blocks hold no node, and a failure is counted.
use Rattle.std.proofs.Common.{◌≡◌, ◌≢◌, ℕ, zero, suc, ◌-◌, ◌<◌, refl, sym, ap, subst, ◌∙◌, arith}
use Rattle.std.specs.Prelude.{IfSome}
use Rattle.geometry.specs.declared.shape.Shape.{Shape}
use Rattle.geometry.specs.File.{Block}
use Rattle.image.specs.Reading.{node_at, read_node}
use Rattle.image.specs.Node.{Spells}
use Rattle.image.specs.View.{node_view}
use Rattle.image_codec.specs.Blocks.{bytes_at}
use Rattle.image_codec.proofs.Unchanged.{map_same, bytes_read, bytes_past, if_err, fails_more, fails_as_often}
use Rattle.image_codec.proofs.reading_nodes.node_at.Goals as goal

at_some : (shape : Shape) (blocks : ℕ → Block) (address : ℕ) → address ≢ 0 → read_node shape (blocks address) ≡ node_at shape blocks address
at_some shape blocks zero some = absurd (some refl)
at_some shape blocks (suc address) some = refl

pub returns-in_err-read-clause-contents : goal.returns-in_err-read-clause-contents
returns-in_err-read-clause-contents g c =
    let content = g.B.Block.content_of in
    let long = c.args.blocks.now.ok.0 in
    let count = c.len.ensures in
    map_same content c.args.blocks.now.items (c.args.address - 1) c.read.new.self c.index_mut.result.now (omega arith) (c.read.ensures.content ∙ ap content c.index_mut.ensures.value)

pub returns-in_err-decode_node-2-clause-contents : goal.returns-in_err-decode_node-2-clause-contents
returns-in_err-decode_node-2-clause-contents g c =
    let content = g.B.Block.content_of in
    let long = c.args.blocks.now.ok.0 in
    let count = c.len.ensures in
    map_same content c.args.blocks.now.items (c.args.address - 1) c.read.new.self c.index_mut.result.now (omega arith) (c.read.ensures.content ∙ ap content c.index_mut.ensures.value)

pub returns-clause-contents : goal.returns-clause-contents
returns-clause-contents g c =
    let content = g.B.Block.content_of in
    let long = c.args.blocks.now.ok.0 in
    let count = c.len.ensures in
    map_same content c.args.blocks.now.items (c.args.address - 1) c.read.new.self c.index_mut.result.now (omega arith) (c.read.ensures.content ∙ ap content c.index_mut.ensures.value)

pub returns-then-address-len-clause-node : goal.returns-then-address-len-clause-node
returns-then-address-len-clause-node g c =
    let content = g.B.Block.content_of in
    let blocks = c.args.blocks.now.items in
    let long = c.args.blocks.now.ok.0 in
    let count = c.len.ensures in
    let back : suc (c.args.address - 1) ≡ c.args.address = omega arith in
    let past = ap (bytes_at content blocks) (sym back) ∙ bytes_past g.B.Block.address_of content _ blocks c.requires.run (c.args.address - 1) (omega arith) in
    c.in_ok-decode_node.ensures.read ∙ (ap (read_node c.args.shape) (sym past) ∙ at_some c.args.shape (bytes_at content blocks) c.args.address c.if-address-eq0.false)

pub returns-clause-node : goal.returns-clause-node
returns-clause-node g c =
    let long = c.args.blocks.now.ok.0 in
    let count = c.len.ensures in
    let bytes = bytes_read g.B.Block.address_of g.B.Block.content_of _ c.args.blocks.now.items c.requires.run c.args.address c.index_mut.result.now _ (omega arith) (omega arith) c.in_ok-read.ensures.bytes c.index_mut.ensures.value in
    c.in_ok-decode_node-2.ensures.read ∙ (ap (read_node c.args.shape) bytes ∙ at_some c.args.shape (bytes_at g.B.Block.content_of c.args.blocks.now.items) c.args.address c.if-address-eq0.false)

pub returns-in_err-read-clause-device : goal.returns-in_err-read-clause-device
returns-in_err-read-clause-device g c =
    let long = c.args.blocks.now.ok.0 in
    let count = c.len.ensures in
    let more = fails_more g.B.Block.failed c.args.blocks.now.items (c.args.address - 1) c.read.new.self c.index_mut.result.now (omega arith) (subst (λ b. g.B.Block.failed b < g.B.Block.failed c.read.new.self) c.index_mut.ensures.value c.in_err-read.ensures.failure) in
    if_err c.from_residual-in_err-read.result _ (λ e is. more)

pub returns-in_err-read-clause-failures : goal.returns-in_err-read-clause-failures
returns-in_err-read-clause-failures g c =
    let long = c.args.blocks.now.ok.0 in
    let count = c.len.ensures in
    let more = fails_more g.B.Block.failed c.args.blocks.now.items (c.args.address - 1) c.read.new.self c.index_mut.result.now (omega arith) (subst (λ b. g.B.Block.failed b < g.B.Block.failed c.read.new.self) c.index_mut.ensures.value c.in_err-read.ensures.failure) in
    omega arith

pub returns-in_err-decode_node-2-clause-failures : goal.returns-in_err-decode_node-2-clause-failures
returns-in_err-decode_node-2-clause-failures g c =
    let long = c.args.blocks.now.ok.0 in
    let count = c.len.ensures in
    let same = fails_as_often g.B.Block.failed c.args.blocks.now.items (c.args.address - 1) c.read.new.self c.index_mut.result.now (omega arith) (c.in_ok-read.ensures.sound ∙ ap g.B.Block.failed c.index_mut.ensures.value) in
    omega arith

pub returns-clause-failures : goal.returns-clause-failures
returns-clause-failures g c =
    let long = c.args.blocks.now.ok.0 in
    let count = c.len.ensures in
    let same = fails_as_often g.B.Block.failed c.args.blocks.now.items (c.args.address - 1) c.read.new.self c.index_mut.result.now (omega arith) (c.in_ok-read.ensures.sound ∙ ap g.B.Block.failed c.index_mut.ensures.value) in
    omega arith

pub returns-clause-spelled : goal.returns-clause-spelled
returns-clause-spelled g c =
    let long = c.args.blocks.now.ok.0 in
    let count = c.len.ensures in
    let bytes = bytes_read g.B.Block.address_of g.B.Block.content_of _ c.args.blocks.now.items c.requires.run c.args.address c.index_mut.result.now _ (omega arith) (omega arith) c.in_ok-read.ensures.bytes c.index_mut.ensures.value in
    subst (λ l. IfSome c.in_ok-decode_node-2.field-0 (λ node. Spells c.args.shape l (node_view node))) bytes c.in_ok-decode_node-2.ensures.node
