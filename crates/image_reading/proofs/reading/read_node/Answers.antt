use Rattle.std.proofs.Common.{◌∙◌, ap, arith}
use Rattle.image.specs.Reading.{read_node}
use Rattle.image_reading.proofs.FileBlocks.{at_some, none_behind, read_is}
use Rattle.pack_tables.specs.File.{block_in}
use Rattle.image_reading.proofs.reading.read_node.Goals as goal

pub returns-then-address-blocks-clause-node : goal.returns-then-address-blocks-clause-node
returns-then-address-blocks-clause-node g c = λ bytes shown long.
    let geometry = c.args.geometry.now in
    c.in_ok-decode_node.ensures.read
    ∙ ap (read_node geometry.shape) (none_behind geometry bytes c.args.address long (omega (arith, c.if-address-blocks.true, c.blocks-2.ensures)))
    ∙ at_some (block_in geometry bytes) geometry.shape c.args.address c.if-address-eq0.false

pub returns-clause-node : goal.returns-clause-node
returns-clause-node g c = λ bytes shown long.
    let geometry = c.args.geometry.now in
    c.in_ok-decode_node-2.ensures.read
    ∙ ap (read_node geometry.shape) (read_is geometry bytes c.read_at.new.out c.args.address _ _ (c.in_ok-read_at.ensures.read bytes shown) c.place_of.ensures c.requires)
    ∙ at_some (block_in geometry bytes) geometry.shape c.args.address c.if-address-eq0.false
