use Rattle.std.proofs.Common.{◌≡◌, ◌∙◌, replicate, arith}
use Rattle.std.proofs.lemmas.Grind.{common_steps}
use Rattle.geometry.specs.Shape.{block_bytes}
use Rattle.image.specs.View.{image_view}
use Rattle.image_reading.proofs.FileBlocks.{hole_is, block_is, read_is}
use Rattle.image_reading.proofs.blocks.read_block.Goals as goal

pub returns-then-address-eq0-clause-read : goal.returns-then-address-eq0-clause-read
returns-then-address-eq0-clause-read g c = λ bytes shown.
    let filled : c.fill.new.self ≡ replicate (block_bytes c.args.geometry.now.shape) 0 = grind (arith, common_steps) in
    filled ∙ hole_is c.args.geometry.now (image_view c.args.image.now) bytes c.args.number c.args.index c.address_at-address.result c.requires.below c.address_at-address.ensures c.if-address-eq0.true

pub returns-in_ok-read_at-clause-read : goal.returns-in_ok-read_at-clause-read
returns-in_ok-read_at-clause-read g c = λ bytes shown.
    let geometry = c.args.geometry.now in
    read_is geometry bytes c.read_at.new.out c.address_at-address.result _ _ (c.in_ok-read_at.ensures.read bytes shown) c.place_of.ensures c.requires.out
    ∙ block_is geometry (image_view c.args.image.now) bytes c.args.number c.args.index c.address_at-address.result c.requires.below c.address_at-address.ensures c.if-address-eq0.false
