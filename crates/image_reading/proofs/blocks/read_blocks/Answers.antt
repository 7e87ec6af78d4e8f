use Rattle.std.proofs.Common.{◌≡◌, ◌+◌, ◌-◌, ◌*◌, ◌<◌, ◌≤◌, length, rules, arith}
use Rattle.geometry.specs.Shape.{block_bytes}
use Rattle.image.specs.View.{image_view}
use Rattle.image_reading.specs.Held.{file_in}
use Rattle.image_reading.proofs.Handing.{block_read, block_within}
use Rattle.image_reading.proofs.blocks.read_blocks.Goals as goal

pub loop-index-preserved : goal.loop-index-preserved
loop-index-preserved g c =
    let size = block_bytes c.args.geometry.now.shape in
    let first = c.args.first in
    let index = c.loop-index.index in
    let s = c.block_bytes-size.result in
    let same : s ≡ size = search rules in
    let low : first ≤ index = search rules in
    let below : index < c.args.end = search rules in
    let out_is : length c.loop-index.out ≡ (c.args.end - first) * size = search rules in
    let fits : (index - first) * size + size ≤ (c.args.end - first) * size = block_within (index - first) (c.args.end - first) size (omega arith) in
    let within : (index - first) * size ≤ length c.loop-index.out = omega (arith, fits, out_is) in
    let long : length c.read_block.new.out ≡ s = search rules in
    record {
      read = λ bytes shown.
          let file = file_in c.args.geometry.now (image_view c.args.image.now) bytes c.args.number in
          let before = c.in_ok-read_block.ensures.kept bytes shown in
          block_read size s file first index c.loop-index.out c.read_block.new.out same low within (c.loop-index.invariant.read bytes before) long (c.in_ok-read_block.ensures.read bytes shown);
      kept = λ bytes shown. c.loop-index.invariant.kept bytes (c.in_ok-read_block.ensures.kept bytes shown);
    }
