use Rattle.std.proofs.Common.{length, ap, ◌∙◌, arith}
use Rattle.std.proofs.lemmas.List.{length-append}
use Rattle.device.proofs.ImageFiles.{file_front, IsNext, front_more, front_fits, front_whole}
use Rattle.device.proofs.memory.device.MemDevice.image_bytes.Goals as goal

pub returns-in_err-bytes : goal.returns-in_err-bytes
returns-in_err-bytes c =
    let next : IsNext c.args.self.now.parts c.deref-block-items.result.now c.loop-block.block-index c.block-item.result c.as_slice.result.now =
    record { blocks_are = c.deref-block-items.ensures.value; within = c.loop-block-test.true; block_is = c.block-item.is; bytes_are = c.as_slice.ensures } in
    let fits = front_fits _ _ _ _ _ next in
    rw c.from_residual.ensures (omega (arith, c.in_err-bytes.ensures, fits))

pub loop-block-preserved : goal.loop-block-preserved
loop-block-preserved c =
    let next : IsNext c.args.self.now.parts c.deref-block-items.result.now c.loop-block.block-index c.block-item.result c.as_slice.result.now =
    record { blocks_are = c.deref-block-items.ensures.value; within = c.loop-block-test.true; block_is = c.block-item.is; bytes_are = c.as_slice.ensures } in
    let more = ap length (front_more _ _ _ _ _ next) ∙ length-append (file_front c.args.self.now.parts c.loop-block.block-index) c.as_slice.result.now in
    omega (arith, c.in_ok-bytes.ensures.1, more)

pub returns : goal.returns
returns c = c.loop-block.invariant ∙ ap length (front_whole c.args.self.now.parts c.deref-block-items.result.now c.loop-block.block-index c.deref-block-items.ensures.value c.loop-block-test.false)
