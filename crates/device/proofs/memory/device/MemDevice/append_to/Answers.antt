use Rattle.std.proofs.Common.{arith}
use Rattle.device.proofs.ImageFiles.{IsNext, has_room}
use Rattle.device.proofs.memory.device.MemDevice.append_to.Goals as goal

pub returns-in_err-extend_from_slice-2-clause-kept : goal.returns-in_err-extend_from_slice-2-clause-kept
returns-in_err-extend_from_slice-2-clause-kept c =
    let next : IsNext c.args.self.now.parts c.deref-block-items.result.now c.loop-block.block-index c.block-item.result c.as_slice-in-loop-block.result.now =
    record { blocks_are = c.deref-block-items.ensures.value; within = c.loop-block-test.true; block_is = c.block-item.is; bytes_are = c.as_slice-in-loop-block.ensures } in
    let room = has_room _ _ _ _ _ c.args.file.now.items _ _ next c.loop-block.invariant.added c.loop-block.invariant.room in
    absurd (omega (arith, room, c.in_err-extend_from_slice-2.ensures.full))

pub returns-in_err-extend_from_slice-2-clause-full : goal.returns-in_err-extend_from_slice-2-clause-full
returns-in_err-extend_from_slice-2-clause-full c =
    let next : IsNext c.args.self.now.parts c.deref-block-items.result.now c.loop-block.block-index c.block-item.result c.as_slice-in-loop-block.result.now =
    record { blocks_are = c.deref-block-items.ensures.value; within = c.loop-block-test.true; block_is = c.block-item.is; bytes_are = c.as_slice-in-loop-block.ensures } in
    let room = has_room _ _ _ _ _ c.args.file.now.items _ _ next c.loop-block.invariant.added c.loop-block.invariant.room in
    absurd (omega (arith, room, c.in_err-extend_from_slice-2.ensures.full))
