use Rattle.std.proofs.Common.{◌≡◌, length}
use Rattle.device.proofs.ImageFiles.{file_front}
use Rattle.device.proofs.memory.device.MemDevice.image_bytes.Given as goal

abbrev pub invariant-loop-block : goal.invariant-loop-block
invariant-loop-block l = l.bytes ≡ length (file_front l.self.parts l.block-index)
