use Rattle.std.proofs.Common.{◌≡◌, ◌+◌, ◌++◌, ◌≤◌, length, vec_capacity}
use Rattle.device.specs.Parts.{image_file}
use Rattle.device.proofs.ImageFiles.{file_front, seen}
use Rattle.device.proofs.ZeroBlocks.{content_of}
use Rattle.device.proofs.memory.device.MemDevice.append_to.Given as goal

abbrev pub invariant-loop-block : goal.invariant-loop-block
invariant-loop-block l = record {
  added : l.file.items ≡ l.fn.file.items ++ file_front l.self.parts l.block-index;
  room : length l.fn.file.items + length (image_file seen content_of l.self.parts) ≤ vec_capacity l.file;
}
