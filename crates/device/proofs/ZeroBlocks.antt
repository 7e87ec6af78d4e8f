-- Each new block has the next address, zeros for bytes and no failure: so the list with it behind is one of such
-- blocks, one longer.
use Rattle.std.proofs.Common.{◌≡◌, ℕ, ◌+◌, List, [], ◌∷◌, ◌++◌, length, All, replicate, ◌∙◌, ap, arith}
use Rattle.std.proofs.lemmas.List.{length-append, length-replicate}
use Rattle.std.proofs.lemmas.List.Elements.{All-nil, All-push}
use Rattle.std.specs.Arc.{arc_value}
use Rattle.device.specs.Parts.{IsBlockRun}
use Rattle.device.specs.declared.memory.block.MemBlock.{MemBlock}
use Rattle.device.proofs.BlockRuns.{run_of_none, run_push}

abbrev pub address_of : MemBlock → ℕ
address_of block = block.address

abbrev pub content_of : MemBlock → List ℕ
content_of block = (arc_value block.bytes).items

abbrev pub failed : MemBlock → ℕ
failed block = block.failures.total.count

-- the blocks with addresses from 1 to n are made, of so many bytes
pub record AreZeroBlocks (bytes n : ℕ) (blocks : List MemBlock) : Type 0 where
  pub count : length blocks ≡ n
  pub run : IsBlockRun address_of content_of bytes 1 blocks
  pub zeros : All (λ block. content_of block ≡ replicate bytes 0) blocks
  pub sound : All (λ block. failed block ≡ 0) blocks

pub no_blocks : (bytes : ℕ) → AreZeroBlocks bytes 0 []
no_blocks bytes = record {
  count = omega arith;
  run = run_of_none address_of content_of bytes 1;
  zeros = All-nil _;
  sound = All-nil _;
}

pub one_more_block : (bytes n : ℕ) (blocks : List MemBlock) (block : MemBlock) → AreZeroBlocks bytes n blocks → address_of block ≡ n + 1 → content_of block ≡ replicate bytes 0 → failed block ≡ 0
    → AreZeroBlocks bytes (n + 1) (blocks ++ block ∷ [])
one_more_block bytes n blocks block made address zeros sound = record {
  count = let long = length-append blocks (block ∷ []) in let had = made.count in omega arith;
  run =
      let had = made.count in
      run_push address_of content_of bytes 1 blocks block made.run (omega arith) (ap length zeros ∙ length-replicate bytes 0);
  zeros = All-push (λ block. content_of block ≡ replicate bytes 0) blocks block made.zeros zeros;
  sound = All-push (λ block. failed block ≡ 0) blocks block made.sound sound;
}
