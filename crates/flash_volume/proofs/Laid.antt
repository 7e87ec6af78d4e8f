-- Bytes that are laid over a block of a file.
use Rattle.std.proofs.Common.{◌≡◌, ◌∙◌, ◌+◌, ◌++◌, ◌≤◌, ℕ, List, Bool, true, false, Option, Some, None, cond, nat_lt, unwrap_or, replicate, length, ap, refl, arith}
use Rattle.std.proofs.lemmas.List.{append-nil, drop_all, length-replicate}
use Rattle.std.specs.FinMap.{get}
use Rattle.file_cells.specs.Pass.{AreWhole}
use Rattle.flash_volume.specs.Answers.{block_of, laid_over}
use Rattle.geometry.specs.File.{Block, File}

pub whole_or_hole : (size : ℕ) (o : Option Block) → ((b : Block) → o ≡ Some b → length b ≡ size) → length (unwrap_or o (replicate size 0)) ≡ size
whole_or_hole size None whole = length-replicate size 0
whole_or_hole size (Some b) whole = whole b refl

one_long : (size : ℕ) (first : Bool) (x y : Block) → length x ≡ size → length y ≡ size → length (cond first x y) ≡ size
one_long size true x y long other = long
one_long size false x y long other = other

-- a whole block is left as it is
pub laid_whole : (size : ℕ) (file : File) (index from : ℕ) (laid : List ℕ) → AreWhole size file → from + length laid ≤ size → length laid ≡ size
    → laid_over (block_of size file index) from laid ≡ laid
laid_whole size file index from laid whole fits all =
    let block : Block = block_of size file index in
    let long : length block ≡ size = one_long size (nat_lt index file.length) _ _ (whole_or_hole size (get file.blocks index) (whole index)) (length-replicate size 0) in
    let front : from ≡ 0 = omega (arith, fits, all) in
    ap (λ at. laid_over block at laid) front ∙ ap (λ rest. laid ++ rest) (drop_all (0 + length laid) block (omega (arith, long, all))) ∙ append-nil laid
