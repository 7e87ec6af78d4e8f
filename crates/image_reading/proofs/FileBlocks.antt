-- A file's map of blocks has at each index what stands at its address, so what is read there is the file's block.
use Rattle.std.proofs.Common.{◌≡◌, ◌≢◌, ℕ, zero, suc, ◌+◌, ◌-◌, ◌*◌, ◌<◌, ◌≤◌, List, [], refl, sym, ap, ◌∙◌, length, take, replicate, unwrap_or, arith}
use Rattle.std.proofs.Math.Nat.{mul-le-mul_right}
use Rattle.std.proofs.Math.Seq.{take-nil}
use Rattle.std.proofs.lemmas.Cmp.{nat_cmp_total}
use Rattle.std.proofs.lemmas.List.{drop_all}
use Rattle.std.specs.FinMap.{get-from_entries}
use Rattle.device.specs.Disk.{part}
use Rattle.geometry.specs.Area.{block_count, meta_bytes}
use Rattle.geometry.specs.File.{Block, bytes_at}
use Rattle.geometry.specs.Shape.{block_bytes}
use Rattle.geometry.specs.declared.geometry.Geometry.{Geometry}
use Rattle.geometry.specs.declared.shape.Shape.{Shape}
use Rattle.image.specs.Files.{data_address, file_of}
use Rattle.image.specs.Image.{Image, node_of}
use Rattle.image.specs.Reading.{node_at, read_node}
use Rattle.image.proofs.FileBlocks.{content, entries, in_entries}
use Rattle.image_reading.specs.Held.{file_in}
use Rattle.pack_tables.specs.File.{block_in, file_bytes}

module _ (blocks : ℕ → Block) where
  -- a block that the file has
  block_there : (size : ℕ) (shape : Shape) (image : Image) (number index : ℕ) → index < (node_of image number).length
      → bytes_at size (file_of shape image blocks number) index ≡ unwrap_or (content blocks (data_address shape image number index)) (replicate size 0)
  block_there size shape image number index low =
      ap (λ o. unwrap_or o (replicate size 0))
      (get-from_entries nat_cmp_total (entries blocks (data_address shape image number) (node_of image number).length) index
      ∙ in_entries blocks (data_address shape image number) (node_of image number).length index low)

  some_block : (size a : ℕ) → a ≢ 0 → unwrap_or (content blocks a) (replicate size 0) ≡ blocks a
  some_block size zero some = absurd (some refl)
  some_block size (suc a) some = refl

  pub at_some : (shape : Shape) (a : ℕ) → a ≢ 0 → read_node shape (blocks a) ≡ node_at shape blocks a
  at_some shape zero some = absurd (some refl)
  at_some shape (suc a) some = refl

module _ (geometry : Geometry) (image : Image) (bytes : List ℕ) (number index address : ℕ) (low : index < (node_of image number).length)
    (is : address ≡ data_address geometry.shape image number index) where
  abbrev size : ℕ
  size = block_bytes geometry.shape

  pub hole_is : address ≡ 0 → replicate size 0 ≡ bytes_at size (file_in geometry image bytes number) index
  hole_is none =
      sym (block_there (block_in geometry bytes) size geometry.shape image number index low
      ∙ ap (λ a. unwrap_or (content (block_in geometry bytes) a) (replicate size 0)) (sym is ∙ none))

  pub block_is : address ≢ 0 → block_in geometry bytes address ≡ bytes_at size (file_in geometry image bytes number) index
  block_is some =
      sym (block_there (block_in geometry bytes) size geometry.shape image number index low
      ∙ ap (λ a. unwrap_or (content (block_in geometry bytes) a) (replicate size 0)) (sym is)
      ∙ some_block (block_in geometry bytes) size address some)

-- what was read at a block's place is the block
pub read_is : (geometry : Geometry) (bytes out : List ℕ) (address place n : ℕ) → out ≡ part place n bytes
    → place ≡ meta_bytes geometry + (address - 1) * block_bytes geometry.shape → n ≡ block_bytes geometry.shape → out ≡ block_in geometry bytes address
read_is geometry bytes out address place n read at long = read ∙ ap (λ k. part k n bytes) at ∙ ap (λ k. part (meta_bytes geometry + (address - 1) * block_bytes geometry.shape) k bytes) long

-- behind the last block there is none
pub none_behind : (geometry : Geometry) (bytes : List ℕ) (address : ℕ) → length bytes ≡ file_bytes geometry → block_count geometry < address → [] ≡ block_in geometry bytes address
none_behind geometry bytes address long far =
    let more : block_count geometry * block_bytes geometry.shape ≤ (address - 1) * block_bytes geometry.shape
    = mul-le-mul_right (block_bytes geometry.shape) (omega (arith, far)) in
    sym (ap (take (block_bytes geometry.shape)) (drop_all (meta_bytes geometry + (address - 1) * block_bytes geometry.shape) bytes (omega (arith, more, long))) ∙ take-nil (block_bytes geometry.shape))
