-- An image file is the meta area and the blocks behind it, so a walk that adds the next block's bytes has the file's
-- front, which is never longer than the file.
use Rattle.std.proofs.Common.{◌≡◌, ℕ, ◌+◌, ◌<◌, ◌≤◌, List, ◌++◌, length, get_or, take, ◌∙◌, sym, ap, subst, arith}
use Rattle.std.proofs.lemmas.List.{length-append, take_more, flat_map_more, take_all}
use Rattle.std.proofs.lemmas.List.Folds.{length-flat_map-take}
use Rattle.std.specs.List.{flat_map}
use Rattle.device.specs.Parts.{image_file}
use Rattle.device.specs.declared.memory.block.MemBlock.{MemBlock}
use Rattle.device.specs.declared.memory.meta.MemMeta.{MemMeta}
use Rattle.device.specs.declared.parts.Parts.{Parts}
use Rattle.device.proofs.ZeroBlocks.{content_of}

abbrev pub seen : MemMeta → List ℕ
seen meta = meta.bytes.items

-- the meta area, and the first n blocks
abbrev pub file_front : Parts MemMeta MemBlock → ℕ → List ℕ
file_front parts n = seen parts.meta ++ flat_map content_of (take n parts.blocks.items)

-- the bytes of block i, the next of a walk over the blocks
pub record IsNext (parts : Parts MemMeta MemBlock) (blocks : List MemBlock) (i : ℕ) (block : MemBlock) (bytes : List ℕ) : Type 0 where
  pub blocks_are : blocks ≡ parts.blocks.items
  pub within : i < length blocks
  pub block_is : block ≡ get_or blocks i block
  pub bytes_are : bytes ≡ content_of block

pub front_more : (parts : Parts MemMeta MemBlock) (blocks : List MemBlock) (i : ℕ) (block : MemBlock) (bytes : List ℕ) → IsNext parts blocks i block bytes
    → file_front parts (i + 1) ≡ file_front parts i ++ bytes
front_more parts blocks i block bytes next =
    let items = parts.blocks.items in
    let within : i < length items = subst (λ (l : List MemBlock). i < length l) next.blocks_are next.within in
    let found : content_of (get_or items i block) ≡ bytes =
    ap content_of (ap (λ (l : List MemBlock). get_or l i block) (sym next.blocks_are) ∙ sym next.block_is) ∙ sym next.bytes_are in
    ap (λ (l : List MemBlock). seen parts.meta ++ flat_map content_of l) (take_more items i block within)
    ∙ sym (flat_map_more content_of (seen parts.meta) (take i items) (get_or items i block)) ∙ ap (λ (l : List ℕ). file_front parts i ++ l) found

-- no front is longer than the file
pub front_fits : (parts : Parts MemMeta MemBlock) (blocks : List MemBlock) (i : ℕ) (block : MemBlock) (bytes : List ℕ) → IsNext parts blocks i block bytes
    → length (file_front parts i) + length bytes ≤ length (image_file seen content_of parts)
front_fits parts blocks i block bytes next =
    let items = parts.blocks.items in
    let within : i < length items = subst (λ (l : List MemBlock). i < length l) next.blocks_are next.within in
    let found : content_of (get_or items i block) ≡ bytes =
    ap content_of (ap (λ (l : List MemBlock). get_or l i block) (sym next.blocks_are) ∙ sym next.block_is) ∙ sym next.bytes_are in
    omega (arith, ap length found, length-append (seen parts.meta) (flat_map content_of (take i items)), length-append (seen parts.meta) (flat_map content_of items), length-flat_map-take content_of items i block within)

pub front_whole : (parts : Parts MemMeta MemBlock) (blocks : List MemBlock) (n : ℕ) → blocks ≡ parts.blocks.items → length blocks ≤ n → file_front parts n ≡ image_file seen content_of parts
front_whole parts blocks n are all =
    ap (λ (l : List MemBlock). seen parts.meta ++ flat_map content_of l) (take_all n parts.blocks.items (subst (λ (l : List MemBlock). length l ≤ n) are all))

-- where there was room for the whole file, there is room for the next block
pub has_room : (parts : Parts MemMeta MemBlock) (blocks : List MemBlock) (i : ℕ) (block : MemBlock) (bytes old file : List ℕ) (capacity : ℕ) → IsNext parts blocks i block bytes
    → file ≡ old ++ file_front parts i → length old + length (image_file seen content_of parts) ≤ capacity → length file + length bytes ≤ capacity
has_room parts blocks i block bytes old file capacity next added room =
    omega (arith, front_fits parts blocks i block bytes next, ap length added ∙ length-append old (file_front parts i))
