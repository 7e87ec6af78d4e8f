-- The same main blocks behind another meta area: the nodes and the files are the same.
use Rattle.std.proofs.Common.{◌≡◌, ◌∙◌, refl, sym, ap, subst, ℕ, ◌-◌, ◌*◌, List, ◌++◌, map, length, take, drop, Option, Some, None, arith}
use Rattle.std.proofs.Math.Path.{fun_ext}
use Rattle.std.proofs.lemmas.List.{drop-drop, drop_at, length-append, length-drop, take_at}
use Rattle.std.specs.FinMap.{from_entries}
use Rattle.std.specs.List.{filter_map}
use Rattle.geometry.specs.Area.{meta_bytes}
use Rattle.geometry.specs.File.{Block, File}
use Rattle.geometry.specs.Path.{path}
use Rattle.geometry.specs.Shape.{block_bytes}
use Rattle.geometry.specs.declared.geometry.Geometry.{Geometry}
use Rattle.geometry.specs.declared.path.Path.{Path}
use Rattle.geometry.specs.declared.path.Path.TheVariants.{Inode, Direct, Indirect, Double}
use Rattle.geometry.specs.declared.shape.Shape.{Shape}
use Rattle.image.specs.Files.{at_end, below, block_at, file_of, files}
use Rattle.image.specs.Image.{Image, node_of}
use Rattle.image.specs.Reading.{read_nodes}
use Rattle.image.specs.Rules.{IsLawful}
use Rattle.image.specs.Walk.{inodes}
use Rattle.image_reading.specs.Held.{HoldsVolume}
use Rattle.image_reading.specs.Upgraded.{IsUpgraded, first, paged}
use Rattle.pack_tables.specs.File.{block_in}
use Rattle.pack_tables.specs.Grammar.{HasSuper}
use Rattle.pack_tables.specs.Holding.{HoldsTables}

-- where a file's blocks stand does not hang on the version
end_same : (image : Image) (inode : ℕ) (way : Option Path) → at_end (first image) inode way ≡ at_end image inode way
end_same image inode None = refl
end_same image inode (Some (Inode slot)) = refl
end_same image inode (Some (Direct p slot)) = refl
end_same image inode (Some (Indirect p a slot)) = refl
end_same image inode (Some (Double a b slot)) = refl

file_same : (shape : Shape) (image : Image) (blocks : ℕ → Block) (inode : ℕ) → file_of shape (first image) blocks inode ≡ file_of shape image blocks inode
file_same shape image blocks inode =
    let of : (ℕ → ℕ) → File = λ address. record {
      kind = (node_of image inode).kind;
      length = (node_of image inode).length;
      blocks = from_entries (filter_map (λ index. block_at blocks index (address index)) (below (node_of image inode).length));
    } in
    ap of (fun_ext λ index. end_same image inode (path shape index))

pub files_same : (geometry : Geometry) (image : Image) (blocks : ℕ → Block) → files (paged geometry) (first image) blocks ≡ files geometry image blocks
files_same geometry image blocks =
    ap (λ (file : ℕ → ℕ × File). map file (inodes geometry image)) (fun_ext λ inode. ap (λ file. (inode, file)) (file_same geometry.shape image blocks inode))

module _ (geometry : Geometry) (area bytes : List ℕ) (long : length area ≡ meta_bytes (paged geometry)) where
  written : List ℕ
  written = area ++ drop (meta_bytes geometry) bytes

  abbrev size : ℕ
  size = block_bytes geometry.shape

  pub behind : drop (meta_bytes (paged geometry)) (area ++ drop (meta_bytes geometry) bytes) ≡ drop (meta_bytes geometry) bytes
  behind = drop_at area (drop (meta_bytes geometry) bytes) (meta_bytes (paged geometry)) long

  block_same : (address : ℕ) → block_in (paged geometry) (area ++ drop (meta_bytes geometry) bytes) address ≡ block_in geometry bytes address
  block_same address =
      let k = (address - 1) * size in
      ap (take size) (sym (drop-drop k (meta_bytes (paged geometry)) (area ++ drop (meta_bytes geometry) bytes)) ∙ ap (drop k) behind ∙ drop-drop k (meta_bytes geometry) bytes)

  pub blocks_same : block_in (paged geometry) (area ++ drop (meta_bytes geometry) bytes) ≡ block_in geometry bytes
  blocks_same = fun_ext block_same

  pub is_upgraded : (image : Image) → HasSuper (paged geometry) area → HoldsTables (paged geometry) (first image) area
      → IsLawful (paged geometry) (first image) → HoldsVolume geometry image bytes → IsUpgraded geometry image bytes (area ++ drop (meta_bytes geometry) bytes)
  is_upgraded image front tables lawful holds =
      let there : take (meta_bytes (paged geometry)) (area ++ drop (meta_bytes geometry) bytes) ≡ area
      = take_at area (drop (meta_bytes geometry) bytes) (meta_bytes (paged geometry)) long in
      let size_is = holds.size in
      record {
        held = record {
          size = omega (arith, long, size_is, length-append area (drop (meta_bytes geometry) bytes), length-drop (meta_bytes geometry) bytes);
          held = record {
            front = subst (HasSuper (paged geometry)) (sym there) front;
            tables = subst (HoldsTables (paged geometry) (first image)) (sym there) tables;
            nodes = holds.held.nodes ∙ ap (λ blocks. read_nodes geometry.shape blocks image.node_table) (sym blocks_same);
          };
          lawful = lawful;
        };
        blocks = behind;
        files = files_same geometry image (block_in (paged geometry) (area ++ drop (meta_bytes geometry) bytes)) ∙ ap (files geometry image) blocks_same;
      }
