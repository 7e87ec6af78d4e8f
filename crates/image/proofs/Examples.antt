-- The definitions say what they should of one small file: its paths, lengths, bytes and names come out by computation,
-- and its bytes read back as the image.
use Rattle.std.proofs.Common.{◌≡◌, refl, ℕ, true, false, List, [], ◌∷◌, ◌++◌, length, replicate, map, take, arith}
use Rattle.std.specs.Prelude.{Some, None, if◌then◌else◌, ◌==◌}
use Rattle.geometry.specs.declared.path.Path.TheVariants.{Inode, Direct, Indirect, Double}
use Rattle.geometry.specs.declared.packing.Packing.TheVariants.{Slots}
use Rattle.geometry.specs.declared.geometry.Geometry.{Geometry}
use Rattle.geometry.specs.declared.shape.Shape.TheVariants.{Tiny, Kernel}
use Rattle.geometry.specs.Path.{node_entries, inode_entries, largest_length, path}
use Rattle.image.specs.Node.{Node, node_bytes}
use Rattle.image.specs.Image.{Image, SegmentInfo, no_entry, no_node, no_summary}
use Rattle.geometry.specs.declared.owner.Owner.TheVariants.{Node as OfNode, Data}
use Rattle.geometry.specs.declared.kind.Kind.TheVariants.{File}
use Rattle.image.specs.Walk.{names}
use Rattle.image.specs.Reading.{image_in}
use Rattle.image.specs.Rules.{IsLawful}
use Rattle.image.proofs.Testing.{lawful_by_tests}
use Rattle.image.specs.Pack.{superblock, pack_body, slot_start}
use Rattle.geometry.specs.Summary.{summary_of}
use Rattle.geometry.specs.Area.{pack_bytes, meta_bytes}

tiny_numbers : (node_entries Tiny ≡ 10) × (inode_entries Tiny ≡ 3) × (largest_length Tiny ≡ 1223)
tiny_numbers = (refl, refl, refl)

kernel_numbers : (node_entries Kernel ≡ 1018) × (inode_entries Kernel ≡ 923) × (largest_length Kernel ≡ 1057053439)
kernel_numbers = (refl, refl, refl)

tiny_paths : map (path Tiny) (2 ∷ 3 ∷ 22 ∷ 23 ∷ 222 ∷ 223 ∷ 1222 ∷ 1223 ∷ [])
    ≡ Some (Inode 2) ∷ Some (Direct 0 0) ∷ Some (Direct 1 9) ∷ Some (Indirect 2 0 0) ∷ Some (Indirect 3 9 9)
    ∷ Some (Double 0 0 0) ∷ Some (Double 9 9 9) ∷ None ∷ []
tiny_paths = refl

kernel_paths : map (path Kernel) (1057053438 ∷ 1057053439 ∷ []) ≡ Some (Double 1017 1017 1017) ∷ None ∷ []
kernel_paths = refl

-- one file with one block: its inode at the head of segment 1, its data at the head of segment 4
unfoldable pub one_inode : Node
one_inode = record { nid = 1; inode = 1; class = 0; length = 1; kind = File; addresses = 33 ∷ 0 ∷ 0 ∷ []; children = 0 ∷ 0 ∷ 0 ∷ 0 ∷ 0 ∷ [] }

inode_block : node_bytes Tiny one_inode
    ≡ (1 ∷ replicate 7 0) ++ (0x21 ∷ 0 ∷ 0 ∷ 0 ∷ []) ++ replicate 28 0 ++ (1 ∷ 0 ∷ 0 ∷ 0 ∷ 1 ∷ 0 ∷ 0 ∷ 0 ∷ []) ++ replicate 16 0
unfolding one_inode
inode_block = refl

unfoldable pub small : Geometry
small = record {
  shape = Tiny;
  segments = 32;
  per_section = 1;
  files = 4;
  nodes = 64;
  packing = Slots;
  limits = record {
    some_segments = omega arith;
    segments_fit = omega arith;
    a_segment = omega arith;
    section_fits = omega arith;
    sections = refl;
    a_file = omega arith;
    files_fit = omega arith;
    inodes = omega arith;
    nodes_fit = omega arith;
  };
}

superblock_front : take 32 (superblock small)
    ≡ 0x46 ∷ 0x32 ∷ 0x53 ∷ 0x45 ∷ 0x47 ∷ 0x30 ∷ 0x30 ∷ 0x31 ∷ 1 ∷ 0 ∷ 0 ∷ 0 ∷ 0 ∷ 0 ∷ 0 ∷ 0 ∷ 0x20 ∷ 0 ∷ 0 ∷ 0
    ∷ 1 ∷ 0 ∷ 0 ∷ 0 ∷ 4 ∷ 0 ∷ 0 ∷ 0 ∷ 0x40 ∷ 0 ∷ 0 ∷ 0 ∷ []
unfolding small
superblock_front = refl

superblock_length : length (superblock small) ≡ 64
unfolding small
superblock_length = refl

lengths : (pack_bytes small ≡ 3036) × (meta_bytes small ≡ 6136) × (slot_start small 1 ≡ 3100)
unfolding small
lengths = (refl, refl, refl)

unfoldable pub plain_segment : SegmentInfo
plain_segment = record { count = 0; mtime = 0; bits = replicate 8 false }

unfoldable pub segment_with_first : SegmentInfo
segment_with_first = record { count = 1; mtime = 0; bits = true ∷ replicate 7 false }

unfoldable pub one_file : Image
one_file = record {
  version = 2;
  total = 2;
  logs = Some (record { segment = 0; next = 0 }) ∷ Some (record { segment = 1; next = 1 }) ∷ Some (record { segment = 2; next = 0 })
      ∷ Some (record { segment = 3; next = 0 }) ∷ Some (record { segment = 4; next = 1 }) ∷ Some (record { segment = 5; next = 0 }) ∷ [];
  node_table = record { inode = 1; address = 9 } ∷ replicate 63 no_entry;
  segments = plain_segment ∷ segment_with_first ∷ plain_segment ∷ plain_segment ∷ segment_with_first ∷ replicate 27 plain_segment;
  summaries = replicate 8 no_summary ++ summary_of (OfNode 1) ∷ (replicate 23 no_summary ++ summary_of (Data 1 0) ∷ replicate 223 no_summary);
  nodes = one_inode ∷ replicate 63 no_node;
}

one_file_names : names small one_file
    ≡ record { address = 9; owner = OfNode 1 } ∷ record { address = 33; owner = Data 1 0 } ∷ []
unfolding small one_file one_inode
one_file_names = refl

one_file_body_length : length (pack_body Tiny one_file) ≡ 3032
unfolding one_file plain_segment segment_with_first
one_file_body_length = refl

-- what a pack's body and the inode's block hold is the image again
one_file_blocks : ℕ → List ℕ
one_file_blocks address = if address == 9 then node_bytes Tiny one_inode else []

one_file_reads_back : image_in small (pack_body Tiny one_file) one_file_blocks ≡ one_file
unfolding small one_file one_inode one_file_blocks plain_segment segment_with_first image_in
one_file_reads_back = refl

pub one_file_is_lawful : IsLawful small one_file
unfolding small one_file one_inode plain_segment segment_with_first
one_file_is_lawful = lawful_by_tests small one_file (record {
  version = refl;
  logs = refl;
  places = refl;
  table = refl;
  entries = refl;
  segments = refl;
  bits = refl;
  summaries = refl;
  as_many = refl;
  nodes = refl;
  owned = refl;
  apart = refl;
  holds = refl;
  fit = refl;
  met = refl;
  distinct = refl;
  named = refl;
  marked = refl;
  owners = refl;
  unmarked = refl;
  counts = refl;
  total = refl;
  free_places = refl;
  lengths = refl;
})
