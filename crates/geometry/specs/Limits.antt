-- How large a volume's numbers may be.
use Rattle.std.specs.Prelude.{◌≡◌, ℕ, ◌≤◌, ◌%◌}

pub record IsWithinLimits (segments per_section files nodes : ℕ) : Type 0 where
  pub some_segments : 16 ≤ segments
  pub segments_fit : segments ≤ 4096
  pub a_segment : 1 ≤ per_section
  pub section_fits : per_section ≤ 16
  -- every section has as many segments
  pub sections : segments % per_section ≡ 0
  pub a_file : 1 ≤ files
  pub files_fit : files ≤ 1024
  -- each file has an inode
  pub inodes : files ≤ nodes
  pub nodes_fit : nodes ≤ 65536
