-- A file: its kind, its length in blocks, and a finite map from indexes to blocks of bytes.
use Rattle.std.specs.Prelude.{ℕ, ◌+◌, min, max, List, replicate, unwrap_or, nat_lt, not, ◌||◌}
use Rattle.std.specs.Ordering.{nat_cmp}
use Rattle.std.specs.FinMap.{FinMap, get, insert, retain_keys, empty, code}
use Rattle.std.specs.Coded.{Coded, coded_ℕ, coded_list}
use Rattle.geometry.specs.declared.kind.Kind.{Kind}

abbrev pub Block : Type 0
Block = List ℕ

pub record File : Type 0 where
  pub kind : Kind
  pub length : ℕ
  pub blocks : FinMap nat_cmp Block

abbrev pub new_file : Kind → File
new_file kind = record { kind = kind; length = 0; blocks = empty }

-- what a read of an index below the length gives, where a block has so many bytes: a hole reads as zeros
abbrev pub bytes_at : ℕ → File → ℕ → Block
bytes_at block_bytes file index = unwrap_or (get file.blocks index) (replicate block_bytes 0)

-- a block is written at an index
abbrev pub written : File → ℕ → Block → File
written file index block = record file {
  length = max file.length (index + 1);
  blocks = insert file.blocks index block;
}

-- the file is cut to a length, and stays where it is shorter
abbrev pub cut_to : File → ℕ → File
cut_to file length = record file {
  length = min length file.length;
  blocks = retain_keys file.blocks (λ index. nat_lt index length);
}

-- The indexes from one up to another, which is not among them, become holes; the file is as long as it was (Linux fallocate(2): a
-- hole is punched, and the size stays).
abbrev pub erased : File → ℕ → ℕ → File
erased file from to = record file { blocks = retain_keys file.blocks (λ index. nat_lt index from || not (nat_lt index to)) }

-- how a model stores the blocks of a file
abbrev pub blocks_code : Coded (FinMap nat_cmp Block)
blocks_code = code coded_ℕ (coded_list coded_ℕ)
