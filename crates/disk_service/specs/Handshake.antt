-- Which option has a client served, and what it is told then.
use Rattle.std.specs.Prelude.{◌≡◌, ◌⊎◌, ◌++◌, ℕ, Bool, List, [], Option, take, drop}
use Rattle.std.specs.Io.KnownBytes.{Consumes}
use Rattle.nbd_words.specs.Export.{export_flags, export_bytes, block_size_bytes}
use Rattle.nbd_words.specs.Options.{Head, IsNamed, head_bytes, option_number, option_reply_bytes}
use Rattle.nbd_words.specs.declared.options.OptionKind.{OptionKind}
use Rattle.nbd_words.specs.declared.options.OptionKind.TheVariants.{ExportName, Go}

-- a name means a disk where it is the disk's, and an empty one means any
abbrev pub IsMeant : List ℕ → List ℕ → Type 0
IsMeant disk name = (name ≡ []) ⊎ (name ≡ disk)

-- EXPORT_NAME has the name alone as its data, and GO has it behind four bytes that tell its length
abbrev pub AsksFor : List ℕ → OptionKind → List ℕ → Type 0
AsksFor disk kind content =
    ((kind ≡ ExportName) × IsMeant disk content) ⊎ ((kind ≡ Go) × ((n : ℕ) × IsNamed n content × IsMeant disk (take n (drop 4 content))))

-- between two states of a stream lay at last the head and the data of an option that asks for the disk
abbrev pub IsAskedFor : Option (List ℕ) → Option (List ℕ) → List ℕ → Type 0
IsAskedFor before after disk =
    (front : List ℕ) × (head : Head) × (kind : OptionKind) × (content : List ℕ)
    × (head.option ≡ option_number kind) × Consumes before after (front ++ (head_bytes head ++ content)) × AsksFor disk kind content

-- the answers to GO (7): NBD_INFO_EXPORT, NBD_INFO_BLOCK_SIZE (any byte, whole blocks, 32 MiB), and that it is done
abbrev pub told_bytes : ℕ → ℕ → Bool → List ℕ
told_bytes bytes block read_only =
    option_reply_bytes 7 3 (export_bytes bytes (export_flags read_only))
    ++ (option_reply_bytes 7 3 (block_size_bytes 1 block 33554432) ++ option_reply_bytes 7 1 [])
