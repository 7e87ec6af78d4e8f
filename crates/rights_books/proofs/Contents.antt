-- No file is lost where a pass shows it.
use Rattle.std.proofs.Common.{◌≡◌, sym, ap, ◌∙◌}
use Rattle.std.specs.Ordering.{nat_cmp}
use Rattle.std.specs.FinMap.{FinMap, entries, entries_sorted, from_sorted, entries-from_sorted, same_entries_map}
use Rattle.geometry.specs.File.{File, Block}
use Rattle.rights_books.specs.Contents.{as_content, as_file}

blocks_again : (m : FinMap nat_cmp Block) → from_sorted (entries m) ≡ m
blocks_again m = same_entries_map (from_sorted (entries m)) m (entries-from_sorted nat_cmp (entries m) (entries_sorted m))

pub as_file_again : (f : File) → as_file (as_content f) ≡ f
as_file_again f i = record { kind = f.kind; length = f.length; blocks = blocks_again f.blocks i }

-- two files that are shown alike are one
pub same_shown : (f g : File) → as_content f ≡ as_content g → f ≡ g
same_shown f g e = sym (as_file_again f) ∙ (ap as_file e ∙ as_file_again g)
