-- What a piece of work comes to, of the steps that it takes.
use Rattle.std.proofs.Common.{◌≡◌, ◌≢◌, ◌∙◌, ◌<◌, ℕ, zero, suc, List, Some, None, length, sym, arith}
use Rattle.file_cells.specs.Pass.{Pass}
use Rattle.geometry.specs.File.{File}
use Rattle.named_folder.specs.Folder.{Row}
use Rattle.named_files.specs.Files.{file_at, HasFolder, IsNumberFor, WasDeleted, WasPut, WasRemoved, WasRenamed, WasTaken, WasWritten}
use Rattle.named_folder.specs.Name.{IsName}
use Rattle.named_folder.specs.Names.{HasNoRow, Renames, Renews}

-- a number that no pass has is not that of the folder
pub past_folder : (number : ℕ) (passes : List Pass) (folder : File) → 0 < number → file_at number passes ≡ None → file_at 1 passes ≡ Some folder → 1 < number
past_folder zero passes folder some none there = absurd (omega arith)
past_folder (suc zero) passes folder some none there = let both : Some folder ≡ None = sym there ∙ none in absurd (cc)
past_folder (suc (suc n)) passes folder some none there = omega arith

pub was_put : (size : ℕ) (name bytes : List ℕ) (number : ℕ) (before between after : List Pass) (rows renewed : List Row)
    → IsName name → HasFolder size before rows → IsNumberFor name number rows before → WasWritten size bytes number before between → 1 < number
    → Renews (record { name = name; number = number; bytes = length bytes }) rows renewed
    → HasFolder size after renewed → ((n : ℕ) → n ≢ 1 → file_at n after ≡ file_at n between) → WasPut size name bytes number before after
was_put size name bytes number before between after rows renewed is_name had own written past renews has others = record {
  is_name = is_name;
  rows = rows;
  had_folder = had;
  own = own;
  renewed = renewed;
  has_folder = has;
  renews = renews;
  file = written.file;
  there = others number (λ e. omega arith) ∙ written.there;
  content = written.content;
  others = λ n not_folder other. others n not_folder ∙ written.others n other;
}

-- of a name whose row was taken out and whose file was deleted
module _ (size : ℕ) (name : List ℕ) (before between : List Pass) (left : List Row) (taken : WasTaken size name before between left) where
  pub was_removed : (after : List Pass) → HasFolder size after left → ((n : ℕ) → n ≢ 1 → file_at n after ≡ file_at n between) → WasRemoved size name before after
  was_removed after has others = record {
    rows = taken.rows;
    had_folder = taken.had_folder;
    row = taken.row;
    named = taken.named;
    left = left;
    has_folder = has;
    removes = taken.removes;
    gone = others taken.row.number (λ e. let past = taken.not_folder in omega arith) ∙ taken.gone;
    others = λ n not_folder other. others n not_folder ∙ taken.others n other;
  }

  pub was_deleted : WasDeleted size name before between
  was_deleted = record {
    rows = taken.rows;
    had_folder = taken.had_folder;
    row = taken.row;
    named = taken.named;
    has_folder = record { folder = taken.had_folder.folder; here = taken.others 1 (λ e. let past = taken.not_folder in omega arith) ∙ taken.had_folder.here; spelled = taken.had_folder.spelled };
    gone = taken.gone;
    others = taken.others;
  }

pub was_renamed : (size : ℕ) (name to : List ℕ) (before after : List Pass) (rows renamed : List Row)
    → IsName to → HasNoRow to rows → HasFolder size before rows → Renames name to rows renamed → HasFolder size after renamed → ((n : ℕ) → n ≢ 1 → file_at n after ≡ file_at n before)
    → WasRenamed size name to before after
was_renamed size name to before after rows renamed is_name free had renames has others = record {
  rows = rows;
  had_folder = had;
  is_name = is_name;
  free = free;
  renamed = renamed;
  has_folder = has;
  renames = renames;
  others = others;
}
