-- Sets of pages, and which pages a body has changed.
use Rattle.std.specs.Prelude.{◌≡◌, ◌<◌, ℕ, Bool, false, ◌==◌, List}
use Rattle.packs_journal.specs.declared.page_set.PageSet.{PageSet}
use Rattle.packs_journal.specs.Places.{page_count}
use Rattle.packs_journal.specs.Journal.{copy_in}
use Rattle.packs_journal.specs.Reading.{page_in}
use Rattle.packs_journal.specs.Staging.{body_page}

-- whether page k is in a set: bit k, the lowest bit of each byte first
abbrev pub has_page : PageSet → ℕ → Bool
has_page pages k = copy_in pages.bits k == 1

-- a new body differs from an old one in pages of a set alone, of the pages behind header and logs
abbrev pub ChangesIn : PageSet → ℕ → List ℕ → List ℕ → Type 0
ChangesIn pages len old new = (k : ℕ) → k < page_count len → has_page pages k ≡ false → body_page len k new ≡ body_page len k old

-- a body differs from the pages that a map names in pages of a set alone
abbrev pub DiffersIn : PageSet → ℕ → List ℕ → List ℕ → List ℕ → Type 0
DiffersIn pages len map body area = (k : ℕ) → k < page_count len → has_page pages k ≡ false → page_in len map k area ≡ body_page len k body
