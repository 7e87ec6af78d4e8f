-- Which pages of a body were touched.
use Rattle.std.specs.Prelude.{◌≡◌, ◌<◌, ◌+◌, ◌*◌, ℕ, false}
use Rattle.packs_journal.specs.Places.{page_count}
use Rattle.packs_journal.specs.Staging.{body_page}
use Rattle.packs_journal.specs.Pages.{has_page}
use Rattle.checkpoint_image.specs.declared.touched_body.TouchedBody.{TouchedBody}

-- each page that is not touched now was not touched before, and has the bytes that it had
abbrev pub AreTouched : ℕ → TouchedBody → TouchedBody → Type 0
AreTouched len old new = (k : ℕ) → k < page_count len → has_page new.touched k ≡ false
    → (has_page old.touched k ≡ false) × (body_page len k new.bytes.items ≡ body_page len k old.bytes.items)

-- some of the bytes from one on, so many, lie in page k
abbrev pub lies_in : ℕ → ℕ → ℕ → Type 0
lies_in from count k = (from < 4096 * k + 4096) × (4096 * k < from + count)
