-- Bytes that are put lie in the pages that are touched, so every other page stays.
use Rattle.std.proofs.Common.{◌≡◌, ◌≢◌, refl, sym, ◌∙◌, ap, ◌⊎◌, inl, inr, ⊎_elim, ℕ, suc, ◌+◌, ◌-◌, ◌*◌, ◌/◌, ◌<◌, ◌≤◌, Bool, true, false, List, ◌++◌, length, take, drop, append_assoc, arith}
use Rattle.std.specs.Prelude.{min}
use Rattle.std.proofs.lemmas.Bool.{cases_lt, true≢false}
use Rattle.std.proofs.lemmas.List.{take-append-drop, drop-drop}
use Rattle.device.specs.Disk.{part, Holds}
use Rattle.packs_journal.specs.declared.page_set.PageSet.{PageSet}
use Rattle.packs_journal.specs.Places.{page_count, page_start, page_size}
use Rattle.packs_journal.specs.Pages.{has_page, ChangesIn}
use Rattle.packs_journal.specs.Staging.{body_page}
use Rattle.packs_journal.proofs.Pieces.{put_before, put_after}
use Rattle.checkpoint_image.specs.Touched.{AreTouched, lies_in}
use Rattle.checkpoint_image.specs.declared.touched_body.TouchedBody.{TouchedBody}

-- where nothing was put, nothing has changed
pub untouched : (len : ℕ) (body : TouchedBody) → AreTouched len body body
untouched len body k below out = (out, refl)

pub touched_on : (len : ℕ) (a b c : TouchedBody) → AreTouched len a b → AreTouched len b c → AreTouched len a c
touched_on len a b c first second k below out =
    let later = second k below out in
    let earlier = first k below later.0 in
    (earlier.0, later.1 ∙ earlier.1)

-- the same bytes put over themselves
pub holds_same : (at : ℕ) (bytes old : List ℕ) → part at (length bytes) old ≡ bytes → Holds old at bytes old
holds_same at bytes old same =
    sym (append_assoc (take at old) bytes (drop (at + length bytes) old)
    ∙ ap (λ (l : List ℕ). take at old ++ (l ++ drop (at + length bytes) old)) (sym same)
    ∙ ap (λ (l : List ℕ). take at old ++ (part at (length bytes) old ++ l)) (sym (drop-drop (length bytes) at old))
    ∙ ap (λ (l : List ℕ). take at old ++ l) (take-append-drop (length bytes) (drop at old))
    ∙ take-append-drop at old)

false_where : (b : Bool) → (b ≡ true → ⊥) → b ≡ false
false_where true apart = absurd (apart refl)
false_where false apart = refl

module _ (at : ℕ) (bytes : List ℕ) (old new : TouchedBody) (behind : 56 ≤ at) (within : at + length bytes ≤ length old.bytes.items)
    (holds : Holds old.bytes.items at bytes new.bytes.items)
    (touched : (k : ℕ) → lies_in (at - 56) (length bytes) k → has_page new.touched k ≡ true)
    (others : (k : ℕ) → has_page old.touched k ≡ true → has_page new.touched k ≡ true) where
  page_same : (k : ℕ) → k < page_count (length old.bytes.items) → (lies_in (at - 56) (length bytes) k → ⊥)
      → body_page (length old.bytes.items) k new.bytes.items ≡ body_page (length old.bytes.items) k old.bytes.items
  page_same k below out =
      let len = length old.bytes.items in
      ⊎_elim
      (λ before. put_before at bytes old.bytes.items new.bytes.items within holds (56 + page_start len k) (page_size len k) before)
      (λ after. put_after at bytes old.bytes.items new.bytes.items within holds (56 + page_start len k) (page_size len k) after)
      apart
    where
      apart : (56 + page_start (length old.bytes.items) k + page_size (length old.bytes.items) k ≤ at) ⊎ (at + length bytes ≤ 56 + page_start (length old.bytes.items) k)
      apart = ⊎_elim
          (λ less. ⊎_elim (λ more. absurd (out (less, more))) (λ past. inr (omega (arith, past, below))) (cases_lt (4096 * k) (at - 56 + length bytes)))
          (λ not. inl (omega (arith, not, behind)))
          (cases_lt (at - 56) (4096 * k + 4096))

  pub put_touched : AreTouched (length old.bytes.items) old new
  put_touched k below out =
      let none : (has_page new.touched k ≡ true) → ⊥ = λ is. true≢false (sym is ∙ out) in
      (false_where (has_page old.touched k) (λ is. none (others k is)), page_same k below (λ lies. none (touched k lies)))

-- what differs from another body lies in touched pages, and so it does after more of them were touched
pub changes_on : (len : ℕ) (old new : TouchedBody) (other : List ℕ) → AreTouched len old new → ChangesIn old.touched len other old.bytes.items → ChangesIn new.touched len other new.bytes.items
changes_on len old new other are before k below out = let was = are k below out in was.1 ∙ before k below was.0
