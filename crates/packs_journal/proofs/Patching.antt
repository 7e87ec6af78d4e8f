-- A page is gone through word by word: a word that differs is noted, and with it the changes make one word more of the
-- page the new one.
use Rattle.std.proofs.Common.{◌≡◌, sym, ◌∙◌, ap, inl, inr, ◌⊎◌, ⊎_elim, ℕ, suc, ◌+◌, ◌-◌, ◌*◌, ◌<◌, ◌≤◌, List, ◌++◌, length, take, drop, arith, length-drop}
use Rattle.std.proofs.lemmas.Bool.{cases_lt}
use Rattle.device.specs.Disk.{part}
use Rattle.packs_journal.specs.Places.{IsArea, page_count, page_start, page_size}
use Rattle.packs_journal.specs.Reading.{page_in, gathered}
use Rattle.packs_journal.specs.Staging.{body_page}
use Rattle.packs_journal.proofs.Gathering.{start_of, start_end, start_next, in_rest, gathered_long, gathered_page}
use Rattle.packs_journal.specs.Journal.{place_of, word_of, with_word, patched, IsPatchedTo, ArePages}
use Rattle.packs_journal.proofs.Pieces.{part_part, part_long, grown, word_put}
use Rattle.packs_journal.proofs.Rising.{patched_more}

module _ (k : ℕ) (old new before after : List ℕ) (pages : ArePages k old new before after) where
  -- a part of the page, in the whole
  pub old_part : (a n : ℕ) → a + n ≤ length new → part (4096 * k + a) n before ≡ part a n old
  old_part a n le = sym (part_part a n (4096 * k) (length new) before le) ∙ ap (part a n) pages.was

  pub new_part : (a n : ℕ) → a + n ≤ length new → part (4096 * k + a) n after ≡ part a n new
  new_part a n le = sym (part_part a n (4096 * k) (length new) after le) ∙ ap (part a n) pages.is

  -- where the word is the same
  pub same_word : (changes : List ℕ) (count a n : ℕ) → a + n ≤ length new → part a n old ≡ part a n new
      → IsPatchedTo changes count before after (4096 * k + a) → IsPatchedTo changes count before after (4096 * k + a + n)
  same_word changes count a n le same is = is ∙ grown (4096 * k + a) n before after (old_part a n le ∙ same ∙ sym (new_part a n le))

  -- where it is noted
  pub noted_word : (was changes : List ℕ) (count w n : ℕ) → 8 * w + n ≤ length new → 0 < n → n ≤ 8 → (n ≡ 8) ⊎ (8 * w + n ≡ length new) → length new ≤ 4096
      → take (12 * count) changes ≡ take (12 * count) was → place_of changes count ≡ 512 * k + w → take n (word_of changes count) ≡ part (8 * w) n new → 12 * count + 12 ≤ length changes
      → IsPatchedTo was count before after (4096 * k + 8 * w) → IsPatchedTo changes (suc count) before after (4096 * k + 8 * w + n)
  noted_word was changes count w n within some few last short same place word room is =
      let at : 8 * (512 * k + w) ≡ 4096 * k + 8 * w = omega arith in
      let eight : length (word_of changes count) ≡ 8 = part_long (12 * count + 4) 8 changes (omega (arith, room)) in
      let there : take n (word_of changes count) ≡ part (8 * (512 * k + w)) n after
      = word ∙ sym (new_part (8 * w) n within) ∙ ap (λ (i : ℕ). part i n after) (sym at) in
      let end : (n ≡ 8) ⊎ (8 * (512 * k + w) + n ≡ length after) = ⊎_elim (λ full. inl full) (λ (e : 8 * w + n ≡ length new). ending e) last in
      let put = word_put (512 * k + w) n (word_of changes count) before after pages.long (omega (arith, pages.within, within, at)) end few there eight in
      patched_more count was changes before same
      ∙ ap (λ p. with_word p (word_of changes count) (patched was count before)) place
      ∙ ap (with_word (512 * k + w) (word_of changes count)) (is ∙ ap (λ (i : ℕ). take i after ++ drop i before) (sym at))
      ∙ put ∙ ap (λ (i : ℕ). take (i + n) after ++ drop (i + n) before) at
    where
      whole : (l w n : ℕ) → 8 * w + n ≡ l → 4096 ≤ l → l ≤ 4096 → 0 < n → n ≤ 8 → n ≡ 8
      whole l w n e full short some few = omega (arith, e, full, short, some, few)

      ending : 8 * w + n ≡ length new → (n ≡ 8) ⊎ (8 * (512 * k + w) + n ≡ length after)
      ending e = ⊎_elim
          (λ less. inr (let l = pages.last less in omega (arith, l, e)))
          (λ full. inl (whole (length new) w n e full short some few))
          (cases_lt (length new) 4096)

-- the pages that a map names, and those of a body
pub whole_pages : (len k : ℕ) (map body area old new : List ℕ) → IsArea len area → length body ≡ len → k < page_count len
    → old ≡ page_in len map k area → new ≡ body_page len k body → length new ≡ page_size len k → ArePages k old new (gathered len map (page_count len) area) (drop 56 body)
whole_pages len k map body area old new is full below was now size =
    let start = start_of len k below in
    let rest : length (drop 56 body) ≡ len - 56 = length-drop 56 body ∙ ap (λ (n : ℕ). n - 56) full in
    record {
      long = gathered_long len map (page_count len) area is (omega arith) ∙ start_end len ∙ sym rest;
      was = ap (λ (n : ℕ). part (4096 * k) n (gathered len map (page_count len) area)) size
          ∙ ap (λ (n : ℕ). part n (page_size len k) (gathered len map (page_count len) area)) (sym start)
          ∙ gathered_page len map (page_count len) k area is (omega arith) below ∙ sym was;
      is = ap (λ (n : ℕ). part (4096 * k) n (drop 56 body)) size ∙ ap (λ (n : ℕ). part n (page_size len k) (drop 56 body)) (sym start) ∙ sym (in_rest len k body) ∙ sym now;
      within = omega (arith, size, rest, start, below);
      last = λ less. omega (arith, size, rest, start, below, less);
    }

-- a page that is the body's needs no change
pub page_kept : (len k : ℕ) (map body area changes : List ℕ) (count : ℕ) → IsArea len area → k < page_count len → page_in len map k area ≡ body_page len k body
    → IsPatchedTo changes count (gathered len map (page_count len) area) (drop 56 body) (page_start len k)
    → IsPatchedTo changes count (gathered len map (page_count len) area) (drop 56 body) (page_start len (suc k))
page_kept len k map body area changes count is below same first =
    let whole = gathered len map (page_count len) area in
    first
    ∙ grown (page_start len k) (page_size len k) whole (drop 56 body) (gathered_page len map (page_count len) k area is (omega arith) below ∙ same ∙ in_rest len k body)
    ∙ ap (λ (i : ℕ). take i (drop 56 body) ++ drop i whole) (start_next len k)
