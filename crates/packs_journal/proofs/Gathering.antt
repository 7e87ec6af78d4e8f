-- The pages of a body follow one another without a gap: so where each page is a body's page, together they are its rest.
use Rattle.std.proofs.Common.{◌≡◌, refl, sym, ◌∙◌, ap, subst, ⊎_elim, ℕ, zero, suc, ◌+◌, ◌-◌, ◌*◌, ◌/◌, ◌%◌, ◌<◌, ◌≤◌, List, [], ◌++◌, length, take, drop, get_or, arith, length-append, length-drop}
use Rattle.std.proofs.lemmas.Bool.{cases_eq}
use Rattle.std.proofs.lemmas.Nat.Bits.{bit_at-lt}
use Rattle.std.proofs.lemmas.List.{take_all, drop_at, take-append-le, drop-append-le, drop-drop}
use Rattle.device.specs.Disk.{part}
use Rattle.packs_journal.specs.Places.{IsArea, page_count, page_at, page_start, page_size, area_bytes}
use Rattle.packs_journal.specs.Journal.{copy_in}
use Rattle.packs_journal.specs.Reading.{page_in, gathered}
use Rattle.packs_journal.specs.Staging.{body_page}
use Rattle.packs_journal.proofs.Pieces.{take-plus, part_long}

pub start_zero : (len : ℕ) → page_start len 0 ≡ 0
start_zero len = omega arith

pub start_of : (len k : ℕ) → k < page_count len → page_start len k ≡ 4096 * k
start_of len k below = omega (arith, below)

pub start_end : (len : ℕ) → page_start len (page_count len) ≡ len - 56
start_end len = omega arith

pub start_next : (len k : ℕ) → page_start len k + page_size len k ≡ page_start len (suc k)
start_next len k = omega arith

pub start_within : (len k : ℕ) → page_start len k ≤ len - 56
start_within len k = omega arith

pub copy_small : (map : List ℕ) (k : ℕ) → copy_in map k ≤ 1
copy_small map k = let less = bit_at-lt (get_or map (k / 8) 0) (k % 8) in omega (arith, less)

-- each copy of a page ends within the area
pub page_fits : (len k copy : ℕ) → k < page_count len → copy ≤ 1 → page_at k copy + page_size len k ≤ area_bytes len
page_fits len k copy below one = omega (arith, below, one)

-- a page of a body, in its rest
pub in_rest : (len k : ℕ) (body : List ℕ) → body_page len k body ≡ part (page_start len k) (page_size len k) (drop 56 body)
in_rest len k body = ap (take (page_size len k)) (sym (drop-drop (page_start len k) 56 body))

part_front : (a n : ℕ) (xs ys : List ℕ) → a + n ≤ length xs → part a n (xs ++ ys) ≡ part a n xs
part_front a n xs ys le =
    ap (take n) (drop-append-le a xs ys (omega (arith, le))) ∙ take-append-le n (drop a xs) ys (omega (arith, length-drop a xs, le))

part_behind : (a n : ℕ) (xs ys : List ℕ) → length xs ≡ a → length ys ≡ n → part a n (xs ++ ys) ≡ ys
part_behind a n xs ys long longer = ap (take n) (drop_at xs ys a long) ∙ take_all n ys (omega (arith, longer))

module _ (len : ℕ) (map : List ℕ) where
  pub gathered_none : (area : List ℕ) → gathered len map 0 area ≡ []
  unfolding gathered
  gathered_none area = refl

  pub gathered_more : (n : ℕ) (area : List ℕ) → gathered len map (suc n) area ≡ gathered len map n area ++ page_in len map n area
  unfolding gathered
  gathered_more n area = refl

  pub page_long : (k : ℕ) (area : List ℕ) → IsArea len area → k < page_count len → length (page_in len map k area) ≡ page_size len k
  page_long k area is below =
      let fits = page_fits len k (copy_in map k) below (copy_small map k) in
      part_long (page_at k (copy_in map k)) (page_size len k) area (omega (arith, fits, is.long))

  pub gathered_long : (n : ℕ) (area : List ℕ) → IsArea len area → n ≤ page_count len → length (gathered len map n area) ≡ page_start len n
  gathered_long zero area is le = ap length (gathered_none area) ∙ sym (start_zero len)
  gathered_long (suc n) area is le =
      let front = gathered_long n area is (omega (arith, le)) in
      let last = page_long n area is (omega (arith, le)) in
      ap length (gathered_more n area) ∙ length-append (gathered len map n area) (page_in len map n area)
      ∙ ap (λ (x : ℕ). x + length (page_in len map n area)) front ∙ ap (λ (x : ℕ). page_start len n + x) last ∙ start_next len n

  -- where each page is the same, so is the whole
  pub gathered_same : (n : ℕ) (c d : List ℕ) → ((k : ℕ) → k < n → page_in len map k d ≡ page_in len map k c) → gathered len map n d ≡ gathered len map n c
  gathered_same zero c d same = gathered_none d ∙ sym (gathered_none c)
  gathered_same (suc n) c d same =
      gathered_more n d ∙ ap (λ l. l ++ page_in len map n d) (gathered_same n c d (λ k below. same k (omega (arith, below))))
      ∙ ap (λ l. gathered len map n c ++ l) (same n (omega arith)) ∙ sym (gathered_more n c)

  -- each page stands in the whole
  pub gathered_page : (n k : ℕ) (area : List ℕ) → IsArea len area → n ≤ page_count len → k < n
      → part (page_start len k) (page_size len k) (gathered len map n area) ≡ page_in len map k area
  gathered_page zero k area is le below = absurd (omega (arith, below))
  gathered_page (suc n) k area is le below =
      let front = gathered_long n area is (omega (arith, le)) in
      ap (part (page_start len k) (page_size len k)) (gathered_more n area)
      ∙ ⊎_elim
      (λ (same : k ≡ n). subst (λ (j : ℕ). part (page_start len j) (page_size len j) (gathered len map n area ++ page_in len map n area) ≡ page_in len map j area) (sym same)
      (part_behind (page_start len n) (page_size len n) (gathered len map n area) (page_in len map n area) front (page_long n area is (omega (arith, le)))))
      (λ apart. part_front (page_start len k) (page_size len k) (gathered len map n area) (page_in len map n area) (inside k n front (before k n below apart))
      ∙ gathered_page n k area is (omega (arith, le)) (before k n below apart))
      (cases_eq k n)
    where
      before : (k n : ℕ) → k < suc n → (k ≡ n → ⊥) → k < n
      before k n below apart = omega (arith, below, apart)

      inside : (k n : ℕ) → length (gathered len map n area) ≡ page_start len n → k < n → page_start len k + page_size len k ≤ length (gathered len map n area)
      inside k n front less = omega (arith, front, less)

  -- and where each is a body's, the whole is the body's rest as far
  pub gathered_whole : (n : ℕ) (body area : List ℕ) → ((k : ℕ) → k < n → page_in len map k area ≡ body_page len k body) → gathered len map n area ≡ take (page_start len n) (drop 56 body)
  gathered_whole zero body area is = gathered_none area ∙ sym (ap (λ (n : ℕ). take n (drop 56 body)) (start_zero len))
  gathered_whole (suc n) body area is =
      gathered_more n area ∙ ap (λ l. l ++ page_in len map n area) (gathered_whole n body area (λ k below. is k (omega (arith, below))))
      ∙ ap (λ l. take (page_start len n) (drop 56 body) ++ l) (is n (omega arith) ∙ in_rest len n body)
      ∙ sym (take-plus (page_start len n) (page_size len n) (drop 56 body)) ∙ ap (λ (n : ℕ). take n (drop 56 body)) (start_next len n)
