-- Bytes are a head where each of four tests says so.
use Rattle.std.proofs.Common.{◌≡◌, refl, sym, ◌∙◌, ap, ⊎_elim, ℕ, ◌<◌, ◌≤◌, Bool, true, false, List, [], ◌++◌, take, append-nil}
use Rattle.std.specs.Prelude.{if◌then◌else◌, ◌&&◌, ◌==◌, not, nat_lt}
use Rattle.std.proofs.lemmas.Bool.{lt-ltb, le-ltb, ne_eqb, cases_lt, cases_eq}
use Rattle.image.specs.Reading.{number_at}
use Rattle.packs_journal.specs.Places.{page_count, word_count, map_pages, most_changes}
use Rattle.packs_journal.specs.Journal.{map_of, changes_of, names_pages, rises, patched, is_head}
use Rattle.packs_journal.specs.Reading.{head_in, gathered, assembled}

module _ (len : ℕ) (head : List ℕ) where
  abbrev few : Bool
  few = not (nat_lt most_changes (number_at head 56))

  abbrev named : Bool
  named = names_pages (page_count len) (map_of head) map_pages

  abbrev rising : Bool
  rising = rises (word_count len) (changes_of head) (number_at head 56)

  pub not_zeros : (number_at head 60 ≡ 0 → ⊥) → is_head len head ≡ false
  unfolding is_head
  not_zeros differs = ap (λ b. b && (few && (named && rising))) (ne_eqb (number_at head 60) 0 differs)

  zeros_then : number_at head 60 ≡ 0 → is_head len head ≡ (few && (named && rising))
  unfolding is_head
  zeros_then zeros = ap (λ (n : ℕ). (n == 0) && (few && (named && rising))) zeros

  pub too_many : number_at head 60 ≡ 0 → most_changes < number_at head 56 → is_head len head ≡ false
  too_many zeros more = zeros_then zeros ∙ ap (λ b. not b && (named && rising)) (lt-ltb most_changes (number_at head 56) more)

  few_then : number_at head 60 ≡ 0 → number_at head 56 ≤ most_changes → is_head len head ≡ (named && rising)
  few_then zeros less = zeros_then zeros ∙ ap (λ b. not b && (named && rising)) (le-ltb most_changes (number_at head 56) less)

  pub other_pages : number_at head 60 ≡ 0 → number_at head 56 ≤ most_changes → names_pages (page_count len) (map_of head) map_pages ≡ false → is_head len head ≡ false
  other_pages zeros less other = few_then zeros less ∙ ap (λ b. b && rising) other

  pub head_by : number_at head 60 ≡ 0 → number_at head 56 ≤ most_changes → names_pages (page_count len) (map_of head) map_pages ≡ true
      → is_head len head ≡ rises (word_count len) (changes_of head) (number_at head 56)
  head_by zeros less names = few_then zeros less ∙ ap (λ b. b && rising) names

-- a head has no more changes than it has room for
pub head_few : (len : ℕ) (head : List ℕ) → is_head len head ≡ true → number_at head 56 ≤ most_changes
head_few len head is = ⊎_elim
    (λ (less : most_changes < number_at head 56). absurd (no_true (sym (go less) ∙ is)))
    (λ few. few)
    (cases_lt most_changes (number_at head 56))
  where
    no_true : false ≡ true → ⊥
    no_true is = cc

    go : most_changes < number_at head 56 → is_head len head ≡ false
    go less = ⊎_elim (λ zeros. too_many len head zeros less) (λ others. not_zeros len head others) (cases_eq (number_at head 60) 0)

-- and its map has bits for pages alone
pub head_names : (len : ℕ) (head : List ℕ) → is_head len head ≡ true → names_pages (page_count len) (map_of head) map_pages ≡ true
head_names len head is = go (names_pages (page_count len) (map_of head) map_pages) refl
  where
    go : (b : Bool) → names_pages (page_count len) (map_of head) map_pages ≡ b → names_pages (page_count len) (map_of head) map_pages ≡ true
    go true named = named
    go false named = ⊎_elim
        (λ zeros. absurd (let no : false ≡ true = sym (other_pages len head zeros (head_few len head is) named) ∙ is in cc))
        (λ others. absurd (let no : false ≡ true = sym (not_zeros len head others) ∙ is in cc))
        (cases_eq (number_at head 60) 0)

-- a body with a head, and one without
module _ (len slot : ℕ) (area : List ℕ) where
  pub assembled_some : is_head len (head_in slot area) ≡ true
      → assembled len slot area ≡ take 56 (head_in slot area) ++ patched (changes_of (head_in slot area)) (number_at (head_in slot area) 56) (gathered len (map_of (head_in slot area)) (page_count len) area)
  unfolding assembled
  assembled_some is = ap (λ b. take 56 (head_in slot area) ++ (if b then patched (changes_of (head_in slot area)) (number_at (head_in slot area) 56) (gathered len (map_of (head_in slot area)) (page_count len) area) else [])) is

  pub assembled_none : is_head len (head_in slot area) ≡ false → assembled len slot area ≡ take 56 (head_in slot area)
  unfolding assembled
  assembled_none is =
      ap (λ b. take 56 (head_in slot area) ++ (if b then patched (changes_of (head_in slot area)) (number_at (head_in slot area) 56) (gathered len (map_of (head_in slot area)) (page_count len) area) else [])) is
      ∙ append-nil (take 56 (head_in slot area))
