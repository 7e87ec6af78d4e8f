-- The last block of the run belongs to the last place still empty, and the first block at home behind the run's end: so
-- turn by turn run and home trade one block, none out of order.
use Rattle.std.proofs.Common.{◌≡◌, ℕ, zero, suc, ◌+◌, ◌-◌, ◌<◌, ◌≤◌, List, [], ◌∷◌, ◌++◌, map, take, drop, length, Bool, true, false, get_or, set, replicate, refl, sym, ap, ◌∙◌, subst, ⊎_elim, arith}
use Rattle.std.proofs.lemmas.Bool.{cases_lt}
use Rattle.std.proofs.lemmas.List.{append_assoc, append-nil, map-append, drop-set, drop_all, take_more, take_all, get_or-set_same, get_or-set_other, length-set, length-append, same_lists, length-replicate}
use mathlib.Core.Logic.{dite}
use native.Mathlib.Decide.{ℕ_discrete}
use Rattle.device.specs.Parts.{IsBlockRun}
use Rattle.device.proofs.BlockRuns.{run_front, run_push, next-address, next-length}
use Rattle.sit.specs.Home.{Home}
use Rattle.sit.proofs.Homes.{home_of, home_set}

get_or-true : (n i : ℕ) (d : Bool) → i < n → get_or (replicate n true) i d ≡ true
get_or-true zero i d within = absurd (omega arith)
get_or-true (suc n) zero d within = refl
get_or-true (suc n) (suc i) d within = get_or-true n i d (omega arith)

module _ {B : Type 0} (address_of : B → ℕ) (content_of : B → List ℕ) where
  -- After so many turns the last blocks of the run that was begun are home, and the run has lost them.
  pub record IsFilling (start home : Home) (begun : List B) (turns : ℕ) (all : List B) : Type 0 where
    pub first : home.first ≡ start.first
    pub bytes : home.block_bytes ≡ start.block_bytes
    pub long : length home.present ≡ length start.present
    pub filled : (o : ℕ) → length start.present ≤ o + turns → o < length start.present → get_or home.present o false ≡ true
    pub run : IsBlockRun address_of content_of start.block_bytes 1 all
    pub left : length all + turns ≡ length begun
    pub held : length home.contents ≡ length start.present
    pub contents : map content_of begun ≡ map content_of all ++ drop (length start.present - turns) home.contents

  pub filling_begins : (start : Home) (all : List B) → length start.contents ≡ length start.present → IsBlockRun address_of content_of start.block_bytes 1 all → IsFilling start start all 0 all
  filling_begins start all held run = record {
    first = refl;
    bytes = refl;
    long = refl;
    filled = λ o le within. absurd (omega arith);
    run = run;
    left = omega arith;
    held = held;
    contents = sym (ap (λ xs. map content_of all ++ xs) (drop_all (length start.present - 0) start.contents (omega arith)) ∙ append-nil (map content_of all));
  }

  module _ (start home : Home) (begun : List B) (turns : ℕ) (all rest : List B) (block : B) (is : IsFilling start home begun turns all) (popped : all ≡ rest ++ block ∷ [])
      (last : start.first + length start.present ≡ 1 + length begun) (more : turns < length start.present) where
    abbrev place : ℕ
    place = length start.present - 1 - turns

    popped_run : IsBlockRun address_of content_of start.block_bytes 1 (rest ++ block ∷ [])
    popped_run = subst (λ xs. IsBlockRun address_of content_of start.block_bytes 1 xs) popped is.run

    popped_length : length all ≡ length rest + 1
    popped_length = ap length popped ∙ length-append rest (block ∷ [])

    pub popped-address : address_of block ≡ home.first + (length start.present - 1 - turns)
    popped-address =
        let here = next-address address_of content_of start.block_bytes 1 rest block [] popped_run in
        let long = popped_length in
        let left = is.left in
        let first = is.first in omega arith

    pub popped-bytes : length (content_of block) ≡ home.block_bytes
    popped-bytes = next-length address_of content_of start.block_bytes 1 rest block [] popped_run ∙ sym is.bytes

    pub filling_goes_on : (home' : Home) (failed : ℕ) → home' ≡ home_set home (length start.present - 1 - turns) true (content_of block) failed → IsFilling start home' begun (turns + 1) rest
    filling_goes_on home' failed put =
        let now : List Bool = set home.present (length start.present - 1 - turns) true in
        let present : home'.present ≡ now = ap (λ h. h.present) put in
        let long = is.long in record {
          first = ap (λ h. h.first) put ∙ is.first;
          bytes = ap (λ h. h.block_bytes) put ∙ is.bytes;
          long = ap length present ∙ length-set home.present (length start.present - 1 - turns) true ∙ is.long;
          filled = λ o le within. ap (λ p. get_or p o false) present ∙ dite (ℕ_discrete o (length start.present - 1 - turns))
              (λ same. ap (λ i. get_or now i false) same ∙ get_or-set_same home.present (length start.present - 1 - turns) true false (omega arith))
              (λ other. get_or-set_other home.present (length start.present - 1 - turns) o true false other
              ∙ is.filled o (⊎_elim (λ low. absurd (other (omega arith))) (λ high. high) (cases_lt (o + turns) (length start.present))) within);
          run = run_front address_of content_of start.block_bytes 1 rest (block ∷ []) popped_run;
          left = let l = popped_length in let e = is.left in omega arith;
          held = ap (λ h. length h.contents) put ∙ length-set home.contents place (content_of block) ∙ is.held;
          contents = is.contents ∙ (ap (λ xs. map content_of xs ++ drop (length start.present - turns) home.contents) popped
              ∙ (ap (λ xs. xs ++ drop (length start.present - turns) home.contents) (map-append content_of rest (block ∷ []))
              ∙ (append_assoc (map content_of rest) (content_of block ∷ []) (drop (length start.present - turns) home.contents)
              ∙ ap (λ xs. map content_of rest ++ xs) (sym (more_home home' failed put)))));
        }
      where
        -- the block is before those that came home earlier
        more_home : (home' : Home) (failed : ℕ) → home' ≡ home_set home (length start.present - 1 - turns) true (content_of block) failed
            → drop (length start.present - (turns + 1)) home'.contents ≡ content_of block ∷ drop (length start.present - turns) home.contents
        more_home home' failed put =
            let held = is.held in
            let at : length start.present - (turns + 1) ≡ place = omega arith in
            let next : place + 1 ≡ length start.present - turns = omega arith in
            (λ i. drop (at i) (put i).contents) ∙ (drop-set home.contents place (content_of block) (omega arith) ∙ ap (λ k. content_of block ∷ drop k home.contents) next)

  pub filled_contents : (start home : Home) (begun : List B) (turns : ℕ) (all : List B) → IsFilling start home begun turns all → turns ≡ length start.present
      → map content_of begun ≡ map content_of all ++ home.contents
  filled_contents start home begun turns all is done =
      let none : length start.present - turns ≡ 0 = omega arith in
      is.contents ∙ ap (λ k. map content_of all ++ drop k home.contents) none

  pub filling_ends : (start home : Home) (begun : List B) (turns : ℕ) (all : List B) → IsFilling start home begun turns all → turns ≡ length start.present
      → home ≡ home_of start.first start.block_bytes (replicate (length start.present) true) home.contents home.failed
  filling_ends start home begun turns all is done =
      let n = length start.present in
      let present : home.present ≡ replicate n true = same_lists home.present (replicate n true) (is.long ∙ sym (length-replicate {A = Bool} n true))
      (λ o d within.
      let long = is.long in
      get_or-other home.present o d within ∙ is.filled o (omega arith) (omega arith) ∙ sym (get_or-true n o d (omega arith))) in
      λ i. record { first = is.first i; block_bytes = is.bytes i; present = present i; contents = home.contents; failed = home.failed }
    where
      get_or-other : (xs : List Bool) (o : ℕ) (d : Bool) → o < length xs → get_or xs o d ≡ get_or xs o false
      get_or-other [] o d within = absurd (omega arith)
      get_or-other (x ∷ xs) zero d within = refl
      get_or-other (x ∷ xs) (suc o) d within = get_or-other xs o d (omega arith)

  -- After so many turns the first blocks are behind the run that was begun, and the others at home.
  pub record IsEmptying (start home : Home) (begun : List B) (turns : ℕ) (all : List B) : Type 0 where
    pub first : home.first ≡ start.first
    pub bytes : home.block_bytes ≡ start.block_bytes
    pub long : length home.present ≡ length start.present
    pub left : (o : ℕ) → turns ≤ o → o < length start.present → get_or home.present o false ≡ true
    pub run : IsBlockRun address_of content_of start.block_bytes 1 all
    pub added : length all ≡ length begun + turns
    pub held : length start.contents ≡ length start.present
    pub kept : (o : ℕ) → turns ≤ o → get_or home.contents o [] ≡ get_or start.contents o []
    pub contents : map content_of all ≡ map content_of begun ++ take turns start.contents

  pub emptying_begins : (start : Home) (all : List B) → start.present ≡ replicate (length start.present) true → length start.contents ≡ length start.present
      → IsBlockRun address_of content_of start.block_bytes 1 all → IsEmptying start start all 0 all
  emptying_begins start all full held run = record {
    first = refl;
    bytes = refl;
    long = refl;
    left = λ o le within. ap (λ p. get_or p o false) full ∙ get_or-true (length start.present) o false within;
    run = run;
    added = omega arith;
    held = held;
    kept = λ o le. refl;
    contents = sym (append-nil (map content_of all));
  }

  pub emptying_goes_on : (start home home' : Home) (begun : List B) (turns failed : ℕ) (all : List B) (block : B) → IsEmptying start home begun turns all → start.first ≡ 1 + length begun
      → turns < length start.present → home' ≡ home_set home turns false [] failed → content_of block ≡ get_or home.contents turns [] → address_of block ≡ home.first + turns → length (content_of block) ≡ home.block_bytes
      → IsEmptying start home' begun (turns + 1) (all ++ block ∷ [])
  emptying_goes_on start home home' begun turns failed all block is next more taken content address bytes = record {
    first = ap (λ h. h.first) taken ∙ is.first;
    bytes = ap (λ h. h.block_bytes) taken ∙ is.bytes;
    long = ap (λ h. length h.present) taken ∙ length-set home.present turns false ∙ is.long;
    left = λ o le within. ap (λ h. get_or h.present o false) taken ∙ get_or-set_other home.present turns o false false (λ same. absurd (omega arith)) ∙ is.left o (omega arith) within;
    run = run_push address_of content_of start.block_bytes 1 all block is.run (let f = is.first in let a = is.added in omega arith) (bytes ∙ is.bytes);
    added = let l = length-append all (block ∷ []) in let a = is.added in omega arith;
    held = is.held;
    kept = λ o le. ap (λ h. get_or h.contents o []) taken ∙ get_or-set_other home.contents turns o [] [] (λ same. absurd (omega arith)) ∙ is.kept o (omega arith);
    contents = map-append content_of all (block ∷ []) ∙ (ap (λ xs. xs ++ content_of block ∷ []) is.contents
        ∙ (append_assoc (map content_of begun) (take turns start.contents) (content_of block ∷ [])
        ∙ ap (λ xs. map content_of begun ++ xs) (ap (λ b. take turns start.contents ++ b ∷ []) (content ∙ is.kept turns (omega arith))
        ∙ sym (take_more start.contents turns [] (let h = is.held in omega arith)))));
  }

  pub emptied_contents : (start home : Home) (begun : List B) (turns : ℕ) (all : List B) → IsEmptying start home begun turns all → turns ≡ length start.present
      → map content_of all ≡ map content_of begun ++ start.contents
  emptied_contents start home begun turns all is done =
      is.contents ∙ ap (λ xs. map content_of begun ++ xs) (take_all turns start.contents (let h = is.held in omega arith))
