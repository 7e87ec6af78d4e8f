-- What a file's map of blocks has at an index: the block at the index's address, and none where the address is 0.
use Rattle.std.proofs.Common.{◌≡◌, ◌≢◌, ℕ, zero, suc, ◌<◌, ◌≤◌, List, [], ◌∷◌, ◌++◌, append-nil, Option, Some, None, cond, inl, inr, refl, sym, ap, ◌∙◌, eq-eqb, ne_eqb, arith}
use Rattle.std.proofs.lemmas.Bool.{cases_eq}
use Rattle.std.proofs.lemmas.Cmp.{nat_cmp_total}
use Rattle.std.proofs.lemmas.List.Elements.{filter_map-append}
use Rattle.std.specs.Cmp.{unsigned_tied}
use Rattle.std.specs.FinMap.Entries.{find, find-append}
use Rattle.std.specs.List.{filter_map, cons_option}
use Rattle.std.specs.Ordering.{nat_cmp}
use Rattle.geometry.specs.File.{Block}
use Rattle.image.specs.Files.{below, block_at}

module _ (blocks : ℕ → Block) where
  -- the block at an address, none at 0
  abbrev pub content : ℕ → Option Block
  content zero = None
  content (suc a) = Some (blocks (suc a))

  found_last : (es : List (ℕ × Block)) (n a q : ℕ) → q ≡ n → find nat_cmp n es ≡ None → find nat_cmp q (es ++ cons_option (block_at blocks n a) []) ≡ content a
  found_last es n zero q e none = ap (find nat_cmp q) (append-nil es) ∙ ap (λ k. find nat_cmp k es) e ∙ none
  found_last es n (suc a) q e none =
      find-append nat_cmp nat_cmp_total es n (blocks (suc a)) q none
      ∙ ap (λ b. cond b (Some (blocks (suc a))) (find nat_cmp q es)) (unsigned_tied q n ∙ eq-eqb q n e)

  found_before : (es : List (ℕ × Block)) (n a q : ℕ) → q ≢ n → find nat_cmp n es ≡ None → find nat_cmp q (es ++ cons_option (block_at blocks n a) []) ≡ find nat_cmp q es
  found_before es n zero q ne none = ap (find nat_cmp q) (append-nil es)
  found_before es n (suc a) q ne none =
      find-append nat_cmp nat_cmp_total es n (blocks (suc a)) q none
      ∙ ap (λ b. cond b (Some (blocks (suc a))) (find nat_cmp q es)) (unsigned_tied q n ∙ ne_eqb q n ne)

  module _ (address : ℕ → ℕ) where
    -- the entries of the indices below one
    abbrev pub entries : ℕ → List (ℕ × Block)
    entries n = filter_map (λ i. block_at blocks i (address i)) (below n)

    entries_more : (n q : ℕ) → find nat_cmp q (entries (suc n)) ≡ find nat_cmp q (entries n ++ cons_option (block_at blocks n (address n)) [])
    entries_more n q = ap (find nat_cmp q) (filter_map-append (λ i. block_at blocks i (address i)) (below n) (n ∷ []))

    pub past_entries : (n i : ℕ) → n ≤ i → find nat_cmp i (entries n) ≡ None
    past_entries zero i h = refl
    past_entries (suc n) i h =
        entries_more n i
        ∙ found_before (entries n) n (address n) i (λ e. absurd (omega arith)) (past_entries n n (omega arith))
        ∙ past_entries n i (omega arith)

    pub in_entries : (n i : ℕ) → i < n → find nat_cmp i (entries n) ≡ content (address i)
    in_entries zero i h = absurd (omega arith)
    in_entries (suc n) i h = entries_more n i ∙ elim (cases_eq i n) [
      | inl e ↦ found_last (entries n) n (address n) i e (past_entries n n (omega arith)) ∙ ap (λ k. content (address k)) (sym e)
      | inr ne ↦ found_before (entries n) n (address n) i ne (past_entries n n (omega arith)) ∙ in_entries n i (omega arith)
    ]
