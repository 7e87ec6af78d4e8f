-- A file's blocks are gathered index by index below its length, so each index shows its ticket's content: the state
-- shows this file, and any that it shows is the same.
use Rattle.std.proofs.Common.{◌≡◌, ◌≢◌, ℕ, zero, suc, ◌<◌, ◌≤◌, Option, Some, None, inl, inr, refl, sym, ap, ◌∙◌, arith}
use Rattle.std.proofs.lemmas.Bool.{cases_eq, cases_lt}
use Rattle.std.specs.Ordering.{nat_cmp}
use Rattle.std.proofs.lemmas.Cmp.{nat_cmp_total}
use Rattle.std.specs.FinMap.{FinMap, get, get-empty, same_map, nat_cmp-IsAntisymmetric}
use Rattle.geometry.specs.File.{File, Block}
use Rattle.tickets.specs.Placed.{Placed}
use Rattle.nodes.specs.declared.file.FileState.{FileState}
use Rattle.nodes.specs.File.{IsFile, Shows, ticket_at, content_of, with_block, blocks_below, file_of}
use Rattle.nodes.proofs.Shown.{got, kept}

got_with : (i q : ℕ) (b : Option Block) (m : FinMap nat_cmp Block) → q ≡ i → get m q ≡ None → get (with_block i b m) q ≡ b
got_with i q None m e none = none
got_with i q (Some b) m e none = got m i b q e

kept_with : (i q : ℕ) (b : Option Block) (m : FinMap nat_cmp Block) → q ≢ i → get (with_block i b m) q ≡ get m q
kept_with i q None m ne = refl
kept_with i q (Some b) m ne = kept m i b q ne

module _ (at : ℕ → Option Placed) where
  past_below : (n i : ℕ) → n ≤ i → get (blocks_below n at) i ≡ None
  past_below zero i h = get-empty nat_cmp i
  past_below (suc n) i h = kept_with n i (content_of (at n)) (blocks_below n at) (λ e. absurd (omega arith)) ∙ past_below n i (omega arith)

  there_below : (n i : ℕ) → i < n → get (blocks_below n at) i ≡ content_of (at i)
  there_below zero i h = absurd (omega arith)
  there_below (suc n) i h = elim (cases_eq i n) [
    | inl e ↦ got_with n i (content_of (at n)) (blocks_below n at) e (past_below n i (omega arith)) ∙ ap (λ k. content_of (at k)) (sym e)
    | inr ne ↦ kept_with n i (content_of (at n)) (blocks_below n at) ne ∙ there_below n i (omega arith)
  ]

module _ {B L : Type 0} (f : FileState B L) (is : IsFile f) where
  pub shows_file_of : Shows f (file_of f)
  shows_file_of = record {
    kind = refl;
    length = refl;
    blocks = λ i. elim (cases_lt i f.length) [
      | inl lt ↦ there_below (ticket_at f) f.length i lt
      | inr ge ↦ past_below (ticket_at f) f.length i ge ∙ sym (ap content_of (is.within i ge))
    ];
  }

  pub only_file : (file : File) → Shows f file → file ≡ file_of f
  only_file file shows k = record {
    kind = sym shows.kind k;
    length = sym shows.length k;
    blocks = same_map nat_cmp_total nat_cmp-IsAntisymmetric file.blocks (file_of f).blocks (λ q. shows.blocks q ∙ sym (shows_file_of.blocks q)) k;
  }
