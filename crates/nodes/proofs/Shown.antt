-- A state shows a file by what its tickets hold, index by index: so a ticket that is put writes its block, empty
-- entries past a length cut the file, and a swap for the same bytes shows nothing.
use Rattle.std.proofs.Common.{◌≡◌, ◌≢◌, ℕ, ◌+◌, max, min, Some, None, cond, nat_lt, sym, ap, ◌∙◌, eq-eqb, ne_eqb, inl, inr, subst, Ok, Err, arith}
use borrow.Author.Tests.{lt-ltb, le-ltb}
use Rattle.std.proofs.lemmas.Bool.{cases_eq, cases_lt}
use Rattle.std.specs.Ordering.{nat_cmp}
use Rattle.std.specs.Cmp.{unsigned_tied}
use Rattle.std.proofs.lemmas.Cmp.{nat_cmp_total}
use Rattle.std.specs.FinMap.{FinMap, get, insert, get-insert, get-retain_keys, nat_cmp-IsAntisymmetric}
use Rattle.geometry.specs.File.{File, Block, written, cut_to}
use Rattle.tickets.specs.Placed.{Placed}
use Rattle.std.specs.Prelude.{IfOk, OnErr}
use Rattle.std.specs.declared.result.Result.{Result}
use Rattle.nodes.specs.Tree.{SetsAt, Same, SwapsOne, EmptyFrom}
use Rattle.nodes.proofs.Joined.{swaps_content}
use Rattle.nodes.specs.declared.file.FileState.{FileState}
use Rattle.nodes.specs.File.{Shows, ticket_at, content_of}

pub got : (m : FinMap nat_cmp Block) (k : ℕ) (v : Block) (q : ℕ) → q ≡ k → get (insert m k v) q ≡ Some v
got m k v q e = get-insert nat_cmp_total m k v q ∙ ap (λ b. cond b (Some v) (get m q)) (unsigned_tied q k ∙ eq-eqb q k e)

pub kept : (m : FinMap nat_cmp Block) (k : ℕ) (v : Block) (q : ℕ) → q ≢ k → get (insert m k v) q ≡ get m q
kept m k v q e = get-insert nat_cmp_total m k v q ∙ ap (λ b. cond b (Some v) (get m q)) (unsigned_tied q k ∙ ne_eqb q k e)

module _ {B L : Type 0} (old new : FileState B L) (file : File) (shows : Shows old file) (kind : new.kind ≡ old.kind) where
  pub written_shows : (index : ℕ) (t : Placed) → new.length ≡ max old.length (index + 1) → SetsAt (ticket_at old) (ticket_at new) index (Some t)
      → Shows new (written file index t.content)
  written_shows index t length sets =
      let long = shows.length in
      record {
        kind = kind ∙ shows.kind;
        length = length ∙ ap (λ n. max n (index + 1)) long;
        blocks = λ i. elim (cases_eq i index) [
          | inl e ↦ got file.blocks index t.content i e ∙ sym (ap content_of (ap (ticket_at new) e ∙ sets.0))
          | inr ne ↦ kept file.blocks index t.content i ne ∙ (shows.blocks i ∙ sym (ap content_of (sets.1 i ne)))
        ];
      }

  pub same_shows : new.length ≡ old.length → ((i : ℕ) → content_of (ticket_at new i) ≡ content_of (ticket_at old i)) → Shows new file
  same_shows length same = record {
    kind = kind ∙ shows.kind;
    length = length ∙ shows.length;
    blocks = λ i. shows.blocks i ∙ sym (same i);
  }

  pub cut_shows : (length : ℕ) → new.length ≡ min old.length length → Same (ticket_at old) (ticket_at new) → EmptyFrom (ticket_at new) length
      → Shows new (cut_to file length)
  cut_shows length shorter same empty =
      let long = shows.length in
      record {
        kind = kind ∙ shows.kind;
        length = omega arith;
        blocks = λ i.
            get-retain_keys file.blocks (λ k. nat_lt k length) i (λ x e. ap (λ k. nat_lt k length) (sym (nat_cmp-IsAntisymmetric i x e)))
            ∙ elim (cases_lt i length) [
              | inl lt ↦ ap (λ b. cond b (get file.blocks i) None) (lt-ltb i length lt) ∙ (shows.blocks i ∙ sym (ap content_of (same i)))
              | inr ge ↦ ap (λ b. cond b (get file.blocks i) None) (le-ltb i length ge) ∙ sym (ap content_of (empty i ge))
            ];
      }

  -- a ticket was swapped for one of the same bytes, or nothing was changed
  pub swapped_shows : new.length ≡ old.length → (from : ℕ) (ticket : Placed)
      → ((i : ℕ) (t : Placed) → ticket_at old i ≡ Some t → t.mark.address ≡ from → t.content ≡ ticket.content)
      → (r : Result Placed Placed) → IfOk r (λ before. before.mark.address ≡ from) → IfOk r (λ before. SwapsOne (ticket_at old) (ticket_at new) before ticket)
      → OnErr r (new ≡ old) → Shows new file
  swapped_shows length from ticket bytes (Ok before) address swaps refused =
      same_shows length (swaps_content (ticket_at old) (ticket_at new) before ticket swaps (bytes swaps.0 before swaps.1 address))
  swapped_shows length from ticket bytes (Err back) address swaps refused = subst (λ f. Shows f file) (sym refused) shows
