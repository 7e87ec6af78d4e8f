-- The segments of a file's blocks, as a map.
use Rattle.std.proofs.Common.{◌≡◌, ◌≢◌, ℕ, zero, suc, ◌<◌, ◌≤◌, Option, Some, None, cond, inl, inr, refl, sym, ap, ◌∙◌, eq-eqb, ne_eqb, arith}
use Rattle.std.proofs.lemmas.Bool.{cases_eq, cases_lt}
use Rattle.std.specs.Cmp.{unsigned_tied}
use Rattle.std.specs.Ordering.{nat_cmp}
use Rattle.std.proofs.lemmas.Cmp.{nat_cmp_total}
use Rattle.std.specs.FinMap.{FinMap, get, get-empty, get-insert}
use Rattle.geometry.specs.declared.shape.Shape.{Shape}
use Rattle.tickets.specs.Placed.{Placed}
use Rattle.nodes.specs.declared.file.FileState.{FileState}
use Rattle.nodes.specs.File.{IsFile, ticket_at}
use Rattle.file_cells.specs.Reader.{segment_at, with_segment, segments_below, segments_of}

got_with : (i q : ℕ) (s : Option ℕ) (m : FinMap nat_cmp ℕ) → q ≡ i → get m q ≡ None → get (with_segment i s m) q ≡ s
got_with i q None m e none = none
got_with i q (Some s) m e none = get-insert nat_cmp_total m i s q ∙ ap (λ b. cond b (Some s) (get m q)) (unsigned_tied q i ∙ eq-eqb q i e)

kept_with : (i q : ℕ) (s : Option ℕ) (m : FinMap nat_cmp ℕ) → q ≢ i → get (with_segment i s m) q ≡ get m q
kept_with i q None m ne = refl
kept_with i q (Some s) m ne = get-insert nat_cmp_total m i s q ∙ ap (λ b. cond b (Some s) (get m q)) (unsigned_tied q i ∙ ne_eqb q i ne)

module _ (shape : Shape) (at : ℕ → Option Placed) where
  past_below : (n i : ℕ) → n ≤ i → get (segments_below shape n at) i ≡ None
  past_below zero i h = get-empty nat_cmp i
  past_below (suc n) i h = kept_with n i (segment_at shape (at n)) (segments_below shape n at) (λ e. absurd (omega arith)) ∙ past_below n i (omega arith)

  there_below : (n i : ℕ) → i < n → get (segments_below shape n at) i ≡ segment_at shape (at i)
  there_below zero i h = absurd (omega arith)
  there_below (suc n) i h = elim (cases_eq i n) [
    | inl e ↦ got_with n i (segment_at shape (at n)) (segments_below shape n at) e (past_below n i (omega arith)) ∙ ap (λ k. segment_at shape (at k)) (sym e)
    | inr ne ↦ kept_with n i (segment_at shape (at n)) (segments_below shape n at) ne ∙ there_below n i (omega arith)
  ]

pub segments_there : {B L : Type 0} (f : FileState B L) → IsFile f → (i : ℕ) → get (segments_of f) i ≡ segment_at f.shape (ticket_at f i)
segments_there f is i = elim (cases_lt i f.length) [
  | inl lt ↦ there_below f.shape (ticket_at f) f.length i lt
  | inr ge ↦ past_below f.shape (ticket_at f) f.length i ge ∙ sym (ap (segment_at f.shape) (is.within i ge))
]
