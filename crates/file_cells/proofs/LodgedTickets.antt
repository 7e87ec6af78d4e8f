-- What stands at an index is counted in each slot above it, up to the file's weight, and the account weighs as the file
-- does: so each ticket of the file is lodged there.
use Rattle.std.proofs.Common.{◌≡◌, ℕ, ◌-◌, ◌*◌, ◌/◌, ◌%◌, ◌<◌, ◌≤◌, List, length, Option, Some, None, zero, suc, if◌then◌else◌, refl, sym, ap, ◌∙◌, inl, inr, arith}
use Rattle.std.proofs.lemmas.Bool.{cases_lt}
use Rattle.std.proofs.lemmas.List.{get_or_past}
use Rattle.sit.proofs.Lists.{some-injective}
use Rattle.geometry.specs.Weights.{weigh}
use Rattle.geometry.proofs.Weighing.{weigh-at}
use Rattle.geometry.specs.declared.owner.Mark.{Mark}
use Rattle.geometry.specs.Mark.{same_mark}
use Rattle.geometry.proofs.MarkTests.{mark_self}
use Rattle.geometry.specs.Path.{inode_entries, node_entries}
use Rattle.rights_books.specs.declared.claim.TakenNumber.{TakenNumber}
use Rattle.rights_books.specs.Lists.{times}
use Rattle.tickets.specs.Placed.{Placed}
use Rattle.nodes.specs.Tree.{find_in, only_at_zero, entry_at}
use Rattle.nodes.specs.Change.{ticket_weight, of_tickets}
use Rattle.nodes.specs.Laws.{nothing_at_zero}
use Rattle.nodes.specs.declared.file.FileState.{FileState}
use Rattle.nodes.specs.File.{joined, ticket_at, in_tickets, in_direct, in_indirect, in_double, find_direct, find_indirect, find_double, weight_direct, weight_indirect, weight_double, below_weight}
use Rattle.nodes.specs.Held.{AreHeld}
use Rattle.nodes.proofs.Joined.{at_first, at_rest}

-- what a ticket weighs, all that stands in the slot above it does
abbrev IsCounted : {C : Type 0} → (Option C → ℕ → Option Placed) → (Option C → ℕ) → (Placed → ℕ) → Type 0
IsCounted {C} find weight h = (s : Option C) (i : ℕ) (t : Placed) → find s i ≡ Some t → h t ≤ weight s

none_some : {A X : Type 0} (x : X) → ◌≡◌ {A = Option X} None (Some x) → A
none_some x e = absurd (let no = e in cc)

module _ {C : Type 0} (find : Option C → ℕ → Option Placed) (weight : Option C → ℕ) (h : Placed → ℕ) (span : ℕ)
    (none : (i : ℕ) → find None i ≡ None) (counted : IsCounted find weight h) where
  counted_in : (slots : List (Option C)) (i : ℕ) (t : Placed) → find_in find span slots i ≡ Some t → h t ≤ weigh weight slots
  counted_in slots i t is = elim (cases_lt (i / span) (length slots)) [
    | inl lt ↦
        let here = counted (entry_at slots (i / span)) (i % span) t is in
        let all = weigh-at weight slots (i / span) None lt in omega arith
    | inr ge ↦
        let past : entry_at slots (i / span) ≡ None = get_or_past slots (i / span) None ge in
        none_some t (sym (none (i % span)) ∙ (ap (λ s. find s (i % span)) (sym past) ∙ is))
  ]

module _ (h : Placed → ℕ) where
  counted_ticket : IsCounted only_at_zero (ticket_weight (of_tickets h)) h
  counted_ticket None zero t is = none_some t is
  counted_ticket None (suc i) t is = none_some t is
  counted_ticket (Some s) zero t is = let same = ap h (some-injective s t is) in omega arith
  counted_ticket (Some s) (suc i) t is = none_some t is

  counted_direct : (e : ℕ) → IsCounted (find_direct e) (weight_direct (of_tickets h)) h
  counted_direct e None i t is = none_some t is
  counted_direct e (Some b) i t is =
      let all = counted_in only_at_zero (ticket_weight (of_tickets h)) h 1 (λ k. nothing_at_zero k) counted_ticket b.entries.slots.items i t is in omega arith

  counted_indirect : (e : ℕ) → IsCounted (find_indirect e) (weight_indirect (of_tickets h)) h
  counted_indirect e None i t is = none_some t is
  counted_indirect e (Some b) i t is =
      let all = counted_in (find_direct e) (weight_direct (of_tickets h)) h (e * 1) (λ k. refl) (counted_direct e) b.entries.slots.items i t is in omega arith

  counted_double : (e : ℕ) → IsCounted (find_double e) (weight_double (of_tickets h)) h
  counted_double e None i t is = none_some t is
  counted_double e (Some b) i t is =
      let all = counted_in (find_indirect e) (weight_indirect (of_tickets h)) h (e * (e * 1)) (λ k. refl) (counted_indirect e) b.entries.slots.items i t is in omega arith

  module _ {B L : Type 0} (f : FileState B L) where
    counted_file : (i : ℕ) (t : Placed) → ticket_at f i ≡ Some t → h t ≤ below_weight f (of_tickets h)
    counted_file i t is =
        let e : ℕ = node_entries f.shape in
        let d : ℕ = inode_entries f.shape in
        let after_indirect = joined (2 * (e * e)) (in_indirect f) (in_double f) in
        let after_direct = joined (2 * e) (in_direct f) after_indirect in
        elim (cases_lt i d) [
          | inl lt ↦
              let all = counted_in only_at_zero (ticket_weight (of_tickets h)) h 1 (λ k. nothing_at_zero k) counted_ticket f.tickets.slots.items i t (sym (at_first d (in_tickets f) after_direct i lt) ∙ is) in omega arith
          | inr ge ↦
              let past_tickets : after_direct (i - d) ≡ Some t = sym (at_rest d (in_tickets f) after_direct i ge) ∙ is in
              elim (cases_lt (i - d) (2 * e)) [
                | inl lt ↦
                    let all = counted_in (find_direct e) (weight_direct (of_tickets h)) h (e * 1) (λ k. refl) (counted_direct e) f.direct.slots.items (i - d) t (sym (at_first (2 * e) (in_direct f) after_indirect (i - d) lt) ∙ past_tickets) in omega arith
                | inr ge' ↦
                    let past_direct : after_indirect (i - d - 2 * e) ≡ Some t = sym (at_rest (2 * e) (in_direct f) after_indirect (i - d) ge') ∙ past_tickets in
                    elim (cases_lt (i - d - 2 * e) (2 * (e * e))) [
                      | inl lt ↦
                          let all = counted_in (find_indirect e) (weight_indirect (of_tickets h)) h (e * (e * 1)) (λ k. refl) (counted_indirect e) f.indirect.slots.items (i - d - 2 * e) t (sym (at_first (2 * (e * e)) (in_indirect f) (in_double f) (i - d - 2 * e) lt) ∙ past_direct) in omega arith
                      | inr far ↦
                          let all = counted_in (find_double e) (weight_double (of_tickets h)) h (e * (e * (e * 1))) (λ k. refl) (counted_double e) f.double.slots.items (i - d - 2 * e - 2 * (e * e)) t (sym (at_rest (2 * (e * e)) (in_indirect f) (in_double f) (i - d - 2 * e) far) ∙ past_direct) in omega arith
                    ]
              ]
        ]

-- a ticket of a file is lodged in its account
pub lodged : {B L : Type 0} (f : FileState B L) (tickets : List Mark) (tokens : List TakenNumber) → AreHeld f tickets tokens
    → (i : ℕ) (t : Placed) → ticket_at f i ≡ Some t → 0 < times same_mark t.mark tickets
lodged f tickets tokens held i t is =
    let all = held.tickets (λ y. if same_mark t.mark y then 1 else 0) in
    let here = counted_file (λ u. if same_mark t.mark u.mark then 1 else 0) f i t is in
    let one : ◌≡◌ {A = ℕ} (if same_mark t.mark t.mark then 1 else 0) 1 = ap (λ b. if b then 1 else 0) (mark_self t.mark) in
    omega arith
