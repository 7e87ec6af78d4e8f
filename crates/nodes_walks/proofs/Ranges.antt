-- The search of two joined maps goes on in the second, less the width, once the first has nothing from there on: so
-- what is found in one range is the next of the whole file, and what is said of what stands there holds of the file.
use Rattle.std.proofs.Common.{◌≡◌, ℕ, ◌+◌, ◌-◌, ◌*◌, ◌<◌, ◌≤◌, Option, Some, IsSome, sym, ap, ◌∙◌, subst, inl, inr, arith}
use Rattle.std.proofs.lemmas.Bool.{cases_lt}
use Rattle.geometry.specs.Path.{inode_entries, node_entries}
use Rattle.tickets.specs.Placed.{Placed}
use Rattle.nodes.specs.Tree.{EmptyFrom, find_in}
use Rattle.nodes.specs.declared.file.FileState.{FileState}
use Rattle.nodes.specs.File.{joined, in_tickets, find_direct, find_indirect, find_double, ticket_at}
use Rattle.nodes.proofs.Joined.{at_first, at_rest}
use Rattle.nodes_walks.specs.Data.{IsNextData}

-- the next index at which the map has something, of which this holds
abbrev pub NextWith : {L : Type 0} → (Option L → Type 0) → (ℕ → Option L) → ℕ → ℕ → Type 0
NextWith P at from i = IsNextData at from (Some i) × P (at i)

module _ {L : Type 0} (P : Option L → Type 0) (w : ℕ) (f g : ℕ → Option L) (from i : ℕ) where
  pub next_first : i < w → NextWith P f from i → NextWith P (joined w f g) from i
  next_first inside next = (
    (
      next.0.0,
      subst (λ x. IsSome x) (sym (at_first w f g i inside)) next.0.1,
      λ j le lt. at_first w f g j (omega arith) ∙ next.0.2 j le lt,
    ),
    subst P (sym (at_first w f g i inside)) next.1,
  )

  pub next_rest : EmptyFrom f from → NextWith P g (from - w) i → NextWith P (joined w f g) from (w + i)
  next_rest empty next =
      let far : from - w ≤ i = next.0.0 in
      let back : w + i - w ≡ i = omega arith in
      let here = at_rest w f g (w + i) (omega arith) ∙ ap g back in (
        (
          omega arith,
          subst (λ x. IsSome x) (sym here) next.0.1,
          λ j le lt. elim (cases_lt j w) [
            | inl low ↦ at_first w f g j low ∙ empty j le
            | inr high ↦ at_rest w f g j high ∙ next.0.2 (j - w) (omega arith) (omega arith)
          ],
        ),
        subst P (sym here) next.1,
      )

-- the map of a file, by the widths of its ranges
abbrev four_at : {B L : Type 0} → FileState B L → ℕ → ℕ → ℕ → Option Placed
four_at f d e =
    joined d (in_tickets f)
    (joined (2 * e) (find_in (find_direct e) (e * 1) f.direct.slots.items)
    (joined (2 * (e * e)) (find_in (find_indirect e) (e * (e * 1)) f.indirect.slots.items)
    (find_in (find_double e) (e * (e * (e * 1))) f.double.slots.items)))

empty_joined : {L : Type 0} (w : ℕ) (f g : ℕ → Option L) (from rest : ℕ) → rest ≡ from - w → EmptyFrom f from → EmptyFrom g rest → EmptyFrom (joined w f g) from
empty_joined w f g from rest behind one other j le = elim (cases_lt j w) [
  | inl low ↦ at_first w f g j low ∙ one j le
  | inr high ↦ at_rest w f g j high ∙ other (j - w) (omega arith)
]

-- where no range has anything from there on, the file has nothing
pub none_found : {B L : Type 0} (f : FileState B L) (from d e : ℕ) → d ≡ inode_entries f.shape → e ≡ node_entries f.shape
    → (past_tickets past_direct past_indirect : ℕ) → past_tickets ≡ from - d → past_direct ≡ past_tickets - 2 * e → past_indirect ≡ past_direct - 2 * (e * e)
    → EmptyFrom (in_tickets f) from → EmptyFrom (find_in (find_direct e) (e * 1) f.direct.slots.items) past_tickets
    → EmptyFrom (find_in (find_indirect e) (e * (e * 1)) f.indirect.slots.items) past_direct
    → EmptyFrom (find_in (find_double e) (e * (e * (e * 1))) f.double.slots.items) past_indirect → EmptyFrom (ticket_at f) from
none_found f from d e slots entries past_tickets past_direct past_indirect one two three tickets direct indirect double =
    let below_indirect = empty_joined (2 * (e * e)) (find_in (find_indirect e) (e * (e * 1)) f.indirect.slots.items) (find_in (find_double e) (e * (e * (e * 1))) f.double.slots.items) past_direct past_indirect three indirect double in
    let below_direct = empty_joined (2 * e) (find_in (find_direct e) (e * 1) f.direct.slots.items) _ past_tickets past_direct two direct below_indirect in
    let all = empty_joined d (in_tickets f) _ from past_tickets one tickets below_direct in
    subst (λ (p : ℕ × ℕ). EmptyFrom (four_at f p.0 p.1) from) (λ k. (slots k, entries k)) all

module _ {B L : Type 0} (P : Option Placed → Type 0) (f : FileState B L) (from d e i : ℕ) (slots : d ≡ inode_entries f.shape) (entries : e ≡ node_entries f.shape) where
  abbrev direct : ℕ → Option Placed
  direct = find_in (find_direct e) (e * 1) f.direct.slots.items

  abbrev indirect : ℕ → Option Placed
  indirect = find_in (find_indirect e) (e * (e * 1)) f.indirect.slots.items

  abbrev double : ℕ → Option Placed
  double = find_in (find_double e) (e * (e * (e * 1))) f.double.slots.items

  abbrev past_nodes : ℕ → Option Placed
  past_nodes = joined (2 * (e * e)) indirect double

  abbrev past_slots : ℕ → Option Placed
  past_slots = joined (2 * e) direct past_nodes

  -- the widths are those of the file
  of_file : (found : ℕ) → NextWith P (joined d (in_tickets f) past_slots) from found → NextWith P (ticket_at f) from found
  of_file found next = subst (λ (p : ℕ × ℕ). NextWith P (four_at f p.0 p.1) from found) (λ k. (slots k, entries k)) next

  -- the next block stands in the inode
  pub found_in_inode : i < d → NextWith P (in_tickets f) from i → NextWith P (ticket_at f) from i
  found_in_inode inside next = of_file i (next_first P d (in_tickets f) past_slots from i inside next)

  module _ (past_tickets : ℕ) (one : past_tickets ≡ from - d) (tickets : EmptyFrom (in_tickets f) from) where
    behind_inode : (n : ℕ) → NextWith P past_slots past_tickets n → NextWith P (ticket_at f) from (d + n)
    behind_inode n next =
        of_file (d + n) (next_rest P d (in_tickets f) past_slots from n tickets (subst (λ k. NextWith P past_slots k n) one next))

    -- below the direct nodes
    pub found_in_direct : i < 2 * e → NextWith P direct past_tickets i → NextWith P (ticket_at f) from (d + i)
    found_in_direct inside next = behind_inode i (next_first P (2 * e) direct past_nodes past_tickets i inside next)

    module _ (past_direct : ℕ) (two : past_direct ≡ past_tickets - 2 * e) (none : EmptyFrom direct past_tickets) where
      behind_direct : (n : ℕ) → NextWith P past_nodes past_direct n → NextWith P (ticket_at f) from (d + (2 * e + n))
      behind_direct n next =
          behind_inode (2 * e + n) (next_rest P (2 * e) direct past_nodes past_tickets n none (subst (λ k. NextWith P past_nodes k n) two next))

      -- below the indirect nodes
      pub found_in_indirect : i < 2 * (e * e) → NextWith P indirect past_direct i → NextWith P (ticket_at f) from (d + (2 * e + i))
      found_in_indirect inside next = behind_direct i (next_first P (2 * (e * e)) indirect double past_direct i inside next)

      -- below the double indirect node
      pub found_in_double : (past_indirect : ℕ) → past_indirect ≡ past_direct - 2 * (e * e) → EmptyFrom indirect past_direct
          → NextWith P double past_indirect i → NextWith P (ticket_at f) from (d + (2 * e + (2 * (e * e) + i)))
      found_in_double past_indirect three bare next =
          behind_direct (2 * (e * e) + i) (next_rest P (2 * (e * e)) indirect double past_direct i bare (subst (λ k. NextWith P double k i) three next))
