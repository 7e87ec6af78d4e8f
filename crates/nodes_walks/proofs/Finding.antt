-- An address that isn't 0 is a ticket's, so its index is below the length; place and slot below a range give the index
-- back, and the node found there names it.
use Rattle.std.proofs.Common.{◌≡◌, ℕ, ◌+◌, ◌-◌, ◌*◌, ◌%◌, ◌<◌, map, get_or, Option, Some, refl, sym, ap, subst, ◌∙◌, inl, inr, arith}
use Rattle.std.proofs.lemmas.Bool.{cases_lt}
use Rattle.geometry.specs.declared.owner.Owner.TheVariants.{Data}
use Rattle.geometry.specs.Path.{inode_entries, node_entries, largest_length, path}
use Rattle.nodes.specs.Tree.{only_at_zero, find_in}
use Rattle.nodes_walks.proofs.FindingBelow.{named_there}
use Rattle.nodes.specs.declared.file.FileState.{FileState}
use Rattle.nodes.specs.File.{IsFile, address_of, joined, in_tickets, in_direct, in_indirect, in_double, ticket_at}
use Rattle.nodes.proofs.Joined.{at_first}
use Rattle.nodes.specs.Lacking.{last_entry}
use Rattle.nodes.specs.Owners.{owner_at, named_by, namer_at, namer_direct, namer_indirect, namer_double}
use Rattle.nodes.proofs.Bounds.{past_tickets}
use Rattle.nodes.proofs.Lacking.{in_second, in_third, in_fourth}
use Rattle.nodes.proofs.Namers.{owner_named}
use Rattle.nodes.proofs.Paths.{path_1, path_2, path_3, path_4}

module _ {B L : Type 0} (f : FileState B L) (is : IsFile f) (from : ℕ) (some : 0 < from) where
  -- a block stands below the length
  pub named_inside : (i : ℕ) → address_of (ticket_at f i) ≡ from → i < f.length
  named_inside i there = elim (cases_lt i f.length) [
    | inl lt ↦ lt
    | inr ge ↦ absurd (let none : address_of (ticket_at f i) ≡ 0 = ap address_of (is.within i ge) in omega arith)
  ]

  -- an address in the inode is that of the block at its entry's index
  pub named_by_inode : (at : ℕ) → get_or (map address_of f.tickets.slots.items) at 0 ≡ from → address_of (ticket_at f at) ≡ from
  named_by_inode at named =
      let here : address_of (in_tickets f at) ≡ from = named_there only_at_zero (λ t. t.mark.address) address_of 1 refl (λ s. refl) refl f.tickets.slots.items at from named in
      elim (cases_lt at (inode_entries f.shape)) [
        | inl lt ↦ (
            let e = node_entries f.shape in
            ap address_of (at_first (inode_entries f.shape) (in_tickets f) (joined (2 * e) (in_direct f) (joined (2 * (e * e)) (in_indirect f) (in_double f))) at lt) ∙ here)
        | inr ge ↦ absurd (let none : address_of (in_tickets f at) ≡ 0 = ap address_of (past_tickets f is at ge) in omega arith)
      ]

-- ---- who names the index of a block that was found

module _ {B L : Type 0} (f : FileState B L) (nid at : ℕ) where
  abbrev d : ℕ
  d = inode_entries f.shape

  abbrev e : ℕ
  e = node_entries f.shape

  abbrev own : ℕ → Option ℕ
  own _ = Some f.token.number

  abbrev one : ℕ → Option ℕ
  one = find_in (namer_direct e) (e * 1) f.direct.slots.items

  abbrev two : ℕ → Option ℕ
  two = find_in (namer_indirect e) (e * (e * 1)) f.indirect.slots.items

  abbrev three : ℕ → Option ℕ
  three = find_in (namer_double e) (e * (e * (e * 1))) f.double.slots.items

  owner_is : (i : ℕ) → i < largest_length f.shape → namer_at f i ≡ Some nid → last_entry (path f.shape i) ≡ at → owner_at f (path f.shape i) ≡ Some (Data nid at)
  owner_is i inside names entry =
      owner_named f i inside ∙ (ap (λ n. named_by n (last_entry (path f.shape i))) names ∙ ap (λ s. Some (Data nid s)) entry)

  pub owner_inode : at < d → f.token.number ≡ nid → owner_at f (path f.shape at) ≡ Some (Data nid at)
  owner_inode low number =
      owner_is at (omega arith) (at_first d own (joined (2 * e) one (joined (2 * (e * e)) two three)) at low ∙ ap (λ n. Some n) number)
      (ap last_entry (path_1 d e at low))

  owner_direct : (k : ℕ) → k < 2 * (e * 1) → one k ≡ Some nid → ((before : ℕ) → (before * (e * 1) + k) % e ≡ at) → owner_at f (path f.shape (d + k)) ≡ Some (Data nid at)
  owner_direct k low names entry =
      let back : d + k - d ≡ k = omega arith in
      let digit : 0 * (e * 1) + k ≡ k = omega arith in
      owner_is (d + k) (omega arith)
      (in_second d (2 * e) (2 * (e * e)) own one two three (d + k) (omega arith) (omega arith) ∙ (ap one back ∙ names))
      (ap last_entry (path_2 d e (d + k) (omega arith) (omega arith)) ∙ (ap (λ x. x % e) (back ∙ sym digit) ∙ entry 0))

  owner_indirect : (k : ℕ) → k < 2 * (e * (e * 1)) → two k ≡ Some nid → ((before : ℕ) → (before * (e * (e * 1)) + k) % e ≡ at)
      → owner_at f (path f.shape (d + 2 * e + k)) ≡ Some (Data nid at)
  owner_indirect k low names entry =
      let i = d + 2 * e + k in
      let back : i - (d + 2 * e) ≡ k = omega arith in
      let steps : i - d - 2 * e ≡ k = omega arith in
      let digit : 0 * (e * (e * 1)) + k ≡ k = omega arith in
      owner_is i (omega arith)
      (in_third d (2 * e) (2 * (e * e)) own one two three i (omega arith) (omega arith) (omega arith) ∙ (ap two steps ∙ names))
      (ap last_entry (path_3 d e i (omega arith) (omega arith)) ∙ (ap (λ x. x % e) (back ∙ sym digit) ∙ entry 0))

  owner_double : (k : ℕ) → k < 1 * (e * (e * (e * 1))) → three k ≡ Some nid → ((before : ℕ) → (before * (e * (e * (e * 1))) + k) % e ≡ at)
      → owner_at f (path f.shape (d + 2 * e + 2 * (e * e) + k)) ≡ Some (Data nid at)
  owner_double k low names entry =
      let i = d + 2 * e + 2 * (e * e) + k in
      let back : i - (d + 2 * e + 2 * (e * e)) ≡ k = omega arith in
      let steps : i - d - 2 * e - 2 * (e * e) ≡ k = omega arith in
      let digit : 0 * (e * (e * (e * 1))) + k ≡ k = omega arith in
      let inside : i < largest_length f.shape = omega arith in
      owner_is i inside
      (in_fourth d (2 * e) (2 * (e * e)) own one two three i (omega arith) (omega arith) (omega arith) ∙ (ap three steps ∙ names))
      (ap last_entry (path_4 d e i (omega arith) inside) ∙ (ap (λ x. x % e) (back ∙ sym digit) ∙ entry 0))

  -- The same by other names of the two widths.
  abbrev OwnsDirect : ℕ → ℕ → Type 0
  OwnsDirect w n = (k : ℕ) → k < 2 * (n * 1) → find_in (namer_direct n) (n * 1) f.direct.slots.items k ≡ Some nid
      → ((before : ℕ) → (before * (n * 1) + k) % n ≡ at) → owner_at f (path f.shape (w + k)) ≡ Some (Data nid at)

  abbrev OwnsIndirect : ℕ → ℕ → Type 0
  OwnsIndirect w n = (k : ℕ) → k < 2 * (n * (n * 1)) → find_in (namer_indirect n) (n * (n * 1)) f.indirect.slots.items k ≡ Some nid
      → ((before : ℕ) → (before * (n * (n * 1)) + k) % n ≡ at) → owner_at f (path f.shape (w + 2 * n + k)) ≡ Some (Data nid at)

  abbrev OwnsDouble : ℕ → ℕ → Type 0
  OwnsDouble w n = (k : ℕ) → k < 1 * (n * (n * (n * 1))) → find_in (namer_double n) (n * (n * (n * 1))) f.double.slots.items k ≡ Some nid
      → ((before : ℕ) → (before * (n * (n * (n * 1))) + k) % n ≡ at) → owner_at f (path f.shape (w + 2 * n + 2 * (n * n) + k)) ≡ Some (Data nid at)

  module _ (w n : ℕ) (slots : w ≡ d) (entries : n ≡ e) where
    at_widths : (P : ℕ → ℕ → Type 0) → P d e → P w n
    at_widths P owns = subst (λ (p : ℕ × ℕ). P p.0 p.1) (λ i. (sym slots i, sym entries i)) owns

    pub owner_direct_at : OwnsDirect w n
    owner_direct_at = at_widths OwnsDirect owner_direct

    pub owner_indirect_at : OwnsIndirect w n
    owner_indirect_at = at_widths OwnsIndirect owner_indirect

    pub owner_double_at : OwnsDouble w n
    owner_double_at = at_widths OwnsDouble owner_double
