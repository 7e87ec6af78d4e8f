-- An index's owner is the number of the node that names it and the slot: where a call keeps that node's number, each
-- ticket that stood there is owned as before.
use Rattle.std.proofs.Common.{◌≡◌, ℕ, ◌*◌, ◌-◌, ◌/◌, ◌%◌, ◌<◌, ◌≤◌, Option, Some, None, IsSome, MatchOption, refl, sym, ap, subst, ◌∙◌, inl, inr, arith}
use Rattle.std.proofs.lemmas.Bool.{cases_eq, cases_lt}
use Rattle.geometry.specs.declared.owner.Owner.{Owner}
use Rattle.geometry.specs.declared.owner.Owner.TheVariants.{Data}
use Rattle.geometry.specs.Path.{inode_entries, node_entries, largest_length, path}
use Rattle.tickets.specs.Placed.{Placed}
use Rattle.nodes.specs.declared.branch.Branch.{Branch}
use Rattle.nodes.specs.Tree.{SetsAt, Same, KeepsNamers, entry_at, find_in, missing_in}
use Rattle.nodes.specs.Laws.{no_leaf}
use Rattle.nodes.specs.Spares.{KeepsNames}
use Rattle.nodes.specs.declared.file.FileState.{FileState}
use Rattle.nodes.specs.File.{IsFile, joined, ticket_at, missing_to, missing_direct, missing_indirect, missing_double}
use Rattle.nodes.specs.Lacking.{last_entry}
use Rattle.nodes.specs.Owners.{AreNamed, owner_at, named_by, namer_at, namer_direct, namer_indirect, namer_double}
use Rattle.nodes.proofs.Joined.{at_first, at_rest}
use Rattle.nodes.proofs.Namers.{owner_named}
use Rattle.nodes.proofs.Owners.{owner_there}

-- a ticket stands below the length
pub stands_below : {B L : Type 0} (f : FileState B L) → IsFile f → f.length ≤ largest_length f.shape → (i : ℕ) (t : Placed) → ticket_at f i ≡ Some t → i < largest_length f.shape
stands_below f is short i t at = elim (cases_lt i f.length) [
  | inl lt ↦ omega arith
  | inr ge ↦ let none = is.within i ge in absurd (cc)
]

some_namer : (x : Option ℕ) (s : ℕ) (o : Owner) → named_by x s ≡ Some o → (n : ℕ) × (x ≡ Some n)
some_namer None s o at = absurd (cc)
some_namer (Some n) s o at = (n, refl)

-- where a node names an index, none is missing on the way to it
abbrev Leads : (ℕ → Option ℕ) → (ℕ → ℕ) → Type 0
Leads names missing = (k n : ℕ) → names k ≡ Some n → missing k ≡ 0

module _ (w : ℕ) (n o : ℕ → Option ℕ) (m l : ℕ → ℕ) where
  leads_joined : Leads n m → Leads o l → Leads (joined w n o) (joined w m l)
  leads_joined first rest k x at = elim (cases_lt k w) [
    | inl lt ↦ at_first w m l k lt ∙ first k x (sym (at_first w n o k lt) ∙ at)
    | inr ge ↦ at_rest w m l k ge ∙ rest (k - w) x (sym (at_rest w n o k ge) ∙ at)
  ]

module _ (e : ℕ) where
  leads_direct : (b : Option (Branch Placed)) → Leads (namer_direct e b) (missing_direct e b)
  leads_direct None k x at = absurd (cc)
  leads_direct (Some b) k x at = refl

  leads_indirect : (b : Option (Branch (Branch Placed))) → Leads (namer_indirect e b) (missing_indirect e b)
  leads_indirect None k x at = absurd (cc)
  leads_indirect (Some b) k x at = leads_direct (entry_at b.entries.slots.items (k / (e * 1))) (k % (e * 1)) x at

  leads_double : (b : Option (Branch (Branch (Branch Placed)))) → Leads (namer_double e b) (missing_double e b)
  leads_double None k x at = absurd (cc)
  leads_double (Some b) k x at = leads_indirect (entry_at b.entries.slots.items (k / (e * (e * 1)))) (k % (e * (e * 1))) x at

leads_to : {B L : Type 0} (f : FileState B L) → Leads (namer_at f) (missing_to f)
leads_to f =
    let d = inode_entries f.shape in
    let e = node_entries f.shape in
    let one = find_in (namer_direct e) (e * 1) f.direct.slots.items in
    let two = find_in (namer_indirect e) (e * (e * 1)) f.indirect.slots.items in
    let three = find_in (namer_double e) (e * (e * (e * 1))) f.double.slots.items in
    let no_one = missing_in (missing_direct e) (e * 1) f.direct.slots.items in
    let no_two = missing_in (missing_indirect e) (e * (e * 1)) f.indirect.slots.items in
    let no_three = missing_in (missing_double e) (e * (e * (e * 1))) f.double.slots.items in
    leads_joined d (λ _. Some f.token.number) (joined (2 * e) one (joined (2 * (e * e)) two three)) (λ _. 0) (joined (2 * e) no_one (joined (2 * (e * e)) no_two no_three))
    (λ k x at. refl)
    (leads_joined (2 * e) one (joined (2 * (e * e)) two three) no_one (joined (2 * (e * e)) no_two no_three)
    (λ k x at. leads_direct e (entry_at f.direct.slots.items (k / (e * 1))) (k % (e * 1)) x at)
    (leads_joined (2 * (e * e)) two three no_two no_three
    (λ k x at. leads_indirect e (entry_at f.indirect.slots.items (k / (e * (e * 1)))) (k % (e * (e * 1))) x at)
    (λ k x at. leads_double e (entry_at f.double.slots.items (k / (e * (e * (e * 1))))) (k % (e * (e * (e * 1)))) x at)))

-- the way to an index that has an owner is there
pub owned_there : {B L : Type 0} (f : FileState B L) (i : ℕ) → i < largest_length f.shape → (o : Owner) → owner_at f (path f.shape i) ≡ Some o → missing_to f i ≡ 0
owned_there f i inside o at =
    let n = some_namer (namer_at f i) (last_entry (path f.shape i)) o (sym (owner_named f i inside) ∙ at) in
    leads_to f i n.0 n.1

module _ {B L : Type 0} (old new : FileState B L) (shape : new.shape ≡ old.shape) (i : ℕ) (inside : i < largest_length new.shape) where
  before : i < largest_length old.shape
  before = subst (λ s. i < largest_length s) shape inside

  -- the owner of an index is the same where its node's number is
  pub same_owner : namer_at new i ≡ namer_at old i → owner_at new (path new.shape i) ≡ owner_at old (path old.shape i)
  same_owner names =
      owner_named new i inside
      ∙ (ap (λ n. named_by n (last_entry (path new.shape i))) names
      ∙ (ap (λ s. named_by (namer_at old i) (last_entry (path s i))) shape ∙ sym (owner_named old i before)))

  pub kept_owner : KeepsNames (namer_at old) (namer_at new) → (o : Owner) → owner_at old (path old.shape i) ≡ Some o → owner_at new (path new.shape i) ≡ Some o
  kept_owner keeps o at =
      let n = some_namer (namer_at old i) (last_entry (path old.shape i)) o (sym (owner_named old i before) ∙ at) in
      same_owner (keeps i n.0 n.1 ∙ sym n.1) ∙ at

  -- the owner of an index whose node was planted
  pub planted_owner : KeepsNames (namer_at old) (namer_at new) → (end : ℕ) → (0 < missing_to old i → namer_at new i ≡ Some end) → (owner : Owner)
      → MatchOption (owner_at old (path old.shape i)) (owner ≡ Data end (last_entry (path old.shape i))) (λ o. owner ≡ o)
      → owner_at new (path new.shape i) ≡ Some owner
  planted_owner keeps end planted owner is = by_owner (owner_at old (path old.shape i)) refl is
    where
      by_owner : (o : Option Owner) → owner_at old (path old.shape i) ≡ o → MatchOption o (owner ≡ Data end (last_entry (path old.shape i))) (λ o. owner ≡ o)
          → owner_at new (path new.shape i) ≡ Some owner
      by_owner (Some o) at is = kept_owner keeps o at ∙ ap (λ x. Some x) (sym is)
      by_owner None at is =
          let gone : 0 < missing_to old i = elim (cases_lt 0 (missing_to old i)) [
            | inl lt ↦ lt
            | inr ge ↦ absurd (no_leaf (subst (λ (o : Option Owner). IsSome o) at (owner_there old i before (omega arith))))
          ] in
          owner_named new i inside
          ∙ (ap (λ n. named_by n (last_entry (path new.shape i))) (planted gone)
          ∙ (ap (λ s. named_by (Some end) (last_entry (path s i))) shape ∙ ap (λ x. Some x) (sym is)))

module _ {B L : Type 0} (old new : FileState B L) (is : AreNamed old) (now : IsFile new) (short : new.length ≤ largest_length new.shape) (shape : new.shape ≡ old.shape) where
  -- each ticket stood there before
  pub named_still : ((i : ℕ) (t : Placed) → ticket_at new i ≡ Some t → ticket_at old i ≡ Some t) → KeepsNamers (ticket_at new) (namer_at old) (namer_at new) → AreNamed new
  named_still stood keeps i t at = same_owner old new shape i (stands_below new now short i t at) (keeps i t at) ∙ is i t (stood i t at)

  pub named_planted : Same (ticket_at old) (ticket_at new) → KeepsNames (namer_at old) (namer_at new) → AreNamed new
  named_planted same keeps i t at = kept_owner old new shape i (stands_below new now short i t at) keeps t.mark.owner (is i t (sym (same i) ∙ at))

  pub named_put : (index : ℕ) (t : Placed) → SetsAt (ticket_at old) (ticket_at new) index (Some t) → Same (namer_at old) (namer_at new)
      → owner_at old (path old.shape index) ≡ Some t.mark.owner → AreNamed new
  named_put index t sets names owner i u at = elim (cases_eq i index) [
    | inl e ↦
        let one : Some t ≡ Some u = sym sets.0 ∙ (ap (ticket_at new) (sym e) ∙ at) in
        same_owner old new shape i (stands_below new now short i u at) (names i) ∙ (ap (λ k. owner_at old (path old.shape k)) e ∙ (owner ∙ ap owner_of one))
    | inr ne ↦ same_owner old new shape i (stands_below new now short i u at) (names i) ∙ is i u (sym (sets.1 i ne) ∙ at)
  ]
    where
      owner_of : Option Placed → Option Owner
      owner_of None = None
      owner_of (Some v) = Some v.mark.owner
