-- The digits of an index are the path to its entry, and are read back from the path: so a ticket that is owned by who
-- names its index is owned by the entry in which it stands.
use Rattle.std.proofs.Common.{◌≡◌, ℕ, zero, suc, ◌+◌, ◌-◌, ◌*◌, ◌/◌, ◌%◌, ◌<◌, ◌==◌, if◌then◌else◌, List, length, Option, Some, None, inl, inr, refl, sym, ap, ◌∙◌, arith}
use Rattle.std.proofs.lemmas.Bool.{cases_lt}
use Rattle.std.proofs.lemmas.List.{get_or_past}
use Rattle.std.proofs.Math.Nat.{mul_assoc}
use Rattle.std.proofs.lemmas.Nat.{div-mul-add, mod-mul-add, mul-le}
use Rattle.image_law.proofs.Weighing.{weigh_at}
use Rattle.geometry.specs.declared.owner.Owner.TheVariants.{Data}
use Rattle.geometry.specs.declared.path.Path.{Path}
use Rattle.geometry.specs.declared.path.Path.TheVariants.{Inode, Direct, Indirect, Double}
use Rattle.geometry.specs.Path.{inode_entries, node_entries, largest_length, path}
use Rattle.geometry.specs.Weights.{weigh}
use Rattle.tickets.specs.Placed.{Placed}
use Rattle.nodes.specs.declared.branch.Branch.{Branch}
use Rattle.nodes.specs.Tree.{entry_at}
use Rattle.nodes.specs.Change.{Weighing, ticket_weight, of_tickets}
use Rattle.nodes.specs.declared.file.FileState.{FileState}
use Rattle.nodes.specs.File.{IsFile, below, at_path, ends_at, weight_direct, weight_indirect, weight_double, shaped_direct, shaped_indirect, shaped_double}
use Rattle.nodes.specs.Owners.{owner_in, owner_at, AreNamed}
use Rattle.nodes.proofs.Bounds.{entries_positive}
use Rattle.nodes.proofs.Paths.{path_is, path_1, path_2, path_3, path_4}
use Rattle.nodes_law.specs.Law.{unplaced, HasAddresses}
use Rattle.checkpoint_sync.specs.Owned.{IsOwned, OwnedIn, OwnedBelow, HasOwnTickets}

-- an entry that names something is within the entries
within : {C : Type 0} (xs : List (Option C)) (k : ℕ) (c : C) → entry_at xs k ≡ Some c → k < length xs
within xs k c e = elim (cases_lt k (length xs)) [
  | inl lt ↦ lt
  | inr ge ↦ let none : entry_at xs k ≡ None = get_or_past xs k None ge in absurd (let both = sym none ∙ e in cc)
]

placed : (t : Placed) → unplaced t ≡ 0 → 0 < t.mark.address
placed t none = go t.mark.address none
  where
    go : (a : ℕ) → ◌≡◌ {A = ℕ} (if a == 0 then 1 else 0) 0 → 0 < a
    go zero e = absurd (omega arith)
    go (suc a) e = omega arith

owned_at : (nid at : ℕ) (x : Option Placed) → ticket_weight (of_tickets unplaced) x ≡ 0 → ((t : Placed) → x ≡ Some t → Some t.mark.owner ≡ Some (Data nid at)) → IsOwned nid at x
owned_at nid at None none named = tt
owned_at nid at (Some t) none named = (let e = named t refl in cc, placed t none)

-- what an entry of a node names is owned by it, where its tickets have addresses and name it
owned_in : (nid s : ℕ) (xs : List (Option Placed)) → weigh (ticket_weight (of_tickets unplaced)) xs ≡ 0
    → ((t : Placed) → s < length xs → entry_at xs s ≡ Some t → Some t.mark.owner ≡ Some (Data nid s)) → IsOwned nid s (entry_at xs s)
owned_in nid s xs light named =
    let lighter = weigh_at (ticket_weight (of_tickets unplaced)) xs s None refl in
    owned_at nid s (entry_at xs s) (omega arith) (λ t there. named t (within xs s t there) there)

-- numbers in digits
module _ (e : ℕ) (p : 0 < e) where
  pair_high : (a s : ℕ) → s < e → (a * e + s) / e ≡ a
  pair_high a s h = div-mul-add a e s h

  pair_low : (a s : ℕ) → s < e → (a * e + s) % e ≡ s
  pair_low a s h = mod-mul-add a e s h

  small : (a s : ℕ) → a < e → s < e → a * e + s < e * e
  small a s h k = let m = mul-le (a + 1) e e e (omega arith) (omega arith) in omega arith

  triple : (q a s : ℕ) → q * (e * e) + (a * e + s) ≡ (q * e + a) * e + s
  triple q a s = omega arith

  first : (q a s : ℕ) → a < e → s < e → (q * (e * e) + (a * e + s)) / (e * e) ≡ q
  first q a s h k = div-mul-add q (e * e) (a * e + s) (small a s h k)

  middle : (q a s : ℕ) → a < e → s < e → ((q * (e * e) + (a * e + s)) / e) % e ≡ a
  middle q a s h k = ap (λ n. (n / e) % e) (triple q a s) ∙ (ap (λ n. n % e) (pair_high (q * e + a) s k) ∙ mod-mul-add q e a h)

  last : (q a s : ℕ) → s < e → (q * (e * e) + (a * e + s)) % e ≡ s
  last q a s k = ap (λ n. n % e) (triple q a s) ∙ pair_low (q * e + a) s k

module _ {B L : Type 0} (f : FileState B L) (is : IsFile f) (named : AreNamed f) where
  -- the ticket at the end of a path of an index is owned by that entry
  named_at : (p : Path) (i : ℕ) → i < largest_length f.shape → path f.shape i ≡ Some p → (t : Placed) → at_path f p ≡ Some t → owner_at f (Some p) ≡ Some t.mark.owner
  named_at p i low at t there =
      ap (owner_at f) (sym at) ∙ named i t (path_is f i low ∙ (ap (ends_at f) at ∙ there))

  abbrev w : Weighing Placed
  w = of_tickets unplaced

  module _ (all : HasAddresses f) where
    own_tickets : OwnedIn (IsOwned f.token.number) f.tickets.slots.items
    own_tickets k =
        let d = inode_entries f.shape in
        let light = weigh_at (ticket_weight w) f.tickets.slots.items k None refl in
        owned_at f.token.number k (entry_at f.tickets.slots.items k) (omega arith) λ t e.
        let low : k < d = omega (arith, within f.tickets.slots.items k t e, is.tickets.0) in
        sym (named_at (Inode k) k (omega arith) (path_1 d (node_entries f.shape) k low) t e)

    own_direct : OwnedIn (OwnedBelow IsOwned f.token.number) f.direct.slots.items
    own_direct p =
        let light = weigh_at (weight_direct w) f.direct.slots.items p None refl in
        go (entry_at f.direct.slots.items p) refl (omega arith) (is.direct.1 p)
      where
        go : (x : Option (Branch Placed)) → entry_at f.direct.slots.items p ≡ x → weight_direct w x ≡ 0 → shaped_direct (node_entries f.shape) x → OwnedBelow IsOwned f.token.number p x
        go None at light shaped = tt
        go (Some b) at light shaped = λ s.
            owned_in b.token.number s b.entries.slots.items (omega arith) λ t sits there.
            let d = inode_entries f.shape in
            let e = node_entries f.shape in
            let low = within f.direct.slots.items p b at in
            let inside : s < e = omega (arith, sits, shaped.0.0) in
            let two : p < 2 = omega (arith, is.direct.0) in
            let m = mul-le (p + 1) e 2 e (omega arith) (omega arith) in
            let i = d + (p * e + s) in
            let back : i - d ≡ p * e + s = omega arith in
            let ways : path f.shape i ≡ Some (Direct p s) =
            path_2 d e i (omega arith) (omega arith)
            ∙ (ap (λ k. Some (Direct (k / e) (k % e))) back
            ∙ λ j. Some (Direct (pair_high e (entries_positive f.shape) p s inside j) (pair_low e (entries_positive f.shape) p s inside j))) in
            sym (named_at (Direct p s) i (omega arith) ways t (ap (λ x. below x s) at ∙ there)) ∙ ap (λ x. owner_in x s) at

    own_indirect : OwnedIn (OwnedBelow (OwnedBelow IsOwned) f.token.number) f.indirect.slots.items
    own_indirect q =
        let light = weigh_at (weight_indirect w) f.indirect.slots.items q None refl in
        go (entry_at f.indirect.slots.items q) refl (omega arith) (is.indirect.1 q)
      where
        inner : (b : Branch (Branch Placed)) → entry_at f.indirect.slots.items q ≡ Some b → (a : ℕ) (y : Option (Branch Placed)) → entry_at b.entries.slots.items a ≡ y
            → length b.entries.slots.items ≡ node_entries f.shape → weight_direct w y ≡ 0 → shaped_direct (node_entries f.shape) y → OwnedBelow IsOwned b.token.number a y
        inner b at a None at2 wide light shaped = tt
        inner b at a (Some c) at2 wide light shaped = λ s.
            owned_in c.token.number s c.entries.slots.items (omega arith) λ t sits there.
            let d = inode_entries f.shape in
            let e = node_entries f.shape in
            let p = entries_positive f.shape in
            let inside : s < e = omega (arith, sits, shaped.0.0) in
            let under : a < e = omega (arith, within b.entries.slots.items a c at2) in
            let two : q < 2 = omega (arith, within f.indirect.slots.items q b at, is.indirect.0) in
            let less = small e p a s under inside in
            let m = mul-le (q + 1) (e * e) 2 (e * e) (omega arith) (omega arith) in
            let i = d + 2 * e + (q * (e * e) + (a * e + s)) in
            let back : i - (d + 2 * e) ≡ q * (e * e) + (a * e + s) = omega arith in
            let ways : path f.shape i ≡ Some (Indirect (2 + q) a s) =
            path_3 d e i (omega arith) (omega arith)
            ∙ (ap (λ k. Some (Indirect (2 + k / (e * e)) ((k / e) % e) (k % e))) back
            ∙ λ j. Some (Indirect (2 + first e p q a s under inside j) (middle e p q a s under inside j) (last e p q a s inside j))) in
            let minus : 2 + q - 2 ≡ q = omega arith in
            let node : below (entry_at f.indirect.slots.items (2 + q - 2)) a ≡ Some c = ap (λ k. below (entry_at f.indirect.slots.items k) a) minus ∙ (ap (λ x. below x a) at ∙ at2) in
            sym (named_at (Indirect (2 + q) a s) i (omega arith) ways t (ap (λ x. below x s) node ∙ there)) ∙ ap (λ x. owner_in x s) node

        go : (x : Option (Branch (Branch Placed))) → entry_at f.indirect.slots.items q ≡ x → weight_indirect w x ≡ 0 → shaped_indirect (node_entries f.shape) x
            → OwnedBelow (OwnedBelow IsOwned) f.token.number q x
        go None at light shaped = tt
        go (Some b) at light shaped = λ a.
            let lighter = weigh_at (weight_direct w) b.entries.slots.items a None refl in
            inner b at a (entry_at b.entries.slots.items a) refl shaped.0.0 (omega arith) (shaped.0.1 a)

    own_double : OwnedIn (OwnedBelow (OwnedBelow (OwnedBelow IsOwned)) f.token.number) f.double.slots.items
    own_double z =
        let light = weigh_at (weight_double w) f.double.slots.items z None refl in
        go (entry_at f.double.slots.items z) refl (omega arith) (is.double.1 z)
      where
        deepest : (x : Branch (Branch (Branch Placed))) → entry_at f.double.slots.items z ≡ Some x → (a : ℕ) (b : Branch (Branch Placed)) → entry_at x.entries.slots.items a ≡ Some b
            → length x.entries.slots.items ≡ node_entries f.shape → (k : ℕ) (y : Option (Branch Placed)) → entry_at b.entries.slots.items k ≡ y
            → length b.entries.slots.items ≡ node_entries f.shape → weight_direct w y ≡ 0 → shaped_direct (node_entries f.shape) y → OwnedBelow IsOwned b.token.number k y
        deepest x at a b at2 wide k None at3 wide2 light shaped = tt
        deepest x at a b at2 wide k (Some c) at3 wide2 light shaped = λ s.
            owned_in c.token.number s c.entries.slots.items (omega arith) λ t sits there.
            let d = inode_entries f.shape in
            let e = node_entries f.shape in
            let p = entries_positive f.shape in
            let inside : s < e = omega (arith, sits, shaped.0.0) in
            let under : k < e = omega (arith, within b.entries.slots.items k c at3) in
            let over : a < e = omega (arith, within x.entries.slots.items a b at2) in
            let one : z ≡ 0 = omega (arith, within f.double.slots.items z x at, is.double.0) in
            let less = small e p k s under inside in
            let m = mul-le (a + 1) (e * e) e (e * e) (omega arith) (omega arith) in
            let i = d + 2 * e + 2 * (e * e) + (a * (e * e) + (k * e + s)) in
            let back : i - (d + 2 * e + 2 * (e * e)) ≡ a * (e * e) + (k * e + s) = omega arith in
            let cube : e * e * e ≡ e * (e * e) = mul_assoc e e e in
            let ways : path f.shape i ≡ Some (Double a k s) =
            path_4 d e i (omega arith) (omega arith)
            ∙ (ap (λ n. Some (Double (n / (e * e)) ((n / e) % e) (n % e))) back
            ∙ λ j. Some (Double (first e p a k s under inside j) (middle e p a k s under inside j) (last e p a k s inside j))) in
            let node : below (below (entry_at f.double.slots.items 0) a) k ≡ Some c =
            ap (λ n. below (below (entry_at f.double.slots.items n) a) k) (sym one) ∙ (ap (λ x. below (below x a) k) at ∙ (ap (λ x. below x k) at2 ∙ at3)) in
            sym (named_at (Double a k s) i (omega arith) ways t (ap (λ x. below x s) node ∙ there)) ∙ ap (λ x. owner_in x s) node

        inner : (x : Branch (Branch (Branch Placed))) → entry_at f.double.slots.items z ≡ Some x → (a : ℕ) (y : Option (Branch (Branch Placed))) → entry_at x.entries.slots.items a ≡ y
            → length x.entries.slots.items ≡ node_entries f.shape → weight_indirect w y ≡ 0 → shaped_indirect (node_entries f.shape) y → OwnedBelow (OwnedBelow IsOwned) x.token.number a y
        inner x at a None at2 wide light shaped = tt
        inner x at a (Some b) at2 wide light shaped = λ k.
            let lighter = weigh_at (weight_direct w) b.entries.slots.items k None refl in
            deepest x at a b at2 wide k (entry_at b.entries.slots.items k) refl shaped.0.0 (omega arith) (shaped.0.1 k)

        go : (x : Option (Branch (Branch (Branch Placed)))) → entry_at f.double.slots.items z ≡ x → weight_double w x ≡ 0 → shaped_double (node_entries f.shape) x
            → OwnedBelow (OwnedBelow (OwnedBelow IsOwned)) f.token.number z x
        go None at light shaped = tt
        go (Some x) at light shaped = λ a.
            let lighter = weigh_at (weight_indirect w) x.entries.slots.items a None refl in
            inner x at a (entry_at x.entries.slots.items a) refl shaped.0.0 (omega arith) (shaped.0.1 a)

    pub owns_tickets : HasOwnTickets f
    owns_tickets = record { tickets = own_tickets; direct = own_direct; indirect = own_indirect; double = own_double }
