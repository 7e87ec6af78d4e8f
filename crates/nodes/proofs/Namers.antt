-- The node that names an index is found as its ticket is, range by range: so a change in one range keeps the namers of
-- the others, and the namer found is the owner of the definitions.
use Rattle.std.proofs.Common.{◌≡◌, ℕ, ◌+◌, ◌-◌, ◌*◌, ◌/◌, ◌%◌, ◌<◌, Option, Some, None, refl, arith, ap, sym, subst, ◌∙◌, inl, inr}
use Rattle.std.proofs.lemmas.Bool.{cases_lt}
use Rattle.std.proofs.Math.Nat.{div-eq_of_lt, mod-eq_of_lt}
use Rattle.geometry.specs.declared.path.Path.{Path}
use Rattle.geometry.specs.Path.{inode_entries, node_entries, largest_length, path}
use Rattle.tickets.specs.Placed.{Placed}
use Rattle.nodes.specs.declared.branch.Branch.{Branch}
use Rattle.nodes.specs.declared.entries.Entries.{Entries}
use Rattle.nodes.specs.Tree.{Same, KeepsNamers, entry_at, find_in}
use Rattle.nodes.specs.Spares.{KeepsNames}
use Rattle.nodes.specs.declared.file.FileState.{FileState}
use Rattle.nodes.specs.File.{joined, below, ticket_at, in_tickets, in_direct, in_indirect, in_double, find_direct, find_indirect, find_double}
use Rattle.nodes.specs.Lacking.{last_entry}
use Rattle.nodes.specs.Owners.{owner_in, owner_at, named_by, namer_direct, namer_indirect, namer_double, namer_at}
use Rattle.nodes.proofs.Joined.{at_first, at_rest}
use Rattle.nodes.proofs.Four.{same_2, same_3, same_4}
use Rattle.nodes.proofs.Bounds.{entries_positive}
use Rattle.nodes.proofs.Lacking.{in_second, in_third, in_fourth}
use Rattle.nodes.proofs.Paths.{times_one, second, path_1, path_2, path_3, path_4}

module _ (w : ℕ) (f g : ℕ → Option Placed) (n m h : ℕ → Option ℕ) where
  keeps_first : KeepsNamers f n m → KeepsNamers (joined w f g) (joined w n h) (joined w m h)
  keeps_first keeps j t at = elim (cases_lt j w) [
    | inl lt ↦ at_first w m h j lt ∙ (keeps j t (sym (at_first w f g j lt) ∙ at) ∙ sym (at_first w n h j lt))
    | inr ge ↦ at_rest w m h j ge ∙ sym (at_rest w n h j ge)
  ]

  keeps_rest : KeepsNamers g n m → KeepsNamers (joined w f g) (joined w h n) (joined w h m)
  keeps_rest keeps j t at = elim (cases_lt j w) [
    | inl lt ↦ at_first w h m j lt ∙ sym (at_first w h n j lt)
    | inr ge ↦ at_rest w h m j ge ∙ (keeps (j - w) t (sym (at_rest w f g j ge) ∙ at) ∙ sym (at_rest w h n j ge))
  ]

module _ (w : ℕ) (n m h : ℕ → Option ℕ) where
  names_first : KeepsNames n m → KeepsNames (joined w n h) (joined w m h)
  names_first keeps j k at = elim (cases_lt j w) [
    | inl lt ↦ at_first w m h j lt ∙ keeps j k (sym (at_first w n h j lt) ∙ at)
    | inr ge ↦ at_rest w m h j ge ∙ (sym (at_rest w n h j ge) ∙ at)
  ]

  names_rest : KeepsNames n m → KeepsNames (joined w h n) (joined w h m)
  names_rest keeps j k at = elim (cases_lt j w) [
    | inl lt ↦ at_first w h m j lt ∙ (sym (at_first w h n j lt) ∙ at)
    | inr ge ↦ at_rest w h m j ge ∙ keeps (j - w) k (sym (at_rest w h n j ge) ∙ at)
  ]

module _ {B L : Type 0} (f : FileState B L) where
  abbrev d : ℕ
  d = inode_entries f.shape

  abbrev e : ℕ
  e = node_entries f.shape

  abbrev own : ℕ → Option ℕ
  own _ = Some f.token.number

  abbrev direct_names : ℕ → Option ℕ
  direct_names = find_in (namer_direct e) (e * 1) f.direct.slots.items

  abbrev indirect_names : ℕ → Option ℕ
  indirect_names = find_in (namer_indirect e) (e * (e * 1)) f.indirect.slots.items

  abbrev double_names : ℕ → Option ℕ
  double_names = find_in (namer_double e) (e * (e * (e * 1))) f.double.slots.items

  module _ (x : Entries (Branch Placed)) where
    abbrev new_direct : ℕ → Option ℕ
    new_direct = find_in (namer_direct e) (e * 1) x.slots.items

    abbrev found_direct : ℕ → Option Placed
    found_direct = find_in (find_direct e) (e * 1) x.slots.items

    pub keeps_direct : KeepsNamers found_direct direct_names new_direct → KeepsNamers (ticket_at (record f { direct = x })) (namer_at f) (namer_at (record f { direct = x }))
    keeps_direct keeps =
        keeps_rest d (in_tickets f) (joined (2 * e) found_direct (joined (2 * (e * e)) (in_indirect f) (in_double f)))
        (joined (2 * e) direct_names (joined (2 * (e * e)) indirect_names double_names)) (joined (2 * e) new_direct (joined (2 * (e * e)) indirect_names double_names)) own
        (keeps_first (2 * e) found_direct (joined (2 * (e * e)) (in_indirect f) (in_double f)) direct_names new_direct (joined (2 * (e * e)) indirect_names double_names) keeps)

    pub names_direct : KeepsNames direct_names new_direct → KeepsNames (namer_at f) (namer_at (record f { direct = x }))
    names_direct keeps =
        names_rest d (joined (2 * e) direct_names (joined (2 * (e * e)) indirect_names double_names)) (joined (2 * e) new_direct (joined (2 * (e * e)) indirect_names double_names)) own
        (names_first (2 * e) direct_names new_direct (joined (2 * (e * e)) indirect_names double_names) keeps)

    pub same_direct : Same direct_names new_direct → Same (namer_at f) (namer_at (record f { direct = x }))
    same_direct same = same_2 d (2 * e) (2 * (e * e)) own direct_names indirect_names double_names new_direct same

  module _ (x : Entries (Branch (Branch Placed))) where
    abbrev new_indirect : ℕ → Option ℕ
    new_indirect = find_in (namer_indirect e) (e * (e * 1)) x.slots.items

    abbrev found_indirect : ℕ → Option Placed
    found_indirect = find_in (find_indirect e) (e * (e * 1)) x.slots.items

    pub keeps_indirect : KeepsNamers found_indirect indirect_names new_indirect → KeepsNamers (ticket_at (record f { indirect = x })) (namer_at f) (namer_at (record f { indirect = x }))
    keeps_indirect keeps =
        keeps_rest d (in_tickets f) (joined (2 * e) (in_direct f) (joined (2 * (e * e)) found_indirect (in_double f)))
        (joined (2 * e) direct_names (joined (2 * (e * e)) indirect_names double_names)) (joined (2 * e) direct_names (joined (2 * (e * e)) new_indirect double_names)) own
        (keeps_rest (2 * e) (in_direct f) (joined (2 * (e * e)) found_indirect (in_double f)) (joined (2 * (e * e)) indirect_names double_names) (joined (2 * (e * e)) new_indirect double_names) direct_names
        (keeps_first (2 * (e * e)) found_indirect (in_double f) indirect_names new_indirect double_names keeps))

    pub names_indirect : KeepsNames indirect_names new_indirect → KeepsNames (namer_at f) (namer_at (record f { indirect = x }))
    names_indirect keeps =
        names_rest d (joined (2 * e) direct_names (joined (2 * (e * e)) indirect_names double_names)) (joined (2 * e) direct_names (joined (2 * (e * e)) new_indirect double_names)) own
        (names_rest (2 * e) (joined (2 * (e * e)) indirect_names double_names) (joined (2 * (e * e)) new_indirect double_names) direct_names
        (names_first (2 * (e * e)) indirect_names new_indirect double_names keeps))

    pub same_indirect : Same indirect_names new_indirect → Same (namer_at f) (namer_at (record f { indirect = x }))
    same_indirect = same_3 d (2 * e) (2 * (e * e)) own direct_names indirect_names double_names new_indirect

  module _ (x : Entries (Branch (Branch (Branch Placed)))) where
    abbrev new_double : ℕ → Option ℕ
    new_double = find_in (namer_double e) (e * (e * (e * 1))) x.slots.items

    abbrev found_double : ℕ → Option Placed
    found_double = find_in (find_double e) (e * (e * (e * 1))) x.slots.items

    pub keeps_double : KeepsNamers found_double double_names new_double → KeepsNamers (ticket_at (record f { double = x })) (namer_at f) (namer_at (record f { double = x }))
    keeps_double keeps =
        keeps_rest d (in_tickets f) (joined (2 * e) (in_direct f) (joined (2 * (e * e)) (in_indirect f) found_double))
        (joined (2 * e) direct_names (joined (2 * (e * e)) indirect_names double_names)) (joined (2 * e) direct_names (joined (2 * (e * e)) indirect_names new_double)) own
        (keeps_rest (2 * e) (in_direct f) (joined (2 * (e * e)) (in_indirect f) found_double) (joined (2 * (e * e)) indirect_names double_names) (joined (2 * (e * e)) indirect_names new_double) direct_names
        (keeps_rest (2 * (e * e)) (in_indirect f) found_double double_names new_double indirect_names keeps))

    pub names_double : KeepsNames double_names new_double → KeepsNames (namer_at f) (namer_at (record f { double = x }))
    names_double keeps =
        names_rest d (joined (2 * e) direct_names (joined (2 * (e * e)) indirect_names double_names)) (joined (2 * e) direct_names (joined (2 * (e * e)) indirect_names new_double)) own
        (names_rest (2 * e) (joined (2 * (e * e)) indirect_names double_names) (joined (2 * (e * e)) indirect_names new_double) direct_names
        (names_rest (2 * (e * e)) double_names new_double indirect_names keeps))

    pub same_double : Same double_names new_double → Same (namer_at f) (namer_at (record f { double = x }))
    same_double = same_4 d (2 * e) (2 * (e * e)) own direct_names indirect_names double_names new_double

-- ---- the owner of the definitions

one_named : (e : ℕ) (x : Option (Branch Placed)) (j s : ℕ) → owner_in x s ≡ named_by (namer_direct e x j) s
one_named e None j s = refl
one_named e (Some b) j s = refl

two_named : (e : ℕ) (x : Option (Branch (Branch Placed))) (j s : ℕ) → owner_in (below x (j / e)) s ≡ named_by (namer_indirect e x j) s
two_named e None j s = refl
two_named e (Some b) j s =
    one_named e (entry_at b.entries.slots.items (j / e)) (j % e) s
    ∙ ap (λ w. named_by (namer_direct e (entry_at b.entries.slots.items (j / w)) (j % w)) s) (sym (times_one e))

three_named : (e : ℕ) → 0 < e → (x : Option (Branch (Branch (Branch Placed)))) (j s : ℕ)
    → owner_in (below (below x (j / (e * e))) ((j / e) % e)) s ≡ named_by (namer_double e x j) s
three_named e p None j s = refl
three_named e p (Some b) j s =
    let xs = b.entries.slots.items in
    ap (λ a. owner_in (below (entry_at xs (j / (e * e))) a) s) (sym (second j e p))
    ∙ (two_named e (entry_at xs (j / (e * e))) (j % (e * e)) s
    ∙ ap (λ w. named_by (namer_indirect e (entry_at xs (j / w)) (j % w)) s) (sym (ap (λ z. e * z) (times_one e))))

module _ {B L : Type 0} (f : FileState B L) where
  direct_named : (k : ℕ) → let e = node_entries f.shape in owner_in (entry_at f.direct.slots.items (k / e)) (k % e) ≡ named_by (direct_names f k) (k % e)
  direct_named k =
      let e = node_entries f.shape in
      let xs = f.direct.slots.items in
      one_named e (entry_at xs (k / e)) (k % e) (k % e) ∙ ap (λ w. named_by (namer_direct e (entry_at xs (k / w)) (k % w)) (k % e)) (sym (times_one e))

  indirect_named : (k : ℕ) → let e = node_entries f.shape in
      owner_in (below (entry_at f.indirect.slots.items (2 + k / (e * e) - 2)) ((k / e) % e)) (k % e) ≡ named_by (indirect_names f k) (k % e)
  indirect_named k =
      let e = node_entries f.shape in
      let p = entries_positive f.shape in
      let xs = f.indirect.slots.items in
      let back : 2 + k / (e * e) - 2 ≡ k / (e * e) = omega arith in
      ap (λ a. owner_in (below (entry_at xs a) ((k / e) % e)) (k % e)) back
      ∙ (ap (λ a. owner_in (below (entry_at xs (k / (e * e))) a) (k % e)) (sym (second k e p))
      ∙ (two_named e (entry_at xs (k / (e * e))) (k % (e * e)) (k % e)
      ∙ ap (λ w. named_by (namer_indirect e (entry_at xs (k / w)) (k % w)) (k % e)) (sym (ap (λ z. e * z) (times_one e)))))

  double_named : (k : ℕ) → let e = node_entries f.shape in k < e * (e * e)
      → owner_in (below (below (entry_at f.double.slots.items 0) (k / (e * e))) ((k / e) % e)) (k % e) ≡ named_by (double_names f k) (k % e)
  double_named k h =
      let e = node_entries f.shape in
      let xs = f.double.slots.items in
      let at_zero : ◌≡◌ {A = Option ℕ} (namer_double e (entry_at xs (k / (e * (e * (e * 1))))) (k % (e * (e * (e * 1))))) (namer_double e (entry_at xs 0) k) =
      ap (λ w. namer_double e (entry_at xs (k / w)) (k % w)) (ap (λ z. e * (e * z)) (times_one e))
      ∙ (ap (λ z. namer_double e (entry_at xs z) (k % (e * (e * e)))) (div-eq_of_lt h) ∙ ap (λ z. namer_double e (entry_at xs 0) z) (mod-eq_of_lt h)) in
      three_named e (entries_positive f.shape) (entry_at xs 0) k (k % e) ∙ ap (λ n. named_by n (k % e)) (sym at_zero)

  pub owner_named : (i : ℕ) → i < largest_length f.shape → owner_at f (path f.shape i) ≡ named_by (namer_at f i) (last_entry (path f.shape i))
  owner_named i h =
      let d = inode_entries f.shape in
      let e = node_entries f.shape in
      let own = own f in
      let one = direct_names f in
      let two = indirect_names f in
      let three = double_names f in
      let names : Option Path → Type 0 = λ p. owner_at f p ≡ named_by (namer_at f i) (last_entry p) in
      let third : i - d - 2 * e ≡ i - (d + 2 * e) = omega arith in
      let fourth : i - d - 2 * e - 2 * (e * e) ≡ i - (d + 2 * e + 2 * (e * e)) = omega arith in
      elim (cases_lt i d) [
        | inl low ↦ subst names (sym (path_1 d e i low)) (ap (λ n. named_by n i) (sym (at_first d own (joined (2 * e) one (joined (2 * (e * e)) two three)) i low)))
        | inr past ↦ elim (cases_lt i (d + 2 * e)) [
          | inl low ↦ subst names (sym (path_2 d e i past low))
              (direct_named (i - d) ∙ ap (λ n. named_by n ((i - d) % e)) (sym (in_second d (2 * e) (2 * (e * e)) own one two three i past (omega arith))))
          | inr next ↦ elim (cases_lt i (d + 2 * e + 2 * (e * e))) [
            | inl low ↦
                let k = i - (d + 2 * e) in
                subst names (sym (path_3 d e i next low))
                (indirect_named k ∙ ap (λ n. named_by n (k % e)) (sym (in_third d (2 * e) (2 * (e * e)) own one two three i past (omega arith) (omega arith) ∙ ap two third)))
            | inr last ↦
                let k = i - (d + 2 * e + 2 * (e * e)) in
                subst names (sym (path_4 d e i last h))
                (double_named k (omega arith) ∙ ap (λ n. named_by n (k % e)) (sym (in_fourth d (2 * e) (2 * (e * e)) own one two three i past (omega arith) (omega arith) ∙ ap three fourth)))
          ]
        ]
      ]
