-- An index's path leads through the loaded nodes as through the image's, number by number: so at its end stands the
-- ticket of the block that the image names there, or nothing.
use Rattle.std.proofs.Common.{◌≡◌, ℕ, zero, suc, ◌+◌, ◌-◌, ◌*◌, ◌/◌, ◌%◌, ◌<◌, ◌≤◌, List, length, Option, Some, None, inl, inr, refl, sym, ap, subst, ◌∙◌, arith}
use Rattle.std.specs.Prelude.{slice_index}
use Rattle.std.proofs.lemmas.Bool.{cases_lt}
use Rattle.std.proofs.lemmas.List.{get_or_past}
use Rattle.std.proofs.lemmas.Nat.{div_below, le-div}
use Rattle.geometry.specs.declared.owner.Owner.{Owner}
use Rattle.geometry.specs.declared.owner.Owner.TheVariants.{Data}
use Rattle.geometry.specs.declared.path.Path.{Path}
use Rattle.geometry.specs.declared.path.Path.TheVariants.{Direct, Indirect, Double}
use Rattle.geometry.specs.Path.{inode_entries, node_entries, largest_length, path}
use Rattle.tickets.specs.Placed.{Placed}
use Rattle.nodes.specs.declared.branch.Branch.{Branch}
use Rattle.nodes.specs.Tree.{entry_at}
use Rattle.nodes.specs.Laws.{times_positive}
use Rattle.nodes.specs.declared.file.FileState.{FileState}
use Rattle.nodes.specs.File.{joined, below, ends_at, ticket_at, in_tickets, in_direct, in_indirect, in_double, find_double}
use Rattle.nodes.specs.Owners.{owner_in, owner_at}
use Rattle.nodes.proofs.Bounds.{entries_positive}
use Rattle.nodes.proofs.Joined.{at_rest}
use Rattle.nodes.proofs.Paths.{path_1, path_2, path_3, path_4, path_5, path_is, times_one}
use Rattle.image.specs.Image.{Image, node_of}
use Rattle.image.specs.Walk.{child}
use Rattle.image.specs.Files.{at_end, data_address}
use Rattle.mount_blocks.specs.TreeGoods.{Shelves}
use Rattle.mount_blocks.specs.Loaded.{AreLoaded}
use Rattle.mount_blocks.specs.FileLoaded.{IsLoadedFile, Ended, loaded_ticket, loaded_direct, loaded_indirect, loaded_double}

-- what stands at any entry, where nothing stands past the last
pub at_any : {C : Type 0} (P : ℕ → ℕ → Option C → Type 0) (numbers : List ℕ) (slots : List (Option C)) → AreLoaded P numbers slots → ((k : ℕ) → P k 0 None)
    → (k : ℕ) → P k (slice_index numbers k) (entry_at slots k)
at_any P numbers slots loaded none k = elim (cases_lt k (length numbers)) [
  | inl lt ↦ loaded.1 k lt
  | inr ge ↦
      let no_number : slice_index numbers k ≡ 0 = get_or_past numbers k 0 ge in
      let no_slot : entry_at slots k ≡ None = get_or_past slots k None (omega (arith, loaded.0)) in
      subst (λ n. P k n (entry_at slots k)) (sym no_number) (subst (P k 0) (sym no_slot) (none k))
]

module _ (image : Image) (all : Shelves Placed) where
  ticket_end : (parent s number : ℕ) (v : Option Placed) → loaded_ticket all parent s number v → (owner : Option Owner) → owner ≡ Some (Data parent s) → Ended all number owner v
  ticket_end parent s number None l owner is = l
  ticket_end parent s number (Some t) l owner is = (l.0, l.1, ap (λ m. m.address) l.2, is ∙ ap (λ m. Some m.owner) (sym l.2))

  direct_end : (n : ℕ) (x : Option (Branch Placed)) → loaded_direct image all n x → (s : ℕ) → Ended all (slice_index (node_of image n).addresses s) (owner_in x s) (below x s)
  direct_end n None zero_is s = subst (λ m. Ended all (slice_index (node_of image m).addresses s) None None) (sym zero_is) refl
  direct_end n (Some b) l s =
      let at = at_any (loaded_ticket all n) (node_of image n).addresses b.entries.slots.items l.below (λ k. refl) s in
      ticket_end n s (slice_index (node_of image n).addresses s) (entry_at b.entries.slots.items s) at (Some (Data b.token.number s)) (ap (λ m. Some (Data m s)) l.number_is)

  pub indirect_at : (n : ℕ) (x : Option (Branch (Branch Placed))) → loaded_indirect image all n x → (a : ℕ) → loaded_direct image all (child image n a) (below x a)
  indirect_at n None zero_is a = subst (λ m. loaded_direct image all (child image m a) None) (sym zero_is) refl
  indirect_at n (Some b) l a = at_any (λ _ m v. loaded_direct image all m v) (node_of image n).children b.entries.slots.items l.below (λ k. refl) a

  pub double_at : (n : ℕ) (x : Option (Branch (Branch (Branch Placed)))) → loaded_double image all n x → (a : ℕ) → loaded_indirect image all (child image n a) (below x a)
  double_at n None zero_is a = subst (λ m. loaded_indirect image all (child image m a) None) (sym zero_is) refl
  double_at n (Some b) l a = at_any (λ _ m v. loaded_indirect image all m v) (node_of image n).children b.entries.slots.items l.below (λ k. refl) a

  module _ {B L : Type 0} (inode : ℕ) (f : FileState B L) (l : IsLoadedFile image f.shape all inode f) where
    inode_end : (s : ℕ) → Ended all (slice_index (node_of image inode).addresses s) (Some (Data f.token.number s)) (entry_at f.tickets.slots.items s)
    inode_end s =
        let at = at_any (loaded_ticket all inode) (node_of image inode).addresses f.tickets.slots.items l.tickets (λ k. refl) s in
        ticket_end inode s (slice_index (node_of image inode).addresses s) (entry_at f.tickets.slots.items s) at (Some (Data f.token.number s)) (ap (λ m. Some (Data m s)) l.number_is)

    pub direct_of : (p : ℕ) → p < 2 → loaded_direct image all (child image inode p) (entry_at f.direct.slots.items p)
    direct_of zero h = l.direct.1 0 (omega arith)
    direct_of (suc zero) h = l.direct.1 1 (omega arith)
    direct_of (suc (suc p)) h = absurd (omega arith)

    pub indirect_of : (p q : ℕ) → p ≡ 2 + q → q < 2 → loaded_indirect image all (child image inode p) (entry_at f.indirect.slots.items q)
    indirect_of p zero e h = subst (λ r. loaded_indirect image all (child image inode r) (entry_at f.indirect.slots.items 0)) (sym e) (l.indirect.1 0 (omega arith))
    indirect_of p (suc zero) e h = subst (λ r. loaded_indirect image all (child image inode r) (entry_at f.indirect.slots.items 1)) (sym e) (l.indirect.1 1 (omega arith))
    indirect_of p (suc (suc q)) e h = absurd (omega arith)

    pub double_of : loaded_double image all (child image inode 4) (entry_at f.double.slots.items 0)
    double_of = l.double.1 0 (omega arith)

    abbrev EndsAt : Option Path → Type 0
    EndsAt p = Ended all (at_end image inode p) (owner_at f p) (ends_at f p)

    ends_direct : (p s : ℕ) → p < 2 → EndsAt (Some (Direct p s))
    ends_direct p s h = direct_end (child image inode p) (entry_at f.direct.slots.items p) (direct_of p h) s

    ends_indirect : (q a s : ℕ) → q < 2 → EndsAt (Some (Indirect (2 + q) a s))
    ends_indirect q a s h =
        let back : 2 + q - 2 ≡ q = omega arith in
        let at : loaded_indirect image all (child image inode (2 + q)) (entry_at f.indirect.slots.items (2 + q - 2)) = subst (λ z. loaded_indirect image all (child image inode (2 + q)) (entry_at f.indirect.slots.items z)) (sym back) (indirect_of (2 + q) q refl h) in
        direct_end (child image (child image inode (2 + q)) a) (below (entry_at f.indirect.slots.items (2 + q - 2)) a)
        (indirect_at (child image inode (2 + q)) (entry_at f.indirect.slots.items (2 + q - 2)) at a) s

    ends_double : (a b s : ℕ) → EndsAt (Some (Double a b s))
    ends_double a b s =
        let top = entry_at f.double.slots.items 0 in
        let one = double_at (child image inode 4) top double_of a in
        let two = indirect_at (child image (child image inode 4) a) (below top a) one b in
        direct_end (child image (child image (child image inode 4) a) b) (below (below top a) b) two s

    ends : (i : ℕ) → i < largest_length f.shape → EndsAt (path f.shape i)
    ends i h =
        let d = inode_entries f.shape in
        let e = node_entries f.shape in
        let p = entries_positive f.shape in
        elim (cases_lt i d) [
          | inl low ↦ subst EndsAt (sym (path_1 d e i low)) (inode_end i)
          | inr past ↦ elim (cases_lt i (d + 2 * e)) [
            | inl low ↦ subst EndsAt (sym (path_2 d e i past low)) (ends_direct ((i - d) / e) ((i - d) % e) (div_below (i - d) e 2 p (omega arith)))
            | inr next ↦ elim (cases_lt i (d + 2 * e + 2 * (e * e))) [
              | inl low ↦
                  let k = i - (d + 2 * e) in
                  subst EndsAt (sym (path_3 d e i next low)) (ends_indirect (k / (e * e)) ((k / e) % e) (k % e) (div_below k (e * e) 2 (times_positive e e p p) (omega arith)))
              | inr last ↦
                  let k = i - (d + 2 * e + 2 * (e * e)) in
                  subst EndsAt (sym (path_4 d e i last h)) (ends_double (k / (e * e)) ((k / e) % e) (k % e))
            ]
          ]
        ]

    past_double : (k : ℕ) → let e = node_entries f.shape in e * (e * e) ≤ k → in_double f k ≡ None
    past_double k h =
        let e = node_entries f.shape in
        let xs = f.double.slots.items in
        let w : e * (e * (e * 1)) ≡ e * (e * e) = ap (λ z. e * (e * z)) (times_one e) in
        let p = entries_positive f.shape in
        let cube : 0 < e * (e * e) = times_positive e (e * e) p (times_positive e e p p) in
        let far : 1 ≤ k / (e * (e * (e * 1))) = le-div 1 k (e * (e * (e * 1))) (omega arith) (omega arith) in
        let none : entry_at xs (k / (e * (e * (e * 1)))) ≡ None = get_or_past xs (k / (e * (e * (e * 1)))) None (omega (arith, l.double.0)) in
        ap (λ x. find_double e x (k % (e * (e * (e * 1))))) none

    past : (i : ℕ) → largest_length f.shape ≤ i → ticket_at f i ≡ None
    past i h =
        let d = inode_entries f.shape in
        let e = node_entries f.shape in
        let rest2 = joined (2 * (e * e)) (in_indirect f) (in_double f) in
        let rest1 = joined (2 * e) (in_direct f) rest2 in
        at_rest d (in_tickets f) rest1 i (omega arith)
        ∙ at_rest (2 * e) (in_direct f) rest2 (i - d) (omega arith)
        ∙ at_rest (2 * (e * e)) (in_indirect f) (in_double f) (i - d - 2 * e) (omega arith)
        ∙ past_double (i - d - 2 * e - 2 * (e * e)) (omega arith)

    -- at each index stands the ticket of the block that the image names there, and who owns it is who names it
    pub ended : (i : ℕ) → Ended all (data_address f.shape image inode i) (owner_at f (path f.shape i)) (ticket_at f i)
    ended i = elim (cases_lt i (largest_length f.shape)) [
      | inl low ↦ subst (λ v. Ended all (data_address f.shape image inode i) (owner_at f (path f.shape i)) v) (sym (path_is f i low)) (ends i low)
      | inr high ↦
          let none : path f.shape i ≡ None = path_5 (inode_entries f.shape) (node_entries f.shape) i high in
          subst (λ v. Ended all (data_address f.shape image inode i) (owner_at f (path f.shape i)) v) (sym (past i high))
          (subst (λ p. Ended all (at_end image inode p) (owner_at f p) None) (sym none) refl)
    ]
