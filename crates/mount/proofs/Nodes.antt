-- A loaded entry shows the number that the image's node has there, at each level: so each node of the file is the
-- image's of that number, with the token that stood for it in the stock.
use Rattle.std.proofs.Common.{◌≡◌, ◌≢◌, ℕ, zero, suc, ◌-◌, ◌<◌, ◌≤◌, ◌==◌, false, List, [], ◌∷◌, ◌++◌, length, map, Option, Some, None, inl, inr, refl, sym, ap, subst, ◌∙◌, ne_eqb, arith}
use Rattle.std.specs.Prelude.{slice_index, slice_index_or}
use Rattle.std.specs.List.{flat_map}
use Rattle.geometry.specs.declared.geometry.Geometry.{Geometry}
use Rattle.geometry.specs.declared.kind.Kind.TheVariants.{File}
use Rattle.geometry.specs.Path.{node_entries, largest_length}
use Rattle.rights_books.specs.declared.claim.TakenNumber.{TakenNumber}
use Rattle.tickets.specs.Placed.{Placed}
use Rattle.nodes.specs.declared.branch.Branch.{Branch}
use Rattle.nodes.specs.Tree.{entry_at}
use Rattle.nodes.specs.Change.{TreeNode}
use Rattle.nodes.specs.declared.file.FileState.{FileState}
use Rattle.nodes.specs.File.{address_of, nid_of, inode_of}
use Rattle.image_law.specs.Items.{Among}
use Rattle.image_law.proofs.Weighing.{among_split}
use Rattle.nodes_law.specs.Nodes.{direct_nodes, indirect_nodes, double_nodes, nodes_below, nodes_of, node_in}
use Rattle.image.specs.Node.{Node, HasEntries, IsPlain}
use Rattle.image.specs.Image.{Image, no_node, entry_of, node_of}
use Rattle.image.specs.Walk.{child}
use Rattle.image.specs.Rules.{IsLawful, IsNodeOf, HasRange}
use Rattle.mount_blocks.specs.TreeGoods.{Shelves}
use Rattle.mount_blocks.specs.FileLoaded.{FitsFile, IsLoadedFile, fits_direct, fits_indirect, fits_double, loaded_ticket, loaded_direct, loaded_indirect, loaded_double}
use Rattle.mount_blocks.specs.Goods.{AreGoods}
use Rattle.mount_blocks.proofs.Passing.{no_token, some_token, taken_of, entry_within}
use Rattle.mount_blocks.proofs.States.{same_some}

-- a node of a file of this inode, as the image has it
pub record IsNodeFrom (image : Image) (all : Shelves Placed) (inode : ℕ) (n : TreeNode) : Type 0 where
  pub token : slice_index_or all.tokens n.token.number None ≡ Some n.token
  pub belongs : (entry_of image n.token.number).inode ≡ inode
  pub is : node_in inode n ≡ node_of image n.token.number

-- a list by its items
same_list : {C : Type 0} (f : Option C → ℕ) (slots : List (Option C)) (numbers : List ℕ) → length slots ≡ length numbers → ((k : ℕ) → k < length numbers → f (entry_at slots k) ≡ slice_index numbers k) → map f slots ≡ numbers
same_list f [] [] long each = refl
same_list f [] (n ∷ ns) long each = absurd (omega arith)
same_list f (s ∷ ss) [] long each = absurd (omega arith)
same_list f (s ∷ ss) (n ∷ ns) long each =
    let rest = same_list f ss ns (omega arith) (λ k low. each (suc k) (omega arith)) in
    let here : f s ≡ n = each 0 (omega arith) in
    λ i. here i ∷ rest i

five : (xs : List ℕ) → length xs ≡ 5 → slice_index xs 0 ∷ slice_index xs 1 ∷ slice_index xs 2 ∷ slice_index xs 3 ∷ slice_index xs 4 ∷ [] ≡ xs
five [] e = absurd (omega arith)
five (a ∷ []) e = absurd (omega arith)
five (a ∷ b ∷ []) e = absurd (omega arith)
five (a ∷ b ∷ c ∷ []) e = absurd (omega arith)
five (a ∷ b ∷ c ∷ d ∷ []) e = absurd (omega arith)
five (a ∷ b ∷ c ∷ d ∷ k ∷ []) e = refl
five (a ∷ b ∷ c ∷ d ∷ k ∷ l ∷ xs) e = absurd (omega arith)

-- what is among the lists of some items is among that of one of them
among_one : {C : Type 0} (g : Option C → List TreeNode) (n : TreeNode) (xs : List (Option C)) → Among n (flat_map g xs) → (k : ℕ) × (k < length xs) × Among n (g (entry_at xs k))
among_one g n [] m = absurd m
among_one g n (x ∷ xs) m = elim (among_split n (g x) (flat_map g xs) m) [
  | inl here ↦ (0, omega arith, here)
  | inr rest ↦ let found = among_one g n xs rest in (suc found.0, omega (arith, found.1), found.2)
]

ticket_number : (all : Shelves Placed) (parent s number : ℕ) (v : Option Placed) → loaded_ticket all parent s number v → address_of v ≡ number
ticket_number all parent s number None l = sym l
ticket_number all parent s number (Some t) l = ap (λ m. m.address) l.2

module _ (image : Image) (all : Shelves Placed) where
  number_1 : (n : ℕ) (v : Option (Branch Placed)) → loaded_direct image all n v → nid_of v ≡ n
  number_1 n None l = sym l
  number_1 n (Some b) l = l.number_is

  number_2 : (n : ℕ) (v : Option (Branch (Branch Placed))) → loaded_indirect image all n v → nid_of v ≡ n
  number_2 n None l = sym l
  number_2 n (Some b) l = l.number_is

  number_3 : (n : ℕ) (v : Option (Branch (Branch (Branch Placed)))) → loaded_double image all n v → nid_of v ≡ n
  number_3 n None l = sym l
  number_3 n (Some b) l = l.number_is

plain_length : (class : ℕ) (node : Node) → node.class ≡ suc class → IsPlain node → (node.length ≡ 0) × (node.kind ≡ File)
plain_length class node is (inl none) = absurd (omega arith)
plain_length class node is (inr plain) = plain

module _ (geometry : Geometry) (image : Image) (lawful : IsLawful geometry image) (bytes : ℕ → List ℕ) (all : Shelves Placed) (goods : AreGoods geometry image bytes all.tickets all.tokens) where
  abbrev e : ℕ
  e = node_entries geometry.shape

  -- a number whose token is there has an entry
  pub has_entry : (n : ℕ) (token : TakenNumber) → slice_index_or all.tokens n None ≡ Some token → (entry_of image n).address ≢ 0
  has_entry n token at none = (let off = sym (no_token image bytes n none) ∙ (sym (goods.nodes n) ∙ at) in cc)

  -- and shows it
  pub token_is : (n : ℕ) (token : TakenNumber) → slice_index_or all.tokens n None ≡ Some token
      → token ≡ record { number = n; inode = (entry_of image n).inode; address = (entry_of image n).address; bytes = bytes (entry_of image n).address }
  token_is n token at = same_some (slice_index_or all.tokens n None) token _ at (goods.nodes n ∙ some_token image bytes n (has_entry n token at))

  node_rule : (n : ℕ) (token : TakenNumber) → slice_index_or all.tokens n None ≡ Some token → IsNodeOf geometry image n
  node_rule n token at =
      let some = has_entry n token at in
      let within = entry_within geometry image lawful n some in
      lawful 3 (omega arith) (omega arith) n within.1 (taken_of image n some)

  node_range : (n : ℕ) (token : TakenNumber) → slice_index_or all.tokens n None ≡ Some token → HasRange geometry (node_of image n)
  node_range n token at =
      let some = has_entry n token at in
      let within = entry_within geometry image lawful n some in
      let range = lawful 1 (omega arith) (omega arith) in
      let many = range.as_many in
      let positive : (n == 0) ≡ false = ne_eqb n 0 (λ z. (let low = within.0 in absurd (omega arith))) in
      let is : node_of image n ≡ slice_index_or image.nodes (n - 1) no_node = rw positive refl in
      subst (HasRange geometry) (sym is) (range.nodes (n - 1) no_node (let low = within.0 in let high = within.1 in omega arith))

  -- a file is no longer than its tree reaches
  pub length_within : (n : ℕ) (token : TakenNumber) → slice_index_or all.tokens n None ≡ Some token → (node_of image n).length ≤ largest_length geometry.shape
  length_within n token at = (node_range n token at).length

  module _ (inode : ℕ) where
    -- a direct node with what its entries are
    from_1 : (n : ℕ) (b : Branch Placed) → loaded_direct image all n (Some b) → fits_direct image e inode n → (m : TreeNode) → Among m (direct_nodes (Some b)) → IsNodeFrom image all inode m
    from_1 n b l fits m (inr rest) = absurd rest
    from_1 n b l fits m (inl is) = subst (IsNodeFrom image all inode) is (
        let there = fits l.some in
        let at : slice_index_or all.tokens n None ≡ Some b.token = l.token in
        let rule = node_rule n b.token at in
        let range = node_range n b.token at in
        let class : (node_of image n).class ≡ 1 = there.class in
        let entries : HasEntries geometry.shape (node_of image n) 1 = subst (HasEntries geometry.shape (node_of image n)) class range.entries in
        let plain = plain_length 0 (node_of image n) class range.plain in
        let addresses = same_list address_of b.entries.slots.items (node_of image n).addresses l.below.0 (λ k low. ticket_number all n k (slice_index (node_of image n).addresses k) (entry_at b.entries.slots.items k) (l.below.1 k low)) in
        let node_is : node_in inode (record { token = b.token; class = 1; kind = File; length = 0; addresses = map address_of b.entries.slots.items; children = []; dirty = b.entries.dirty }) ≡ node_of image n =
        (λ i. record { nid = (l.number_is ∙ sym rule.number) i; inode = (sym there.belongs ∙ sym rule.belongs) i; class = sym class i; length = sym plain.0 i; kind = sym plain.1 i; addresses = addresses i; children = sym entries.1 i }) in
        record {
          token = subst (λ k. slice_index_or all.tokens k None ≡ Some b.token) (sym l.number_is) at;
          belongs = ap (λ k. (entry_of image k).inode) l.number_is ∙ there.belongs;
          is = node_is ∙ ap (node_of image) (sym l.number_is);
        })

    each_1 : (n : ℕ) (v : Option (Branch Placed)) → loaded_direct image all n v → fits_direct image e inode n → (m : TreeNode) → Among m (direct_nodes v) → IsNodeFrom image all inode m
    each_1 n None l fits m none = absurd none
    each_1 n (Some b) l fits m among = from_1 n b l fits m among

    -- the same of an indirect node, above nodes of any level
    own_2 : {C : Type 0} (n : ℕ) (b : Branch C) (numbers : Option C → ℕ) → 0 < n → slice_index_or all.tokens n None ≡ Some b.token → b.token.number ≡ n → (entry_of image n).inode ≡ inode → (node_of image n).class ≡ 2
        → length b.entries.slots.items ≡ length (node_of image n).children → ((k : ℕ) → k < length (node_of image n).children → numbers (entry_at b.entries.slots.items k) ≡ slice_index (node_of image n).children k)
        → IsNodeFrom image all inode (record { token = b.token; class = 2; kind = File; length = 0; addresses = []; children = map numbers b.entries.slots.items; dirty = b.entries.dirty })
    own_2 n b numbers some at number_is belongs class long each =
        let rule = node_rule n b.token at in
        let range = node_range n b.token at in
        let entries : HasEntries geometry.shape (node_of image n) 2 = subst (HasEntries geometry.shape (node_of image n)) class range.entries in
        let plain = plain_length 1 (node_of image n) class range.plain in
        let children = same_list numbers b.entries.slots.items (node_of image n).children long each in
        let node_is : node_in inode (record { token = b.token; class = 2; kind = File; length = 0; addresses = []; children = map numbers b.entries.slots.items; dirty = b.entries.dirty }) ≡ node_of image n =
        (λ i. record { nid = (number_is ∙ sym rule.number) i; inode = (sym belongs ∙ sym rule.belongs) i; class = sym class i; length = sym plain.0 i; kind = sym plain.1 i; addresses = sym entries.0 i; children = children i }) in
        record {
          token = subst (λ k. slice_index_or all.tokens k None ≡ Some b.token) (sym number_is) at;
          belongs = ap (λ k. (entry_of image k).inode) number_is ∙ belongs;
          is = node_is ∙ ap (node_of image) (sym number_is);
        }

    each_2 : (n : ℕ) (v : Option (Branch (Branch Placed))) → loaded_indirect image all n v → fits_indirect image e inode n → (m : TreeNode) → Among m (indirect_nodes v) → IsNodeFrom image all inode m
    each_2 n None l fits m none = absurd none
    each_2 n (Some b) l fits m (inl is) =
        let there = fits l.some in
        subst (IsNodeFrom image all inode) is (own_2 n b nid_of l.some l.token l.number_is there.belongs there.class l.below.0 (λ k low. number_1 image all (slice_index (node_of image n).children k) (entry_at b.entries.slots.items k) (l.below.1 k low)))
    each_2 n (Some b) l fits m (inr rest) =
        let there = fits l.some in
        let found = among_one direct_nodes m b.entries.slots.items rest in
        let k = found.0 in
        each_1 (slice_index (node_of image n).children k) (entry_at b.entries.slots.items k) (l.below.1 k (let low = found.1 in let long = l.below.0 in omega arith)) (there.below k) m found.2

    each_3 : (n : ℕ) (v : Option (Branch (Branch (Branch Placed)))) → loaded_double image all n v → fits_double image e inode n → (m : TreeNode) → Among m (double_nodes v) → IsNodeFrom image all inode m
    each_3 n None l fits m none = absurd none
    each_3 n (Some b) l fits m (inl is) =
        let there = fits l.some in
        subst (IsNodeFrom image all inode) is (own_2 n b nid_of l.some l.token l.number_is there.belongs there.class l.below.0 (λ k low. number_2 image all (slice_index (node_of image n).children k) (entry_at b.entries.slots.items k) (l.below.1 k low)))
    each_3 n (Some b) l fits m (inr rest) =
        let there = fits l.some in
        let found = among_one indirect_nodes m b.entries.slots.items rest in
        let k = found.0 in
        each_2 (slice_index (node_of image n).children k) (entry_at b.entries.slots.items k) (l.below.1 k (let low = found.1 in let long = l.below.0 in omega arith)) (there.below k) m found.2

    -- all nodes of a file
    module _ {B L : Type 0} (f : FileState B L) (l : IsLoadedFile image geometry.shape all inode f) (fits : FitsFile image geometry.shape inode) where
      inode_from : IsNodeFrom image all inode (inode_of f)
      inode_from =
          let rule = node_rule inode f.token l.token in
          let range = node_range inode f.token l.token in
          let entries : HasEntries geometry.shape (node_of image inode) 0 = subst (HasEntries geometry.shape (node_of image inode)) fits.class range.entries in
          let addresses = same_list address_of f.tickets.slots.items (node_of image inode).addresses l.tickets.0 (λ k low. ticket_number all inode k (slice_index (node_of image inode).addresses k) (entry_at f.tickets.slots.items k) (l.tickets.1 k low)) in
          let direct = same_list nid_of f.direct.slots.items (child image inode 0 ∷ child image inode 1 ∷ []) l.direct.0 (λ k low. number_1 image all (slice_index (child image inode 0 ∷ child image inode 1 ∷ []) k) (entry_at f.direct.slots.items k) (l.direct.1 k low)) in
          let indirect = same_list nid_of f.indirect.slots.items (child image inode 2 ∷ child image inode 3 ∷ []) l.indirect.0 (λ k low. number_2 image all (slice_index (child image inode 2 ∷ child image inode 3 ∷ []) k) (entry_at f.indirect.slots.items k) (l.indirect.1 k low)) in
          let double = same_list nid_of f.double.slots.items (child image inode 4 ∷ []) l.double.0 (λ k low. number_3 image all (slice_index (child image inode 4 ∷ []) k) (entry_at f.double.slots.items k) (l.double.1 k low)) in
          let joined : map nid_of f.direct.slots.items ++ (map nid_of f.indirect.slots.items ++ map nid_of f.double.slots.items) ≡ child image inode 0 ∷ child image inode 1 ∷ child image inode 2 ∷ child image inode 3 ∷ child image inode 4 ∷ [] =
          (λ i. direct i ++ (indirect i ++ double i)) in
          let children = joined ∙ five (node_of image inode).children entries.1 in
          let node_is : node_in inode (inode_of f) ≡ node_of image inode =
          (λ i. record { nid = (l.number_is ∙ sym rule.number) i; inode = (sym fits.belongs ∙ sym rule.belongs) i; class = sym fits.class i; length = l.length_is i; kind = l.kind_is i; addresses = addresses i; children = children i }) in
          record {
            token = subst (λ k. slice_index_or all.tokens k None ≡ Some f.token) (sym l.number_is) l.token;
            belongs = ap (λ k. (entry_of image k).inode) l.number_is ∙ fits.belongs;
            is = node_is ∙ ap (node_of image) (sym l.number_is);
          }

      two_pairs : (k : ℕ) → k < 2 → (P : ℕ → Type 0) (a b : ℕ) → P a → P b → P (slice_index (a ∷ b ∷ []) k)
      two_pairs zero low P a b p q = p
      two_pairs (suc zero) low P a b p q = q
      two_pairs (suc (suc k)) low P a b p q = absurd (omega arith)

      direct_from : (m : TreeNode) → Among m (flat_map direct_nodes f.direct.slots.items) → IsNodeFrom image all inode m
      direct_from m among =
          let found = among_one direct_nodes m f.direct.slots.items among in
          let k = found.0 in
          let low : k < 2 = let short = found.1 in let long = l.direct.0 in omega arith in
          each_1 (slice_index (child image inode 0 ∷ child image inode 1 ∷ []) k) (entry_at f.direct.slots.items k) (l.direct.1 k low)
          (two_pairs k low (fits_direct image e inode) (child image inode 0) (child image inode 1) (fits.direct 0 (omega arith)) (fits.direct 1 (omega arith))) m found.2

      indirect_from : (m : TreeNode) → Among m (flat_map indirect_nodes f.indirect.slots.items) → IsNodeFrom image all inode m
      indirect_from m among =
          let found = among_one indirect_nodes m f.indirect.slots.items among in
          let k = found.0 in
          let low : k < 2 = let short = found.1 in let long = l.indirect.0 in omega arith in
          each_2 (slice_index (child image inode 2 ∷ child image inode 3 ∷ []) k) (entry_at f.indirect.slots.items k) (l.indirect.1 k low)
          (two_pairs k low (fits_indirect image e inode) (child image inode 2) (child image inode 3) (fits.indirect 0 (omega arith)) (fits.indirect 1 (omega arith))) m found.2

      double_one : (k : ℕ) → k < 1 → (m : TreeNode) → Among m (double_nodes (entry_at f.double.slots.items k)) → IsNodeFrom image all inode m
      double_one zero low m among = each_3 (child image inode 4) (entry_at f.double.slots.items 0) (l.double.1 0 (omega arith)) fits.double m among
      double_one (suc k) low m among = absurd (omega arith)

      double_from : (m : TreeNode) → Among m (flat_map double_nodes f.double.slots.items) → IsNodeFrom image all inode m
      double_from m among =
          let found = among_one double_nodes m f.double.slots.items among in
          double_one found.0 (let short = found.1 in let long = l.double.0 in omega arith) m found.2

      -- below the inode
      pub below_from : (m : TreeNode) → Among m (nodes_below f) → IsNodeFrom image all inode m
      below_from m among = elim (among_split m (flat_map direct_nodes f.direct.slots.items) (flat_map indirect_nodes f.indirect.slots.items ++ flat_map double_nodes f.double.slots.items) among) [
        | inl direct ↦ direct_from m direct
        | inr rest ↦ elim (among_split m (flat_map indirect_nodes f.indirect.slots.items) (flat_map double_nodes f.double.slots.items) rest) [
          | inl indirect ↦ indirect_from m indirect
          | inr double ↦ double_from m double
        ]
      ]

      pub node_from : (m : TreeNode) → Among m (nodes_of f) → IsNodeFrom image all inode m
      node_from m (inl is) = subst (IsNodeFrom image all inode) is inode_from
      node_from m (inr rest) = below_from m rest

-- the class of a node below an inode
direct_class : (v : Option (Branch Placed)) (m : TreeNode) → Among m (direct_nodes v) → 0 < m.class
direct_class None m none = absurd none
direct_class (Some b) m (inl is) = subst (λ (n : TreeNode). 0 < n.class) is (omega arith)
direct_class (Some b) m (inr none) = absurd none

indirect_class : (v : Option (Branch (Branch Placed))) (m : TreeNode) → Among m (indirect_nodes v) → 0 < m.class
indirect_class None m none = absurd none
indirect_class (Some b) m (inl is) = subst (λ (n : TreeNode). 0 < n.class) is (omega arith)
indirect_class (Some b) m (inr rest) = let found = among_one direct_nodes m b.entries.slots.items rest in direct_class (entry_at b.entries.slots.items found.0) m found.2

double_class : (v : Option (Branch (Branch (Branch Placed)))) (m : TreeNode) → Among m (double_nodes v) → 0 < m.class
double_class None m none = absurd none
double_class (Some b) m (inl is) = subst (λ (n : TreeNode). 0 < n.class) is (omega arith)
double_class (Some b) m (inr rest) = let found = among_one indirect_nodes m b.entries.slots.items rest in indirect_class (entry_at b.entries.slots.items found.0) m found.2

pub below_class : {B L : Type 0} (f : FileState B L) (m : TreeNode) → Among m (nodes_below f) → 0 < m.class
below_class f m among = elim (among_split m (flat_map direct_nodes f.direct.slots.items) (flat_map indirect_nodes f.indirect.slots.items ++ flat_map double_nodes f.double.slots.items) among) [
  | inl direct ↦ let found = among_one direct_nodes m f.direct.slots.items direct in direct_class (entry_at f.direct.slots.items found.0) m found.2
  | inr rest ↦ elim (among_split m (flat_map indirect_nodes f.indirect.slots.items) (flat_map double_nodes f.double.slots.items) rest) [
    | inl indirect ↦ let found = among_one indirect_nodes m f.indirect.slots.items indirect in indirect_class (entry_at f.indirect.slots.items found.0) m found.2
    | inr double ↦ let found = among_one double_nodes m f.double.slots.items double in double_class (entry_at f.double.slots.items found.0) m found.2
  ]
]
