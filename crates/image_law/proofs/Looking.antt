-- The image has each node of the tree at its own number, so a step from an entry to the node below is the same in both,
-- and at the path's end stands the same address.
use Rattle.std.proofs.Common.{◌≡◌, refl, ◌∙◌, ap, ℕ, zero, suc, inl, inr, List, [], ◌∷◌, map, get_or, arith}
use Rattle.std.specs.Prelude.{Option, Some, None, slice_index}
use Rattle.std.specs.List.{flat_map}
use Rattle.geometry.specs.declared.path.Path.{Path}
use Rattle.geometry.specs.declared.path.Path.TheVariants.{Inode, Direct, Indirect, Double}
use Rattle.geometry.specs.declared.shape.Shape.{Shape}
use Rattle.geometry.specs.Path.{path}
use Rattle.image.specs.Node.{Node}
use Rattle.image.specs.Image.{Image, node_of}
use Rattle.image.specs.Walk.{child}
use Rattle.image.specs.Files.{at_end, data_address}
use Rattle.image_law.specs.Items.{Among}
use Rattle.image_law.specs.Parts.{Branch, Tree, Stored, nid_of, each, top, stored_in, FileTree, inode_stored, stored_of, data_in, slot_of, ticket_on, ticket_at}
use Rattle.image_law.proofs.Weighing.{among_left, among_right}
use Rattle.image_law.proofs.Trees.{HoldsAll}
use Rattle.image.proofs.Frame.{IsOfTable, path_of_table}

nid_at : {S : Type 0} (xs : List (Option (Branch S))) (a : ℕ) → slice_index (map nid_of xs) a ≡ nid_of (get_or xs a None)
nid_at [] a = refl
nid_at (x ∷ xs) zero = refl
nid_at (x ∷ xs) (suc a) = nid_at xs a

among_slot : {A : Type 0} (f : A → List Stored) (s : Stored) (xs : List (Option A)) (a : ℕ) → Among s (each f (get_or xs a None)) → Among s (flat_map (each f) xs)
among_slot f s [] a m = m
among_slot f s (x ∷ xs) zero m = among_left s (each f x) (flat_map (each f) xs) m
among_slot f s (x ∷ xs) (suc a) m = among_right s (each f x) (flat_map (each f) xs) (among_slot f s xs a m)

module _ (image : Image) (inode : ℕ) where
  direct_on : (o : Option (Tree 0)) (slot : ℕ) → HoldsAll image (each (stored_in inode 0) o)
      → slice_index (node_of image (nid_of o)).addresses slot ≡ data_in o slot
  direct_on None slot held = refl
  direct_on (Some tree) slot held =
      let n = (held (top inode 0 tree) (inl refl)).1 in
      ap (λ (x : Node). slice_index x.addresses slot) n

  indirect_on : (o : Option (Tree 1)) (a slot : ℕ) → HoldsAll image (each (stored_in inode 1) o)
      → slice_index (node_of image (child image (nid_of o) a)).addresses slot ≡ data_in (slot_of o a) slot
  indirect_on None a slot held = refl
  indirect_on (Some tree) a slot held =
      let n = (held (top inode 1 tree) (inl refl)).1 in
      let kid : child image tree.nid a ≡ nid_of (get_or tree.slots a None) = ap (λ (x : Node). slice_index x.children a) n ∙ nid_at tree.slots a in
      ap (λ (k : ℕ). slice_index (node_of image k).addresses slot) kid
      ∙ direct_on (get_or tree.slots a None) slot (λ s m. held s (inr (among_slot (stored_in inode 0) s tree.slots a m)))

  double_on : (o : Option (Tree 2)) (a b slot : ℕ) → HoldsAll image (each (stored_in inode 2) o)
      → slice_index (node_of image (child image (child image (nid_of o) a) b)).addresses slot ≡ data_in (slot_of (slot_of o a) b) slot
  double_on None a b slot held = refl
  double_on (Some tree) a b slot held =
      let n = (held (top inode 2 tree) (inl refl)).1 in
      let kid : child image tree.nid a ≡ nid_of (get_or tree.slots a None) = ap (λ (x : Node). slice_index x.children a) n ∙ nid_at tree.slots a in
      ap (λ (k : ℕ). slice_index (node_of image (child image k b)).addresses slot) kid
      ∙ indirect_on (get_or tree.slots a None) b slot (λ s m. held s (inr (among_slot (stored_in inode 1) s tree.slots a m)))

module _ (image : Image) (file : FileTree) (held : HoldsAll image (stored_of file)) where
  node_is : node_of image file.inode ≡ (inode_stored file).node
  node_is = (held (inode_stored file) (inl refl)).1

  kid_is : (p : ℕ) → child image file.inode p ≡ slice_index (inode_stored file).node.children p
  kid_is p = ap (λ (x : Node). slice_index x.children p) node_is

  pub at_end_is : (p : Option Path) → IsOfTable p → at_end image file.inode p ≡ ticket_on file p
  at_end_is None t = refl
  at_end_is (Some (Inode slot)) t = ap (λ (x : Node). slice_index x.addresses slot) node_is
  at_end_is (Some (Direct zero slot)) t =
      ap (λ (k : ℕ). slice_index (node_of image k).addresses slot) (kid_is 0)
      ∙ direct_on image file.inode file.first_direct slot (λ s m. held s (inr (among_left s _ _ m)))
  at_end_is (Some (Direct (suc zero) slot)) t =
      ap (λ (k : ℕ). slice_index (node_of image k).addresses slot) (kid_is 1)
      ∙ direct_on image file.inode file.second_direct slot (λ s m. held s (inr (among_right s (each (stored_in file.inode 0) file.first_direct) _ (among_left s _ _ m))))
  at_end_is (Some (Direct (suc (suc p)) slot)) t = absurd (omega arith)
  at_end_is (Some (Indirect zero a slot)) t = absurd (omega arith)
  at_end_is (Some (Indirect (suc zero) a slot)) t = absurd (omega arith)
  at_end_is (Some (Indirect (suc (suc zero)) a slot)) t =
      ap (λ (k : ℕ). slice_index (node_of image (child image k a)).addresses slot) (kid_is 2)
      ∙ indirect_on image file.inode file.first_indirect a slot (λ s m. held s (inr
      (among_right s (each (stored_in file.inode 0) file.first_direct) _
      (among_right s (each (stored_in file.inode 0) file.second_direct) _ (among_left s _ _ m)))))
  at_end_is (Some (Indirect (suc (suc (suc zero))) a slot)) t =
      ap (λ (k : ℕ). slice_index (node_of image (child image k a)).addresses slot) (kid_is 3)
      ∙ indirect_on image file.inode file.second_indirect a slot (λ s m. held s (inr
      (among_right s (each (stored_in file.inode 0) file.first_direct) _
      (among_right s (each (stored_in file.inode 0) file.second_direct) _
      (among_right s (each (stored_in file.inode 1) file.first_indirect) _ (among_left s _ _ m))))))
  at_end_is (Some (Indirect (suc (suc (suc (suc p)))) a slot)) t = absurd (omega arith)
  at_end_is (Some (Double a b slot)) t =
      ap (λ (k : ℕ). slice_index (node_of image (child image (child image k a) b)).addresses slot) (kid_is 4)
      ∙ double_on image file.inode file.double a b slot (λ s m. held s (inr
      (among_right s (each (stored_in file.inode 0) file.first_direct) _
      (among_right s (each (stored_in file.inode 0) file.second_direct) _
      (among_right s (each (stored_in file.inode 1) file.first_indirect) _
      (among_right s (each (stored_in file.inode 1) file.second_indirect) _ (among_left s _ _ m)))))))

  pub data_address_is : (shape : Shape) (index : ℕ) → data_address shape image file.inode index ≡ ticket_at shape file index
  data_address_is shape index = at_end_is (path shape index) (path_of_table shape index)
