-- A walk goes down by the same children as the tree, since the image has each of its nodes; so it names exactly their
-- blocks and tickets, and nothing misfits.
use Rattle.geometry.specs.declared.owner.Mark.{Mark}
use Rattle.std.proofs.Common.{◌≡◌, ◌≢◌, refl, sym, ◌∙◌, ap, ℕ, zero, suc, inl, inr, true, not, List, [], ◌∷◌, ◌++◌, map}
use Rattle.std.specs.Prelude.{Option, Some, None, slice_index, ◌==◌, ◌&&◌}
use Rattle.std.specs.List.{flat_map}
use Rattle.std.proofs.lemmas.Bool.{eq-eqb, ne_eqb}
use Rattle.std.proofs.lemmas.List.{append-nil}
use Rattle.std.proofs.lemmas.Grind.{flat_map-append}
use Rattle.image.specs.Node.{Node}
use Rattle.image.specs.Image.{Image, entry_of, node_of}
use Rattle.geometry.specs.declared.owner.Owner.TheVariants.{Node as OfNode}
use Rattle.image.specs.Walk.{data_names, own_names, class_at, fits, names_below, places, walk, misfits_below, misfits}
use Rattle.image_law.specs.Items.{Among}
use Rattle.image_law.specs.Parts.{Tree, Stored, nid_of, each, top, stored_in, stored_below, Subtree, subtrees, FileTree, inode_stored, stored_of, tickets_at}
use Rattle.image_law.proofs.Weighing.{among_left, among_right}

-- a node's block and its data blocks
abbrev pub names_at : Stored → List Mark
names_at s = record { address = s.address; owner = OfNode s.node.nid } ∷ tickets_at s

-- the image has the node and its entry
abbrev pub Holds : Image → Stored → Type 0
Holds image s =
    (entry_of image s.node.nid ≡ record { inode = s.node.inode; address = s.address }) × (node_of image s.node.nid ≡ s.node) × (s.address ≢ 0)

abbrev pub HoldsAll : Image → List Stored → Type 0
HoldsAll image xs = (s : Stored) → Among s xs → Holds image s

top_fits : (image : Image) (inode level : ℕ) (tree : Tree level) → Holds image (top inode level tree) → fits image inode level tree.nid ≡ true
top_fits image inode level tree held =
    let e = held.0 in
    let n = held.1 in
    let step : fits image inode level tree.nid ≡ (not (tree.address == 0) && (inode == inode) && (class_at level == class_at level))
    = λ i. not ((e i).address == 0) && ((e i).inode == inode) && ((n i).class == class_at level) in
    step ∙ rw (ne_eqb tree.address 0 held.2, eq-eqb inode inode refl, eq-eqb (class_at level) (class_at level) refl) refl

own_held : (image : Image) (s : Stored) → Holds image s → own_names image s.node.nid ≡ names_at s
own_held image s held =
    let e = held.0 in
    let n = held.1 in
    λ i. record { address = (e i).address; owner = OfNode s.node.nid } ∷ data_names s.node.nid 0 (n i).addresses

none_named : (image : Image) (inode level : ℕ) → names_below image inode level 0 ≡ []
none_named image inode zero = refl
none_named image inode (suc level) = refl

none_misfit : (image : Image) (inode level : ℕ) → misfits_below image inode level 0 ≡ []
none_misfit image inode zero = refl
none_misfit image inode (suc level) = refl

module _ (image : Image) (inode : ℕ) where
  -- the slots of a node
  slots_named : (level : ℕ) → ((tree : Tree level) → HoldsAll image (stored_in inode level tree) → names_below image inode level tree.nid ≡ flat_map names_at (stored_in inode level tree))
      → (slots : List (Option (Tree level))) → HoldsAll image (flat_map (each (stored_in inode level)) slots)
      → flat_map (names_below image inode level) (map nid_of slots) ≡ flat_map names_at (flat_map (each (stored_in inode level)) slots)
  slots_named level below [] held = refl
  slots_named level below (None ∷ slots) held =
      let rest = slots_named level below slots held in
      rw (none_named image inode level) rest
  slots_named level below (Some tree ∷ slots) held =
      let here = below tree (λ s m. held s (among_left s (stored_in inode level tree) _ m)) in
      let rest = slots_named level below slots (λ s m. held s (among_right s (stored_in inode level tree) _ m)) in
      let joined = flat_map-append names_at (stored_in inode level tree) (flat_map (each (stored_in inode level)) slots) in
      (λ i. here i ++ rest i) ∙ sym joined

  pub tree_named : (level : ℕ) (tree : Tree level) → HoldsAll image (stored_in inode level tree)
      → names_below image inode level tree.nid ≡ flat_map names_at (stored_in inode level tree)
  tree_named zero tree held =
      let at_top = held (top inode zero tree) (inl refl) in
      let fit = top_fits image inode zero tree at_top in
      let own = own_held image (top inode zero tree) at_top in
      rw fit (own ∙ sym (append-nil (names_at (top inode zero tree))))
  tree_named (suc level) tree held =
      let at_top = held (top inode (suc level) tree) (inl refl) in
      let fit = top_fits image inode (suc level) tree at_top in
      let own = own_held image (top inode (suc level) tree) at_top in
      let n = at_top.1 in
      let rest = slots_named level (tree_named level) tree.slots (λ s m. held s (inr m)) in
      let kids : flat_map (names_below image inode level) (node_of image tree.nid).children ≡ flat_map names_at (flat_map (each (stored_in inode level)) tree.slots)
      = ap (λ (x : Node). flat_map (names_below image inode level) x.children) n ∙ rest in
      rw fit (λ i. own i ++ kids i)

  direct_fits : (nid : ℕ) → fits image inode 0 nid ≡ true → misfits_below image inode zero nid ≡ []
  direct_fits zero fit = refl
  direct_fits (suc k) fit = rw fit refl

  indirect_fits : (level nid : ℕ) → fits image inode (suc level) nid ≡ true → flat_map (misfits_below image inode level) (node_of image nid).children ≡ []
      → misfits_below image inode (suc level) nid ≡ []
  indirect_fits level zero fit none = refl
  indirect_fits level (suc k) fit none = rw fit none

  slots_fit : (level : ℕ) → ((tree : Tree level) → HoldsAll image (stored_in inode level tree) → misfits_below image inode level tree.nid ≡ [])
      → (slots : List (Option (Tree level))) → HoldsAll image (flat_map (each (stored_in inode level)) slots)
      → flat_map (misfits_below image inode level) (map nid_of slots) ≡ []
  slots_fit level below [] held = refl
  slots_fit level below (None ∷ slots) held = rw (none_misfit image inode level) (slots_fit level below slots held)
  slots_fit level below (Some tree ∷ slots) held =
      let here = below tree (λ s m. held s (among_left s (stored_in inode level tree) _ m)) in
      let rest = slots_fit level below slots (λ s m. held s (among_right s (stored_in inode level tree) _ m)) in
      λ i. here i ++ rest i

  pub tree_fits : (level : ℕ) (tree : Tree level) → HoldsAll image (stored_in inode level tree) → misfits_below image inode level tree.nid ≡ []
  tree_fits zero tree held = direct_fits tree.nid (top_fits image inode zero tree (held (top inode zero tree) (inl refl)))
  tree_fits (suc level) tree held =
      let at_top = held (top inode (suc level) tree) (inl refl) in
      let n = at_top.1 in
      indirect_fits level tree.nid (top_fits image inode (suc level) tree at_top)
      (ap (λ (x : Node). flat_map (misfits_below image inode level) x.children) n
      ∙ slots_fit level (tree_fits level) tree.slots (λ s m. held s (inr m)))

  -- the five places below an inode
  subtrees_named : (subs : List Subtree) → HoldsAll image (stored_below inode subs)
      → flat_map (λ (place : ℕ × ℕ). names_below image inode place.0 place.1) (map {B = ℕ × ℕ} (λ (sub : Subtree). (sub.0, nid_of sub.1)) subs)
      ≡ flat_map names_at (stored_below inode subs)
  subtrees_named [] held = refl
  subtrees_named ((level, None) ∷ subs) held = rw (none_named image inode level) (subtrees_named subs held)
  subtrees_named ((level, Some tree) ∷ subs) held =
      let here = tree_named level tree (λ s m. held s (among_left s (stored_in inode level tree) _ m)) in
      let rest = subtrees_named subs (λ s m. held s (among_right s (stored_in inode level tree) _ m)) in
      let joined = flat_map-append names_at (stored_in inode level tree) (stored_below inode subs) in
      (λ i. here i ++ rest i) ∙ sym joined

  subtrees_fit : (subs : List Subtree) → HoldsAll image (stored_below inode subs)
      → flat_map (λ (place : ℕ × ℕ). misfits_below image inode place.0 place.1) (map {B = ℕ × ℕ} (λ (sub : Subtree). (sub.0, nid_of sub.1)) subs) ≡ []
  subtrees_fit [] held = refl
  subtrees_fit ((level, None) ∷ subs) held = rw (none_misfit image inode level) (subtrees_fit subs held)
  subtrees_fit ((level, Some tree) ∷ subs) held =
      let here = tree_fits level tree (λ s m. held s (among_left s (stored_in inode level tree) _ m)) in
      let rest = subtrees_fit subs (λ s m. held s (among_right s (stored_in inode level tree) _ m)) in
      λ i. here i ++ rest i

abbrev places_of : Node → List (ℕ × ℕ)
places_of n =
    (0, slice_index n.children 0) ∷ (0, slice_index n.children 1) ∷ (1, slice_index n.children 2) ∷ (1, slice_index n.children 3)
    ∷ (2, slice_index n.children 4) ∷ []

-- a file's walk names the blocks of its nodes and its tickets
pub file_named : (image : Image) (file : FileTree) → HoldsAll image (stored_of file)
    → walk image file.inode ≡ flat_map names_at (stored_of file)
file_named image file held =
    let at_inode = held (inode_stored file) (inl refl) in
    let own = own_held image (inode_stored file) at_inode in
    let n = at_inode.1 in
    let rest = subtrees_named image file.inode (subtrees file) (λ s m. held s (inr m)) in
    let below : flat_map (λ (place : ℕ × ℕ). names_below image file.inode place.0 place.1) (places image file.inode) ≡ flat_map names_at (stored_below file.inode (subtrees file))
    = ap (λ (x : Node). flat_map (λ (place : ℕ × ℕ). names_below image file.inode place.0 place.1) (places_of x)) n ∙ rest in
    λ i. own i ++ below i

pub file_fits : (image : Image) (file : FileTree) → HoldsAll image (stored_of file) → misfits image file.inode ≡ []
file_fits image file held =
    let n = (held (inode_stored file) (inl refl)).1 in
    ap (λ (x : Node). flat_map (λ (place : ℕ × ℕ). misfits_below image file.inode place.0 place.1) (places_of x)) n
    ∙ subtrees_fit image file.inode (subtrees file) (λ s m. held s (inr m))
