-- Reads change no block's bytes, and a run's addresses follow from its places: so the blocks that were read are the
-- same; each taken node was read from its block, which spells it.
use Rattle.std.proofs.Common.{◌≡◌, ℕ, zero, suc, ◌+◌, ◌-◌, ◌<◌, ◌==◌, Bool, true, if◌then◌else◌, List, [], ◌∷◌, length, map, get_or, Option, Some, None, inl, inr, refl, sym, ap, subst, ◌∙◌, ne_eqb, arith}
use Rattle.std.specs.Prelude.{All, not}
use Rattle.std.proofs.lemmas.Bool.{cases_lt}
use Rattle.std.proofs.lemmas.List.{length-map, get_or-map, get_or_past}
use Rattle.device.specs.Parts.{IsBlockRun}
use Rattle.geometry.specs.declared.geometry.Geometry.{Geometry}
use Rattle.geometry.specs.Area.{block_count}
use Rattle.geometry.specs.Shape.{block_bytes}
use Rattle.image.specs.declared.image.Image.{Image as ImageValue}
use Rattle.image.specs.declared.image.Node.{Node as NodeValue}
use Rattle.image.specs.declared.image.NodeEntry.{NodeEntry}
use Rattle.image.specs.Image.{Image, no_entry, no_node, entry_of, node_of}
use Rattle.image.specs.Node.{Node, Spells}
use Rattle.image.specs.Rules.{IsLawful}
use Rattle.image.specs.View.{image_view, node_view, node_or_none}
use Rattle.image.specs.Walk.{is_taken}
use Rattle.image_codec.specs.Blocks.{AreBlocks, bytes_at}

-- ---- blocks that were read

module _ {B : Type 0} (address : B → ℕ) (content : B → List ℕ) where
  item_same : {C : Type 0} (f : B → C) (xs ys : List B) → map f ys ≡ map f xs → (k : ℕ) (d : B) → k < length ys → k < length xs → f (get_or ys k d) ≡ f (get_or xs k d)
  item_same f xs ys same k d low low' =
      sym (get_or-map f ys k d (f d) low) ∙ (ap (λ l. get_or l k (f d)) same ∙ get_or-map f xs k d (f d) low')

  long_same : {C : Type 0} (f : B → C) (xs ys : List B) → map f ys ≡ map f xs → length ys ≡ length xs
  long_same f xs ys same = let a = length-map ys f in let b = length-map xs f in let c = ap length same in omega arith

  pub run_kept : (n : ℕ) (xs ys : List B) → IsBlockRun address content n 1 xs → map address ys ≡ map address xs → map content ys ≡ map content xs → IsBlockRun address content n 1 ys
  run_kept n xs ys run addresses contents =
      let long = long_same content xs ys contents in
      record {
        addresses = λ k d low. item_same address xs ys addresses k d low (omega arith) ∙ run.addresses k d (omega arith);
        lengths = λ k d low. ap length (item_same content xs ys contents k d low (omega arith)) ∙ run.lengths k d (omega arith);
      }

  pub count_kept : (xs ys : List B) → map content ys ≡ map content xs → length ys ≡ length xs
  count_kept xs ys contents = long_same content xs ys contents

  by_place : (P : ℕ → ℕ) (xs ys : List B) → length ys ≡ length xs → ((k : ℕ) (d : B) → k < length xs → address (get_or xs k d) ≡ P k) → ((k : ℕ) (d : B) → k < length ys → address (get_or ys k d) ≡ P k) → map address ys ≡ map address xs
  by_place P [] [] long here there = refl
  by_place P [] (y ∷ ys) long here there = absurd (omega arith)
  by_place P (x ∷ xs) [] long here there = absurd (omega arith)
  by_place P (x ∷ xs) (y ∷ ys) long here there =
      let first = there 0 y (omega arith) ∙ sym (here 0 x (omega arith)) in
      let rest = by_place (λ k. P (suc k)) xs ys (omega arith) (λ k d low. here (suc k) d (omega arith)) (λ k d low. there (suc k) d (omega arith)) in
      λ i. first i ∷ rest i

  pub addresses_same : (n m : ℕ) (xs ys : List B) → IsBlockRun address content n 1 xs → IsBlockRun address content m 1 ys → map content ys ≡ map content xs → map address ys ≡ map address xs
  addresses_same n m xs ys run run' contents = by_place (λ k. 1 + k) xs ys (long_same content xs ys contents) run.addresses run'.addresses

  pub bytes_same : (xs ys : List B) → map content ys ≡ map content xs → bytes_at content ys ≡ bytes_at content xs
  bytes_same xs ys contents = ap {B = ℕ → List ℕ} (λ (ms : List (List ℕ)). λ (a : ℕ). get_or ms (a - 1) []) contents

  whole_at : (n : ℕ) (xs : List B) → All (λ b. length (content b) ≡ n) xs → (k : ℕ) → k < length xs → length (get_or (map content xs) k []) ≡ n
  whole_at n [] each k low = absurd (omega arith)
  whole_at n (x ∷ xs) each zero low = each 0 x (omega arith)
  whole_at n (x ∷ xs) each (suc k) low = whole_at n xs (λ j d within. each (suc j) d (omega arith)) k (omega arith)

-- ---- the nodes of an image that was read

node_there : (nodes : List (Option NodeValue)) (k : ℕ) → get_or (map node_or_none nodes) k no_node ≡ node_or_none (get_or nodes k None)
node_there [] k = refl
node_there (x ∷ xs) zero = refl
node_there (x ∷ xs) (suc k) = node_there xs k

module _ (geometry : Geometry) (image : ImageValue) (lawful : IsLawful geometry (image_view image)) (bytes : ℕ → List ℕ)
    (spelled : (k : ℕ) (node : NodeValue) → get_or image.nodes.items k None ≡ Some node → Spells geometry.shape (bytes (get_or image.nat.items k no_entry).address) (node_view node)) where
  abbrev view : Image
  view = image_view image

  entry_suc : (k : ℕ) → entry_of view (suc k) ≡ get_or image.nat.items k no_entry
  entry_suc k =
      let back : suc k - 1 ≡ k = omega arith in
      ap (λ (b : Bool). if b then no_entry else get_or image.nat.items (suc k - 1) no_entry) (ne_eqb (suc k) 0 (λ e. absurd (omega arith))) ∙ ap (λ j. get_or image.nat.items j no_entry) back

  node_suc : (k : ℕ) → node_of view (suc k) ≡ node_or_none (get_or image.nodes.items k None)
  node_suc k =
      let back : suc k - 1 ≡ k = omega arith in
      ap (λ (b : Bool). if b then no_node else get_or view.nodes (suc k - 1) no_node) (ne_eqb (suc k) 0 (λ e. absurd (omega arith)))
      ∙ (ap (λ j. get_or view.nodes j no_node) back ∙ node_there image.nodes.items k)

  within : (k : ℕ) → is_taken view (suc k) ≡ true → k < length image.nat.items
  within k taken = elim (cases_lt k (length image.nat.items)) [
    | inl low ↦ low
    | inr high ↦
        let none = entry_suc k ∙ get_or_past image.nat.items k no_entry high in
        let no = sym taken ∙ ap (λ (e : NodeEntry). not (e.address == 0)) none in cc
  ]

  spells_found : (k : ℕ) → is_taken view (suc k) ≡ true → (found : Option NodeValue) → get_or image.nodes.items k None ≡ found → Spells geometry.shape (bytes (entry_of view (suc k)).address) (node_of view (suc k))
  spells_found k taken None at =
      let is : node_of view (suc k) ≡ no_node = node_suc k ∙ ap node_or_none at in
      let low = within k taken in
      let long = (lawful 1 (omega arith) (omega arith)).table in
      let class = (lawful 3 (omega arith) (omega arith) (suc k) (omega arith) taken).class in
      let four = ap (λ (n : Node). n.class) is in
      absurd (omega arith)
  spells_found k taken (Some node) at =
      subst (λ (e : NodeEntry). Spells geometry.shape (bytes e.address) (node_of view (suc k))) (sym (entry_suc k))
      (subst (Spells geometry.shape (bytes (get_or image.nat.items k no_entry).address)) (sym (node_suc k ∙ ap node_or_none at)) (spelled k node at))

  pub spells_all : (number : ℕ) → is_taken view number ≡ true → Spells geometry.shape (bytes (entry_of view number).address) (node_of view number)
  spells_all zero taken = absurd cc
  spells_all (suc k) taken = spells_found k taken (get_or image.nodes.items k None) refl

pub are_blocks : {B : Type 0} (address : B → ℕ) (content : B → List ℕ) (geometry : Geometry) (image : ImageValue) (blocks : List B) → IsLawful geometry (image_view image)
    → IsBlockRun address content (block_bytes geometry.shape) 1 blocks → length blocks ≡ block_count geometry
    → ((k : ℕ) (node : NodeValue) → get_or image.nodes.items k None ≡ Some node → Spells geometry.shape (bytes_at content blocks (get_or image.nat.items k no_entry).address) (node_view node))
    → AreBlocks geometry (image_view image) (bytes_at content blocks)
are_blocks address content geometry image blocks lawful run count spelled = record {
  whole = λ a low high. whole_at address content (block_bytes geometry.shape) blocks run.lengths (a - 1) (omega arith);
  spelled = spells_all geometry image lawful (bytes_at content blocks) spelled;
}
