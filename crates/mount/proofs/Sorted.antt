-- Each node of a file that fits belongs to its inode, so its token and the tickets it names are of that inode: weights
-- that agree on those weigh the file alike.
use Rattle.std.proofs.Common.{◌≡◌, ◌≢◌, ℕ, zero, suc, ◌<◌, List, [], ◌∷◌, length, get_or, Option, Some, None, inl, inr, refl, sym, ap, ◌∙◌, arith}
use Rattle.std.specs.Prelude.{slice_index}
use Rattle.geometry.specs.Weights.{weigh}
use Rattle.geometry.specs.declared.geometry.Geometry.{Geometry}
use Rattle.geometry.specs.Path.{node_entries}
use Rattle.rights_books.specs.declared.claim.TakenNumber.{TakenNumber}
use Rattle.tickets.specs.Placed.{Placed}
use Rattle.nodes.specs.declared.branch.Branch.{Branch}
use Rattle.nodes.specs.Tree.{entry_at}
use Rattle.nodes.specs.Change.{TreeNode, ticket_weight, of_tickets, of_tokens}
use Rattle.nodes.specs.declared.file.FileState.{FileState}
use Rattle.nodes.specs.File.{weight_direct, weight_indirect, weight_double, weight_of}
use Rattle.image_law.specs.Items.{Among}
use Rattle.nodes_law.specs.Nodes.{nodes_of}
use Rattle.nodes_law.proofs.Listing.{nodes_weigh}
use Rattle.image.specs.Image.{Image, entry_of, node_of}
use Rattle.image.specs.Walk.{child}
use Rattle.image.specs.Rules.{IsLawful}
use Rattle.mount_blocks.specs.TreeGoods.{Shelves, in_place}
use Rattle.mount_blocks.specs.FileLoaded.{FitsFile, IsLoadedFile, fits_direct, fits_indirect, fits_double, loaded_ticket, loaded_direct, loaded_indirect, loaded_double}
use Rattle.mount_blocks.specs.Goods.{AreGoods}
use Rattle.mount_blocks.specs.Lodging.{file_of}
use Rattle.mount.proofs.Nodes.{token_is, node_from}

-- lists that weigh the same item by item
each_same : {C : Type 0} (f g : Option C → ℕ) (xs : List (Option C)) → ((k : ℕ) → k < length xs → f (entry_at xs k) ≡ g (entry_at xs k)) → weigh f xs ≡ weigh g xs
each_same f g [] same = refl
each_same f g (x ∷ xs) same =
    let here : f x ≡ g x = same 0 (omega arith) in
    let rest = each_same f g xs (λ k low. same (suc k) (omega arith)) in
    omega arith

among_same : {A : Type 0} (f g : A → ℕ) (xs : List A) → ((x : A) → Among x xs → f x ≡ g x) → weigh f xs ≡ weigh g xs
among_same f g [] same = refl
among_same f g (x ∷ xs) same =
    let here = same x (inl refl) in
    let rest = among_same f g xs (λ y m. same y (inr m)) in
    omega arith

-- a table where no place weighs
-- a table of which nothing weighs
pub none_places : {A : Type 0} (f : A → ℕ) (ys : List (Option A)) → ((j : ℕ) (z : A) → get_or ys j None ≡ Some z → f z ≡ 0) → weigh (in_place f) ys ≡ 0
none_places f [] none = refl
none_places f (None ∷ ys) none = let rest = none_places f ys (λ j z at. none (suc j) z at) in omega arith
none_places f (Some w ∷ ys) none = let here = none 0 w refl in let rest = none_places f ys (λ j z at. none (suc j) z at) in omega arith

-- a table where one place alone weighs
pub one_place : {A : Type 0} (f : A → ℕ) (xs : List (Option A)) (i : ℕ) (x : A) → get_or xs i None ≡ Some x → ((j : ℕ) (y : A) → j ≢ i → get_or xs j None ≡ Some y → f y ≡ 0) → weigh (in_place f) xs ≡ f x
one_place f [] i x e others = cc
one_place f (y ∷ xs) zero x e others =
    let here = ap (in_place f) e in
    let rest = none_places f xs (λ j z at. others (suc j) z (λ w. absurd (omega arith)) at) in
    omega arith
one_place f (None ∷ xs) (suc i) x e others = let rest = one_place f xs i x e (λ j y apart at. others (suc j) y (λ w. apart (omega arith)) at) in omega arith
one_place f (Some w ∷ xs) (suc i) x e others =
    let here = others 0 w (λ z. absurd (omega arith)) refl in
    let rest = one_place f xs i x e (λ j y apart at. others (suc j) y (λ w. apart (omega arith)) at) in
    omega arith

-- tables that weigh the same place by place
pub places_same : {A : Type 0} (f g : A → ℕ) (xs : List (Option A)) → ((j : ℕ) (y : A) → get_or xs j None ≡ Some y → f y ≡ g y) → weigh (in_place f) xs ≡ weigh (in_place g) xs
places_same f g [] same = refl
places_same f g (None ∷ xs) same = let rest = places_same f g xs (λ j y at. same (suc j) y at) in omega arith
places_same f g (Some x ∷ xs) same = let here = same 0 x refl in let rest = places_same f g xs (λ j y at. same (suc j) y at) in omega arith

module _ (image : Image) (all : Shelves Placed) (e inode : ℕ) (f g : Placed → ℕ) (same : (t : Placed) → file_of image t.mark.owner ≡ inode → f t ≡ g t) where
  same_0 : (parent s n : ℕ) (v : Option Placed) → (entry_of image parent).inode ≡ inode → loaded_ticket all parent s n v → ticket_weight (of_tickets f) v ≡ ticket_weight (of_tickets g) v
  same_0 parent s n None of l = refl
  same_0 parent s n (Some t) of l = same t (ap (λ m. file_of image m.owner) l.2 ∙ of)

  same_1 : (n : ℕ) (v : Option (Branch Placed)) → loaded_direct image all n v → fits_direct image e inode n → weight_direct (of_tickets f) v ≡ weight_direct (of_tickets g) v
  same_1 n None l fits = refl
  same_1 n (Some b) l fits =
      let there = fits l.some in
      let below = each_same (ticket_weight (of_tickets f)) (ticket_weight (of_tickets g)) b.entries.slots.items
      (λ k low. same_0 n k (slice_index (node_of image n).addresses k) (entry_at b.entries.slots.items k) there.belongs (l.below.1 k (let long = l.below.0 in omega arith))) in
      omega arith

  same_2 : (n : ℕ) (v : Option (Branch (Branch Placed))) → loaded_indirect image all n v → fits_indirect image e inode n → weight_indirect (of_tickets f) v ≡ weight_indirect (of_tickets g) v
  same_2 n None l fits = refl
  same_2 n (Some b) l fits =
      let there = fits l.some in
      let below = each_same (weight_direct (of_tickets f)) (weight_direct (of_tickets g)) b.entries.slots.items
      (λ k low. same_1 (child image n k) (entry_at b.entries.slots.items k) (l.below.1 k (let long = l.below.0 in omega arith)) (there.below k)) in
      omega arith

  same_3 : (n : ℕ) (v : Option (Branch (Branch (Branch Placed)))) → loaded_double image all n v → fits_double image e inode n → weight_double (of_tickets f) v ≡ weight_double (of_tickets g) v
  same_3 n None l fits = refl
  same_3 n (Some b) l fits =
      let there = fits l.some in
      let below = each_same (weight_indirect (of_tickets f)) (weight_indirect (of_tickets g)) b.entries.slots.items
      (λ k low. same_2 (child image n k) (entry_at b.entries.slots.items k) (l.below.1 k (let long = l.below.0 in omega arith)) (there.below k)) in
      omega arith

two_of : (k : ℕ) → k < 2 → (P : ℕ → Type 0) (a b : ℕ) → P a → P b → P (slice_index (a ∷ b ∷ []) k)
two_of zero low P a b p q = p
two_of (suc zero) low P a b p q = q
two_of (suc (suc k)) low P a b p q = absurd (omega arith)

module _ {B L : Type 0} (geometry : Geometry) (image : Image) (all : Shelves Placed) (inode : ℕ) (file : FileState B L) (l : IsLoadedFile image geometry.shape all inode file) (fits : FitsFile image geometry.shape inode) where
  abbrev e : ℕ
  e = node_entries geometry.shape

  -- weights that agree on the tickets of an inode weigh the same in its file
  pub tickets_same : (f g : Placed → ℕ) → ((t : Placed) → file_of image t.mark.owner ≡ inode → f t ≡ g t) → weight_of file (of_tickets f) ≡ weight_of file (of_tickets g)
  tickets_same f g same =
      let tickets = each_same (ticket_weight (of_tickets f)) (ticket_weight (of_tickets g)) file.tickets.slots.items
      (λ k low. same_0 image all e inode f g same inode k (slice_index (node_of image inode).addresses k) (entry_at file.tickets.slots.items k) fits.belongs (l.tickets.1 k (let long = l.tickets.0 in omega arith))) in
      let direct = each_same (weight_direct (of_tickets f)) (weight_direct (of_tickets g)) file.direct.slots.items
      (λ k low. (let short : k < 2 = let long = l.direct.0 in omega arith in
      same_1 image all e inode f g same (slice_index (child image inode 0 ∷ child image inode 1 ∷ []) k) (entry_at file.direct.slots.items k) (l.direct.1 k short)
      (two_of k short (fits_direct image e inode) (child image inode 0) (child image inode 1) (fits.direct 0 (omega arith)) (fits.direct 1 (omega arith))))) in
      let indirect = each_same (weight_indirect (of_tickets f)) (weight_indirect (of_tickets g)) file.indirect.slots.items
      (λ k low. (let short : k < 2 = let long = l.indirect.0 in omega arith in
      same_2 image all e inode f g same (slice_index (child image inode 2 ∷ child image inode 3 ∷ []) k) (entry_at file.indirect.slots.items k) (l.indirect.1 k short)
      (two_of k short (fits_indirect image e inode) (child image inode 2) (child image inode 3) (fits.indirect 0 (omega arith)) (fits.indirect 1 (omega arith))))) in
      let double = each_same (weight_double (of_tickets f)) (weight_double (of_tickets g)) file.double.slots.items (λ k low. double_same k (let long = l.double.0 in omega arith)) in
      omega arith
    where
      double_same : (k : ℕ) → k < 1 → weight_double (of_tickets f) (entry_at file.double.slots.items k) ≡ weight_double (of_tickets g) (entry_at file.double.slots.items k)
      double_same zero low = same_3 image all e inode f g same (child image inode 4) (entry_at file.double.slots.items 0) (l.double.1 0 (omega arith)) fits.double
      double_same (suc k) low = absurd (omega arith)

  module _ (lawful : IsLawful geometry image) (bytes : ℕ → List ℕ) (goods : AreGoods geometry image bytes all.tickets all.tokens) where
    -- the same of tokens
    pub tokens_same : (f g : TakenNumber → ℕ) → ((k : TakenNumber) → k.inode ≡ inode → f k ≡ g k) → weight_of file (of_tokens f) ≡ weight_of file (of_tokens g)
    tokens_same f g same =
        nodes_weigh (λ n. f n.token) file
        ∙ (among_same (λ (n : TreeNode). f n.token) (λ (n : TreeNode). g n.token) (nodes_of file)
        (λ n among. (let from = node_from geometry image lawful bytes all goods inode file l fits n among in
        same n.token (ap (λ (k : TakenNumber). k.inode) (token_is geometry image lawful bytes all goods n.token.number n.token from.token) ∙ from.belongs)))
        ∙ sym (nodes_weigh (λ n. g n.token) file))
