-- A walk names the blocks of a file's nodes and its tickets, which balance with the marks; each inode that is taken is
-- that of one file, so all walks together name what is marked.
use Rattle.geometry.specs.declared.owner.Mark.{Mark}
use Rattle.image.specs.declared.image.NodeEntry.{NodeEntry}
use Rattle.std.proofs.Common.{◌≡◌, ◌≢◌, refl, sym, ◌∙◌, ap, ℕ, zero, suc, ◌+◌, ◌<◌, ◌≤◌, inl, inr, Bool, true, false, not, List, [], ◌∷◌, ◌++◌, map, ◌==◌, add-one, arith}
use Rattle.std.specs.Prelude.{Option, Some, None, is_some, filter}
use Rattle.std.specs.List.{flat_map}
use Rattle.std.proofs.lemmas.Bool.{ne_eqb}
use Rattle.std.proofs.lemmas.List.{append-nil}
use Rattle.std.proofs.lemmas.List.Elements.{filter-append}
use Rattle.std.proofs.lemmas.Grind.{flat_map-append}
use Rattle.geometry.specs.declared.geometry.Geometry.{Geometry}
use Rattle.image.specs.Image.{Image, entry_of}
use Rattle.geometry.specs.declared.owner.Owner.TheVariants.{Node as OfNode}
use Rattle.image.specs.Walk.{walk, names, is_taken, up_to}
use Rattle.geometry.specs.Weights.{weigh}
use Rattle.image_law.specs.Items.{sum_below, Among}
use Rattle.image_law.specs.Parts.{Stored, each, FileTree, inode_stored, stored_of, tickets_at, tickets_of, token_at, tokens_of, node_ticket, SegmentState, Parts, file_at, PartsLaw, Balanced, IsImageOf}
use Rattle.geometry.proofs.Weighing.{weigh-append}
use Rattle.image_law.proofs.Weighing.{weigh_plus, weigh_same_among, weigh_by_index, place_of}
use Rattle.image_law.proofs.Trees.{names_at, file_named}
use Rattle.image_law.proofs.Linking.{file_held, taken_owned}

abbrev pub names_of : FileTree → List Mark
names_of file = flat_map names_at (stored_of file)

taken_from : (a : ℕ) → a ≢ 0 → not (a == 0) ≡ true
taken_from a some = ap not (ne_eqb a 0 some)

pub taken_some : (a : ℕ) → not (a == 0) ≡ true → a ≢ 0
taken_some zero taken = absurd cc
taken_some (suc a) taken = λ e. cc

pub not_both : (o : Option FileTree) (file : FileTree) → o ≡ None → o ≡ Some file → ⊥
not_both o file none some = let e : false ≡ true = sym (ap is_some none) ∙ ap is_some some in absurd cc

-- a file's names are its tickets and the blocks of its nodes
names_weigh : (h : Mark → ℕ) (xs : List Stored) → ((s : Stored) → Among s xs → s.address ≢ 0)
    → weigh h (flat_map names_at xs) ≡ weigh h (flat_map tickets_at xs) + weigh (node_ticket h) (map token_at xs)
names_weigh h [] flushed = refl
names_weigh h (s ∷ xs) flushed =
    let there = names_weigh h xs (λ t m. flushed t (inr m)) in
    let a = weigh-append h (names_at s) (flat_map names_at xs) in
    let b = weigh-append h (tickets_at s) (flat_map tickets_at xs) in
    let own : node_ticket h (token_at s) ≡ h (record { address = s.address; owner = OfNode s.node.nid }) = rw (ne_eqb s.address 0 (flushed s (inl refl))) refl in
    omega arith

module _ (geometry : Geometry) (parts : Parts) (image : Image) (law : PartsLaw geometry parts) (even : Balanced parts) (is : IsImageOf geometry parts image) where
  pub number_of : (k : ℕ) (file : FileTree) → file_at parts k ≡ Some file → file.inode ≡ suc k
  number_of k file at = (law.files k file at).number ∙ add-one k

  -- the inodes are those of the files
  pub file_taken : (k : ℕ) (file : FileTree) → file_at parts k ≡ Some file → is_taken image (suc k) ≡ true
  file_taken k file at =
      let held = file_held geometry parts image law even is k file at (inode_stored file) (inl refl) in
      let number : file.inode ≡ suc k = (law.files k file at).number ∙ add-one k in
      ap (λ (j : ℕ). is_taken image j) (sym number)
      ∙ taken_from (entry_of image file.inode).address (λ e. held.2 (sym (ap (λ (x : NodeEntry). x.address) held.0) ∙ e))

  -- a low number is that of an inode
  pub low_inode : (k j : ℕ) (file : FileTree) (s : Stored) → file_at parts k ≡ Some file → Among s (stored_of file) → s.node.nid ≡ suc j → j < geometry.files → k ≡ j
  low_inode k j file s at (inl e) same low =
      let number : file.inode ≡ k + 1 = (law.files k file at).number in
      let nid : file.inode ≡ s.node.nid = ap (λ (x : Stored). x.node.nid) e in omega arith
  low_inode k j file s at (inr m) same low = let high = (law.files k file at).others s m in absurd (omega arith)

  pub none_taken : (j : ℕ) → j < geometry.files → suc j ≤ geometry.nodes → file_at parts j ≡ None → is_taken image (suc j) ≡ false
  none_taken j low high none = go (is_taken image (suc j)) refl
    where
      go : (b : Bool) → is_taken image (suc j) ≡ b → is_taken image (suc j) ≡ false
      go false e = e
      go true e =
          let owned = taken_owned geometry parts image law even is (suc j) (omega arith) high (taken_some (entry_of image (suc j)).address e) in
          let same : owned.0 ≡ j = low_inode owned.0 j owned.1 owned.2 owned.3 owned.4 owned.5 low in
          absurd (not_both (file_at parts j) owned.1 none (ap (λ (i : ℕ). file_at parts i) (sym same) ∙ owned.3))

  names_below_n : (h : Mark → ℕ) (n : ℕ) → n ≤ geometry.files → geometry.files ≤ geometry.nodes
      → weigh h (flat_map (walk image) (filter (is_taken image) (up_to n))) ≡ sum_below n (λ k. weigh h (each names_of (file_at parts k)))
  names_below_n h zero low fit = refl
  names_below_n h (suc n) low fit = go (names_below_n h n (omega arith) fit) (file_at parts n) refl
    where
      go : weigh h (flat_map (walk image) (filter (is_taken image) (up_to n))) ≡ sum_below n (λ k. weigh h (each names_of (file_at parts k)))
          → (o : Option FileTree) → file_at parts n ≡ o
          → weigh h (flat_map (walk image) (filter (is_taken image) (up_to n ++ suc n ∷ [])))
          ≡ sum_below n (λ k. weigh h (each names_of (file_at parts k))) + weigh h (each names_of (file_at parts n))
      go there None e =
          let none = none_taken n (omega arith) (omega arith) e in
          let last : filter (is_taken image) (suc n ∷ []) ≡ [] = rw none refl in
          let all : filter (is_taken image) (up_to n ++ suc n ∷ []) ≡ filter (is_taken image) (up_to n)
          = filter-append (is_taken image) (up_to n) (suc n ∷ []) ∙ ap (λ xs. filter (is_taken image) (up_to n) ++ xs) last ∙ append-nil _ in
          let a = ap (λ xs. weigh h (flat_map (walk image) xs)) all in
          let b : weigh h (each names_of (file_at parts n)) ≡ 0 = ap (λ (o : Option FileTree). weigh h (each names_of o)) e in
          omega arith
      go there (Some file) e =
          let taken = file_taken n file e in
          let last : filter (is_taken image) (suc n ∷ []) ≡ suc n ∷ [] = rw taken refl in
          let number : file.inode ≡ suc n = (law.files n file e).number ∙ add-one n in
          let named : walk image (suc n) ≡ names_of file
          = ap (walk image) (sym number) ∙ file_named image file (file_held geometry parts image law even is n file e) in
          let all : flat_map (walk image) (filter (is_taken image) (up_to n ++ suc n ∷ [])) ≡ flat_map (walk image) (filter (is_taken image) (up_to n)) ++ names_of file
          = ap (flat_map (walk image)) (filter-append (is_taken image) (up_to n) (suc n ∷ []) ∙ ap (λ xs. filter (is_taken image) (up_to n) ++ xs) last)
          ∙ flat_map-append (walk image) (filter (is_taken image) (up_to n)) (suc n ∷ [])
          ∙ ap (λ ns. flat_map (walk image) (filter (is_taken image) (up_to n)) ++ ns) (append-nil (walk image (suc n)) ∙ named) in
          let a = ap (weigh h) all in
          let b = weigh-append h (flat_map (walk image) (filter (is_taken image) (up_to n))) (names_of file) in
          let c : weigh h (each names_of (file_at parts n)) ≡ weigh h (names_of file) = ap (λ (o : Option FileTree). weigh h (each names_of o)) e in
          omega arith

  each_names : (h : Mark → ℕ) (o : Option FileTree) → Among o parts.files
      → weigh h (each names_of o) ≡ weigh h (each tickets_of o) + weigh (node_ticket h) (each tokens_of o)
  each_names h None m = refl
  each_names h (Some file) m =
      let place = place_of (Some file) parts.files m in
      names_weigh h (stored_of file) (law.files place.0 file (place.2 None)).flushed

  -- what the walks name weighs what the marks of the segments do
  pub named_as_marked : (h : Mark → ℕ) → geometry.files ≤ geometry.nodes
      → weigh h (names geometry image) ≡ weigh (λ (s : SegmentState). weigh h s.marks) parts.segments
  named_as_marked h fit =
      let a = names_below_n h geometry.files (omega arith) fit in
      let b = weigh_by_index (λ (o : Option FileTree). weigh h (each names_of o)) parts.files None
      ∙ ap (λ m. sum_below m (λ k. weigh h (each names_of (file_at parts k)))) law.as_many in
      let c = weigh_same_among (λ (o : Option FileTree). weigh h (each names_of o)) (λ o. weigh h (each tickets_of o) + weigh (node_ticket h) (each tokens_of o)) parts.files
      (each_names h) in
      let d = weigh_plus (λ (o : Option FileTree). weigh h (each tickets_of o)) (λ o. weigh (node_ticket h) (each tokens_of o)) parts.files in
      let e = even.tickets h in
      let f = even.tokens (node_ticket h) in
      omega arith
