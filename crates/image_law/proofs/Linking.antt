-- Tokens and entries balance, so each token of a file stands in its shard and each entry is a token of some file: a
-- number has one entry, so the image has the file's node there.
use Rattle.image.specs.declared.image.NodeEntry.{NodeEntry}
use Rattle.std.proofs.Common.{◌≡◌, ◌≢◌, refl, sym, ◌∙◌, ap, subst, ℕ, zero, suc, ◌%◌, ◌<◌, ◌≤◌, ◌⊎◌, inl, inr, Bool, true, false, List, [], ◌∷◌, if◌then◌else◌, ◌==◌, ◌&&◌, eq-eqb, eqb-true, arith}
use Rattle.std.specs.Prelude.{Option, Some, None}
use Rattle.std.specs.List.{flat_map}
use Rattle.std.proofs.lemmas.Bool.{and_parts}
use Rattle.std.proofs.lemmas.Bool.Decides.{eqb_tells}
use Rattle.geometry.specs.declared.geometry.Geometry.{Geometry}
use Rattle.image.specs.Image.{Image, no_entry, entry_of}
use Rattle.geometry.specs.Weights.{weigh}
use Rattle.image_law.specs.Items.{Among}
use Rattle.geometry.specs.declared.kind.Kind.TheVariants.{File}
use Rattle.image_law.specs.Parts.{Token, found, Tree, Stored, each, top, stored_in, stored_below, Subtree, subtrees, FileTree, stored_of, token_at, tokens_of, Parts, shard_at, file_at, PartsLaw, Balanced, IsImageOf}
use Rattle.image_law.proofs.Weighing.{weigh_among, among_of_weigh, place_of, weigh_at, among-map, of_among-map, among_split}
use Rattle.image_law.proofs.Trees.{HoldsAll}

-- one for this token, and none for others
abbrev same_token : Token → Token → Bool
same_token d e = (d.nid == e.nid) && ((d.inode == e.inode) && (d.address == e.address))

abbrev one : Token → Token → ℕ
one d e = if same_token d e then 1 else 0

token_eq : (d e : Token) → same_token d e ≡ true → d ≡ e
token_eq d e t =
    let b = and_parts (d.nid == e.nid) ((d.inode == e.inode) && (d.address == e.address)) t in
    let c = and_parts (d.inode == e.inode) (d.address == e.address) b.1 in
    λ i. record { nid = eqb-true d.nid e.nid b.0 i; inode = eqb-true d.inode e.inode c.0 i; address = eqb-true d.address e.address c.1 i }

one_self : (d : Token) → one d d ≡ 1
one_self d = rw (eq-eqb d.nid d.nid refl, eq-eqb d.inode d.inode refl, eq-eqb d.address d.address refl) refl

one_is : (d e : Token) → 0 < one d e → d ≡ e
one_is d e some = go (same_token d e) refl some
  where
    go : (b : Bool) → same_token d e ≡ b → 0 < (if b then 1 else 0) → d ≡ e
    go true t s = token_eq d e t
    go false t s = absurd (omega arith)

-- an entry of a shard is found by its number
abbrev pub of_nid : ℕ → Token → ℕ
of_nid nid e = if e.nid == nid then 1 else 0

pub found_among : (nid : ℕ) (e : Token) (es : List Token) → weigh (of_nid nid) es ≤ 1 → Among e es → e.nid ≡ nid
    → found nid es ≡ record { inode = e.inode; address = e.address }
found_among nid e [] single m is = absurd m
found_among nid e (y ∷ ys) single (inl same) is =
    let here : (y.nid == nid) ≡ true = eq-eqb y.nid nid (ap (λ (x : Token). x.nid) same ∙ is) in
    rw here (ap (λ (x : Token). record { inode = x.inode; address = x.address }) same)
found_among nid e (y ∷ ys) single (inr m) is =
    elim (eqb_tells y.nid nid) [
      | inl (t, here) ↦
          let a = weigh_among (of_nid nid) e ys m in
          let b : of_nid nid e ≡ 1 = rw (eq-eqb e.nid nid is) refl in
          let c : of_nid nid y ≡ 1 = rw t refl in
          absurd (omega arith)
      | inr (t, apart) ↦
          let c : of_nid nid y ≡ 0 = rw t refl in
          rw t (found_among nid e ys (omega arith) m is)
    ]

-- and what is found is an entry
among_found : (nid : ℕ) (es : List Token) → (found nid es ≡ no_entry) ⊎ Among (record { nid = nid; inode = (found nid es).inode; address = (found nid es).address }) es
among_found nid [] = inl refl
among_found nid (y ∷ ys) = go (among_found nid ys) (y.nid == nid) refl
  where
    go : (found nid ys ≡ no_entry) ⊎ Among (record { nid = nid; inode = (found nid ys).inode; address = (found nid ys).address }) ys
        → (b : Bool) → (y.nid == nid) ≡ b
        → ((if b then record { inode = y.inode; address = y.address } else found nid ys) ≡ no_entry)
        ⊎ Among (record {
          nid = nid;
          inode = (if b then record { inode = y.inode; address = y.address } else found nid ys).inode;
          address = (if b then record { inode = y.inode; address = y.address } else found nid ys).address;
        }) (y ∷ ys)
    go rest true e = inr (inl (let n = eqb-true y.nid nid e in λ i. record { nid = n i; inode = y.inode; address = y.address }))
    go (inl none) false e = inl none
    go (inr m) false e = inr (inr m)

-- what holds of the nodes of each tree in a list of slots, or in a tree
each_all : {A : Type 0} (P : Stored → Type 0) (f : A → List Stored) → ((x : A) (s : Stored) → Among s (f x) → P s)
    → (xs : List (Option A)) (s : Stored) → Among s (flat_map (each f) xs) → P s
each_all P f of_each [] s m = absurd m
each_all P f of_each (None ∷ xs) s m = each_all P f of_each xs s m
each_all P f of_each (Some x ∷ xs) s m =
    elim (among_split s (f x) (flat_map (each f) xs) m) [
      | inl l ↦ of_each x s l
      | inr r ↦ each_all P f of_each xs s r
    ]

tree_all : (P : Stored → Type 0) (inode : ℕ) → ((level : ℕ) (tree : Tree level) → P (top inode level tree))
    → (level : ℕ) (tree : Tree level) (s : Stored) → Among s (stored_in inode level tree) → P s
tree_all P inode of_top zero tree s (inl e) = subst P e (of_top zero tree)
tree_all P inode of_top zero tree s (inr m) = absurd m
tree_all P inode of_top (suc level) tree s (inl e) = subst P e (of_top (suc level) tree)
tree_all P inode of_top (suc level) tree s (inr m) =
    each_all P (stored_in inode level) (λ t r n. tree_all P inode of_top level t r n) tree.slots s m

subtrees_all : (P : Stored → Type 0) (inode : ℕ) → ((level : ℕ) (tree : Tree level) → P (top inode level tree))
    → (subs : List Subtree) (s : Stored) → Among s (stored_below inode subs) → P s
subtrees_all P inode of_top [] s m = absurd m
subtrees_all P inode of_top ((level, None) ∷ subs) s m = subtrees_all P inode of_top subs s m
subtrees_all P inode of_top ((level, Some tree) ∷ subs) s m =
    elim (among_split s (stored_in inode level tree) (stored_below inode subs) m) [
      | inl l ↦ tree_all P inode of_top level tree s l
      | inr r ↦ subtrees_all P inode of_top subs s r
    ]

-- a node below an inode is of that file and of another class, and has no length and no kind of its own
pub record IsBelow (inode : ℕ) (s : Stored) : Type 0 where
  pub belongs : s.node.inode ≡ inode
  pub class : (1 ≤ s.node.class) × (s.node.class < 3)
  pub length : s.node.length ≡ 0
  pub kind : s.node.kind ≡ File

top_is_below : (inode level : ℕ) (tree : Tree level) → IsBelow inode (top inode level tree)
top_is_below inode zero tree = record { belongs = refl; class = (omega arith, omega arith); length = refl; kind = refl }
top_is_below inode (suc level) tree = record { belongs = refl; class = (omega arith, omega arith); length = refl; kind = refl }

pub below_inode : (file : FileTree) (s : Stored) → Among s (stored_below file.inode (subtrees file)) → IsBelow file.inode s
below_inode file = subtrees_all (IsBelow file.inode) file.inode (top_is_below file.inode) (subtrees file)

pub belongs_to : (file : FileTree) (s : Stored) → Among s (stored_of file) → s.node.inode ≡ file.inode
belongs_to file s (inl e) = sym (ap (λ (x : Stored). x.node.inode) e)
belongs_to file s (inr m) = (below_inode file s m).belongs

moved : (xs ys : List Token) (x y : Token) → Among x xs → x ≡ y → xs ≡ ys → Among y ys
moved xs ys x y m e f = subst (λ (zs : List Token). Among y zs) f (subst (λ (z : Token). Among z xs) e m)

module _ (geometry : Geometry) (parts : Parts) (law : PartsLaw geometry parts) (even : Balanced parts) where
  -- a token of a file stands in its shard
  token_in : (k : ℕ) (file : FileTree) (e : Token) → file_at parts k ≡ Some file → Among e (tokens_of file)
      → Among e (shard_at parts (e.nid % 16)) × (1 ≤ e.nid) × (e.nid ≤ geometry.nodes)
  token_in k file e at m =
      let mine : 1 ≤ weigh (one e) (tokens_of file) = let a = weigh_among (one e) e (tokens_of file) m in let b = one_self e in omega arith in
      let here : weigh (one e) (each tokens_of (file_at parts k)) ≡ weigh (one e) (tokens_of file) = ap (λ (o : Option FileTree). weigh (one e) (each tokens_of o)) at in
      let all : weigh (one e) (each tokens_of (file_at parts k)) ≤ weigh (λ o. weigh (one e) (each tokens_of o)) parts.files
      = weigh_at (λ (o : Option FileTree). weigh (one e) (each tokens_of o)) parts.files k None refl in
      let b = even.tokens (one e) in
      let shard = among_of_weigh (λ shard. weigh (one e) shard) parts.shards (omega arith) in
      let entry = among_of_weigh (one e) shard.0 shard.2 in
      let same : e ≡ entry.0 = one_is e entry.0 entry.2 in
      let place = place_of shard.0 parts.shards shard.1 in
      let there : Among e (shard_at parts place.0)
      = moved shard.0 (shard_at parts place.0) entry.0 e entry.1 (sym same) (sym (place.2 [])) in
      let home : e.nid % 16 ≡ place.0 = (law.shards place.0).home e there in
      let range = (law.shards place.0).range e there in
      (subst (λ (j : ℕ). Among e (shard_at parts j)) (sym home) there, range.0, range.1)

  -- and so does that of each node of a file
  pub stored_found : (k : ℕ) (file : FileTree) (s : Stored) → file_at parts k ≡ Some file → Among s (stored_of file)
      → (found s.node.nid (shard_at parts (s.node.nid % 16)) ≡ record { inode = s.node.inode; address = s.address }) × (1 ≤ s.node.nid) × (s.node.nid ≤ geometry.nodes)
  stored_found k file s at m =
      let t = token_in k file (token_at s) at (among-map token_at s (stored_of file) m) in (
        found_among s.node.nid (token_at s) (shard_at parts (s.node.nid % 16)) ((law.shards (s.node.nid % 16)).single s.node.nid) t.0 refl,
        t.1,
        t.2,
      )

module _ (geometry : Geometry) (parts : Parts) (image : Image) (law : PartsLaw geometry parts) (even : Balanced parts) (is : IsImageOf geometry parts image) where
  pub stored_range : (k : ℕ) (file : FileTree) (s : Stored) → file_at parts k ≡ Some file → Among s (stored_of file)
      → (1 ≤ s.node.nid) × (s.node.nid ≤ geometry.nodes)
  stored_range k file s at m = let t = stored_found geometry parts law even k file s at m in (t.1, t.2)

  -- the image holds all nodes of the files
  pub file_held : (k : ℕ) (file : FileTree) → file_at parts k ≡ Some file → HoldsAll image (stored_of file)
  file_held k file at s m =
      let t = stored_found geometry parts law even k file s at m in
      (is.entries s.node.nid t.1 t.2 ∙ t.0, is.stored k file s at m, (law.files k file at).flushed s m)

  -- a node number that is taken is that of a node of a file
  abbrev pub Owned : ℕ → Type 0
  Owned nid = (k : ℕ) × (file : FileTree) × (s : Stored) × (file_at parts k ≡ Some file) × Among s (stored_of file) × (s.node.nid ≡ nid)

  some_file : (o : Option FileTree) (e : Token) → Among e (each tokens_of o) → (file : FileTree) × (o ≡ Some file) × Among e (tokens_of file)
  some_file None e m = absurd m
  some_file (Some file) e m = (file, refl, m)

  -- an entry of a shard is the token of a node of a file
  pub token_owned : (j : ℕ) (e : Token) → Among e (shard_at parts j) → Owned e.nid
  token_owned j e m =
      let mine : 1 ≤ weigh (one e) (shard_at parts j) = let a = weigh_among (one e) e (shard_at parts j) m in let b = one_self e in omega arith in
      let all : weigh (one e) (shard_at parts j) ≤ weigh (λ shard. weigh (one e) shard) parts.shards
      = weigh_at (λ (es : List Token). weigh (one e) es) parts.shards j [] refl in
      let b = even.tokens (one e) in
      let item = among_of_weigh (λ (o : Option FileTree). weigh (one e) (each tokens_of o)) parts.files (omega arith) in
      let token = among_of_weigh (one e) (each tokens_of item.0) item.2 in
      let same : e ≡ token.0 = one_is e token.0 token.2 in
      let file = some_file item.0 token.0 token.1 in
      let place = place_of item.0 parts.files item.1 in
      let s = of_among-map token_at token.0 (stored_of file.0) file.2 in
      (place.0, file.0, s.0, place.2 None ∙ file.1, s.1, ap (λ (x : Token). x.nid) (s.2 ∙ sym same))

  -- each number has no entry, or that of a node of a file
  pub entry_cases : (nid : ℕ) → 1 ≤ nid → nid ≤ geometry.nodes → (entry_of image nid ≡ no_entry) ⊎ Owned nid
  entry_cases nid low high =
      let at = is.entries nid low high in
      elim (among_found nid (shard_at parts (nid % 16))) [
        | inl none ↦ inl (at ∙ none)
        | inr m ↦ inr (token_owned (nid % 16) _ m)
      ]

  pub taken_owned : (nid : ℕ) → 1 ≤ nid → nid ≤ geometry.nodes → (entry_of image nid).address ≢ 0 → Owned nid
  taken_owned nid low high some =
      elim (entry_cases nid low high) [
        | inl none ↦ absurd (some (ap (λ (x : NodeEntry). x.address) none))
        | inr owned ↦ owned
      ]
