-- A number has one entry at most, in its own shard, so one node at most is put into its row: what stands there is the
-- node that its file has.
use Rattle.std.proofs.Common.{◌≡◌, ◌≢◌, refl, sym, ◌∙◌, ap, subst, ℕ, zero, suc, ◌-◌, ◌%◌, ◌<◌, ◌≤◌, ◌==◌, inl, inr, List, [], ◌∷◌, length, set, get_or, replicate, if◌then◌else◌, arith}
use Rattle.std.specs.Prelude.{Option, Some, None}
use Rattle.std.specs.List.{flat_map}
use Rattle.std.proofs.lemmas.Bool.{ne_eqb}
use Rattle.std.proofs.lemmas.List.{length-set, length-replicate}
use Rattle.geometry.specs.declared.geometry.Geometry.{Geometry}
use Rattle.image.specs.declared.image.NodeEntry.{NodeEntry}
use Rattle.image.specs.Node.{Node}
use Rattle.image.specs.Image.{Image, no_node, no_entry, entry_of, node_of}
use Rattle.geometry.specs.Weights.{weigh}
use Rattle.image_law.specs.Items.{Among}
use Rattle.image_law.specs.Parts.{Token, Stored, FileTree, each, stored_of, token_at, tokens_of, found, Parts, shard_at, file_at, PartsLaw, Balanced, IsImageOf}
use Rattle.image_law.proofs.Weighing.{among_of_weigh, among-map, of_among-map, among-flat_map, place_of, among_at, among_split, weigh-map, weigh-flat_map, weigh_same_among, weigh_by_index}
use Rattle.image_law.proofs.Linking.{of_nid, stored_found}
use Rattle.image_law.proofs.Marks.{sum_one}
use Rattle.image_law.proofs.Tables.{entry_is, length-table}
use Rattle.checkpoint_image.specs.Taken.{put_rows, node_in, nodes_in, all_nodes, IsTakenOf, AreSized}
use Rattle.checkpoint_image.proofs.Rowing.{AreNumbered, of_number, is_counted, put_other, put_found}

-- an item of what each of some lists has
of_among-flat_map : {A B : Type 0} (f : A → List B) (z : B) (xs : List A) → Among z (flat_map f xs) → (x : A) × Among x xs × Among z (f x)
of_among-flat_map f z [] m = absurd m
of_among-flat_map f z (x ∷ xs) m =
    elim (among_split z (f x) (flat_map f xs) m) [
      | inl l ↦ (x, inl refl, l)
      | inr r ↦ let there = of_among-flat_map f z xs r in (there.0, inr there.1, there.2)
    ]

blank_row : (n j : ℕ) → get_or (replicate n no_node) j no_node ≡ no_node
blank_row zero j = refl
blank_row (suc n) zero = refl
blank_row (suc n) (suc j) = blank_row n j

-- the nodes of a file, and its tokens, are counted alike
nodes_weigh : (nid : ℕ) (o : Option FileTree) → weigh (of_number nid) (nodes_in o) ≡ weigh (of_nid nid) (each tokens_of o)
nodes_weigh nid None = refl
nodes_weigh nid (Some file) =
    weigh-map (of_number nid) node_in (stored_of file) ∙ sym (weigh-map (of_nid nid) token_at (stored_of file))

some_tree : (o : Option FileTree) (n : Node) → Among n (nodes_in o) → (file : FileTree) × (s : Stored) × (o ≡ Some file) × Among s (stored_of file) × (s.node ≡ n)
some_tree None n m = absurd m
some_tree (Some file) n m = let s = of_among-map node_in n (stored_of file) m in (file, s.0, refl, s.1, s.2)

module _ (geometry : Geometry) (parts : Parts) (law : PartsLaw geometry parts) (even : Balanced parts) where
  -- a number has an entry in its own shard alone, and there one at most
  elsewhere : (nid k : ℕ) → k ≢ nid % 16 → weigh (of_nid nid) (shard_at parts k) ≡ 0
  elsewhere nid k apart = go (weigh (of_nid nid) (shard_at parts k)) refl
    where
      hit : (t : Token) → 0 < of_nid nid t → t.nid ≡ nid
      hit t some = is_counted nid (record { nid = t.nid; inode = 0; class = 0; length = 0; kind = no_node.kind; addresses = []; children = [] }) some

      go : (w : ℕ) → weigh (of_nid nid) (shard_at parts k) ≡ w → weigh (of_nid nid) (shard_at parts k) ≡ 0
      go zero e = e
      go (suc w) e =
          let t = among_of_weigh (of_nid nid) (shard_at parts k) (omega arith) in
          let home = (law.shards k).home t.0 t.1 in
          absurd (apart (sym home ∙ ap (λ (n : ℕ). n % 16) (hit t.0 t.2)))

  few : (nid : ℕ) → weigh (of_number nid) (all_nodes parts) ≤ 1
  few nid =
      let a = weigh-flat_map (of_number nid) nodes_in parts.files in
      let b = weigh_same_among (λ (o : Option FileTree). weigh (of_number nid) (nodes_in o)) (λ (o : Option FileTree). weigh (of_nid nid) (each tokens_of o)) parts.files
      (λ o m. nodes_weigh nid o) in
      let c = even.tokens (of_nid nid) in
      let d = weigh_by_index (λ (es : List Token). weigh (of_nid nid) es) parts.shards [] in
      let e = sum_one (length parts.shards) (nid % 16) (λ k. weigh (of_nid nid) (shard_at parts k)) (λ k apart. elsewhere nid k apart) ((law.shards (nid % 16)).single nid) in
      omega arith

  -- each of the nodes is one of a file
  abbrev pub IsOf : Node → Type 0
  IsOf n = (k : ℕ) × (file : FileTree) × (s : Stored) × (file_at parts k ≡ Some file) × Among s (stored_of file) × (s.node ≡ n)

  node_owned : (n : Node) → Among n (all_nodes parts) → IsOf n
  node_owned n m =
      let o = of_among-flat_map nodes_in n parts.files m in
      let t = some_tree o.0 n o.2 in
      let p = place_of o.0 parts.files o.1 in
      (p.0, t.0, t.1, p.2 None ∙ t.2, t.3, t.4)

  among_all : (k : ℕ) (file : FileTree) (s : Stored) → file_at parts k ≡ Some file → Among s (stored_of file) → Among s.node (all_nodes parts)
  among_all k file s at m =
      let low = in_files k parts.files file at in
      let here : Among s.node (nodes_in (file_at parts k)) = subst (λ (o : Option FileTree). Among s.node (nodes_in o)) (sym at) (among-map node_in s (stored_of file) m) in
      among-flat_map nodes_in s.node (file_at parts k) parts.files (among_at parts.files k None low) here
    where
      in_files : (k : ℕ) (xs : List (Option FileTree)) (file : FileTree) → get_or xs k None ≡ Some file → k < length xs
      in_files k [] file e = absurd (cc)
      in_files zero (x ∷ xs) file e = omega arith
      in_files (suc k) (x ∷ xs) file e = let there = in_files k xs file e in omega arith

  pub numbered : AreNumbered geometry.nodes (all_nodes parts)
  numbered n m =
      let o = node_owned n m in
      let f = stored_found geometry parts law even o.0 o.1 o.2 o.3 o.4 in
      let same = ap (λ (x : Node). x.nid) o.5 in
      (omega_low o.2.node.nid n.nid same f.1, omega_high o.2.node.nid n.nid same f.2)
    where
      omega_low : (a b : ℕ) → a ≡ b → 1 ≤ a → 1 ≤ b
      omega_low a b e l = omega arith

      omega_high : (a b : ℕ) → a ≡ b → a ≤ geometry.nodes → b ≤ geometry.nodes
      omega_high a b e l = omega arith

  module _ (image : Image) (is : IsTakenOf geometry parts image) where
    abbrev rows : List Node
    rows = replicate geometry.nodes no_node

    entries_are : (nid : ℕ) → 1 ≤ nid → nid ≤ geometry.nodes → entry_of image nid ≡ found nid (shard_at parts (nid % 16))
    entries_are nid low high =
        ap (λ (table : List NodeEntry). if nid == 0 then no_entry else get_or table (nid - 1) no_entry) is.table
        ∙ entry_is geometry image.version parts (λ a. []) nid low high

    row_is : (j : ℕ) → node_of image (suc j) ≡ get_or (put_rows rows (all_nodes parts)) j no_node
    row_is j =
        let e : suc j - 1 ≡ j = omega arith in
        rw (ne_eqb (suc j) 0 (λ z. cc), e) (ap (λ (ns : List Node). get_or ns j no_node) is.nodes)

    rows_numbered : AreNumbered (length rows) (all_nodes parts)
    rows_numbered n m = let r = numbered n m in let l = length-replicate geometry.nodes no_node in (r.0, omega arith)

    stored_is : (k : ℕ) (file : FileTree) (s : Stored) → file_at parts k ≡ Some file → Among s (stored_of file) → node_of image s.node.nid ≡ s.node
    stored_is k file s at m =
        let here = among_all k file s at m in
        let low = (numbered s.node here).0 in
        let next : suc (s.node.nid - 1) ≡ s.node.nid = omega arith in
        ap (node_of image) (sym next) ∙ row_is (s.node.nid - 1)
        ∙ put_found rows (all_nodes parts) s.node no_node rows_numbered (few s.node.nid) here

    untaken_is : (nid : ℕ) → (entry_of image nid).address ≡ 0 → node_of image nid ≡ no_node
    untaken_is zero none = refl
    untaken_is (suc j) none = row_is j ∙ go (weigh (of_number (suc j)) (all_nodes parts)) refl
      where
        go : (w : ℕ) → weigh (of_number (suc j)) (all_nodes parts) ≡ w → get_or (put_rows rows (all_nodes parts)) j no_node ≡ no_node
        go zero e = put_other rows (all_nodes parts) (length rows) j no_node rows_numbered e ∙ blank_row geometry.nodes j
        go (suc w) e =
            let n = among_of_weigh (of_number (suc j)) (all_nodes parts) (omega arith) in
            let o = node_owned n.0 n.1 in
            let f = stored_found geometry parts law even o.0 o.1 o.2 o.3 o.4 in
            let number : o.2.node.nid ≡ suc j = ap (λ (x : Node). x.nid) o.5 ∙ is_counted (suc j) n.0 n.2 in
            let entry = entries_are o.2.node.nid f.1 f.2 ∙ f.0 in
            let address : o.2.address ≡ 0
            = sym (ap (λ (x : NodeEntry). x.address) entry) ∙ ap (λ (k : ℕ). (entry_of image k).address) number ∙ none in
            absurd ((law.files o.0 o.1 o.3).flushed o.2 o.4 address)

    pub is_image_of : AreSized geometry parts → IsImageOf geometry parts image
    is_image_of sized = record {
      version = is.version;
      total = is.total;
      logs = is.logs;
      segments = is.segments;
      summaries = is.summaries;
      table = ap length is.table ∙ length-table geometry image.version parts (λ a. []);
      entries = entries_are;
      nodes = ap length is.nodes ∙ long (all_nodes parts) rows ∙ length-replicate geometry.nodes no_node;
      stored = stored_is;
      sized = sized;
      untaken = untaken_is;
    }
      where
        long : (nodes rows : List Node) → length (put_rows rows nodes) ≡ length rows
        long [] rows = refl
        long (n ∷ nodes) rows = long nodes (set rows (n.nid - 1) n) ∙ length-set rows (n.nid - 1) n
