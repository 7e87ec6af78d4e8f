-- Marks and names weigh the same, tokens and entries too, so each name is of one marked block and each entry of one
-- node: with the parts' own laws this gives all ten rules.
use Rattle.geometry.specs.declared.owner.Mark.{Mark}
use Rattle.image.specs.declared.image.LogHead.{LogHead}
use Rattle.image.specs.declared.image.NodeEntry.{NodeEntry}
use Rattle.std.proofs.Common.{◌≡◌, ◌≢◌, refl, sym, ◌∙◌, ap, subst, ℕ, zero, suc, ◌+◌, ◌-◌, ◌*◌, ◌<◌, ◌≤◌, ◌⊎◌, inl, inr, Bool, true, false, IsTrue, List, [], ◌∷◌, map, length, get_or, fold, arith}
use Rattle.std.specs.Prelude.{Option, Some, None, IfSome, All, AllPairs, Contains, sum_by, count_by}
use Rattle.std.proofs.lemmas.Bool.{ne_eqb}
use Rattle.std.proofs.lemmas.Bool.Decides.{leb_tells}
use Rattle.std.proofs.lemmas.List.{get_or_default, get_or_past, length-map}
use Rattle.geometry.specs.declared.geometry.Geometry.{Geometry}
use Rattle.geometry.specs.Path.{largest_length}
use Rattle.geometry.specs.Address.{address_of}
use Rattle.geometry.specs.Area.{block_count}
use Rattle.image.specs.Node.{Node, IsPlain}
use Rattle.image.specs.Image.{Image, SegmentInfo, no_summary, no_entry, no_node, no_segment, entry_of, node_of, is_marked, summary_at}
use Rattle.geometry.specs.declared.owner.Owner.{Owner}
use Rattle.geometry.specs.declared.owner.Owner.TheVariants.{Node as OfNode, Data}
use Rattle.geometry.specs.Summary.{summary_of}
use Rattle.image.specs.Walk.{walk, names, inodes, is_taken, up_to, misfits}
use Rattle.image.specs.Files.{data_address}
use Rattle.image.specs.Rules.{IsPlace, IsEntry, HasRange, IsInRange, AreApart, IsNodeOf, TableHoldsNodes, NodesFit, NodesAreMet, MarkedIsNamed, NumbersAgree, IsLawful}
use Rattle.geometry.specs.Weights.{weigh}
use Rattle.image_law.specs.Items.{sum_below, Among}
use Rattle.image_law.specs.Parts.{SegmentState, owner_at, is_named, summary_in, info, Stored, FileTree, inode_stored, stored_of, ticket_at, Parts, segment_at, file_at, PartsLaw, Balanced, IsImageOf}
use Rattle.image_law.proofs.Weighing.{place_of, among-flat_map}
use Rattle.image_law.proofs.Trees.{names_at, file_named, file_fits, HoldsAll}
use Rattle.image_law.proofs.Marking.{owned, owner_after, all_marks, info_there, marked_at, marked_owner, summary_owner, marked_low, unmarked, summaries_sized}
use Rattle.image_law.proofs.Linking.{below_inode, belongs_to, stored_range, file_held, Owned, entry_cases, taken_owned}
use Rattle.image_law.proofs.Naming.{names_of, taken_some, not_both, number_of, file_taken, none_taken, named_as_marked}
use Rattle.image_law.proofs.Looking.{data_address_is}
use Rattle.image_law.proofs.Ranges.{all_of, among-filter, of_among-filter, among_up_to, of_among_up_to, data_among, file_kids}
use Rattle.image_law.proofs.Marks.{IsMarkedName, named_marked, marked_named, names_apart}
use Rattle.geometry.specs.Shape.{segment_blocks}

-- the sum of the counts
fold_info : (a : ℕ) (xs : List SegmentState) → fold (λ a (s : SegmentInfo). a + s.count) a (map info xs) ≡ fold (λ a (s : SegmentState). a + (info s).count) a xs
fold_info a [] = refl
fold_info a (x ∷ xs) = fold_info (a + (info x).count) xs

module _ (geometry : Geometry) (parts : Parts) (image : Image) (law : PartsLaw geometry parts) (even : Balanced parts) (is : IsImageOf geometry parts image) where
  abbrev owner : ℕ → Option Owner
  owner = owner_after geometry parts image law is

  total_even : (h : Mark → ℕ) → weigh h (names geometry image) ≡ sum_below (block_count geometry) (λ k. owned h (suc k) (owner k))
  total_even h = named_as_marked geometry parts image law even is h geometry.limits.inodes ∙ all_marks geometry parts image law is h

  held : (k : ℕ) (file : FileTree) → file_at parts k ≡ Some file → HoldsAll image (stored_of file)
  held = file_held geometry parts image law even is

  low_file : (k : ℕ) (file : FileTree) → file_at parts k ≡ Some file → k < geometry.files
  low_file k file at =
      elim (leb_tells (suc k) geometry.files) [
        | inl (t, low) ↦ low
        | inr (t, high) ↦
            let long = law.as_many in
            absurd (not_both (file_at parts k) file (get_or_past parts.files k None (omega arith)) at)
      ]

  -- a file's names are among the names of the image
  file_among : (k : ℕ) (file : FileTree) → file_at parts k ≡ Some file → (n : Mark) → Among n (names_of file) → Among n (names geometry image)
  file_among k file at n m =
      let low = low_file k file at in
      let here : Among (suc k) (inodes geometry image)
      = among-filter (is_taken image) (suc k) (up_to geometry.files) (among_up_to geometry.files k low) (file_taken geometry parts image law even is k file at) in
      let named : walk image (suc k) ≡ names_of file = ap (walk image) (sym (number_of geometry parts image law even is k file at)) ∙ file_named image file (held k file at) in
      among-flat_map (walk image) n (suc k) (inodes geometry image) here (subst (λ (xs : List Mark). Among n xs) (sym named) m)

  stored_among : (k : ℕ) (file : FileTree) → file_at parts k ≡ Some file → (s : Stored) → Among s (stored_of file) → (n : Mark) → Among n (names_at s)
      → Among n (names geometry image)
  stored_among k file at s m n here = file_among k file at n (among-flat_map names_at n s (stored_of file) m here)

  name_marked : (n : Mark) → Among n (names geometry image) → IsMarkedName (block_count geometry) owner (names geometry image) total_even n
  name_marked = named_marked (block_count geometry) owner (names geometry image) total_even

  name_low : (n : Mark) → Among n (names geometry image) → n.address ≤ block_count geometry
  name_low n m = let marked = name_marked n m in omega (arith, marked.within, marked.address)

  stored_low : (k : ℕ) (file : FileTree) → file_at parts k ≡ Some file → (s : Stored) → Among s (stored_of file) → s.address ≤ block_count geometry
  stored_low k file at s m = name_low _ (stored_among k file at s m (record { address = s.address; owner = OfNode s.node.nid }) (inl refl))

  -- each inode is that of a file
  inode_file : (x : ℕ) → Among x (inodes geometry image) → (k : ℕ) × (file : FileTree) × (file_at parts k ≡ Some file) × (file.inode ≡ x)
  inode_file x m =
      let f = of_among-filter (is_taken image) x (up_to geometry.files) m in
      let j = of_among_up_to geometry.files x f.0 in
      go j.0 j.1 (ap (is_taken image) (sym j.2) ∙ f.1) (file_at parts j.0) refl j.2
    where
      go : (j : ℕ) → j < geometry.files → is_taken image (suc j) ≡ true → (o : Option FileTree) → file_at parts j ≡ o → x ≡ suc j
          → (k : ℕ) × (file : FileTree) × (file_at parts k ≡ Some file) × (file.inode ≡ x)
      go j low taken None e same =
          let fit = geometry.limits.inodes in
          let none = none_taken geometry parts image law even is j low (omega arith) e in
          let no : true ≡ false = sym taken ∙ none in absurd cc
      go j low taken (Some file) e same = (j, file, e, number_of geometry parts image law even is j file e ∙ sym same)

  -- 1
  node_range : (k : ℕ) (file : FileTree) → file_at parts k ≡ Some file → (s : Stored) → Among s (stored_of file) → HasRange geometry s.node
  node_range k file at s m = record {
    inode = (let e = belongs_to file s m ∙ number_of geometry parts image law even is k file at in let below = low_file k file at in let fit = geometry.limits.inodes in omega arith);
    entries = is.sized k file s at m;
    addresses = all_of (λ a. a ≤ block_count geometry) s.node.addresses low;
    children = all_of (λ c. c ≤ geometry.nodes) s.node.children
        (file_kids geometry.nodes file (λ t r. (stored_range geometry parts image law even is k file t at r).1) s m);
    length = reach m;
    plain = plain m;
  }
    where
      plain : Among s (stored_of file) → IsPlain s.node
      plain (inl e) = subst (λ (x : Stored). IsPlain x.node) e (inl refl)
      plain (inr r) = let b = below_inode file s r in inr (b.length, b.kind)

      low : (a : ℕ) → Among a s.node.addresses → a ≤ block_count geometry
      low a n =
          elim (data_among s.node.nid 0 a s.node.addresses n) [
            | inl e ↦ omega arith
            | inr r ↦ name_low _ (stored_among k file at s m (record { address = a; owner = Data s.node.nid r.0 }) (inr r.1))
          ]

      reach : Among s (stored_of file) → s.node.length ≤ largest_length geometry.shape
      reach (inl e) = subst (λ (x : Stored). x.node.length ≤ largest_length geometry.shape) e (law.files k file at).reach
      reach (inr r) = let none = (below_inode file s r).length in omega arith

  no_node_range : HasRange geometry no_node
  no_node_range = record {
    inode = omega arith;
    entries = (refl, refl);
    addresses = λ k d low. absurd (omega arith);
    children = λ k d low. absurd (omega arith);
    length = omega arith;
    plain = inr (refl, refl);
  }

  entry_here : (k : ℕ) → entry_of image (suc k) ≡ get_or image.node_table k no_entry
  entry_here k = let e : suc k - 1 ≡ k = omega arith in rw (ne_eqb (suc k) 0 (λ z. cc), e) refl

  node_here : (k : ℕ) → node_of image (suc k) ≡ get_or image.nodes k no_node
  node_here k = let e : suc k - 1 ≡ k = omega arith in rw (ne_eqb (suc k) 0 (λ z. cc), e) refl

  entry_range : (k : ℕ) → k < geometry.nodes → IsEntry geometry (entry_of image (suc k))
  entry_range k low =
      elim (entry_cases geometry parts image law even is (suc k) (omega arith) (omega arith)) [
        | inl none ↦ subst (IsEntry geometry) (sym none) (omega arith, omega arith, (λ e. e, λ e. e))
        | inr owned ↦
            let file = owned.1 in
            let s = owned.2 in
            let here = (held owned.0 file owned.3 s owned.4).0 in
            let inode : s.node.inode ≡ suc owned.0 = belongs_to file s owned.4 ∙ number_of geometry parts image law even is owned.0 file owned.3 in
            let below = low_file owned.0 file owned.3 in
            let fit = geometry.limits.inodes in
            let a = stored_low owned.0 file owned.3 s owned.4 in
            let some = (law.files owned.0 file owned.3).flushed s owned.4 in
            subst (λ (nid : ℕ). IsEntry geometry (entry_of image nid)) owned.5
            (subst (IsEntry geometry) (sym here) (omega arith, a, (λ e. absurd (omega (arith, inode, e)), λ e. absurd (some e))))
      ]

  node_range_at : (k : ℕ) → k < geometry.nodes → HasRange geometry (node_of image (suc k))
  node_range_at k low =
      elim (entry_cases geometry parts image law even is (suc k) (omega arith) (omega arith)) [
        | inl none ↦ subst (HasRange geometry) (sym (is.untaken (suc k) (ap (λ (x : NodeEntry). x.address) none))) no_node_range
        | inr owned ↦
            let here = (held owned.0 owned.1 owned.3 owned.2 owned.4).1 in
            subst (λ (nid : ℕ). HasRange geometry (node_of image nid)) owned.5
            (subst (HasRange geometry) (sym here) (node_range owned.0 owned.1 owned.3 owned.2 owned.4))
      ]

  open_place : (o : Option LogHead) → IfSome o (λ place. (place.segment < geometry.segments) × ((segment_at parts place.segment).log ≡ Some place.next))
      → IfSome o (IsPlace geometry)
  open_place None t = tt
  open_place (Some p) t =
      let l = subst (λ (o : Option ℕ). IfSome o (λ next. (next < segment_blocks geometry.shape) × ((offset : ℕ) → next ≤ offset → owner_at (segment_at parts p.segment) offset ≡ None)))
      t.1 (law.states p.segment t.0).log in
      (t.0, l.0)

  in_range : IsInRange geometry image
  in_range = record {
    version = is.version;
    logs = ap length is.logs ∙ law.logs;
    places = subst (λ (xs : List (Option LogHead)). All (λ log. IfSome log (IsPlace geometry)) xs) (sym is.logs) (λ k d low. open_place _ (law.opened k d low));
    table = is.table;
    entries = λ k d low.
        let t = is.table in
        subst (IsEntry geometry) (entry_here k ∙ get_or_default image.node_table k no_entry d low) (entry_range k (omega arith));
    segments = ap length is.segments ∙ length-map parts.segments info ∙ law.segments;
    bits = λ k d low.
        let s : length image.segments ≡ geometry.segments = ap length is.segments ∙ length-map parts.segments info ∙ law.segments in
        let under : k < geometry.segments = omega arith in
        subst (λ (x : SegmentInfo). length x.bits ≡ segment_blocks geometry.shape)
        (sym (info_there geometry parts image law is k under) ∙ get_or_default image.segments k no_segment d low)
        (length-map (segment_at parts k).summaries is_named ∙ (law.states k under).sized);
    summaries = summaries_sized geometry parts image law is;
    as_many = is.nodes;
    nodes = λ k d low.
        let t = is.nodes in
        subst (HasRange geometry) (node_here k ∙ get_or_default image.nodes k no_node d low) (node_range_at k (omega arith));
    owned = λ nid low none. is.untaken nid none;
  }

  -- 3
  local_rule : (k : ℕ) (file : FileTree) → file_at parts k ≡ Some file → (s : Stored) → Among s (stored_of file)
      → (s.node.class < 3) × (s.node.nid ≤ geometry.files → (s.node.class ≡ 0) × (s.node.inode ≡ s.node.nid)) × (geometry.files < s.node.nid → s.node.class ≢ 0)
  local_rule k file at s (inl e) =
      let number = number_of geometry parts image law even is k file at in
      let low = low_file k file at in
      let class : 0 ≡ s.node.class = ap (λ (x : Stored). x.node.class) e in
      let nid : file.inode ≡ s.node.nid = ap (λ (x : Stored). x.node.nid) e in
      let inode : file.inode ≡ s.node.inode = ap (λ (x : Stored). x.node.inode) e in
      (omega arith, λ l. (sym class, sym inode ∙ nid), λ high. absurd (omega arith))
  local_rule k file at s (inr r) =
      let high = (law.files k file at).others s r in
      let class = (below_inode file s r).class in
      (class.1, λ l. absurd (omega arith), λ h same. let c = class.0 in omega arith)

  holds_node : (nid : ℕ) → Owned geometry parts image law even is nid → IsNodeOf geometry image nid
  holds_node nid (k, file, s, at, m, same) =
      let h = held k file at s m in
      let rule = local_rule k file at s m in
      subst (IsNodeOf geometry image) same (record {
        number = ap (λ (x : Node). x.nid) h.1;
        belongs = ap (λ (x : Node). x.inode) h.1 ∙ sym (ap (λ (x : NodeEntry). x.inode) h.0);
        class = subst (λ (x : Node). x.class < 3) (sym h.1) rule.0;
        low = λ l. subst (λ (x : Node). (x.class ≡ 0) × (x.inode ≡ s.node.nid)) (sym h.1) (rule.1 l);
        high = λ l. subst (λ (x : Node). x.class ≢ 0) (sym h.1) (rule.2 l);
      })

  taken_owner : (nid : ℕ) → nid ≤ geometry.nodes → is_taken image nid ≡ true → Owned geometry parts image law even is nid
  taken_owner zero low taken = absurd cc
  taken_owner (suc nid) low taken =
      taken_owned geometry parts image law even is (suc nid) (omega arith) low (taken_some (entry_of image (suc nid)).address taken)

  holds_nodes : TableHoldsNodes geometry image
  holds_nodes nid low taken = holds_node nid (taken_owner nid low taken)

  -- 4
  nodes_fit : NodesFit geometry image
  nodes_fit = all_of (λ inode. misfits image inode ≡ []) (inodes geometry image) (λ x m.
      let f = inode_file x m in
      ap (misfits image) (sym f.3) ∙ file_fits image f.1 (held f.0 f.1 f.2))

  -- 5
  node_met : (nid : ℕ) → Owned geometry parts image law even is nid → Contains (names geometry image) (record { address = (entry_of image nid).address; owner = OfNode nid })
  node_met nid (k, file, s, at, m, same) =
      let e = (held k file at s m).0 in
      let n : Mark = record { address = (entry_of image s.node.nid).address; owner = OfNode s.node.nid } in
      let there : Among n (names geometry image) = stored_among k file at s m n (inl (λ i. record { address = (sym e i).address; owner = OfNode s.node.nid })) in
      let p = place_of n (names geometry image) there in
      subst (λ (x : ℕ). Contains (names geometry image) (record { address = (entry_of image x).address; owner = OfNode x })) same
      (p.0, p.1, p.2 n)

  nodes_met : NodesAreMet geometry image
  nodes_met nid low taken = node_met nid (taken_owner nid low taken)

  -- 8
  marked_is_named : MarkedIsNamed geometry image
  marked_is_named address marked =
      let p = marked_low geometry parts image law is address marked in
      let t : is_named (owner p.0) ≡ true = sym (marked_owner geometry parts image law is p.0 p.1) ∙ ap (is_marked geometry image) (sym p.2) ∙ marked in
      let o = who (owner p.0) t in
      subst (Contains (map (λ (n : Mark). n.address) (names geometry image))) (sym p.2)
      (marked_named (block_count geometry) owner (names geometry image) total_even p.0 p.1 o.0 o.1)
    where
      who : (o : Option Owner) → is_named o ≡ true → (p : Owner) × (o ≡ Some p)
      who None e = absurd cc
      who (Some p) e = (p, refl)

  -- 7 and 9
  named_is_marked : (n : Mark) → Among n (names geometry image) → is_marked geometry image n.address ≡ true
  named_is_marked n m =
      let marked = name_marked n m in
      ap (is_marked geometry image) marked.address ∙ marked_owner geometry parts image law is marked.place marked.within ∙ ap is_named marked.owner_is

  summary_tells : (n : Mark) → Among n (names geometry image) → summary_at image n.address ≡ summary_of n.owner
  summary_tells n m =
      let marked = name_marked n m in
      ap (summary_at image) marked.address ∙ summary_owner geometry parts image law is marked.place marked.within ∙ ap summary_in marked.owner_is

  -- 9
  unmarked_has_none : (address : ℕ) → IsTrue (is_marked geometry image address) ⊎ (summary_at image address ≡ no_summary)
  unmarked_has_none address = go (is_marked geometry image address) refl
    where
      go : (b : Bool) → is_marked geometry image address ≡ b → IsTrue (is_marked geometry image address) ⊎ (summary_at image address ≡ no_summary)
      go true e = inl e
      go false e = inr (unmarked geometry parts image law is address e)

  -- 10
  log_free : (o : Option LogHead) → IfSome o (λ place. (place.segment < geometry.segments) × ((segment_at parts place.segment).log ≡ Some place.next))
      → IfSome o (λ place. (offset : ℕ) → place.next ≤ offset → offset < segment_blocks geometry.shape
      → ¬ IsTrue (is_marked geometry image (address_of geometry.shape place.segment offset)))
  log_free None t = tt
  log_free (Some p) t = λ offset past under marked.
      let l = subst (λ (o : Option ℕ). IfSome o (λ next. (next < segment_blocks geometry.shape) × ((offset : ℕ) → next ≤ offset → owner_at (segment_at parts p.segment) offset ≡ None)))
      t.1 (law.states p.segment t.0).log in
      let e : address_of geometry.shape p.segment offset ≡ suc (p.segment * segment_blocks geometry.shape + offset) = omega arith in
      let clear : is_marked geometry image (address_of geometry.shape p.segment offset) ≡ false
      = ap (is_marked geometry image) e ∙ marked_at geometry parts image law is p.segment offset t.0 under ∙ ap is_named (l.1 offset past) in
      let no : true ≡ false = sym marked ∙ clear in absurd cc

  length_kept : (x : ℕ) → Among x (inodes geometry image) → (index : ℕ) → data_address geometry.shape image x index ≢ 0 → index < (node_of image x).length
  length_kept x m index some =
      let f = inode_file x m in
      let h = held f.0 f.1 f.2 in
      let n = (h (inode_stored f.1) (inl refl)).1 in
      let a : data_address geometry.shape image x index ≡ ticket_at geometry.shape f.1 index
      = ap (λ (i : ℕ). data_address geometry.shape image i index) (sym f.3) ∙ data_address_is image f.1 h geometry.shape index in
      let within = (law.files f.0 f.1 f.2).within index (λ z. some (a ∙ z)) in
      subst (λ (i : ℕ). index < (node_of image i).length) f.3 (subst (λ (y : Node). index < y.length) (sym n) within)

  numbers_agree : NumbersAgree geometry image
  numbers_agree = record {
    counts = λ k d low.
        let s : length image.segments ≡ geometry.segments = ap length is.segments ∙ length-map parts.segments info ∙ law.segments in
        let under : k < geometry.segments = omega arith in
        subst (λ (x : SegmentInfo). x.count ≡ count_by (λ bit. bit) x.bits)
        (sym (info_there geometry parts image law is k under) ∙ get_or_default image.segments k no_segment d low)
        refl;
    total = is.total ∙ sym (fold_info 0 parts.segments) ∙ ap (λ (xs : List SegmentInfo). sum_by (λ (s : SegmentInfo). s.count) xs) (sym is.segments);
    logs = subst (λ (xs : List (Option LogHead)). All (λ log. IfSome log (λ place. (offset : ℕ) → place.next ≤ offset → offset < segment_blocks geometry.shape
        → ¬ IsTrue (is_marked geometry image (address_of geometry.shape place.segment offset)))) xs) (sym is.logs) (λ k d low. log_free _ (law.opened k d low));
    lengths = all_of (λ inode. (index : ℕ) → data_address geometry.shape image inode index ≢ 0 → index < (node_of image inode).length) (inodes geometry image) length_kept;
  }

  pub assembled_is_lawful : IsLawful geometry image
  assembled_is_lawful zero low high = absurd (omega arith)
  assembled_is_lawful (suc zero) low high = in_range
  assembled_is_lawful (suc (suc zero)) low high = subst (λ (xs : List (Option LogHead)). AllPairs AreApart xs) (sym is.logs) law.apart
  assembled_is_lawful (suc (suc (suc zero))) low high = holds_nodes
  assembled_is_lawful (suc (suc (suc (suc zero)))) low high = nodes_fit
  assembled_is_lawful (suc (suc (suc (suc (suc zero))))) low high = nodes_met
  assembled_is_lawful (suc (suc (suc (suc (suc (suc zero)))))) low high = names_apart (block_count geometry) owner (names geometry image) total_even
  assembled_is_lawful (suc (suc (suc (suc (suc (suc (suc zero))))))) low high =
      all_of (λ (n : Mark). IsTrue (is_marked geometry image n.address)) (names geometry image) named_is_marked
  assembled_is_lawful (suc (suc (suc (suc (suc (suc (suc (suc zero)))))))) low high = marked_is_named
  assembled_is_lawful (suc (suc (suc (suc (suc (suc (suc (suc (suc zero))))))))) low high = record {
    named = all_of (λ (n : Mark). summary_at image n.address ≡ summary_of n.owner) (names geometry image) summary_tells;
    unmarked = unmarked_has_none;
  }
  assembled_is_lawful (suc (suc (suc (suc (suc (suc (suc (suc (suc (suc zero)))))))))) low high = numbers_agree
  assembled_is_lawful (suc (suc (suc (suc (suc (suc (suc (suc (suc (suc (suc k))))))))))) low high = absurd (omega arith)
