-- Tests run in the order of the rules, so where one fails all before it have passed: its number is that of the least
-- rule broken. Marks and maps of the walk are what the rules speak of.
use Rattle.std.proofs.Common.{◌≡◌, ◌≢◌, refl, sym, ◌∙◌, ap, subst, ℕ, zero, suc, ◌+◌, ◌<◌, ◌≤◌, ◌⊎◌, inl, inr, Bool, true, false, IsTrue, List, [], ◌∷◌, ◌++◌, length, get_or, map, arith, add-one}
use Rattle.std.specs.Prelude.{All, Contains, filter, replicate, Option, Some, None, sum_by}
use Rattle.std.specs.List.{flat_map, fold}
use Rattle.std.proofs.lemmas.Bool.Decides.{leb_tells}
use Rattle.std.proofs.Math.Seq.{take-length}
use Rattle.std.proofs.lemmas.List.{get_or_past, get_or-map, length-map}
use Rattle.std.proofs.lemmas.List.Elements.{All-append, filter-append}
use Rattle.geometry.specs.declared.owner.Mark.{Mark}
use Rattle.image.specs.declared.image.SegmentInfo.{SegmentInfo as SegmentValue}
use Rattle.image.specs.View.{info_view}
use Rattle.geometry.specs.declared.geometry.Geometry.{Geometry}
use Rattle.geometry.specs.Area.{block_count}
use Rattle.geometry.specs.declared.owner.Owner.TheVariants.{Node}
use Rattle.geometry.specs.Summary.{summary_of}
use Rattle.image.specs.Image.{Image, SegmentInfo, no_summary, is_marked, summary_at}
use Rattle.image.specs.Walk.{misfits, names, inodes, is_taken, has_address, up_to, node_name}
use Rattle.image_checker.specs.Marks.{Walked}
use Rattle.image.specs.Faults.{Kept, IsFaultIn}
use Rattle.image.specs.Rules.{Rule, IsInRange, NodesFit, NodesAreMet, MarkedIsNamed, SummariesTellOwners}
use Rattle.image.proofs.Testing.{marked_within, has_address_sound}
use Rattle.image.proofs.NameLemmas.{index_has}
use Rattle.image_checker.proofs.RoomLemmas.{summary_there}
use Rattle.image_checker.proofs.TreeLemmas.{none_at, zeros, inodes_same}

pub kept_none : (geometry : Geometry) (image : Image) (first : ℕ) → Kept geometry image first first
kept_none geometry image first = λ k low high. absurd (omega arith)

pub kept_more : (geometry : Geometry) (image : Image) (first past : ℕ) → Kept geometry image first past → Rule geometry image past
    → Kept geometry image first (past + 1)
kept_more geometry image first past kept rule = λ k low high.
    elim (leb_tells (suc k) past) [
      | inl (e, under) ↦ kept k low under
      | inr (e, over) ↦ let is : past ≡ k = omega arith in subst (Rule geometry image) is rule
    ]

pub kept_join : (geometry : Geometry) (image : Image) (first middle past : ℕ) → Kept geometry image first middle → Kept geometry image middle past
    → Kept geometry image first past
kept_join geometry image first middle past f s = λ k low high.
    elim (leb_tells (suc k) middle) [
      | inl (e, under) ↦ f k low under
      | inr (e, over) ↦ s k (omega arith) high
    ]

pub fault_join : (geometry : Geometry) (image : Image) (first middle past : ℕ) (found : Option ℕ) → first ≤ middle → Kept geometry image first middle
    → IsFaultIn geometry image middle past found → IsFaultIn geometry image first past found
fault_join geometry image first middle past None low kept rest = kept_join geometry image first middle past kept rest
fault_join geometry image first middle past (Some k) low kept r = record {
  low = (let l = r.low in omega arith);
  high = r.high;
  broken = r.broken;
  kept = kept_join geometry image first middle k kept r.kept;
}

fold_view : (sum : ℕ) (ys : List SegmentValue) → fold (λ (a : ℕ) (s : SegmentInfo). a + s.count) sum (map info_view ys) ≡ fold (λ (a : ℕ) (s : SegmentValue). a + s.count) sum ys
fold_view sum [] = refl
fold_view sum (y ∷ ys) = fold_view (sum + y.count) ys

pub sum_view : (ys : List SegmentValue) → sum_by (λ (s : SegmentInfo). s.count) (map info_view ys) ≡ sum_by (λ (s : SegmentValue). s.count) ys
sum_view ys = fold_view 0 ys

-- rule 4 and rule 5 from the marks of the walk
pub fit_of_walked : (geometry : Geometry) (image : Image) (old new : List ℕ) (ns : List Mark)
    → Walked image old new (flat_map (misfits image) (inodes geometry image)) ns → NodesFit geometry image
fit_of_walked geometry image old new ns w = λ k d low. none_at (misfits image) (inodes geometry image) k d low w.fit

pub met_of_marked : (geometry : Geometry) (image : Image) (n : ℕ) (new lost : List ℕ)
    → Walked image (replicate n 0) new lost (names geometry image)
    → ((nid : ℕ) → nid ≤ geometry.nodes → IsTrue (is_taken image nid) → get_or new nid 0 ≢ 0)
    → NodesAreMet geometry image
met_of_marked geometry image n new lost w marked = λ nid low taken.
    elim (w.only nid (marked nid low taken)) [
      | inl old ↦ absurd (old (zeros n nid))
      | inr has ↦ has
    ]

pub marked_of_met : (geometry : Geometry) (image : Image) (old new lost : List ℕ)
    → Walked image old new lost (names geometry image) → NodesAreMet geometry image
    → (nid : ℕ) → nid ≤ geometry.nodes → IsTrue (is_taken image nid) → get_or new nid 0 ≢ 0
marked_of_met geometry image old new lost w met nid low taken = w.marked (node_name image nid) nid (met nid low taken) refl

-- past the last address nothing has a summary
pub none_past : (geometry : Geometry) (image : Image) (a : ℕ) → IsInRange geometry image → block_count geometry < a → summary_at image a ≡ no_summary
none_past geometry image zero sized past = absurd (omega arith)
none_past geometry image (suc k) sized past =
    summary_there image k
    ∙ (get_or_past image.summaries k no_summary (let l : length image.summaries ≡ block_count geometry = sized.summaries in omega arith))

pub tells : (geometry : Geometry) (image : Image) → IsInRange geometry image
    → All (λ (n : Mark). summary_at image n.address ≡ summary_of n.owner) (names geometry image)
    → ((a : ℕ) → a ≤ block_count geometry → IsTrue (is_marked geometry image a) ⊎ (summary_at image a ≡ no_summary))
    → SummariesTellOwners geometry image
tells geometry image sized named unmarked = record {
  named = named;
  unmarked = λ a.
      elim (leb_tells a (block_count geometry)) [
        | inl (e, low) ↦ unmarked a low
        | inr (e, high) ↦ inr (none_past geometry image a sized (omega arith))
      ];
}

-- rule 8 from the map of the named addresses
has_of_contains : (a : ℕ) (ns : List Mark) → Contains (map (λ (n : Mark). n.address) ns) a → has_address a ns ≡ true
has_of_contains a ns (k, below, is) =
    let none : Mark = record { address = a; owner = Node 0 } in
    let l : length (map (λ (n : Mark). n.address) ns) ≡ length ns = length-map ns (λ (n : Mark). n.address) in
    let under : k < length ns = omega arith in
    let at : (get_or ns k none).address ≡ a = sym (get_or-map (λ (n : Mark). n.address) ns k none a under) ∙ is in
    ap (λ b. has_address b ns) (sym at) ∙ ap (has_address (get_or ns k none).address) (sym (take-length ns)) ∙ index_has ns k (length ns) none under under

pub named_of_map : (geometry : Geometry) (image : Image) (map : List Bool) → IsInRange geometry image
    → length map ≡ block_count geometry + 1
    → ((a : ℕ) → a < block_count geometry + 1 → get_or map a false ≡ has_address a (names geometry image))
    → ((a : ℕ) → a < length map → IsTrue (is_marked geometry image a) → get_or map a false ≡ true)
    → MarkedIsNamed geometry image
named_of_map geometry image map sized whole shown all a marked =
    let within = marked_within geometry image a sized marked in
    has_address_sound a (names geometry image) (sym (shown a (let w = within.1 in omega arith)) ∙ all a (let w = within.1 in omega arith) marked)

pub map_of_named : (geometry : Geometry) (image : Image) (map : List Bool)
    → length map ≡ block_count geometry + 1
    → ((a : ℕ) → a < block_count geometry + 1 → get_or map a false ≡ has_address a (names geometry image))
    → MarkedIsNamed geometry image
    → (a : ℕ) → a < length map → IsTrue (is_marked geometry image a) → get_or map a false ≡ true
map_of_named geometry image map whole shown named a low marked =
    shown a (omega arith) ∙ has_of_contains a (names geometry image) (named a marked)

-- what holds of each inode, with one number more
pub all_more : (P : ℕ → Type 0) (image : Image) (k : ℕ) → is_taken image (k + 1) ≡ true → All P (filter (is_taken image) (up_to k)) → P (k + 1)
    → All P (filter (is_taken image) (up_to (k + 1)))
all_more P image k taken all here =
    let e : k + 1 ≡ suc k = add-one k in
    let last : filter (is_taken image) (suc k ∷ []) ≡ suc k ∷ [] = rw (subst (λ (n : ℕ). is_taken image n ≡ true) e taken) refl in
    subst (λ xs. All P xs)
    (sym (ap (λ n. filter (is_taken image) (up_to n)) e ∙ filter-append (is_taken image) (up_to k) (suc k ∷ []) ∙ ap (λ xs. filter (is_taken image) (up_to k) ++ xs) last))
    (All-append P (filter (is_taken image) (up_to k)) (suc k ∷ []) all (single P (suc k) (subst P e here)))
  where
    single : (Q : ℕ → Type 0) (x : ℕ) → Q x → All Q (x ∷ [])
    single Q x q zero d low = q
    single Q x q (suc j) d low = absurd (omega arith)

pub all_same : (P : ℕ → Type 0) (image : Image) (k : ℕ) → is_taken image (k + 1) ≡ false → All P (filter (is_taken image) (up_to k))
    → All P (filter (is_taken image) (up_to (k + 1)))
all_same P image k taken all = subst (λ xs. All P xs) (sym (inodes_same image k taken)) all
