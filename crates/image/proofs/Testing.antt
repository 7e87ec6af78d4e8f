-- Each rule has a test that computes over the lists that it speaks of, and a test that passes tells the rule: so an
-- image that passes all ten is lawful.
use Rattle.std.proofs.Common.{◌≡◌, ◌≢◌, refl, sym, ◌∙◌, ap, subst, ℕ, zero, suc, ◌+◌, ◌-◌, ◌*◌, ◌<◌, ◌≤◌, ◌⊎◌, inl, inr, Bool, true, false, not, ◌&&◌, ◌||◌, IsTrue, List, [], ◌∷◌, ◌++◌, map, length, get_or, arith}
use Rattle.std.specs.Prelude.{◌↔◌, Option, Some, None, IfSome, All, AllPairs, Contains, count_by, sum_by, ◌==◌, nat_lt, nat_le}
use Rattle.std.specs.List.{list_all}
use Rattle.std.proofs.lemmas.Bool.Decides.{leb_tells}
use Rattle.std.proofs.lemmas.Bool.{ltb-true, leb-true, le-leb, lt-ltb, le-ltb, eqb-true, eqb-false, ne_eqb}
use Rattle.geometry.specs.declared.owner.Mark.{Mark}
use Rattle.image.specs.declared.image.NodeEntry.{NodeEntry}
use Rattle.geometry.specs.declared.owner.Summary.{Summary}
use Rattle.image.specs.declared.image.LogHead.{LogHead}
use Rattle.geometry.specs.declared.shape.Shape.{Shape}
use Rattle.geometry.specs.declared.geometry.Geometry.{Geometry}
use Rattle.geometry.specs.Path.{largest_length, node_entries, inode_entries, path}
use Rattle.geometry.specs.Address.{address_of, segment_of, offset_of}
use Rattle.geometry.specs.Area.{block_count}
use Rattle.geometry.specs.declared.kind.Kind.{Kind}
use Rattle.geometry.specs.declared.kind.Kind.TheVariants.{File, Dir, Media}
use Rattle.image.specs.Node.{Node, HasEntries, IsPlain}
use Rattle.image.specs.Image.{Image, SegmentInfo, entry_of, node_of, is_marked, summary_at, no_summary, no_segment, no_node}
use Rattle.geometry.specs.declared.owner.Owner.TheVariants.{Node as OfNode}
use Rattle.image.specs.Walk.{has_address, names, inodes, is_taken, misfits, up_to}
use Rattle.image.specs.Files.{data_address, below, at_end}
use Rattle.std.proofs.Math.Nat.{mul-le-mul_right, suc-mul}
use Rattle.image.proofs.Marking.{bit_of_mark, segment_within}
use Rattle.geometry.proofs.Addresses.{address_of-parts}
use Rattle.geometry.proofs.MarkTests.{mark_eq}
use Rattle.geometry.specs.Mark.{same_mark}
use Rattle.geometry.specs.Summary.{summary_of}
use Rattle.image.specs.Rules.{IsPlace, IsEntry, HasRange, NodesHaveEntries, IsInRange, AreApart, IsNodeOf, TableHoldsNodes, NodesAreMet, MarkedIsNamed, IsLawful}
use Rattle.geometry.specs.Shape.{segment_blocks}

and_left : (a b : Bool) → (a && b) ≡ true → a ≡ true
and_left true b h = refl
and_left false b h = absurd cc

and_right : (a b : Bool) → (a && b) ≡ true → b ≡ true
and_right true b h = h
and_right false b h = absurd cc

either_true : (a b : Bool) → (not a || b) ≡ true → a ≡ true → b ≡ true
either_true true b h e = h
either_true false b h e = absurd cc

or_cases : (a b : Bool) → (a || b) ≡ true → (a ≡ true) ⊎ (b ≡ true)
or_cases true b h = inl refl
or_cases false b h = inr h

all_cons : {X : Type 0} (P : X → Type 0) (x : X) (xs : List X) → P x → All P xs → All P (x ∷ xs)
all_cons P x xs first rest zero d within = first
all_cons P x xs first rest (suc k) d within = rest k d (omega arith)

pub all_by_test : {X : Type 0} (P : X → Type 0) (p : X → Bool) → ((x : X) → p x ≡ true → P x) → (xs : List X) → list_all p xs ≡ true → All P xs
all_by_test P p sound [] h = λ k d within. absurd (omega arith)
all_by_test P p sound (x ∷ xs) h = all_cons P x xs (sound x (and_left (p x) _ h)) (all_by_test P p sound xs (and_right (p x) _ h))

-- a test of each element and each later one
abbrev pub pairs : {X : Type 0} → (X → X → Bool) → List X → Bool
pairs p [] = true
pairs p (x ∷ xs) = list_all (p x) xs && pairs p xs

pairs_cons : {X : Type 0} (R : X → X → Type 0) (x : X) (xs : List X) → All (R x) xs → AllPairs R xs → AllPairs R (x ∷ xs)
pairs_cons R x xs first rest zero zero d before within = absurd (omega arith)
pairs_cons R x xs first rest zero (suc j) d before within = first j d (omega arith)
pairs_cons R x xs first rest (suc i) zero d before within = absurd (omega arith)
pairs_cons R x xs first rest (suc i) (suc j) d before within = rest i j d (omega arith) (omega arith)

pub pairs_by_test : {X : Type 0} (R : X → X → Type 0) (p : X → X → Bool) → ((x y : X) → p x y ≡ true → R x y) → (xs : List X) → pairs p xs ≡ true → AllPairs R xs
pairs_by_test R p sound [] h = λ i j d before within. absurd (omega arith)
pairs_by_test R p sound (x ∷ xs) h =
    pairs_cons R x xs (all_by_test (R x) (p x) (sound x) xs (and_left (list_all (p x) xs) _ h))
    (pairs_by_test R p sound xs (and_right (list_all (p x) xs) _ h))

list_all-append : (p : ℕ → Bool) (xs ys : List ℕ) → list_all p (xs ++ ys) ≡ true → (list_all p xs ≡ true) × (list_all p ys ≡ true)
list_all-append p [] ys h = (refl, h)
list_all-append p (x ∷ xs) ys h =
    let rest = list_all-append p xs ys (and_right (p x) _ h) in
    (let e = and_left (p x) _ h in rw (e, rest.0), rest.1)

-- a test of 1 to n
pub up_to_by_test : (p : ℕ → Bool) (n : ℕ) → list_all p (up_to n) ≡ true → (k : ℕ) → 1 ≤ k → k ≤ n → p k ≡ true
up_to_by_test p zero h k positive within = absurd (omega arith)
up_to_by_test p (suc n) h k positive within =
    let parts = list_all-append p (up_to n) (suc n ∷ []) h in
    elim (leb_tells k n) [
      | inl (e, low) ↦ up_to_by_test p n parts.0 k positive low
      | inr (e, high) ↦ let is : suc n ≡ k = omega arith in subst (λ (m : ℕ). p m ≡ true) is (and_left (p (suc n)) true parts.1)
    ]

-- a test of the numbers below n
pub below_by_test : (p : ℕ → Bool) (n : ℕ) → list_all p (below n) ≡ true → (k : ℕ) → k < n → p k ≡ true
below_by_test p zero h k within = absurd (omega arith)
below_by_test p (suc n) h k within =
    let parts = list_all-append p (below n) (n ∷ []) h in
    elim (leb_tells (suc k) n) [
      | inl (e, low) ↦ below_by_test p n parts.0 k low
      | inr (e, high) ↦ let is : n ≡ k = omega arith in subst (λ (m : ℕ). p m ≡ true) is (and_left (p n) true parts.1)
    ]

-- 1
abbrev pub place_test : Geometry → Option LogHead → Bool
place_test geometry None = true
place_test geometry (Some p) = nat_lt p.segment geometry.segments && nat_lt p.next (segment_blocks geometry.shape)

place_sound : (geometry : Geometry) (log : Option LogHead) → place_test geometry log ≡ true → IfSome log (IsPlace geometry)
place_sound geometry None h = tt
place_sound geometry (Some p) h = (ltb-true _ _ (and_left _ _ h), ltb-true _ _ (and_right (nat_lt p.segment geometry.segments) _ h))

abbrev pub both_or_neither : Bool → Bool → Bool
both_or_neither true b = b
both_or_neither false b = not b

both_cases : (a b : ℕ) (x y : Bool) → (a == 0) ≡ x → (b == 0) ≡ y → both_or_neither x y ≡ true → (a ≡ 0) ↔ (b ≡ 0)
both_cases a b true true ex ey h = (λ e. eqb-true b 0 ey, λ e. eqb-true a 0 ex)
both_cases a b true false ex ey h = absurd cc
both_cases a b false true ex ey h = absurd cc
both_cases a b false false ex ey h = (λ e. absurd (eqb-false a 0 ex e), λ e. absurd (eqb-false b 0 ey e))

both_sound : (a b : ℕ) → both_or_neither (a == 0) (b == 0) ≡ true → (a ≡ 0) ↔ (b ≡ 0)
both_sound a b h = both_cases a b (a == 0) (b == 0) refl refl h

abbrev pub entry_test : Geometry → NodeEntry → Bool
entry_test geometry e = nat_le e.inode geometry.nodes && (nat_le e.address (block_count geometry) && both_or_neither (e.inode == 0) (e.address == 0))

entry_sound : (geometry : Geometry) (e : NodeEntry) → entry_test geometry e ≡ true → IsEntry geometry e
entry_sound geometry e h =
    let rest = and_right (nat_le e.inode geometry.nodes) _ h in
    (leb-true _ _ (and_left _ _ h), leb-true _ _ (and_left _ _ rest), both_sound e.inode e.address (and_right (nat_le e.address (block_count geometry)) _ rest))

abbrev pub entries_test : Shape → Node → ℕ → Bool
entries_test shape n zero = (length n.addresses == inode_entries shape) && (length n.children == 5)
entries_test shape n (suc zero) = (length n.addresses == node_entries shape) && (length n.children == 0)
entries_test shape n (suc (suc zero)) = (length n.addresses == 0) && (length n.children == node_entries shape)
entries_test shape n (suc (suc (suc class))) = (length n.addresses == 0) && (length n.children == 0)

no_items : {X : Type 0} (xs : List X) → (length xs == 0) ≡ true → xs ≡ []
no_items [] h = refl
no_items (x ∷ xs) h = absurd (let e = eqb-true _ _ h in omega arith)

entries_sound : (shape : Shape) (n : Node) (class : ℕ) → entries_test shape n class ≡ true → HasEntries shape n class
entries_sound shape n zero h = (eqb-true _ _ (and_left _ _ h), eqb-true _ _ (and_right (length n.addresses == inode_entries shape) _ h))
entries_sound shape n (suc zero) h =
    (eqb-true _ _ (and_left _ _ h), no_items n.children (and_right (length n.addresses == node_entries shape) _ h))
entries_sound shape n (suc (suc zero)) h = (no_items n.addresses (and_left _ _ h), eqb-true _ _ (and_right (length n.addresses == 0) _ h))
entries_sound shape n (suc (suc (suc class))) h = (no_items n.addresses (and_left _ _ h), no_items n.children (and_right (length n.addresses == 0) _ h))

abbrev pub is_file : Kind → Bool
is_file File = true
is_file Dir = false
is_file Media = false

file_sound : (kind : Kind) → is_file kind ≡ true → kind ≡ File
file_sound File h = refl
file_sound Dir h = absurd cc
file_sound Media h = absurd cc

abbrev pub plain_test : Node → Bool
plain_test n = (n.class == 0) || ((n.length == 0) && is_file n.kind)

plain_sound : (n : Node) → plain_test n ≡ true → IsPlain n
plain_sound n h = elim (or_cases (n.class == 0) _ h) [
  | inl inode ↦ inl (eqb-true _ _ inode)
  | inr none ↦ inr (eqb-true _ _ (and_left _ _ none), file_sound n.kind (and_right (n.length == 0) _ none))
]

-- no node: each field is that of none
abbrev pub none_test : Node → Bool
none_test n =
    (n.nid == 0) && ((n.inode == 0) && ((n.class == 4) && ((n.length == 0) && (is_file n.kind && ((length n.addresses == 0) && (length n.children == 0))))))

none_sound : (n : Node) → none_test n ≡ true → n ≡ no_node
none_sound n h =
    let h1 = and_right (n.nid == 0) _ h in
    let h2 = and_right (n.inode == 0) _ h1 in
    let h3 = and_right (n.class == 4) _ h2 in
    let h4 = and_right (n.length == 0) _ h3 in
    let h5 = and_right (is_file n.kind) _ h4 in
    let nid : n.nid ≡ 0 = eqb-true _ _ (and_left _ _ h) in
    let inode : n.inode ≡ 0 = eqb-true _ _ (and_left _ _ h1) in
    let class : n.class ≡ 4 = eqb-true _ _ (and_left _ _ h2) in
    let long : n.length ≡ 0 = eqb-true _ _ (and_left _ _ h3) in
    let kind : n.kind ≡ File = file_sound n.kind (and_left _ _ h4) in
    let addresses : n.addresses ≡ [] = no_items n.addresses (and_left _ _ h5) in
    let children : n.children ≡ [] = no_items n.children (and_right (length n.addresses == 0) _ h5) in
    λ i. record { nid = nid i; inode = inode i; class = class i; length = long i; kind = kind i; addresses = addresses i; children = children i }

abbrev pub numbers_test : Geometry → Node → Bool
numbers_test geometry n =
    list_all (λ a. nat_le a (block_count geometry)) n.addresses
    && (list_all (λ k. nat_le k geometry.nodes) n.children && nat_le n.length (largest_length geometry.shape))

abbrev pub node_test : Geometry → Node → Bool
node_test geometry n =
    entries_test geometry.shape n n.class && (nat_le n.inode geometry.nodes && (plain_test n && numbers_test geometry n))

node_sound : (geometry : Geometry) (n : Node) → node_test geometry n ≡ true → HasRange geometry n
node_sound geometry n both =
    let all = and_right (entries_test geometry.shape n n.class) _ both in
    let more = and_right (nat_le n.inode geometry.nodes) _ all in
    let h = and_right (plain_test n) _ more in
    let rest = and_right (list_all (λ a. nat_le a (block_count geometry)) n.addresses) _ h in
    record {
      inode = leb-true _ _ (and_left _ _ all);
      entries = entries_sound geometry.shape n n.class (and_left _ _ both);
      addresses = all_by_test _ (λ a. nat_le a (block_count geometry)) (λ a t. leb-true _ _ t) n.addresses (and_left _ _ h);
      children = all_by_test _ (λ k. nat_le k geometry.nodes) (λ k t. leb-true _ _ t) n.children (and_left _ _ rest);
      length = leb-true _ _ (and_right (list_all (λ k. nat_le k geometry.nodes) n.children) _ rest);
      plain = plain_sound n (and_left _ _ more);
    }

-- 2
abbrev pub apart_test : Option LogHead → Option LogHead → Bool
apart_test (Some p) (Some q) = not (p.segment == q.segment)
apart_test (Some p) None = true
apart_test None q = true

not_true : (b : Bool) → not b ≡ true → b ≡ false
not_true true h = absurd cc
not_true false h = refl

pub apart_sound : (a b : Option LogHead) → apart_test a b ≡ true → AreApart a b
apart_sound (Some p) (Some q) h = eqb-false p.segment q.segment (not_true _ h)
apart_sound (Some p) None h = tt
apart_sound None q h = tt

-- 3
abbrev pub node_of_test : Geometry → Image → ℕ → Bool
node_of_test geometry image nid =
    ((node_of image nid).nid == nid) && (((node_of image nid).inode == (entry_of image nid).inode) && (nat_lt (node_of image nid).class 3
    && ((not (nat_le nid geometry.files) || (((node_of image nid).class == 0) && ((node_of image nid).inode == nid)))
    && (not (nat_lt geometry.files nid) || not ((node_of image nid).class == 0)))))

node_of_sound : (geometry : Geometry) (image : Image) (nid : ℕ) → node_of_test geometry image nid ≡ true → IsNodeOf geometry image nid
node_of_sound geometry image nid h =
    let h1 = and_right ((node_of image nid).nid == nid) _ h in
    let h2 = and_right ((node_of image nid).inode == (entry_of image nid).inode) _ h1 in
    let h3 = and_right (nat_lt (node_of image nid).class 3) _ h2 in
    let low = and_left (not (nat_le nid geometry.files) || (((node_of image nid).class == 0) && ((node_of image nid).inode == nid))) _ h3 in
    let high = and_right (not (nat_le nid geometry.files) || (((node_of image nid).class == 0) && ((node_of image nid).inode == nid))) _ h3 in
    record {
      number = eqb-true _ _ (and_left _ _ h);
      belongs = eqb-true _ _ (and_left _ _ h1);
      class = ltb-true _ _ (and_left _ _ h2);
      low = λ l. (let t = either_true (nat_le nid geometry.files) _ low (le-leb _ _ l) in
          (eqb-true _ _ (and_left _ _ t), eqb-true _ _ (and_right ((node_of image nid).class == 0) _ t)));
      high = λ l. (let t = either_true (nat_lt geometry.files nid) _ high (lt-ltb _ _ l) in eqb-false _ _ (not_true _ t));
    }

-- 5
abbrev pub name_test : ℕ → ℕ → Mark → Bool
name_test a k n = same_mark n (record { address = a; owner = OfNode k })

abbrev pub has_name : ℕ → ℕ → List Mark → Bool
has_name a k [] = false
has_name a k (n ∷ ns) = name_test a k n || has_name a k ns

one_later : {X : Type 0} (x y : X) (xs : List X) → Contains xs y → Contains (x ∷ xs) y
one_later x y xs (k, within, is) = (suc k, omega arith, is)

has_name_sound : (a k : ℕ) (ns : List Mark) → has_name a k ns ≡ true → Contains ns (record { address = a; owner = OfNode k })
has_name_sound a k [] h = absurd cc
has_name_sound a k (n ∷ ns) h =
    elim (or_cases (name_test a k n) _ h) [
      | inl t ↦ (
        0,
        omega arith,
        mark_eq n (record { address = a; owner = OfNode k }) t,
      )
      | inr rest ↦ one_later n _ ns (has_name_sound a k ns rest)
    ]

-- 8
pub has_address_sound : (a : ℕ) (ns : List Mark) → has_address a ns ≡ true → Contains (map (λ (n : Mark). n.address) ns) a
has_address_sound a [] h = absurd cc
has_address_sound a (n ∷ ns) h =
    elim (or_cases (n.address == a) _ h) [
      | inl t ↦ (0, omega arith, eqb-true _ _ t)
      | inr rest ↦ one_later n.address a (map (λ (n : Mark). n.address) ns) (has_address_sound a ns rest)
    ]

segment_there : (segments : List SegmentInfo) (s o : ℕ) → get_or (get_or segments s no_segment).bits o false ≡ true → s < length segments
segment_there [] s o h = absurd cc
segment_there (i ∷ segments) zero o h = omega arith
segment_there (i ∷ segments) (suc s) o h = let r = segment_there segments s o h in omega arith

place_below : (s o n segments : ℕ) → s < segments → o < n → 1 + s * n + o ≤ segments * n
place_below s o n segments h g = let m : suc s * n ≤ segments * n = mul-le-mul_right n h in let e : suc s * n ≡ s * n + n = suc-mul s n in omega arith

-- a marked address is one of the volume's
pub marked_within : (geometry : Geometry) (image : Image) (a : ℕ) → IsInRange geometry image → IsTrue (is_marked geometry image a) → (1 ≤ a) × (a ≤ block_count geometry)
marked_within geometry image a sized marked =
    let bit = bit_of_mark (a == 0) _ marked in
    let some = eqb-false a 0 bit.0 in
    let fits = segment_within image.segments (segment_of geometry.shape a) (offset_of geometry.shape a) (segment_blocks geometry.shape) sized.bits bit.1 in
    let there = segment_there image.segments (segment_of geometry.shape a) (offset_of geometry.shape a) bit.1 in
    let back = address_of-parts geometry.shape a (omega arith) in
    let size : length image.segments ≡ geometry.segments = sized.segments in
    let low = place_below (segment_of geometry.shape a) (offset_of geometry.shape a) (segment_blocks geometry.shape) geometry.segments (omega arith) fits in
    (omega arith, omega arith)

-- 9
abbrev pub same_summary : Summary → Summary → Bool
same_summary p q = (p.nid == q.nid) && (p.slot == q.slot)

same_summary_sound : (p q : Summary) → same_summary p q ≡ true → p ≡ q
same_summary_sound p q h =
    let e : p.nid ≡ q.nid = eqb-true _ _ (and_left _ _ h) in let f : p.slot ≡ q.slot = eqb-true _ _ (and_right (p.nid == q.nid) _ h) in
    ap (λ k. record { nid = k; slot = p.slot }) e ∙ ap (λ k. record { nid = q.nid; slot = k }) f

past : (xs : List Summary) (k : ℕ) → length xs ≤ k → get_or xs k no_summary ≡ no_summary
past [] k h = refl
past (x ∷ xs) zero h = absurd (omega arith)
past (x ∷ xs) (suc k) h = past xs k (omega arith)

-- 10
abbrev pub log_test : Geometry → Image → Option LogHead → Bool
log_test geometry image None = true
log_test geometry image (Some place) =
    list_all (λ o. not (nat_le place.next o) || not (is_marked geometry image (address_of geometry.shape place.segment o))) (below (segment_blocks geometry.shape))

log_sound : (geometry : Geometry) (image : Image) (log : Option LogHead) → log_test geometry image log ≡ true
    → IfSome log (λ place. (offset : ℕ) → place.next ≤ offset → offset < segment_blocks geometry.shape → ¬ IsTrue (is_marked geometry image (address_of geometry.shape place.segment offset)))
log_sound geometry image None h = tt
log_sound geometry image (Some place) h = λ offset after within marked.
    let t = below_by_test (λ o. not (nat_le place.next o) || not (is_marked geometry image (address_of geometry.shape place.segment o))) (segment_blocks geometry.shape) h offset within in
    let f = not_true _ (either_true (nat_le place.next offset) _ t (le-leb _ _ after)) in
    let clash : true ≡ false = sym marked ∙ f in cc

abbrev pub length_test : Geometry → Image → ℕ → Bool
length_test geometry image inode =
    list_all (λ index. (data_address geometry.shape image inode index == 0) || nat_lt index (node_of image inode).length) (below (largest_length geometry.shape))

pub path_past : (shape : Shape) (index : ℕ) → largest_length shape ≤ index → path shape index ≡ None
path_past shape index h =
    let a = le-ltb index (inode_entries shape) (omega arith) in
    let b = le-ltb index (inode_entries shape + 2 * node_entries shape) (omega arith) in
    let c = le-ltb index (inode_entries shape + 2 * node_entries shape + 2 * (node_entries shape * node_entries shape)) (omega arith) in
    let d = le-ltb index (inode_entries shape + 2 * node_entries shape + 2 * (node_entries shape * node_entries shape) + node_entries shape * node_entries shape * node_entries shape) h in
    rw (a, b, c, d) refl

length_sound : (geometry : Geometry) (image : Image) (inode : ℕ) → length_test geometry image inode ≡ true
    → (index : ℕ) → data_address geometry.shape image inode index ≢ 0 → index < (node_of image inode).length
length_sound geometry image inode h index some =
    elim (leb_tells (suc index) (largest_length geometry.shape)) [
      | inl (e, within) ↦
          elim (or_cases (data_address geometry.shape image inode index == 0) _
          (below_by_test (λ index. (data_address geometry.shape image inode index == 0) || nat_lt index (node_of image inode).length) (largest_length geometry.shape) h index within)) [
            | inl none ↦ absurd (some (eqb-true _ _ none))
            | inr low ↦ ltb-true _ _ low
          ]
      | inr (e, past_end) ↦ absurd (some (ap (at_end image inode) (path_past geometry.shape index (omega arith))))
    ]

-- the tests of the ten rules
pub record Passes (geometry : Geometry) (image : Image) : Type 0 where
  pub version : nat_le 1 image.version ≡ true
  pub logs : length image.logs ≡ 6
  pub places : list_all (place_test geometry) image.logs ≡ true
  pub table : length image.node_table ≡ geometry.nodes
  pub entries : list_all (entry_test geometry) image.node_table ≡ true
  pub segments : length image.segments ≡ geometry.segments
  pub bits : list_all (λ (s : SegmentInfo). length s.bits == segment_blocks geometry.shape) image.segments ≡ true
  pub summaries : length image.summaries ≡ block_count geometry
  pub as_many : length image.nodes ≡ geometry.nodes
  pub nodes : list_all (node_test geometry) image.nodes ≡ true
  pub owned : list_all (λ nid. is_taken image nid || none_test (node_of image nid)) (up_to geometry.nodes) ≡ true
  pub apart : pairs apart_test image.logs ≡ true
  pub holds : list_all (λ nid. not (is_taken image nid) || node_of_test geometry image nid) (up_to geometry.nodes) ≡ true
  pub fit : list_all (λ inode. length (misfits image inode) == 0) (inodes geometry image) ≡ true
  pub met : list_all (λ nid. not (is_taken image nid) || has_name (entry_of image nid).address nid (names geometry image)) (up_to geometry.nodes) ≡ true
  pub distinct : pairs (λ (m n : Mark). not (m.address == n.address)) (names geometry image) ≡ true
  pub named : list_all (λ (n : Mark). is_marked geometry image n.address) (names geometry image) ≡ true
  pub marked : list_all (λ a. not (is_marked geometry image a) || has_address a (names geometry image)) (up_to (block_count geometry)) ≡ true
  pub owners : list_all (λ (n : Mark). same_summary (summary_at image n.address) (summary_of n.owner)) (names geometry image) ≡ true
  pub unmarked : list_all (λ a. is_marked geometry image a || same_summary (summary_at image a) no_summary) (up_to (block_count geometry)) ≡ true
  pub counts : list_all (λ (s : SegmentInfo). s.count == count_by (λ bit. bit) s.bits) image.segments ≡ true
  pub total : image.total ≡ sum_by (λ (s : SegmentInfo). s.count) image.segments
  pub free_places : list_all (log_test geometry image) image.logs ≡ true
  pub lengths : list_all (length_test geometry image) (inodes geometry image) ≡ true

nodes_owned : (geometry : Geometry) (image : Image) → Passes geometry image → NodesHaveEntries geometry image
nodes_owned geometry image t zero within none = refl
nodes_owned geometry image t (suc k) within none =
    elim (or_cases (is_taken image (suc k)) _
    (up_to_by_test (λ nid. is_taken image nid || none_test (node_of image nid)) geometry.nodes t.owned (suc k) (omega arith) within)) [
      | inl taken ↦ absurd (eqb-false (entry_of image (suc k)).address 0 (not_true _ taken) none)
      | inr is ↦ none_sound (node_of image (suc k)) is
    ]

in_range : (geometry : Geometry) (image : Image) → Passes geometry image → IsInRange geometry image
in_range geometry image t = record {
  version = leb-true _ _ t.version;
  logs = t.logs;
  places = all_by_test _ (place_test geometry) (place_sound geometry) image.logs t.places;
  table = t.table;
  entries = all_by_test _ (entry_test geometry) (entry_sound geometry) image.node_table t.entries;
  segments = t.segments;
  bits = all_by_test _ (λ (s : SegmentInfo). length s.bits == segment_blocks geometry.shape) (λ s h. eqb-true _ _ h) image.segments t.bits;
  summaries = t.summaries;
  as_many = t.as_many;
  nodes = all_by_test _ (node_test geometry) (node_sound geometry) image.nodes t.nodes;
  owned = nodes_owned geometry image t;
}

not_taken_0 : (image : Image) → IsTrue (is_taken image 0) → ⊥
not_taken_0 image h = let e : false ≡ true = h in cc

holds_nodes : (geometry : Geometry) (image : Image) → Passes geometry image → TableHoldsNodes geometry image
holds_nodes geometry image t zero within taken = absurd (not_taken_0 image taken)
holds_nodes geometry image t (suc k) within taken =
    node_of_sound geometry image (suc k)
    (either_true (is_taken image (suc k)) _
    (up_to_by_test (λ nid. not (is_taken image nid) || node_of_test geometry image nid) geometry.nodes t.holds (suc k) (omega arith) within) taken)

are_met : (geometry : Geometry) (image : Image) → Passes geometry image → NodesAreMet geometry image
are_met geometry image t zero within taken = absurd (not_taken_0 image taken)
are_met geometry image t (suc k) within taken =
    has_name_sound (entry_of image (suc k)).address (suc k) (names geometry image)
    (either_true (is_taken image (suc k)) _
    (up_to_by_test (λ nid. not (is_taken image nid) || has_name (entry_of image nid).address nid (names geometry image)) geometry.nodes t.met (suc k) (omega arith) within) taken)

marked_is_named : (geometry : Geometry) (image : Image) → Passes geometry image → MarkedIsNamed geometry image
marked_is_named geometry image t a marked =
    let within = marked_within geometry image a (in_range geometry image t) marked in
    has_address_sound a (names geometry image)
    (either_true (is_marked geometry image a) _
    (up_to_by_test (λ a. not (is_marked geometry image a) || has_address a (names geometry image)) (block_count geometry) t.marked a within.0 within.1) marked)

none_unmarked : (geometry : Geometry) (image : Image) → Passes geometry image → (a : ℕ) → IsTrue (is_marked geometry image a) ⊎ (summary_at image a ≡ no_summary)
none_unmarked geometry image t zero = inr refl
none_unmarked geometry image t (suc k) =
    elim (leb_tells (suc k) (block_count geometry)) [
      | inl (e, within) ↦
          elim (or_cases (is_marked geometry image (suc k)) _
          (up_to_by_test (λ a. is_marked geometry image a || same_summary (summary_at image a) no_summary) (block_count geometry) t.unmarked (suc k) (omega arith) within)) [
            | inl m ↦ inl m
            | inr s ↦ inr (same_summary_sound _ _ s)
          ]
      | inr (e, high) ↦
          let n = t.summaries in let d : suc k - 1 ≡ k = omega arith in
          inr (rw (ne_eqb (suc k) 0 (λ z. cc), d) (past image.summaries k (omega arith)))
    ]

pub lawful_by_tests : (geometry : Geometry) (image : Image) → Passes geometry image → IsLawful geometry image
lawful_by_tests geometry image t zero low high = absurd (omega arith)
lawful_by_tests geometry image t (suc zero) low high = in_range geometry image t
lawful_by_tests geometry image t (suc (suc zero)) low high = pairs_by_test AreApart apart_test apart_sound image.logs t.apart
lawful_by_tests geometry image t (suc (suc (suc zero))) low high = holds_nodes geometry image t
lawful_by_tests geometry image t (suc (suc (suc (suc zero)))) low high =
    all_by_test _ (λ inode. length (misfits image inode) == 0) (λ inode h. no_items _ h) (inodes geometry image) t.fit
lawful_by_tests geometry image t (suc (suc (suc (suc (suc zero))))) low high = are_met geometry image t
lawful_by_tests geometry image t (suc (suc (suc (suc (suc (suc zero)))))) low high =
    pairs_by_test _ (λ (m n : Mark). not (m.address == n.address)) (λ m n h. eqb-false _ _ (not_true _ h)) (names geometry image) t.distinct
lawful_by_tests geometry image t (suc (suc (suc (suc (suc (suc (suc zero))))))) low high =
    all_by_test _ (λ (n : Mark). is_marked geometry image n.address) (λ n h. h) (names geometry image) t.named
lawful_by_tests geometry image t (suc (suc (suc (suc (suc (suc (suc (suc zero)))))))) low high = marked_is_named geometry image t
lawful_by_tests geometry image t (suc (suc (suc (suc (suc (suc (suc (suc (suc zero))))))))) low high = record {
  named = all_by_test (λ (n : Mark). summary_at image n.address ≡ summary_of n.owner) (λ (n : Mark). same_summary (summary_at image n.address) (summary_of n.owner))
      (λ n h. same_summary_sound (summary_at image n.address) (summary_of n.owner) h) (names geometry image) t.owners;
  unmarked = none_unmarked geometry image t;
}
lawful_by_tests geometry image t (suc (suc (suc (suc (suc (suc (suc (suc (suc (suc zero)))))))))) low high = record {
  counts = all_by_test _ (λ (s : SegmentInfo). s.count == count_by (λ bit. bit) s.bits) (λ s h. eqb-true _ _ h) image.segments t.counts;
  total = t.total;
  logs = all_by_test _ (log_test geometry image) (log_sound geometry image) image.logs t.free_places;
  lengths = all_by_test _ (length_test geometry image) (length_sound geometry image) (inodes geometry image) t.lengths;
}
lawful_by_tests geometry image t (suc (suc (suc (suc (suc (suc (suc (suc (suc (suc (suc k))))))))))) low high = absurd (omega arith)
