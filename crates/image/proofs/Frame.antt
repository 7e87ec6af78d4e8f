-- Whatever an image or a file reads off a block is at an address that some node of the image names, and names are
-- marked: so blocks that agree where it marks give the same.
use Rattle.geometry.specs.declared.owner.Mark.{Mark}
use Rattle.image.specs.declared.image.NodeEntry.{NodeEntry}
use Rattle.std.proofs.Common.{◌≡◌, ◌≢◌, refl, sym, ◌∙◌, ap, subst, ℕ, zero, suc, ◌+◌, ◌-◌, ◌*◌, ◌/◌, ◌<◌, ◌≤◌, ◌⊎◌, inl, inr, Bool, true, false, IsTrue, List, [], ◌∷◌, ◌++◌, map, length, get_or, arith}
use Rattle.std.specs.Prelude.{Option, Some, None, Contains, All, slice_index, nat_lt, if◌then◌else◌}
use Rattle.std.specs.List.{flat_map, filter_map}
use Rattle.std.specs.FinMap.{from_entries}
use Rattle.std.proofs.Math.Nat.{div-lt_iff_lt-mul}
use Rattle.std.proofs.lemmas.Bool.{ltb-true, ltb-false, ne_eqb}
use Rattle.geometry.specs.declared.path.Path.{Path}
use Rattle.geometry.specs.declared.path.Path.TheVariants.{Inode, Direct, Indirect, Double}
use Rattle.geometry.specs.declared.shape.Shape.{Shape}
use Rattle.geometry.specs.declared.geometry.Geometry.{Geometry}
use Rattle.geometry.specs.Path.{node_entries, inode_entries, path}
use Rattle.geometry.specs.File.{Block, File}
use Rattle.image.specs.Image.{Image, no_entry, entry_of, node_of, is_marked}
use Rattle.image.specs.Walk.{data_names, own_names, fits, names_below, child, places, walk, names, inodes, is_taken, misfits_below, misfits}
use Rattle.image.specs.Files.{at_end, data_address, below, block_at, file_of, files}
use Rattle.image.specs.Rules.{IsLawful, Rule}
use Rattle.image.specs.Reading.{image_in, node_at, read_nodes, read_table, table_start, read_node}

-- some name has this address
abbrev pub Has : List Mark → ℕ → Type 0
Has [] a = ⊥
Has (n ∷ ns) a = (n.address ≡ a) ⊎ Has ns a

pub has-left : (ms ns : List Mark) (a : ℕ) → Has ms a → Has (ms ++ ns) a
has-left [] ns a h = absurd h
has-left (m ∷ ms) ns a (inl e) = inl e
has-left (m ∷ ms) ns a (inr h) = inr (has-left ms ns a h)

pub has-right : (ms ns : List Mark) (a : ℕ) → Has ns a → Has (ms ++ ns) a
has-right [] ns a h = h
has-right (m ∷ ms) ns a h = inr (has-right ms ns a h)

pub has_of_contains : (ns : List Mark) (n : Mark) → Contains ns n → Has ns n.address
has_of_contains [] n (k, below, is) = absurd (omega arith)
has_of_contains (m ∷ ms) n (zero, below, is) = inl (ap (λ (x : Mark). x.address) is)
has_of_contains (m ∷ ms) n (suc k, below, is) = inr (has_of_contains ms n (k, omega arith, is))

-- what holds of each named address holds of this one
pub all_has : (P : ℕ → Type 0) (ns : List Mark) (a : ℕ) → All (λ (n : Mark). P n.address) ns → Has ns a → P a
all_has P [] a all h = absurd h
all_has P (n ∷ ns) a all (inl e) = subst P e (all 0 n (omega arith))
all_has P (n ∷ ns) a all (inr h) = all_has P ns a (λ k d below. all (suc k) d (omega arith)) h

data_has : (nid from slot : ℕ) (xs : List ℕ) → slice_index xs slot ≢ 0 → Has (data_names nid from xs) (slice_index xs slot)
data_has nid from slot [] h = absurd (h refl)
data_has nid from zero (zero ∷ xs) h = absurd (h refl)
data_has nid from zero (suc x ∷ xs) h = inl refl
data_has nid from (suc slot) (zero ∷ xs) h = data_has nid (from + 1) slot xs h
data_has nid from (suc slot) (suc x ∷ xs) h = inr (data_has nid (from + 1) slot xs h)

own_has : (image : Image) (nid slot : ℕ) → slice_index (node_of image nid).addresses slot ≢ 0
    → Has (own_names image nid) (slice_index (node_of image nid).addresses slot)
own_has image nid slot h = inr (data_has nid 0 slot (node_of image nid).addresses h)

-- a data address that a place leads to
abbrev pub Leads : Image → ℕ → ℕ → ℕ → Type 0
Leads image zero nid a = (slot : ℕ) × (slice_index (node_of image nid).addresses slot ≡ a)
Leads image (suc level) nid a = (slot : ℕ) × Leads image level (child image nid slot) a

leads_nowhere : (image : Image) (level a : ℕ) → Leads image level 0 a → a ≡ 0
leads_nowhere image zero a (slot, is) = sym is
leads_nowhere image (suc level) a (slot, rest) = leads_nowhere image level a rest

fits_of_none : (b : Bool) (k : ℕ) → (if b then [] else k ∷ []) ≡ [] → b ≡ true
fits_of_none true k e = refl
fits_of_none false k e = cc

fits_of_none_below : (b : Bool) (k : ℕ) (xs : List ℕ) → (if b then xs else k ∷ []) ≡ [] → (b ≡ true) × (xs ≡ [])
fits_of_none_below true k xs e = (refl, e)
fits_of_none_below false k xs e = (cc, cc)

append_none : (xs ys : List ℕ) → xs ++ ys ≡ [] → (xs ≡ []) × (ys ≡ [])
append_none [] ys e = (refl, e)
append_none (x ∷ xs) ys e = (cc, cc)

-- where nothing misfits below the children, nothing does below one of them
child_none : (image : Image) (inode level : ℕ) (xs : List ℕ) (slot : ℕ) → flat_map (misfits_below image inode level) xs ≡ []
    → misfits_below image inode level (slice_index xs slot) ≡ []
child_none image inode level [] slot e = refl
child_none image inode level (x ∷ xs) zero e = (append_none (misfits_below image inode level x) _ e).0
child_none image inode level (x ∷ xs) (suc slot) e = child_none image inode level xs slot (append_none (misfits_below image inode level x) _ e).1

-- what a child names is named
child_has : (image : Image) (inode level : ℕ) (xs : List ℕ) (slot a : ℕ) → (Has (names_below image inode level 0) a → ⊥)
    → Has (names_below image inode level (slice_index xs slot)) a → Has (flat_map (names_below image inode level) xs) a
child_has image inode level [] slot a none h = absurd (none h)
child_has image inode level (x ∷ xs) zero a none h = has-left (names_below image inode level x) _ a h
child_has image inode level (x ∷ xs) (suc slot) a none h =
    has-right (names_below image inode level x) _ a (child_has image inode level xs slot a none h)

nothing_below : (image : Image) (inode level a : ℕ) → Has (names_below image inode level 0) a → ⊥
nothing_below image inode zero a h = h
nothing_below image inode (suc level) a h = h

-- an address that a fitting place leads to is named below it
leads_has : (image : Image) (inode level nid a : ℕ) → a ≢ 0 → misfits_below image inode level nid ≡ []
    → Leads image level nid a → Has (names_below image inode level nid) a
leads_has image inode level zero a some none leads = absurd (some (leads_nowhere image level a leads))
leads_has image inode zero (suc k) a some none (slot, is) =
    rw (fits_of_none (fits image inode 0 (suc k)) (suc k) none)
    (subst (Has (own_names image (suc k))) is (own_has image (suc k) slot (λ e. some (sym is ∙ e))))
leads_has image inode (suc level) (suc k) a some none (slot, rest) =
    let both = fits_of_none_below (fits image inode (suc level) (suc k)) (suc k) _ none in
    rw (both.0)
    (has-right (own_names image (suc k)) _ a
    (child_has image inode level (node_of image (suc k)).children slot a (nothing_below image inode level a)
    (leads_has image inode level (child image (suc k) slot) a some
    (child_none image inode level (node_of image (suc k)).children slot both.1) rest)))

-- the pointers of a path are those of its table
abbrev pub IsOfTable : Option Path → Type 0
IsOfTable None = Unit {0}
IsOfTable (Some (Inode slot)) = Unit {0}
IsOfTable (Some (Direct p slot)) = p < 2
IsOfTable (Some (Indirect p a slot)) = (2 ≤ p) × (p < 4)
IsOfTable (Some (Double a b slot)) = Unit {0}

either : (P : Option Path → Type 0) (b : Bool) (x y : Option Path) → (b ≡ true → P x) → (b ≡ false → P y) → P (if b then x else y)
either P true x y holds fails = holds refl
either P false x y holds fails = fails refl

quotient_below : (k e : ℕ) → k < 2 * e → k / e < 2
quotient_below k zero h = absurd (omega arith)
quotient_below k (suc e) h = (div-lt_iff_lt-mul (omega arith)).1 h

range_below : (index start room : ℕ) → index < start + room → start ≤ index → index - start < room
range_below index start room h g = omega arith

pub path_of_table : (shape : Shape) (index : ℕ) → IsOfTable (path shape index)
path_of_table shape index =
    let d = inode_entries shape in
    let e = node_entries shape in
    either IsOfTable (nat_lt index d) _ _ (λ t. tt) λ t.
    either IsOfTable (nat_lt index (d + 2 * e)) _ _
    (λ u. quotient_below (index - d) e (range_below index d (2 * e) (ltb-true _ _ u) (ltb-false _ _ t))) λ u.
    either IsOfTable (nat_lt index (d + 2 * e + 2 * (e * e))) _ _
    (λ v. let q = quotient_below (index - (d + 2 * e)) (e * e) (range_below index (d + 2 * e) (2 * (e * e)) (ltb-true _ _ v) (ltb-false _ _ u)) in
    (omega arith, omega arith)) λ v.
    either IsOfTable (nat_lt index (d + 2 * e + 2 * (e * e) + e * e * e)) _ _ (λ w. tt) λ w. tt

abbrev pub AnyPlace : (ℕ × ℕ → Type 0) → List (ℕ × ℕ) → Type 0
AnyPlace P [] = ⊥
AnyPlace P (p ∷ ps) = P p ⊎ AnyPlace P ps

place_has : (image : Image) (inode a : ℕ) (ps : List (ℕ × ℕ))
    → AnyPlace (λ p. (a ≢ 0) × Leads image p.0 p.1 a) ps
    → flat_map (λ (p : ℕ × ℕ). misfits_below image inode p.0 p.1) ps ≡ []
    → Has (flat_map (λ (p : ℕ × ℕ). names_below image inode p.0 p.1) ps) a
place_has image inode a [] any none = absurd any
place_has image inode a (p ∷ ps) (inl here) none =
    has-left (names_below image inode p.0 p.1) _ a
    (leads_has image inode p.0 p.1 a here.0 (append_none (misfits_below image inode p.0 p.1) _ none).0 here.1)
place_has image inode a (p ∷ ps) (inr later) none =
    has-right (names_below image inode p.0 p.1) _ a
    (place_has image inode a ps later (append_none (misfits_below image inode p.0 p.1) _ none).1)

below_has : (image : Image) (inode a : ℕ) → AnyPlace (λ p. (a ≢ 0) × Leads image p.0 p.1 a) (places image inode)
    → misfits image inode ≡ [] → Has (walk image inode) a
below_has image inode a any none = has-right (own_names image inode) _ a (place_has image inode a (places image inode) any none)

-- a data address that a path leads to is named by the inode's walk, where nothing misfits
at_end_has : (image : Image) (inode : ℕ) (p : Option Path) → IsOfTable p → misfits image inode ≡ []
    → at_end image inode p ≢ 0 → Has (walk image inode) (at_end image inode p)
at_end_has image inode None t none some = absurd (some refl)
at_end_has image inode (Some (Inode slot)) t none some =
    has-left (own_names image inode) _ _ (own_has image inode slot some)
at_end_has image inode (Some (Direct zero slot)) t none some = below_has image inode _ (inl (some, (slot, refl))) none
at_end_has image inode (Some (Direct (suc zero) slot)) t none some = below_has image inode _ (inr (inl (some, (slot, refl)))) none
at_end_has image inode (Some (Direct (suc (suc p)) slot)) t none some = absurd (omega arith)
at_end_has image inode (Some (Indirect zero a slot)) t none some = absurd (omega arith)
at_end_has image inode (Some (Indirect (suc zero) a slot)) t none some = absurd (omega arith)
at_end_has image inode (Some (Indirect (suc (suc zero)) a slot)) t none some =
    below_has image inode _ (inr (inr (inl (some, (a, (slot, refl)))))) none
at_end_has image inode (Some (Indirect (suc (suc (suc zero))) a slot)) t none some =
    below_has image inode _ (inr (inr (inr (inl (some, (a, (slot, refl))))))) none
at_end_has image inode (Some (Indirect (suc (suc (suc (suc p)))) a slot)) t none some = absurd (omega arith)
at_end_has image inode (Some (Double a b slot)) t none some =
    below_has image inode _ (inr (inr (inr (inr (inl (some, (a, (b, (slot, refl))))))))) none

pub data_address_has : (shape : Shape) (image : Image) (inode index : ℕ) → misfits image inode ≡ []
    → data_address shape image inode index ≢ 0 → Has (walk image inode) (data_address shape image inode index)
data_address_has shape image inode index none some = at_end_has image inode (path shape index) (path_of_table shape index) none some

-- files from blocks that agree where the walks name them are the same
filter_map_same : {X Y : Type 0} (f g : X → Option Y) (xs : List X) → ((x : X) → f x ≡ g x) → filter_map f xs ≡ filter_map g xs
filter_map_same f g [] same = refl
filter_map_same f g (x ∷ xs) same = rw (same x, filter_map_same f g xs same)

block_same : (blocks others : ℕ → Block) (index address : ℕ) → (address ≢ 0 → blocks address ≡ others address)
    → block_at blocks index address ≡ block_at others index address
block_same blocks others index zero same = refl
block_same blocks others index (suc address) same = ap (λ b. Some (index, b)) (same (λ e. cc))

file_same : (shape : Shape) (image : Image) (blocks others : ℕ → Block) (inode : ℕ) → misfits image inode ≡ []
    → ((a : ℕ) → Has (walk image inode) a → blocks a ≡ others a)
    → file_of shape image blocks inode ≡ file_of shape image others inode
file_same shape image blocks others inode none same =
    ap (λ entries. record { kind = (node_of image inode).kind; length = (node_of image inode).length; blocks = from_entries entries })
    (filter_map_same (λ index. block_at blocks index (data_address shape image inode index))
    (λ index. block_at others index (data_address shape image inode index)) (below (node_of image inode).length)
    (λ index. block_same blocks others index (data_address shape image inode index)
    (λ some. same _ (data_address_has shape image inode index none some))))

files_same_of : (shape : Shape) (image : Image) (blocks others : ℕ → Block) (xs : List ℕ) → All (λ inode. misfits image inode ≡ []) xs
    → ((a : ℕ) → Has (flat_map (walk image) xs) a → blocks a ≡ others a)
    → map {B = ℕ × File} (λ inode. (inode, file_of shape image blocks inode)) xs ≡ map {B = ℕ × File} (λ inode. (inode, file_of shape image others inode)) xs
files_same_of shape image blocks others [] all same = refl
files_same_of shape image blocks others (x ∷ xs) all same =
    let first = file_same shape image blocks others x (all 0 0 (omega arith)) (λ a has. same a (has-left (walk image x) _ a has)) in
    let rest = files_same_of shape image blocks others xs (λ k d under. all (suc k) d (omega arith)) (λ a has. same a (has-right (walk image x) _ a has)) in
    rw (first, rest)

-- the nodes read from blocks that agree where the table names them are the same
entry_same : (shape : Shape) (blocks others : ℕ → Block) (address : ℕ) → (address ≢ 0 → blocks address ≡ others address)
    → node_at shape blocks address ≡ node_at shape others address
entry_same shape blocks others zero same = refl
entry_same shape blocks others (suc address) same = ap (read_node shape) (same (λ e. cc))

nodes_same : (shape : Shape) (blocks others : ℕ → Block) (table : List NodeEntry)
    → ((k : ℕ) → k < length table → (get_or table k no_entry).address ≢ 0 → blocks (get_or table k no_entry).address ≡ others (get_or table k no_entry).address)
    → read_nodes shape blocks table ≡ read_nodes shape others table
nodes_same shape blocks others [] same = refl
nodes_same shape blocks others (e ∷ table) same =
    let first = entry_same shape blocks others e.address (same 0 (omega arith)) in
    let rest = nodes_same shape blocks others table (λ k under. same (suc k) (omega arith)) in
    rw (first, rest)

entry_at : (image : Image) (k : ℕ) → entry_of image (suc k) ≡ get_or image.node_table k no_entry
entry_at image k =
    let e : suc k - 1 ≡ k = omega arith in
    rw (ne_eqb (suc k) 0 (λ z. cc), e)

-- the address of an entry is named
entry_has : (geometry : Geometry) (image : Image) (k : ℕ) → IsLawful geometry image → k < length image.node_table
    → (get_or image.node_table k no_entry).address ≢ 0 → Has (names geometry image) (get_or image.node_table k no_entry).address
entry_has geometry image k lawful under some =
    let sized : Rule geometry image 1 = lawful 1 (omega arith) (omega arith) in
    let met : Rule geometry image 5 = lawful 5 (omega arith) (omega arith) in
    let here = entry_at image k in
    let taken : IsTrue (is_taken image (suc k)) = rw (here, ne_eqb (get_or image.node_table k no_entry).address 0 some) in
    subst (λ (e : NodeEntry). Has (names geometry image) e.address) here
    (has_of_contains (names geometry image) _ (met (suc k) (let t : length image.node_table ≡ geometry.nodes = sized.table in omega arith) taken))

-- a named address is marked
pub has_marked : (geometry : Geometry) (image : Image) (a : ℕ) → IsLawful geometry image → Has (names geometry image) a → IsTrue (is_marked geometry image a)
has_marked geometry image a lawful has =
    let marked : Rule geometry image 7 = lawful 7 (omega arith) (omega arith) in
    all_has (λ a. IsTrue (is_marked geometry image a)) (names geometry image) a marked has

-- blocks that agree with those of a written body where its image marks them hold the same image
pub same_image : (geometry : Geometry) (body : List ℕ) (blocks others : ℕ → Block) → IsLawful geometry (image_in geometry body others)
    → ((a : ℕ) → IsTrue (is_marked geometry (image_in geometry body others) a) → blocks a ≡ others a)
    → image_in geometry body blocks ≡ image_in geometry body others
unfolding image_in
same_image geometry body blocks others lawful same =
    let nodes = nodes_same geometry.shape blocks others (read_table body table_start geometry.nodes)
    (λ k under some. same _ (has_marked geometry (image_in geometry body others) _ lawful
    (entry_has geometry (image_in geometry body others) k lawful under some))) in
    ap (λ nodes. record (image_in geometry body others) { nodes = nodes }) nodes

-- and the same files
pub same_files : (geometry : Geometry) (image : Image) (blocks others : ℕ → Block) → IsLawful geometry image
    → ((a : ℕ) → IsTrue (is_marked geometry image a) → blocks a ≡ others a)
    → files geometry image blocks ≡ files geometry image others
same_files geometry image blocks others lawful same =
    let fit : Rule geometry image 4 = lawful 4 (omega arith) (omega arith) in
    files_same_of geometry.shape image blocks others (inodes geometry image) fit (λ a has. same a (has_marked geometry image a lawful has))
