-- The places of an inode reach ranges of indexes that follow one another and leave none out: so a file ends below its
-- length exactly where each place does below what is left of it.
use Rattle.std.proofs.Common.{◌≡◌, ◌≢◌, refl, sym, ◌∙◌, ap, subst, ℕ, zero, suc, ◌+◌, ◌-◌, ◌*◌, ◌/◌, ◌%◌, ◌<◌, ◌≤◌, inl, inr, List, length, get_or, arith}
use Rattle.std.specs.Prelude.{Some, slice_index}
use Rattle.std.proofs.lemmas.Bool.{lt-ltb, le-ltb}
use Rattle.std.proofs.lemmas.Bool.Decides.{leb_tells}
use Rattle.std.proofs.lemmas.List.{get_or_past}
use Rattle.std.proofs.lemmas.Nat.{div-add-mod', div-mul-add, mod-mul-add, mod_below}
use Rattle.std.proofs.Math.Nat.{mul-le-mul_right, suc-mul}
use Rattle.geometry.specs.declared.shape.Shape.{Shape}
use Rattle.geometry.specs.declared.shape.Shape.TheVariants.{Tiny, Kernel}
use Rattle.geometry.specs.declared.geometry.Geometry.{Geometry}
use Rattle.geometry.specs.declared.path.Path.TheVariants.{Inode, Direct, Indirect, Double}
use Rattle.geometry.specs.Path.{node_entries, inode_entries, largest_length, path}
use Rattle.image.specs.Image.{Image, node_of, no_node}
use Rattle.image.specs.Walk.{child}
use Rattle.image.specs.Files.{at_end, data_address}
use Rattle.image.specs.Rules.{IsInRange}
use Rattle.image.proofs.Shapes.{is_shape}
use Rattle.image.proofs.Testing.{path_past}
use Rattle.image_checker.specs.Lengths.{span, address_below, EndsBelow, FileEndsBelow}
use Rattle.image_checker.proofs.RoomLemmas.{few_entries}

-- no node reaches nothing
none_below : (image : Image) (entries level k : ℕ) → address_below image entries level 0 k ≡ 0
none_below image entries zero k = refl
none_below image entries (suc level) k = none_below image entries level (k % span entries level)

pub ends_of_none : (image : Image) (entries level nid limit : ℕ) → node_of image nid ≡ no_node → EndsBelow image entries level nid limit
ends_of_none image entries zero nid limit none k some = absurd (some (ap (λ n. slice_index n.addresses k) none))
ends_of_none image entries (suc level) nid limit none k some =
    absurd (some (ap (λ n. address_below image entries level (slice_index n.children (k / span entries level)) (k % span entries level)) none
    ∙ none_below image entries level (k % span entries level)))

span_some : (entries level : ℕ) → 0 < entries → 0 < span entries level
span_some entries zero some = some
span_some (suc entries) (suc level) some = let s = span_some (suc entries) level some in let m = suc-mul entries (span (suc entries) level) in omega arith
span_some zero (suc level) some = absurd (omega arith)

-- nothing is reached past the span
past_span : (geometry : Geometry) (image : Image) (level nid k : ℕ) → IsInRange geometry image → span (node_entries geometry.shape) level ≤ k
    → address_below image (node_entries geometry.shape) level nid k ≡ 0
past_span geometry image zero nid k sized past =
    get_or_past (node_of image nid).addresses k 0 (let few = (few_entries geometry image nid sized).0 in omega arith)
past_span geometry image (suc level) nid k sized past =
    let e = node_entries geometry.shape in
    let s = span e level in
    let some : 0 < s = span_some e level (is_shape geometry.shape).some in
    let whole = div-add-mod' k s in
    let rest = mod_below k s some in
    let few = (few_entries geometry image nid sized).1 in
    let far : e ≤ k / s =
    elim (leb_tells (suc (k / s)) e) [
      | inl (t, low) ↦ let m = mul-le-mul_right s low in let d : suc (k / s) * s ≡ (k / s) * s + s = omega arith in absurd (omega arith)
      | inr (t, high) ↦ omega arith
    ] in
    let none : child image nid (k / s) ≡ 0 = get_or_past (node_of image nid).children (k / s) 0 (omega arith) in
    ap (λ n. address_below image e level n (k % s)) none ∙ none_below image e level (k % s)

-- an indirect node reaches what its children do, one after the other
pub child_ends : (geometry : Geometry) (image : Image) (level nid limit j : ℕ) → IsInRange geometry image
    → EndsBelow image (node_entries geometry.shape) (suc level) nid limit
    → EndsBelow image (node_entries geometry.shape) level (child image nid j) (limit - j * span (node_entries geometry.shape) level)
child_ends geometry image level nid limit j sized ends r some =
    let e = node_entries geometry.shape in
    let s = span e level in
    elim (leb_tells (suc r) s) [
      | inl (t, low) ↦
          let q = div-mul-add j s r low in
          let m = mod-mul-add j s r low in
          let at : address_below image e (suc level) nid (j * s + r) ≡ address_below image e level (child image nid j) r
          = ap (λ a. address_below image e level (child image nid a) ((j * s + r) % s)) q ∙ ap (address_below image e level (child image nid j)) m in
          let below = ends (j * s + r) (λ z. some (sym at ∙ z)) in omega arith
      | inr (t, high) ↦ absurd (some (past_span geometry image level (child image nid j) r sized (omega arith)))
    ]

pub ends_of_children : (image : Image) (entries level nid limit : ℕ) (xs : List ℕ) → 0 < entries → xs ≡ (node_of image nid).children
    → ((j : ℕ) → j < length xs → EndsBelow image entries level (get_or xs j 0) (limit - j * span entries level))
    → EndsBelow image entries (suc level) nid limit
ends_of_children image entries level nid limit xs positive are each k some =
    let s = span entries level in
    let whole = div-add-mod' k s in
    elim (leb_tells (suc (k / s)) (length xs)) [
      | inl (t, low) ↦
          let here = each (k / s) low (k % s) (λ z. some (ap (λ (ys : List ℕ). address_below image entries level (get_or ys (k / s) 0) (k % s)) (sym are) ∙ z)) in
          omega arith
      | inr (t, high) ↦
          let none : child image nid (k / s) ≡ 0 = ap (λ (ys : List ℕ). get_or ys (k / s) 0) (sym are) ∙ get_or_past xs (k / s) 0 (omega arith) in
          absurd (some (ap (λ n. address_below image entries level n (k % s)) none ∙ none_below image entries level (k % s)))
    ]

-- a direct node's addresses, of which none stands past its entries
pub zero_ends : (geometry : Geometry) (image : Image) (level nid limit count : ℕ) → level ≡ 0 → count ≡ node_entries geometry.shape → IsInRange geometry image
    → ((k : ℕ) → k < count → slice_index (node_of image nid).addresses k ≢ 0 → k < limit)
    → EndsBelow image (node_entries geometry.shape) level nid limit
zero_ends geometry image (suc level) nid limit count is counted sized own k some = absurd (omega arith)
zero_ends geometry image zero nid limit count is counted sized own k some =
    elim (leb_tells (suc k) count) [
      | inl (t, low) ↦ own k low some
      | inr (t, high) ↦ absurd (some (past_span geometry image 0 nid k sized (omega arith)))
    ]

pub zero_own : (image : Image) (entries level nid limit count : ℕ) → level ≡ 0 → EndsBelow image entries level nid limit
    → (k : ℕ) → k < count → slice_index (node_of image nid).addresses k ≢ 0 → k < limit
zero_own image entries (suc level) nid limit count is ends k low some = absurd (omega arith)
zero_own image entries zero nid limit count is ends k low some = ends k some

-- a loop over the children of an indirect node, and after it
pub child_below : (geometry : Geometry) (image : Image) (level nid limit left j : ℕ) (xs : List ℕ) → 0 < level → IsInRange geometry image
    → xs ≡ (node_of image nid).children → left ≡ limit - j * span (node_entries geometry.shape) (level - 1)
    → EndsBelow image (node_entries geometry.shape) level nid limit
    → EndsBelow image (node_entries geometry.shape) (level - 1) (get_or xs j 0) left
child_below geometry image zero nid limit left j xs deep sized are is ends = absurd (omega arith)
child_below geometry image (suc level) nid limit left j xs deep sized are is ends =
    let e = node_entries geometry.shape in
    let same : suc level - 1 ≡ level = omega arith in
    let left_is : left ≡ limit - j * span e level = is ∙ ap (λ l. limit - j * span e l) same in
    subst (λ l. EndsBelow image e l (get_or xs j 0) left) (sym same)
    (subst (λ l. EndsBelow image e level (get_or xs j 0) l) (sym left_is)
    (subst (λ (ys : List ℕ). EndsBelow image e level (get_or ys j 0) (limit - j * span e level)) (sym are)
    (child_ends geometry image level nid limit j sized ends)))

pub children_below : (geometry : Geometry) (image : Image) (level nid limit k : ℕ) (xs : List ℕ) → 0 < level
    → xs ≡ (node_of image nid).children → length xs ≤ k
    → ((j : ℕ) → j < k → EndsBelow image (node_entries geometry.shape) (level - 1) (get_or xs j 0) (limit - j * span (node_entries geometry.shape) (level - 1)))
    → EndsBelow image (node_entries geometry.shape) level nid limit
children_below geometry image zero nid limit k xs deep are past each = absurd (omega arith)
children_below geometry image (suc level) nid limit k xs deep are past each =
    let e = node_entries geometry.shape in
    let same : suc level - 1 ≡ level = omega arith in
    ends_of_children image e level nid limit xs (let some = (is_shape geometry.shape).some in omega arith) are
    (λ j low. subst (λ l. EndsBelow image e l (get_or xs j 0) (limit - j * span e l)) same (each j (omega arith)))

-- the same place and limit in other words
pub ends_at : (image : Image) (entries level n m limit other : ℕ) → n ≡ m → limit ≡ other → EndsBelow image entries level n limit
    → EndsBelow image entries level m other
ends_at image entries level n m limit other same is ends =
    subst (λ l. EndsBelow image entries level m l) is (subst (λ k. EndsBelow image entries level k limit) same ends)

pub own_at : (image : Image) (inode length count other : ℕ) → count ≡ other
    → ((k : ℕ) → k < count → slice_index (node_of image inode).addresses k ≢ 0 → k < length)
    → (k : ℕ) → k < other → slice_index (node_of image inode).addresses k ≢ 0 → k < length
own_at image inode length count other same own k low some = own k (omega arith) some

-- the paths of the indexes that each place of an inode reaches
own_path : (shape : Shape) (k : ℕ) → k < inode_entries shape → path shape k ≡ Some (Inode k)
own_path shape k low = rw (lt-ltb k (inode_entries shape) low) refl

first_path : (shape : Shape) (k : ℕ) → k < node_entries shape → path shape (inode_entries shape + k) ≡ Some (Direct 0 k)
first_path Tiny k low =
    let q : (3 + k - 3) / 10 ≡ 0 = omega arith in let r : (3 + k - 3) % 10 ≡ k = omega arith in
    rw (le-ltb (3 + k) 3 (omega arith), lt-ltb (3 + k) 23 (omega arith)) (λ i. Some (Direct (q i) (r i)))
first_path Kernel k low =
    let q : (923 + k - 923) / 1018 ≡ 0 = omega arith in let r : (923 + k - 923) % 1018 ≡ k = omega arith in
    rw (le-ltb (923 + k) 923 (omega arith), lt-ltb (923 + k) 2959 (omega arith)) (λ i. Some (Direct (q i) (r i)))

second_path : (shape : Shape) (k : ℕ) → k < node_entries shape → path shape (inode_entries shape + node_entries shape + k) ≡ Some (Direct 1 k)
second_path Tiny k low =
    let q : (13 + k - 3) / 10 ≡ 1 = omega arith in let r : (13 + k - 3) % 10 ≡ k = omega arith in
    rw (le-ltb (13 + k) 3 (omega arith), lt-ltb (13 + k) 23 (omega arith)) (λ i. Some (Direct (q i) (r i)))
second_path Kernel k low =
    let q : (1941 + k - 923) / 1018 ≡ 1 = omega arith in let r : (1941 + k - 923) % 1018 ≡ k = omega arith in
    rw (le-ltb (1941 + k) 923 (omega arith), lt-ltb (1941 + k) 2959 (omega arith)) (λ i. Some (Direct (q i) (r i)))

third_path : (shape : Shape) (k : ℕ) → k < node_entries shape * node_entries shape
    → path shape (inode_entries shape + 2 * node_entries shape + k) ≡ Some (Indirect 2 (k / node_entries shape) (k % node_entries shape))
third_path Tiny k low =
    let p : 2 + (23 + k - 23) / 100 ≡ 2 = omega arith in
    let q : (23 + k - 23) / 10 % 10 ≡ k / 10 = omega arith in let r : (23 + k - 23) % 10 ≡ k % 10 = omega arith in
    rw (le-ltb (23 + k) 3 (omega arith), le-ltb (23 + k) 23 (omega arith), lt-ltb (23 + k) 223 (omega arith)) (λ i. Some (Indirect (p i) (q i) (r i)))
third_path Kernel k low =
    let p : 2 + (2959 + k - 2959) / 1036324 ≡ 2 = omega arith in
    let q : (2959 + k - 2959) / 1018 % 1018 ≡ k / 1018 = omega arith in let r : (2959 + k - 2959) % 1018 ≡ k % 1018 = omega arith in
    rw (le-ltb (2959 + k) 923 (omega arith), le-ltb (2959 + k) 2959 (omega arith), lt-ltb (2959 + k) 2075607 (omega arith)) (λ i. Some (Indirect (p i) (q i) (r i)))

fourth_path : (shape : Shape) (k : ℕ) → k < node_entries shape * node_entries shape
    → path shape (inode_entries shape + 2 * node_entries shape + node_entries shape * node_entries shape + k)
    ≡ Some (Indirect 3 (k / node_entries shape) (k % node_entries shape))
fourth_path Tiny k low =
    let p : 2 + (123 + k - 23) / 100 ≡ 3 = omega arith in
    let q : (123 + k - 23) / 10 % 10 ≡ k / 10 = omega arith in let r : (123 + k - 23) % 10 ≡ k % 10 = omega arith in
    rw (le-ltb (123 + k) 3 (omega arith), le-ltb (123 + k) 23 (omega arith), lt-ltb (123 + k) 223 (omega arith)) (λ i. Some (Indirect (p i) (q i) (r i)))
fourth_path Kernel k low =
    let p : 2 + (1039283 + k - 2959) / 1036324 ≡ 3 = omega arith in
    let q : (1039283 + k - 2959) / 1018 % 1018 ≡ k / 1018 = omega arith in let r : (1039283 + k - 2959) % 1018 ≡ k % 1018 = omega arith in
    rw (le-ltb (1039283 + k) 923 (omega arith), le-ltb (1039283 + k) 2959 (omega arith), lt-ltb (1039283 + k) 2075607 (omega arith)) (λ i. Some (Indirect (p i) (q i) (r i)))

fifth_path : (shape : Shape) (k : ℕ) → k < node_entries shape * (node_entries shape * node_entries shape)
    → path shape (inode_entries shape + 2 * node_entries shape + 2 * (node_entries shape * node_entries shape) + k)
    ≡ Some (Double (k / (node_entries shape * node_entries shape)) (k % (node_entries shape * node_entries shape) / node_entries shape)
    (k % (node_entries shape * node_entries shape) % node_entries shape))
fifth_path Tiny k low =
    let p : (223 + k - 223) / 100 ≡ k / 100 = omega arith in
    let q : (223 + k - 223) / 10 % 10 ≡ k % 100 / 10 = omega arith in let r : (223 + k - 223) % 10 ≡ k % 100 % 10 = omega arith in
    rw (le-ltb (223 + k) 3 (omega arith), le-ltb (223 + k) 23 (omega arith), le-ltb (223 + k) 223 (omega arith), lt-ltb (223 + k) 1223 (omega arith)) (λ i. Some (Double (p i) (q i) (r i)))
fifth_path Kernel k low =
    let p : (2075607 + k - 2075607) / 1036324 ≡ k / 1036324 = omega arith in
    let q : (2075607 + k - 2075607) / 1018 % 1018 ≡ k % 1036324 / 1018 = omega arith in
    let r : (2075607 + k - 2075607) % 1018 ≡ k % 1036324 % 1018 = omega arith in
    rw (le-ltb (2075607 + k) 923 (omega arith), le-ltb (2075607 + k) 2959 (omega arith), le-ltb (2075607 + k) 2075607 (omega arith), lt-ltb (2075607 + k) 1057053439 (omega arith)) (λ i. Some (Double (p i) (q i) (r i)))

-- from a start on, the file's addresses are those that a place reaches
abbrev IsReached : Shape → Image → ℕ → ℕ → ℕ → ℕ → Type 0
IsReached shape image inode start level nid =
    (k : ℕ) → k < span (node_entries shape) level → data_address shape image inode (start + k) ≡ address_below image (node_entries shape) level nid k

-- a file is long enough for what a place reaches
abbrev IsLong : Shape → Image → ℕ → ℕ → Type 0
IsLong shape image inode length = (index : ℕ) → data_address shape image inode index ≢ 0 → index < length

place_ends : (geometry : Geometry) (image : Image) (inode start level nid length : ℕ) → IsInRange geometry image
    → IsReached geometry.shape image inode start level nid → IsLong geometry.shape image inode length
    → EndsBelow image (node_entries geometry.shape) level nid (length - start)
place_ends geometry image inode start level nid length sized reached long k some =
    elim (leb_tells (suc k) (span (node_entries geometry.shape) level)) [
      | inl (t, low) ↦ let below = long (start + k) (λ z. some (sym (reached k low) ∙ z)) in omega arith
      | inr (t, high) ↦ absurd (some (past_span geometry image level nid k sized (omega arith)))
    ]

place_long : (shape : Shape) (image : Image) (inode start level nid length index : ℕ) → IsReached shape image inode start level nid
    → EndsBelow image (node_entries shape) level nid (length - start) → start ≤ index → index < start + span (node_entries shape) level
    → data_address shape image inode index ≢ 0 → index < length
place_long shape image inode start level nid length index reached ends low high some =
    let e : start + (index - start) ≡ index = omega arith in
    let below = ends (index - start) (λ z. some (ap (data_address shape image inode) (sym e) ∙ reached (index - start) (omega arith) ∙ z)) in
    omega arith

pub file_ends : (geometry : Geometry) (image : Image) (inode length : ℕ) → IsInRange geometry image → IsLong geometry.shape image inode length
    → FileEndsBelow geometry.shape image inode length
file_ends geometry image inode length sized long =
    let s = geometry.shape in record {
      own = λ k low some. long k (λ z. some (sym (ap (at_end image inode) (own_path s k low)) ∙ z));
      first = place_ends geometry image inode _ 0 (child image inode 0) length sized (λ k low. ap (at_end image inode) (first_path s k low)) long;
      second = place_ends geometry image inode _ 0 (child image inode 1) length sized (λ k low. ap (at_end image inode) (second_path s k low)) long;
      third = place_ends geometry image inode _ 1 (child image inode 2) length sized (λ k low. ap (at_end image inode) (third_path s k low)) long;
      fourth = place_ends geometry image inode _ 1 (child image inode 3) length sized (λ k low. ap (at_end image inode) (fourth_path s k low)) long;
      fifth = place_ends geometry image inode _ 2 (child image inode 4) length sized (λ k low. ap (at_end image inode) (fifth_path s k low)) long;
    }

pub file_long : (shape : Shape) (image : Image) (inode length : ℕ) → FileEndsBelow shape image inode length → IsLong shape image inode length
file_long shape image inode length ends index some =
    let d = inode_entries shape in
    let e = node_entries shape in
    elim (leb_tells (suc index) d) [
      | inl (t, low) ↦ ends.own index low (λ z. some (ap (at_end image inode) (own_path shape index low) ∙ z))
      | inr (t, high) ↦
          elim (leb_tells (suc index) (d + e)) [
            | inl (t, low) ↦ place_long shape image inode _ 0 (child image inode 0) length index (λ k low. ap (at_end image inode) (first_path shape k low)) ends.first (omega arith) low some
            | inr (t, high) ↦
                elim (leb_tells (suc index) (d + e + e)) [
                  | inl (t, low) ↦ place_long shape image inode _ 0 (child image inode 1) length index (λ k low. ap (at_end image inode) (second_path shape k low)) ends.second (omega arith) low some
                  | inr (t, high) ↦
                      elim (leb_tells (suc index) (d + 2 * e + e * e)) [
                        | inl (t, low) ↦ place_long shape image inode _ 1 (child image inode 2) length index (λ k low. ap (at_end image inode) (third_path shape k low)) ends.third (omega arith) low some
                        | inr (t, high) ↦
                            elim (leb_tells (suc index) (d + 2 * e + e * e + e * e)) [
                              | inl (t, low) ↦ place_long shape image inode _ 1 (child image inode 3) length index (λ k low. ap (at_end image inode) (fourth_path shape k low)) ends.fourth (omega arith) low some
                              | inr (t, high) ↦
                                  elim (leb_tells (suc index) (largest_length shape)) [
                                    | inl (t, low) ↦ place_long shape image inode _ 2 (child image inode 4) length index (λ k low. ap (at_end image inode) (fifth_path shape k low)) ends.fifth (omega arith) (omega arith) some
                                    | inr (t, high) ↦ absurd (some (ap (at_end image inode) (path_past shape index (omega arith))))
                                  ]
                            ]
                      ]
                ]
          ]
    ]
