-- Nothing is taken, marked or named in the empty image, so rules on what is taken, marked or named hold of nothing; the
-- six logs stand in six segments, and all others are free.
use Rattle.std.proofs.Common.{◌≡◌, ◌≢◌, refl, sym, ◌∙◌, ap, subst, ℕ, zero, suc, ◌+◌, ◌-◌, ◌<◌, ◌≤◌, inl, inr, Bool, true, false, not, IsTrue, List, [], ◌∷◌, ◌++◌, map, length, get_or, replicate, add-one, arith, cond}
use Rattle.std.specs.Prelude.{Option, IfSome, All, AllPairs, count_by, filter, ◌==◌, if◌then◌else◌}
use Rattle.std.specs.List.{flat_map}
use Rattle.std.proofs.lemmas.Bool.{ne_eqb}
use Rattle.std.proofs.lemmas.Bool.Decides.{leb_tells}
use Rattle.std.proofs.lemmas.List.{length-replicate}
use Rattle.std.proofs.lemmas.List.Elements.{All-replicate}
use Rattle.std.proofs.lemmas.List.Folds.{sum_by-replicate}
use Rattle.std.proofs.lemmas.List.Sums.{sum_by_push}
use Rattle.std.proofs.Math.Nat.{mul-zero}
use Rattle.geometry.specs.declared.owner.Mark.{Mark}
use Rattle.geometry.specs.declared.shape.Shape.{Shape}
use Rattle.geometry.specs.declared.shape.Shape.TheVariants.{Tiny, Kernel}
use Rattle.geometry.specs.declared.geometry.Geometry.{Geometry}
use Rattle.geometry.specs.Address.{address_of, segment_of, offset_of}
use Rattle.geometry.specs.Area.{block_count}
use Rattle.geometry.specs.File.{Block}
use Rattle.geometry.specs.Shape.{segment_blocks}
use Rattle.geometry.specs.Summary.{summary_of}
use Rattle.image.specs.declared.image.NodeEntry.{NodeEntry}
use Rattle.image.specs.declared.image.LogHead.{LogHead}
use Rattle.image.specs.Image.{SegmentInfo, no_entry, no_node, no_segment, no_summary, entry_of, node_of, is_marked, summary_at}
use Rattle.image.specs.Walk.{walk, up_to, is_taken, inodes, names, misfits}
use Rattle.image.specs.Files.{below, data_address, file_of, files}
use Rattle.image.specs.Free.{is_free, free_count}
use Rattle.image.specs.Rules.{IsPlace, IsEntry, HasRange, IsInRange, AreApart, IsLawful}
use Rattle.image.proofs.Testing.{pairs_by_test, apart_test, apart_sound}
use Rattle.image.specs.Empty.{empty_segment, first_place, empty_image}

-- an element of equal ones, and past their end such a one again
same : {X : Type 0} (n i : ℕ) (x : X) → get_or (replicate n x) i x ≡ x
same zero i x = refl
same (suc n) zero x = refl
same (suc n) (suc i) x = same n i x

if_same : {X : Type 0} (b : Bool) (x : X) → (if b then x else x) ≡ x
if_same true x = refl
if_same false x = refl

if_either : {X : Type 0} (b : Bool) (x y : X) → y ≡ x → (if b then x else y) ≡ x
if_either true x y e = refl
if_either false x y e = e

no_entries : (geometry : Geometry) (nid : ℕ) → entry_of (empty_image geometry) nid ≡ no_entry
no_entries geometry nid = if_either (nid == 0) no_entry _ (same geometry.nodes (nid - 1) no_entry)

no_nodes : (geometry : Geometry) (nid : ℕ) → node_of (empty_image geometry) nid ≡ no_node
no_nodes geometry nid = if_either (nid == 0) no_node _ (same geometry.nodes (nid - 1) no_node)

pub none_taken : (geometry : Geometry) (nid : ℕ) → is_taken (empty_image geometry) nid ≡ false
none_taken geometry nid = ap (λ (e : NodeEntry). not (e.address == 0)) (no_entries geometry nid)

none_pass : (p : ℕ → Bool) → ((k : ℕ) → p k ≡ false) → (xs : List ℕ) → filter p xs ≡ []
none_pass p none [] = refl
none_pass p none (x ∷ xs) = rw (none x) (none_pass p none xs)

pub no_inodes : (geometry : Geometry) → inodes geometry (empty_image geometry) ≡ []
no_inodes geometry = none_pass (is_taken (empty_image geometry)) (none_taken geometry) (up_to geometry.files)

pub no_names : (geometry : Geometry) → names geometry (empty_image geometry) ≡ []
no_names geometry = ap (flat_map (walk (empty_image geometry))) (no_inodes geometry)

pub no_files : (geometry : Geometry) (blocks : ℕ → Block) → files geometry (empty_image geometry) blocks ≡ []
no_files geometry blocks = ap (map (λ inode. (inode, file_of geometry.shape (empty_image geometry) blocks inode))) (no_inodes geometry)

bits_of : (shape : Shape) (n segment offset : ℕ) → get_or (get_or (replicate n (empty_segment shape)) segment no_segment).bits offset false ≡ false
bits_of shape zero segment offset = refl
bits_of shape (suc n) zero offset = same (segment_blocks shape) offset false
bits_of shape (suc n) (suc segment) offset = bits_of shape n segment offset

count_of : (shape : Shape) (n segment : ℕ) → (get_or (replicate n (empty_segment shape)) segment no_segment).count ≡ 0
count_of shape zero segment = refl
count_of shape (suc n) zero = refl
count_of shape (suc n) (suc segment) = count_of shape n segment

pub none_marked : (geometry : Geometry) (address : ℕ) → is_marked geometry (empty_image geometry) address ≡ false
none_marked geometry address =
    if_either (address == 0) false _ (bits_of geometry.shape geometry.segments (segment_of geometry.shape address) (offset_of geometry.shape address))

no_summaries : (geometry : Geometry) (address : ℕ) → summary_at (empty_image geometry) address ≡ no_summary
no_summaries geometry address = if_either (address == 0) no_summary _ (same (block_count geometry) (address - 1) no_summary)

not_true : (b : Bool) → b ≡ false → IsTrue b → ⊥
not_true true e h = absurd cc
not_true false e h = absurd cc

-- what holds of no element holds of all of them
all_none : {X : Type 0} (P : X → Type 0) (xs : List X) → xs ≡ [] → All P xs
all_none P xs none = subst (All P) (sym none) (λ k d within. absurd (omega arith))

pairs_none : {X : Type 0} (P : X → X → Type 0) (xs : List X) → xs ≡ [] → AllPairs P xs
pairs_none P xs none = subst (AllPairs P) (sym none) (λ i j d before within. absurd (omega arith))

all_first : (P : Option LogHead → Type 0) → P (first_place 0) → P (first_place 1) → P (first_place 2) → P (first_place 3) → P (first_place 4) → P (first_place 5)
    → All P (map first_place (below 6))
all_first P a b c d e f zero other within = a
all_first P a b c d e f (suc zero) other within = b
all_first P a b c d e f (suc (suc zero)) other within = c
all_first P a b c d e f (suc (suc (suc zero))) other within = d
all_first P a b c d e f (suc (suc (suc (suc zero)))) other within = e
all_first P a b c d e f (suc (suc (suc (suc (suc zero))))) other within = f
all_first P a b c d e f (suc (suc (suc (suc (suc (suc k)))))) other within = absurd (omega arith)

some_blocks : (shape : Shape) → 0 < segment_blocks shape
some_blocks Tiny = omega arith
some_blocks Kernel = omega arith

pub in_range : (geometry : Geometry) → IsInRange geometry (empty_image geometry)
in_range geometry =
    let many = geometry.limits.some_segments in
    let some = some_blocks geometry.shape in
    record {
      version = omega arith;
      logs = refl;
      places = all_first (λ log. IfSome log (IsPlace geometry)) (omega arith, some) (omega arith, some) (omega arith, some)
          (omega arith, some) (omega arith, some) (omega arith, some);
      table = length-replicate geometry.nodes no_entry;
      entries = All-replicate (IsEntry geometry) geometry.nodes no_entry (omega arith, omega arith, (λ e. refl, λ e. refl));
      segments = length-replicate geometry.segments (empty_segment geometry.shape);
      bits = All-replicate (λ (s : SegmentInfo). length s.bits ≡ segment_blocks geometry.shape) geometry.segments (empty_segment geometry.shape) (length-replicate (segment_blocks geometry.shape) false);
      summaries = length-replicate (block_count geometry) no_summary;
      as_many = length-replicate geometry.nodes no_node;
      nodes = All-replicate (HasRange geometry) geometry.nodes no_node (record {
        inode = omega arith;
        entries = (refl, refl);
        addresses = λ k d within. absurd (omega arith);
        children = λ k d within. absurd (omega arith);
        length = omega arith;
        plain = inr (refl, refl);
      });
      owned = λ nid within none. no_nodes geometry nid;
    }

-- the logs stand in six segments
apart : AllPairs AreApart (map first_place (below 6))
apart = pairs_by_test AreApart apart_test apart_sound (map first_place (below 6)) refl

no_bits : (n : ℕ) → count_by (λ bit. bit) (replicate n false) ≡ 0
no_bits n = sum_by-replicate (λ bit. cond bit 1 0) n false ∙ mul-zero n

-- no block is valid from a log's next one on
abbrev pub NoneFrom : Geometry → LogHead → Type 0
NoneFrom geometry place = (offset : ℕ) → place.next ≤ offset → offset < segment_blocks geometry.shape
    → ¬ IsTrue (is_marked geometry (empty_image geometry) (address_of geometry.shape place.segment offset))

none_from : (geometry : Geometry) (log : ℕ) → NoneFrom geometry (record { segment = log; next = 0 })
none_from geometry log offset past within marked = not_true _ (none_marked geometry (address_of geometry.shape log offset)) marked

pub is_lawful : (geometry : Geometry) → IsLawful geometry (empty_image geometry)
is_lawful geometry zero low high = absurd (omega arith)
is_lawful geometry (suc zero) low high = in_range geometry
is_lawful geometry (suc (suc zero)) low high = apart
is_lawful geometry (suc (suc (suc zero))) low high = λ nid within taken. absurd (not_true _ (none_taken geometry nid) taken)
is_lawful geometry (suc (suc (suc (suc zero)))) low high = all_none (λ inode. misfits (empty_image geometry) inode ≡ []) _ (no_inodes geometry)
is_lawful geometry (suc (suc (suc (suc (suc zero))))) low high = λ nid within taken. absurd (not_true _ (none_taken geometry nid) taken)
is_lawful geometry (suc (suc (suc (suc (suc (suc zero)))))) low high = pairs_none (λ (m n : Mark). m.address ≢ n.address) _ (no_names geometry)
is_lawful geometry (suc (suc (suc (suc (suc (suc (suc zero))))))) low high =
    all_none (λ (n : Mark). IsTrue (is_marked geometry (empty_image geometry) n.address)) _ (no_names geometry)
is_lawful geometry (suc (suc (suc (suc (suc (suc (suc (suc zero)))))))) low high = λ address marked. absurd (not_true _ (none_marked geometry address) marked)
is_lawful geometry (suc (suc (suc (suc (suc (suc (suc (suc (suc zero))))))))) low high = record {
  named = all_none (λ (n : Mark). summary_at (empty_image geometry) n.address ≡ summary_of n.owner) _ (no_names geometry);
  unmarked = λ address. inr (no_summaries geometry address);
}
is_lawful geometry (suc (suc (suc (suc (suc (suc (suc (suc (suc (suc zero)))))))))) low high =
    record {
      counts = All-replicate (λ (s : SegmentInfo). s.count ≡ count_by (λ bit. bit) s.bits) geometry.segments (empty_segment geometry.shape) (sym (no_bits (segment_blocks geometry.shape)));
      total = sym (sum_by-replicate (λ (s : SegmentInfo). s.count) geometry.segments (empty_segment geometry.shape) ∙ mul-zero geometry.segments);
      logs = all_first (λ log. IfSome log (λ (place : LogHead). NoneFrom geometry place))
          (none_from geometry 0) (none_from geometry 1) (none_from geometry 2) (none_from geometry 3) (none_from geometry 4) (none_from geometry 5);
      lengths = all_none (λ inode. (index : ℕ) → data_address geometry.shape (empty_image geometry) inode index ≢ 0
          → index < (node_of (empty_image geometry) inode).length) _ (no_inodes geometry);
    }
is_lawful geometry (suc (suc (suc (suc (suc (suc (suc (suc (suc (suc (suc k))))))))))) low high = absurd (omega arith)

-- a segment is free unless a log stands in it
free_past : (geometry : Geometry) (k : ℕ) → 6 ≤ k → is_free (empty_image geometry) k ≡ true
free_past geometry k past =
    rw (count_of geometry.shape geometry.segments k, ne_eqb 0 k (omega arith), ne_eqb 1 k (omega arith), ne_eqb 2 k (omega arith), ne_eqb 3 k (omega arith), ne_eqb 4 k (omega arith), ne_eqb 5 k (omega arith)) refl

taken_below : (geometry : Geometry) (k : ℕ) → k < 6 → is_free (empty_image geometry) k ≡ false
taken_below geometry zero low = rw (count_of geometry.shape geometry.segments 0) refl
taken_below geometry (suc zero) low = rw (count_of geometry.shape geometry.segments 1) refl
taken_below geometry (suc (suc zero)) low = rw (count_of geometry.shape geometry.segments 2) refl
taken_below geometry (suc (suc (suc zero))) low = rw (count_of geometry.shape geometry.segments 3) refl
taken_below geometry (suc (suc (suc (suc zero)))) low = rw (count_of geometry.shape geometry.segments 4) refl
taken_below geometry (suc (suc (suc (suc (suc zero))))) low = rw (count_of geometry.shape geometry.segments 5) refl
taken_below geometry (suc (suc (suc (suc (suc (suc k)))))) low = absurd (omega arith)

abbrev pub one_if : Bool → ℕ
one_if true = 1
one_if false = 0

as_one : (b : Bool) → cond b 1 0 ≡ one_if b
as_one true = refl
as_one false = refl

count_more : (p : ℕ → Bool) (n : ℕ) → count_by p (below (suc n)) ≡ count_by p (below n) + one_if (p n)
count_more p n =
    let same : cond (p n) 1 0 ≡ one_if (p n) = as_one (p n) in
    sum_by_push (λ k. cond (p k) 1 0) (below n) n ∙ ap (λ m. count_by p (below n) + m) same

free_up_to : (geometry : Geometry) (n : ℕ) → count_by (is_free (empty_image geometry)) (below n) ≡ n - 6
free_up_to geometry zero = refl
free_up_to geometry (suc n) =
    let p = is_free (empty_image geometry) in
    let so_far = free_up_to geometry n in
    let more : count_by p (below (suc n)) ≡ count_by p (below n) + one_if (p n) = count_more p n in
    elim (leb_tells 6 n) [
      | inl (e, past) ↦
          let one : one_if (p n) ≡ 1 = ap one_if (free_past geometry n past) in
          omega (arith, so_far, more, one)
      | inr (e, low) ↦
          let none : one_if (p n) ≡ 0 = ap one_if (taken_below geometry n low) in
          omega (arith, so_far, more, none)
    ]

pub free_are : (geometry : Geometry) → free_count geometry (empty_image geometry) ≡ geometry.segments - 6
free_are geometry = free_up_to geometry geometry.segments

-- one more of the segments that the logs stand in
pub below_more : (n : ℕ) → below (n + 1) ≡ below n ++ n ∷ []
below_more n = rw add-one refl
