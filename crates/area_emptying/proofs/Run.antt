-- The segments stand in falling order, so each one that is popped is the next of the volume: its blocks go behind those
-- of all segments before it, at the next addresses.
use Rattle.std.proofs.Common.{◌≡◌, ℕ, ◌+◌, ◌-◌, ◌*◌, ◌<◌, ◌≤◌, List, [], ◌∷◌, ◌++◌, length, reverse, map, get_or, refl, sym, ap, ◌∙◌, subst, arith, rules}
use Rattle.std.proofs.lemmas.List.{length-append, length-map, get_or_append_left, get_or-append_right}
use mathlib.Core.Logic.{dite}
use native.Mathlib.Decide.{ℕ_discrete}
use Rattle.device.specs.Parts.{IsBlockRun}
use Rattle.geometry.specs.declared.geometry.Geometry.{Geometry}
use Rattle.geometry.specs.declared.shape.Shape.{Shape}
use Rattle.geometry.specs.Shape.{segment_blocks, block_bytes}
use Rattle.geometry.specs.Address.{address_of}
use Rattle.geometry.proofs.Indexing.{each_front, each_last, each_reverse}
use Rattle.sit.specs.Registered.{Registered}
use Rattle.sit.specs.ShownBlocks.{ShowsBlocks}
use Rattle.area_emptying.specs.Rows.{IsEmpty, AreEmpty, AreEmptyFalling}

times-plus : (a b n : ℕ) → (a + b) * n ≡ a * n + b * n
times-plus a b n = omega arith

module _ {B : Type 0} (block_address : B → ℕ) (content_of : B → List ℕ) (shape : Shape) (count : ℕ) where
  -- The last segments are left, and the blocks of the others are behind one another.
  pub record Emptying (segments : List Registered) (blocks : List B) : Type 0 where
    pub empty : AreEmptyFalling shape count segments
    pub run : IsBlockRun block_address content_of (block_bytes shape) 1 blocks
    pub few : length segments ≤ count
    pub moved : length blocks ≡ (count - length segments) * segment_blocks shape

  pub emptying_from : (segments : List Registered) (blocks : List B) → AreEmptyFalling shape count segments → length segments ≡ count → length blocks ≡ 0 → Emptying segments blocks
  emptying_from segments blocks empty all none = record {
    empty = empty;
    run = no_run blocks none;
    few = omega arith;
    moved = (let left : count - length segments ≡ 0 = omega arith in let same = ap (λ n. n * segment_blocks shape) left in omega arith);
  }
    where
      no_run : (xs : List B) → length xs ≡ 0 → IsBlockRun block_address content_of (block_bytes shape) 1 xs
      no_run [] e = record { addresses = λ k other low. absurd (omega arith); lengths = search rules }
      no_run (x ∷ xs) e = absurd (omega arith)

  module _ (segments rest : List Registered) (segment : Registered) (blocks : List B) (is : Emptying segments blocks) (popped : segments ≡ rest ++ segment ∷ []) where
    one_less : length segments ≡ length rest + 1
    one_less = ap length popped ∙ length-append rest (segment ∷ [])

    cut_off : AreEmptyFalling shape count (rest ++ segment ∷ [])
    cut_off = subst (AreEmptyFalling shape count) popped is.empty

    pub popped_empty : IsEmpty shape (count - 1 - length rest) segment.segment
    popped_empty = each_last (λ k x. IsEmpty shape (count - 1 - k) x.segment) rest segment cut_off

    pub popped_first : address_of segment.segment.shape segment.segment.number 0 ≡ 1 + length blocks
    popped_first =
        let e = popped_empty in
        let l = one_less in
        let m = is.moved in
        let number : segment.segment.number ≡ count - length segments = e.number_is ∙ omega arith in
        let here = ap (λ n. n * segment_blocks shape) number in
        let same = ap (λ s. segment.segment.number * segment_blocks s) e.shape_is in omega arith

    -- the blocks of the segment have room among all blocks
    pub popped_fits : length blocks + segment_blocks segment.segment.shape ≤ count * segment_blocks shape
    popped_fits =
        let l = one_less in
        let m = is.moved in
        let f = is.few in
        let size = ap segment_blocks popped_empty.shape_is in
        let after : count - length segments + 1 ≡ count - length rest = omega arith in
        let here : (count - length segments + 1) * segment_blocks shape ≡ (count - length segments) * segment_blocks shape + segment_blocks shape = omega arith in
        let there : (count - length rest) * segment_blocks shape + length rest * segment_blocks shape ≡ count * segment_blocks shape =
        let whole : count - length rest + length rest ≡ count = omega arith in sym (times-plus (count - length rest) (length rest) (segment_blocks shape)) ∙ ap (λ n. n * segment_blocks shape) whole in
        let same = ap (λ n. n * segment_blocks shape) after in omega arith

    pub emptying_goes_on : (blocks' : List B) → IsBlockRun block_address content_of (block_bytes segment.segment.shape) 1 blocks' → length blocks' ≡ length blocks + segment_blocks segment.segment.shape → Emptying rest blocks'
    emptying_goes_on blocks' run more =
        let e = popped_empty in
        let l = one_less in
        let f = is.few in record {
          empty = each_front (λ k x. IsEmpty shape (count - 1 - k) x.segment) rest (segment ∷ []) cut_off;
          run = subst (λ s. IsBlockRun block_address content_of (block_bytes s) 1 blocks') e.shape_is run;
          few = omega arith;
          moved =
              let m = is.moved in
              let size = ap segment_blocks e.shape_is in
              let next : count - length rest ≡ count - length segments + 1 = omega arith in
              let here = ap (λ n. n * segment_blocks shape) next in omega arith;
        }

-- ---- what they hold

-- the bytes of the first blocks of a run
abbrev pub AreBytes : {B : Type 0} → (B → List ℕ) → (ℕ → List ℕ) → List B → Type 0
AreBytes content_of bytes blocks = (k : ℕ) → k < length blocks → get_or (map content_of blocks) k [] ≡ bytes (k + 1)

module _ {B : Type 0} (content_of : B → List ℕ) (all : List Registered) where
  -- The first segments are left, and the blocks have the bytes that they had in the others.
  pub record Emptied (segments : List Registered) (blocks : List B) : Type 0 where
    pub left : (k : ℕ) (other : Registered) → k < length segments → get_or segments k other ≡ get_or all k other
    pub shown : (bytes : ℕ → List ℕ) → AreBytes content_of bytes blocks → (k : ℕ) (other : Registered) → length segments ≤ k → k < length all → ShowsBlocks (get_or all k other).segment bytes

  pub emptied_none : (blocks : List B) → Emptied all blocks
  emptied_none blocks = record { left = λ k other low. refl; shown = λ bytes are k other high low. absurd (omega arith) }

  module _ (segments rest : List Registered) (segment : Registered) (blocks blocks' : List B) (is : Emptied segments blocks) (popped : segments ≡ rest ++ segment ∷ [])
      (came : map content_of blocks' ≡ map content_of blocks ++ segment.segment.contents) where
    longer : length segments ≡ length rest + 1
    longer = ap length popped ∙ length-append rest (segment ∷ [])

    the_last : (other : Registered) → get_or all (length rest) other ≡ segment
    the_last other =
        let l = longer in
        sym (is.left (length rest) other (omega arith)) ∙ (ap (λ xs. get_or xs (length rest) other) popped
        ∙ (get_or-append_right rest (segment ∷ []) (length rest) (length rest) other refl (omega arith) ∙ (let zero_is : length rest - length rest ≡ 0 = omega arith in ap (λ i. get_or (segment ∷ []) i other) zero_is)))

    were : (bytes : ℕ → List ℕ) → length blocks ≤ length blocks' → AreBytes content_of bytes blocks' → AreBytes content_of bytes blocks
    were bytes more are k low =
        let long = length-map blocks content_of in
        sym (ap (λ xs. get_or xs k []) came ∙ get_or_append_left (map content_of blocks) segment.segment.contents [] k (omega arith)) ∙ are k (omega arith)

    here : (bytes : ℕ → List ℕ) → AreBytes content_of bytes blocks' → length blocks' ≡ length blocks + segment_blocks segment.segment.shape
        → address_of segment.segment.shape segment.segment.number 0 ≡ 1 + length blocks → ShowsBlocks segment.segment bytes
    here bytes are more first = λ offset within none.
        let long = length-map blocks content_of in
        let at : length blocks + offset + 1 ≡ address_of segment.segment.shape segment.segment.number offset = omega arith in
        let back : length blocks + offset - length blocks ≡ offset = omega arith in
        sym (ap (λ xs. get_or xs (length blocks + offset) []) came
        ∙ (get_or-append_right (map content_of blocks) segment.segment.contents (length blocks) (length blocks + offset) [] long (omega arith) ∙ ap (λ i. get_or segment.segment.contents i []) back))
        ∙ (are (length blocks + offset) (omega arith) ∙ ap bytes at)

    pub emptied_on : length blocks' ≡ length blocks + segment_blocks segment.segment.shape → address_of segment.segment.shape segment.segment.number 0 ≡ 1 + length blocks → Emptied rest blocks'
    emptied_on more first = record {
      left = λ k other low.
          let l = longer in
          sym (ap (λ xs. get_or xs k other) popped ∙ get_or_append_left rest (segment ∷ []) other k low) ∙ is.left k other (omega arith);
      shown = λ bytes are k other high low.
          let l = longer in
          dite (ℕ_discrete k (length rest))
          (λ same. subst (λ (r : Registered). ShowsBlocks r.segment bytes) (sym (ap (λ i. get_or all i other) same ∙ the_last other)) (here bytes are more first))
          (λ apart. is.shown bytes (were bytes (omega arith) are) k other (omega arith) low);
    }

-- empty segments from 0 on, turned round
pub turned : (geometry other : Geometry) (rising falling : List Registered) → length rising ≡ geometry.segments → other ≡ geometry → falling ≡ reverse rising → AreEmpty geometry.shape rising
    → AreEmptyFalling other.shape other.segments falling
turned geometry other rising falling count same is empty =
    subst (λ (x : Geometry). AreEmptyFalling x.shape x.segments falling) (sym same)
    (subst (AreEmptyFalling geometry.shape geometry.segments) (sym is)
    (each_reverse (λ k (x : Registered). IsEmpty geometry.shape k x.segment) (λ k (x : Registered). IsEmpty geometry.shape (geometry.segments - 1 - k) x.segment) rising geometry.segments count (λ k x low here. here) empty))
