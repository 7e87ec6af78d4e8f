-- The blocks at home hold the volume's bytes at their addresses; a call changes one place, where the block leaves,
-- comes home or gets other bytes, and the same one in the volume.
use Rattle.std.proofs.Common.{◌≡◌, ◌≢◌, ℕ, ◌<◌, List, [], Some, None, Result, Ok, Err, OnErr, length, get_or, set, sym, ap, subst, ◌∙◌, arith, ne_eqb, eq-eqb}
use Rattle.std.proofs.lemmas.List.{get_or-set_same, get_or-set_other}
use mathlib.Core.Logic.{dite}
use native.Mathlib.Decide.{ℕ_discrete}
use Rattle.geometry.specs.declared.owner.Owner.{Owner}
use Rattle.geometry.specs.Address.{address_of}
use Rattle.geometry.specs.Shape.{segment_blocks}
use Rattle.geometry.specs.Blocks.{changed}
use Rattle.sit.specs.declared.segment.Released.{Released}
use Rattle.sit.specs.declared.segment.Released.TheVariants.{Kept, Retired}
use Rattle.sit.specs.Segment.{Segment, placed, threaded, spoiled_at, cleared, HasPlaced}
use Rattle.sit.specs.Released.{HasReleased}
use Rattle.sit.specs.ShownBlocks.{ShowsBlocks, FollowsBlocks}
use Rattle.sit.proofs.Lists.{some-ne-none}

-- what holds whatever the answer
pub on_err : {T E : Type 0} (r : Result T E) (P : Type 0) → P → OnErr r P
on_err (Ok value) P p = tt
on_err (Err error) P p = p

elsewhere : {X : Type 0} (f : ℕ → X) (at : ℕ) (value : X) (k : ℕ) → k ≢ at → changed f at value k ≡ f k
elsewhere f at value k ne = rw (ne_eqb k at ne)

there : {X : Type 0} (f : ℕ → X) (at : ℕ) (value : X) → changed f at value at ≡ value
there f at value = rw (eq-eqb at at (λ i. at))

module _ (s : Segment) where
  -- the block at a place is not at home any more
  named_blocks : (s' : Segment) (at : ℕ) (owner : Owner) (bytes : List ℕ) → s'.shape ≡ s.shape → s'.number ≡ s.number → s'.summaries ≡ set s.summaries at (Some owner) → s'.contents ≡ set s.contents at []
      → at < length s.summaries → FollowsBlocks (λ blocks. changed blocks (address_of s.shape s.number at) bytes) s s'
  named_blocks s' at owner bytes shape number summaries contents room blocks shows o within none =
      dite (ℕ_discrete o at)
      (λ e. absurd (some-ne-none owner (sym (get_or-set_same s.summaries at (Some owner) None room)
      ∙ (ap (λ k. get_or (set s.summaries at (Some owner)) k None) (sym e) ∙ (sym (ap (λ xs. get_or xs o None) summaries) ∙ none)))))
      (λ ne. ap (λ xs. get_or xs o []) contents ∙ (get_or-set_other s.contents at o [] [] ne
      ∙ (shows o (subst (λ sh. o < segment_blocks sh) shape within) (sym (get_or-set_other s.summaries at o (Some owner) None ne) ∙ (sym (ap (λ xs. get_or xs o None) summaries) ∙ none))
      ∙ (sym (elsewhere blocks (address_of s.shape s.number at) bytes (address_of s.shape s.number o) (λ e. ne (omega arith)))
      ∙ (λ k. changed blocks (address_of s.shape s.number at) bytes (address_of (sym shape k) (sym number k) o))))))

  pub placed_blocks : (s' : Segment) (owner : Owner) (now failed : ℕ) (bytes : List ℕ) → HasPlaced (placed s owner now failed) s' → s.next < length s.summaries
      → FollowsBlocks (λ blocks. changed blocks (address_of s.shape s.number s.next) bytes) s s'
  placed_blocks s' owner now failed bytes has room =
      named_blocks s' s.next owner bytes (ap (λ x. x.shape) has.0) (ap (λ x. x.number) has.0) (ap (λ x. x.summaries) has.0) (ap (λ x. x.contents) has.0) room

  pub threaded_blocks : (s' : Segment) (at : ℕ) (owner : Owner) (now failed : ℕ) (bytes : List ℕ) → s' ≡ threaded s at owner now failed → at < length s.summaries
      → FollowsBlocks (λ blocks. changed blocks (address_of s.shape s.number at) bytes) s s'
  threaded_blocks s' at owner now failed bytes is room =
      named_blocks s' at owner bytes (ap (λ x. x.shape) is) (ap (λ x. x.number) is) (ap (λ x. x.summaries) is) (ap (λ x. x.contents) is) room

  -- the block at a place has other bytes
  pub spoiled_blocks : (s' : Segment) (at : ℕ) (bytes : List ℕ) (failed : ℕ) → s' ≡ spoiled_at s at bytes failed
      → FollowsBlocks (λ blocks. changed blocks (address_of s.shape s.number at) (get_or s'.contents at [])) s s'
  spoiled_blocks s' at bytes failed is blocks shows =
      let cs : List (List ℕ) = set s.contents at bytes in
      subst (λ x. ShowsBlocks x (changed blocks (address_of s.shape s.number at) (get_or x.contents at []))) (sym is)
      (λ o within none. dite (ℕ_discrete o at)
      (λ e. ap (λ k. get_or cs k []) e ∙ sym (ap (λ k. changed blocks (address_of s.shape s.number at) (get_or cs at []) (address_of s.shape s.number k)) e
      ∙ there blocks (address_of s.shape s.number at) (get_or cs at [])))
      (λ ne. get_or-set_other s.contents at o bytes [] ne
      ∙ (shows o within none ∙ sym (elsewhere blocks (address_of s.shape s.number at) (get_or cs at []) (address_of s.shape s.number o) (λ e. ne (omega arith))))))

  -- the block that comes home is the volume's
  pub cleared_blocks : (s' : Segment) (o : ℕ) (bytes : List ℕ) (failed : ℕ) (released : Released) → HasReleased (cleared s o bytes failed) released s' → get_or s'.contents o [] ≡ bytes
      → (blocks : ℕ → List ℕ) → blocks (address_of s.shape s.number o) ≡ bytes → ShowsBlocks s blocks → ShowsBlocks s' blocks
  cleared_blocks s' o bytes failed released has here blocks at shows = go released has
    where
      shown : get_or (set s.contents o bytes) o [] ≡ bytes → ShowsBlocks (cleared s o bytes failed) blocks
      shown same k within none = dite (ℕ_discrete k o)
          (λ e. ap (λ z. get_or (set s.contents o bytes) z []) e ∙ (same ∙ sym (ap (λ z. blocks (address_of s.shape s.number z)) e ∙ at)))
          (λ ne. get_or-set_other s.contents o k bytes [] ne ∙ shows k within (sym (get_or-set_other s.summaries o k None None ne) ∙ none))

      go : (released : Released) → HasReleased (cleared s o bytes failed) released s' → ShowsBlocks s' blocks
      go Kept has = subst (λ x. ShowsBlocks x blocks) (sym has.0) (shown (sym (ap (λ x. get_or x.contents o []) has.0) ∙ here))
      go Retired has = subst (λ x. ShowsBlocks x blocks) (sym has.0) (shown (sym (ap (λ x. get_or x.contents o []) has.0) ∙ here))
