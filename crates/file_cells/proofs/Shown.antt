-- What is lent at an index are the bytes of the ticket there, so a lease shows the file's block; where none is lent is
-- a hole, which reads as zeros.
use Rattle.std.proofs.Common.{◌≡◌, ℕ, ◌<◌, List, replicate, length, get_or, Bool, false, Option, Some, None, IsSome, is_some, refl, sym, ap, ◌∙◌, arith}
use Rattle.std.specs.Prelude.{unwrap_or}
use Rattle.std.specs.FinMap as map
use Rattle.geometry.specs.Address.{segment_of}
use Rattle.geometry.specs.File.{bytes_at}
use Rattle.tickets.specs.Placed.{Placed}
use Rattle.words.specs.Claims.{times}
use Rattle.nodes.specs.declared.file.FileState.{FileState}
use Rattle.nodes.specs.File.{IsFile, ticket_at, content_of, file_of}
use Rattle.nodes.proofs.Files.{shows_file_of}
use Rattle.file_cells.specs.Reader.{IsPinned, segment_at, segments_of}
use Rattle.file_cells.specs.Law.{AreLent, ArePins, AreCovered, IsAmong}
use Rattle.nodes_law.specs.Contents.{AreWhole}
use Rattle.file_cells.proofs.Places.{segments_there}
use Rattle.file_cells.proofs.Noted.{noted_one}
use Rattle.sit.proofs.Lists.{some-injective}

module _ {B L Lease : Type 0} (items : Lease → List ℕ) (f : FileState B L) (indexes : List ℕ) (leases : List Lease) (is : IsFile f)
    (lent : AreLent items indexes leases f) (bytes i : ℕ) where
  shown : bytes_at bytes (file_of f) i ≡ unwrap_or (content_of (ticket_at f i)) (replicate bytes 0)
  shown = ap (λ (b : Option (List ℕ)). unwrap_or b (replicate bytes 0)) ((shows_file_of f is).blocks i)

  at_place : (k : ℕ) (d : Lease) → k < length indexes → get_or indexes k 0 ≡ i → content_of (ticket_at f i) ≡ Some (items (get_or leases k d))
  at_place k d within here = sym (ap (λ j. content_of (ticket_at f j)) here) ∙ lent.of_file k d within

  -- the block that is lent at a place of the indexes
  pub shown_block : (k : ℕ) (d : Lease) → k < length indexes → get_or indexes k 0 ≡ i → items (get_or leases k d) ≡ bytes_at bytes (file_of f) i
  shown_block k d within here = sym (shown ∙ ap (λ (b : Option (List ℕ)). unwrap_or b (replicate bytes 0)) (at_place k d within here))

  pub shown_hole : (IsAmong indexes i → ⊥) → replicate bytes 0 ≡ bytes_at bytes (file_of f) i
  shown_hole none = sym (shown ∙ ap (λ (o : Option Placed). unwrap_or (content_of o) (replicate bytes 0)) (hole (ticket_at f i) refl))
    where
      hole : (o : Option Placed) → ticket_at f i ≡ o → ticket_at f i ≡ None
      hole None at = at
      hole (Some t) at = absurd (none (lent.all i (ap is_some at)))

  -- a block that is lent is whole
  pub whole_block : AreWhole bytes (ticket_at f) → (k : ℕ) (d : Lease) → k < length indexes → get_or indexes k 0 ≡ i → length (items (get_or leases k d)) ≡ bytes
  whole_block whole k d within here = go (ticket_at f i) refl (sym (at_place k d within here))
    where
      go : (o : Option Placed) → ticket_at f i ≡ o → Some (items (get_or leases k d)) ≡ content_of o → length (items (get_or leases k d)) ≡ bytes
      go None at wrong = absurd (let e = wrong in cc)
      go (Some t) at same = ap length (some-injective (items (get_or leases k d)) t.content same) ∙ whole i t at

-- each block's segment is pinned
pub pinned_there : {B L : Type 0} (f : FileState B L) → IsFile f → (pinned : List Bool) (held : List (ℕ × ℕ)) → ArePins pinned held → AreCovered pinned f
    → IsPinned (record { file = file_of f; segments = segments_of f; held = held })
pinned_there f is pinned held pins covered i some =
    let there : IsSome (content_of (ticket_at f i)) = sym (ap is_some ((shows_file_of f is).blocks i)) ∙ some in
    go (ticket_at f i) refl there
  where
    go : (o : Option Placed) → ticket_at f i ≡ o → IsSome (content_of o) → (s : ℕ) × (map.get (segments_of f) i ≡ Some s) × (times s held ≡ 1)
    go None at wrong = absurd (let e = wrong in cc)
    go (Some t) at some' =
        let s : ℕ = segment_of f.shape t.mark.address in
        let one = pins s in
        let noted = noted_one (get_or pinned s false) (covered i t at) in (
          s,
          segments_there f is i ∙ ap (segment_at f.shape) at,
          omega arith,
        )
