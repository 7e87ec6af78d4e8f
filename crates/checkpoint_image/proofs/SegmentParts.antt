-- A segment under its law is a part under its law.
use Rattle.std.proofs.Common.{◌≡◌, refl, ◌∙◌, ap, ℕ, suc, ◌<◌, ◌≤◌, List, [], ◌∷◌, length, get_or, arith}
use Rattle.std.specs.Prelude.{Option, Some, None, IfSome}
use Rattle.geometry.specs.declared.geometry.Geometry.{Geometry}
use Rattle.geometry.specs.declared.shape.Shape.{Shape}
use Rattle.geometry.specs.declared.state.State.{State}
use Rattle.geometry.specs.declared.state.State.TheVariants.{Free, Open, Sealed, Prefree}
use Rattle.geometry.specs.declared.owner.Owner.{Owner}
use Rattle.geometry.specs.Shape.{segment_blocks}
use Rattle.geometry.specs.Address.{address_of}
use Rattle.geometry.specs.Weights.{weigh}
use Rattle.sit.specs.Summaries.{marks_from as marked_from}
use Rattle.sit.specs.Segment.{Segment, IsFitting}
use Rattle.image_law.specs.Parts.{SegmentLaw, marks_from}
use Rattle.checkpoint_image.specs.Cells.{log_in, segment_part, IsSegmentAt}

same_marks : (address : ℕ) (xs : List (Option Owner)) → marked_from address xs ≡ marks_from address xs
same_marks address [] = refl
same_marks address (None ∷ xs) = same_marks (suc address) xs
same_marks address (Some owner ∷ xs) = ap (λ ms. record { address = address; owner = owner } ∷ ms) (same_marks (suc address) xs)

-- no block is valid at or past the place of the log that is open in it
log_fits : (blocks : ℕ) (state : State) (next : ℕ) (summaries : List (Option Owner)) → length summaries ≡ blocks → IsFitting state next summaries
    → IfSome (log_in state next) (λ n. (n < blocks) × ((offset : ℕ) → n ≤ offset → get_or summaries offset None ≡ None))
log_fits blocks Free next summaries sized fits = tt
log_fits blocks Open next summaries sized fits = (let low = fits.0 in omega arith, fits.1)
log_fits blocks Sealed next summaries sized fits = tt
log_fits blocks Prefree next summaries sized fits = tt

pub segment_law : (geometry : Geometry) (k : ℕ) (s : Segment) → IsSegmentAt geometry k s → SegmentLaw geometry.shape (segment_part s)
segment_law geometry k s is = record {
  sized = is.sized ∙ ap segment_blocks is.shape;
  marks = λ h. ap (λ (shape : Shape). weigh h (marked_from (address_of shape s.number 0) s.summaries)) is.shape
      ∙ ap (weigh h) (same_marks (address_of geometry.shape s.number 0) s.summaries);
  log = log_fits (segment_blocks geometry.shape) s.state s.next s.summaries (is.sized ∙ ap segment_blocks is.shape) is.fitting;
}
