-- A log stands at the next place of the segment that it has open, and two logs have two segments open: so their places
-- lie within the area and apart.
use Rattle.std.proofs.Common.{◌≡◌, sym, ◌∙◌, ap, subst, ℕ, ◌<◌, List, map, length, get_or, arith}
use Rattle.std.specs.Prelude.{Option, Some, None, IfSome, All, AllPairs}
use Rattle.std.proofs.lemmas.List.{get_or-map, length-map}
use Rattle.image.specs.declared.image.LogHead.{LogHead}
use Rattle.image.specs.Rules.{AreApart}
use Rattle.geometry.specs.declared.state.State.{State}
use Rattle.sit.specs.Segment.{Segment}
use Rattle.image_law.specs.Parts.{SegmentState, no_state}
use Rattle.checkpoint_image.specs.Cells.{log_in, segment_part, next_in, place_in, IsOpenAt, OpenApart}
use Rattle.checkpoint_image.proofs.Places.{at_some, below_length}

-- a log with such a place has that segment open
abbrev pub IsOpened : ℕ → List Segment → Option LogHead → Type 0
IsOpened count segments log =
    IfSome log (λ place. (place.segment < count) × ((get_or (map segment_part segments) place.segment no_state).log ≡ Some place.next))

module _ (segments : List Segment) where
  opened_one : (count : ℕ) → length segments ≡ count → (o : Option ℕ) → IfSome o (IsOpenAt segments) → IsOpened count segments (place_in segments o)
  opened_one count sized None is = tt
  opened_one count sized (Some n) is = (
    (let low = below_length segments n is.segment is.there in omega arith),
    ap (λ (x : SegmentState). x.log) (at_some segment_part no_state segments n is.segment is.there)
        ∙ ap (λ (state : State). log_in state is.segment.next) is.state
        ∙ ap (λ o. Some (next_in o)) (sym is.there),
  )

  apart_two : (o p : Option ℕ) → OpenApart o p → AreApart (place_in segments o) (place_in segments p)
  apart_two (Some m) (Some n) apart = apart
  apart_two (Some m) None apart = tt
  apart_two None p apart = tt

  pub opened_all : (count : ℕ) → length segments ≡ count → (logs : List (Option ℕ))
      → All (λ log. IfSome log (IsOpenAt segments)) logs → All (IsOpened count segments) (map (place_in segments) logs)
  opened_all count sized logs each = λ k d low.
      let l = length-map logs (place_in segments) in
      let at = get_or-map (place_in segments) logs k None d (omega arith) in
      subst (IsOpened count segments) (sym at) (opened_one count sized (get_or logs k None) (each k None (omega arith)))

  pub apart_all : (logs : List (Option ℕ)) → AllPairs OpenApart logs → AllPairs AreApart (map (place_in segments) logs)
  apart_all logs apart = λ i j d before within.
      let l = length-map logs (place_in segments) in
      let at_i = get_or-map (place_in segments) logs i None d (omega arith) in
      let at_j = get_or-map (place_in segments) logs j None d (omega arith) in
      let two : AreApart (place_in segments (get_or logs i None)) (place_in segments (get_or logs j None))
      = apart_two (get_or logs i None) (get_or logs j None) (apart i j None before (omega arith)) in
      subst (λ (z : Option LogHead × Option LogHead). AreApart z.0 z.1) (λ t. (sym at_i t, sym at_j t)) two
