use Rattle.std.proofs.Common.{◌≡◌, take}
use Rattle.checkpoint_image.specs.Held.{segments_in, places_in}
use Rattle.checkpoint_image.proofs.tables.places_of.Given as goal

abbrev pub invariant-loop-held : goal.invariant-loop-held
invariant-loop-held g l = l.places.items ≡ places_in g.L.HoldsLog.shown (segments_in g.S.HoldsSegment.shown l.segments) (take l.held-index l.logs)
