use Rattle.std.proofs.Common.{length, get_or, None, ap, ◌∙◌}
use Rattle.mount.proofs.Standing.{get_last, get_front}
use Rattle.mount.proofs.rooms.free_file_rooms.Goals as goal

pub free_file_room-requires : goal.free_file_room-requires
free_file_room-requires g c =
    let front = c.pop.new.self.items in
    c.loop-place.invariant (length front) c.in-Some-place.room (ap (λ xs. get_or xs (length front) None) c.in-Some.ensures.items ∙ (get_last front c.in-Some.place None ∙ c.in-Some-place.is))

pub loop-place-preserved-in-Some-place : goal.loop-place-preserved-in-Some-place
loop-place-preserved-in-Some-place g c = λ k room e.
    let front = c.pop.new.self.items in
    c.loop-place.invariant k room (ap (λ xs. get_or xs k None) c.in-Some.ensures.items ∙ get_front front c.in-Some.place k room e)

pub loop-place-preserved : goal.loop-place-preserved
loop-place-preserved g c = λ k room e.
    let front = c.pop.new.self.items in
    c.loop-place.invariant k room (ap (λ xs. get_or xs k None) c.in-Some.ensures.items ∙ get_front front c.in-Some.place k room e)
