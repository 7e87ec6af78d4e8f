use Rattle.std.proofs.Common.{◌≡◌, ◌++◌, length, replicate}
use Rattle.words.specs.Claims.{fresh_pins}
use Rattle.file_cells.proofs.seat.name_seats.Given as goal

abbrev pub invariant-loop-seat : goal.invariant-loop-seat
invariant-loop-seat g l = record {
  named : l.named.items ≡ replicate (length l.yielded) fresh_pins;
  all : l.yielded ++ l.seat-iterator.rest.items ≡ l.fn.seats.items;
}
