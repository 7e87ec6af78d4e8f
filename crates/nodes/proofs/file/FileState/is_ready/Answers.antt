use Rattle.std.proofs.Common.{refl}
use Rattle.nodes.specs.Places.{OfTickets, OfDirect, OfIndirect, OfDouble}
use Rattle.nodes.proofs.Placing.{lacked_there}
use Rattle.nodes.proofs.file.FileState.is_ready.Goals as goal

pub returns-in-InTickets : goal.returns-in-InTickets
returns-in-InTickets g c =
    let none = lacked_there c.args.self.now c.args.index c.in-InTickets.field-0 c.args.spares.now OfTickets c.in-InTickets.ensures in
    (λ _. none, λ _. refl)

pub is_ready_in-requires : goal.is_ready_in-requires
is_ready_in-requires g c =
    let is = c.in-InDirect.ensures in
    record { some = is.some; fits = is.fits; inside = is.inside; shaped = is.shaped }

pub returns-in-InDirect : goal.returns-in-InDirect
returns-in-InDirect g c = rw (lacked_there c.args.self.now c.args.index c.in-InDirect.at c.args.spares.now OfDirect c.in-InDirect.ensures) c.is_ready_in.ensures

pub is_ready_in-requires-in-InIndirect : goal.is_ready_in-requires-in-InIndirect
is_ready_in-requires-in-InIndirect g c =
    let is = c.in-InIndirect.ensures in
    record { some = is.some; fits = is.fits; inside = is.inside; shaped = is.shaped }

pub returns-in-InIndirect : goal.returns-in-InIndirect
returns-in-InIndirect g c = rw (lacked_there c.args.self.now c.args.index c.in-InIndirect.at c.args.spares.now OfIndirect c.in-InIndirect.ensures) c.is_ready_in-in-InIndirect.ensures

pub is_ready_in-requires-in-InDouble : goal.is_ready_in-requires-in-InDouble
is_ready_in-requires-in-InDouble g c =
    let is = c.in-InDouble.ensures in
    record { some = is.some; fits = is.fits; inside = is.inside; shaped = is.shaped }

pub returns-in-InDouble : goal.returns-in-InDouble
returns-in-InDouble g c = rw (lacked_there c.args.self.now c.args.index c.in-InDouble.at c.args.spares.now OfDouble c.in-InDouble.ensures) c.is_ready_in-in-InDouble.ensures
