-- An index falls to one of four ranges, which has at its place what the file has at the index: so the range reads the
-- file's block, and the file stays as it was.
use Rattle.nodes.specs.Places.{OfTickets, OfDirect, OfIndirect, OfDouble}
use Rattle.nodes.proofs.Placing.{found_there}
use Rattle.nodes.proofs.file.FileState.read.Goals as goal

pub read-requires : goal.read-requires
read-requires g c =
    let is = c.in-InTickets.ensures in
    record { some = is.some; fits = is.fits; inside = is.inside; shaped = is.shaped; out = rw (found_there c.args.self.now c.args.index c.in-InTickets.at OfTickets is) at c.requires.out }

pub returns-in-InTickets : goal.returns-in-InTickets
returns-in-InTickets g c =
    let f = c.args.self.now in
    record { same = λ k. record f { tickets = c.read.ensures.same k }; bytes = rw (found_there f c.args.index c.in-InTickets.at OfTickets c.in-InTickets.ensures) c.read.ensures.bytes }

pub read-requires-in-InDirect : goal.read-requires-in-InDirect
read-requires-in-InDirect g c =
    let is = c.in-InDirect.ensures in
    record { some = is.some; fits = is.fits; inside = is.inside; shaped = is.shaped; out = rw (found_there c.args.self.now c.args.index c.in-InDirect.at OfDirect is) at c.requires.out }

pub returns-in-InDirect : goal.returns-in-InDirect
returns-in-InDirect g c =
    let f = c.args.self.now in
    record { same = λ k. record f { direct = c.read-in-InDirect.ensures.same k }; bytes = rw (found_there f c.args.index c.in-InDirect.at OfDirect c.in-InDirect.ensures) c.read-in-InDirect.ensures.bytes }

pub read-requires-in-InIndirect : goal.read-requires-in-InIndirect
read-requires-in-InIndirect g c =
    let is = c.in-InIndirect.ensures in
    record { some = is.some; fits = is.fits; inside = is.inside; shaped = is.shaped; out = rw (found_there c.args.self.now c.args.index c.in-InIndirect.at OfIndirect is) at c.requires.out }

pub returns-in-InIndirect : goal.returns-in-InIndirect
returns-in-InIndirect g c =
    let f = c.args.self.now in
    record { same = λ k. record f { indirect = c.read-in-InIndirect.ensures.same k }; bytes = rw (found_there f c.args.index c.in-InIndirect.at OfIndirect c.in-InIndirect.ensures) c.read-in-InIndirect.ensures.bytes }

pub read-requires-in-InDouble : goal.read-requires-in-InDouble
read-requires-in-InDouble g c =
    let is = c.in-InDouble.ensures in
    record { some = is.some; fits = is.fits; inside = is.inside; shaped = is.shaped; out = rw (found_there c.args.self.now c.args.index c.in-InDouble.at OfDouble is) at c.requires.out }

pub returns-in-InDouble : goal.returns-in-InDouble
returns-in-InDouble g c =
    let f = c.args.self.now in
    record { same = λ k. record f { double = c.read-in-InDouble.ensures.same k }; bytes = rw (found_there f c.args.index c.in-InDouble.at OfDouble c.in-InDouble.ensures) c.read-in-InDouble.ensures.bytes }
