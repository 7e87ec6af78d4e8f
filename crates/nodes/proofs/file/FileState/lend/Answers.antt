-- An index falls to one of four ranges, which has at its place what the file has at the index: so the range lends the
-- file's block, and the file stays as it was.
use Rattle.nodes.specs.Places.{OfTickets, OfDirect, OfIndirect, OfDouble}
use Rattle.nodes.proofs.Placing.{found_there}
use Rattle.nodes.proofs.file.FileState.lend.Goals as goal

pub lend-requires : goal.lend-requires
lend-requires g c =
    let is = c.in-InTickets.ensures in
    record { some = is.some; fits = is.fits; inside = is.inside; shaped = is.shaped }

pub returns-in-InTickets : goal.returns-in-InTickets
returns-in-InTickets g c =
    let f = c.args.self.now in
    let there = found_there f c.args.index c.in-InTickets.at OfTickets c.in-InTickets.ensures in
    record { same = λ k. record f { tickets = c.lend.ensures.same k }; none = rw there c.lend.ensures.none; bytes = rw there c.lend.ensures.bytes }

pub lend-requires-in-InDirect : goal.lend-requires-in-InDirect
lend-requires-in-InDirect g c =
    let is = c.in-InDirect.ensures in
    record { some = is.some; fits = is.fits; inside = is.inside; shaped = is.shaped }

pub returns-in-InDirect : goal.returns-in-InDirect
returns-in-InDirect g c =
    let f = c.args.self.now in
    let there = found_there f c.args.index c.in-InDirect.at OfDirect c.in-InDirect.ensures in
    record { same = λ k. record f { direct = c.lend-in-InDirect.ensures.same k }; none = rw there c.lend-in-InDirect.ensures.none; bytes = rw there c.lend-in-InDirect.ensures.bytes }

pub lend-requires-in-InIndirect : goal.lend-requires-in-InIndirect
lend-requires-in-InIndirect g c =
    let is = c.in-InIndirect.ensures in
    record { some = is.some; fits = is.fits; inside = is.inside; shaped = is.shaped }

pub returns-in-InIndirect : goal.returns-in-InIndirect
returns-in-InIndirect g c =
    let f = c.args.self.now in
    let there = found_there f c.args.index c.in-InIndirect.at OfIndirect c.in-InIndirect.ensures in
    record { same = λ k. record f { indirect = c.lend-in-InIndirect.ensures.same k }; none = rw there c.lend-in-InIndirect.ensures.none; bytes = rw there c.lend-in-InIndirect.ensures.bytes }

pub lend-requires-in-InDouble : goal.lend-requires-in-InDouble
lend-requires-in-InDouble g c =
    let is = c.in-InDouble.ensures in
    record { some = is.some; fits = is.fits; inside = is.inside; shaped = is.shaped }

pub returns-in-InDouble : goal.returns-in-InDouble
returns-in-InDouble g c =
    let f = c.args.self.now in
    let there = found_there f c.args.index c.in-InDouble.at OfDouble c.in-InDouble.ensures in
    record { same = λ k. record f { double = c.lend-in-InDouble.ensures.same k }; none = rw there c.lend-in-InDouble.ensures.none; bytes = rw there c.lend-in-InDouble.ensures.bytes }
