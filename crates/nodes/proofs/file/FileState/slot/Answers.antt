-- An index falls to one of four ranges, which has at its place what the file has at the index: so the range's address
-- is that of the file's ticket, and the end of the index's path.
use Rattle.nodes.specs.Places.{OfTickets, OfDirect, OfIndirect, OfDouble}
use Rattle.nodes.proofs.Placing.{address_there}
use Rattle.nodes.proofs.file.FileState.slot.Goals as goal

pub address-requires : goal.address-requires
address-requires g c =
    let is = c.in-InTickets.ensures in
    record { some = is.some; fits = is.fits; inside = is.inside; shaped = is.shaped }

pub returns-in-InTickets : goal.returns-in-InTickets
returns-in-InTickets g c =
    let f = c.args.self.now in
    let both = address_there f c.args.index c.in-InTickets.at OfTickets c.in-InTickets.ensures c.requires.inside c.address.result c.address.ensures in
    record { ticket = both.0; path = both.1 }

pub address-requires-in-InDirect : goal.address-requires-in-InDirect
address-requires-in-InDirect g c =
    let is = c.in-InDirect.ensures in
    record { some = is.some; fits = is.fits; inside = is.inside; shaped = is.shaped }

pub returns-in-InDirect : goal.returns-in-InDirect
returns-in-InDirect g c =
    let f = c.args.self.now in
    let both = address_there f c.args.index c.in-InDirect.at OfDirect c.in-InDirect.ensures c.requires.inside c.address-in-InDirect.result c.address-in-InDirect.ensures in
    record { ticket = both.0; path = both.1 }

pub address-requires-in-InIndirect : goal.address-requires-in-InIndirect
address-requires-in-InIndirect g c =
    let is = c.in-InIndirect.ensures in
    record { some = is.some; fits = is.fits; inside = is.inside; shaped = is.shaped }

pub returns-in-InIndirect : goal.returns-in-InIndirect
returns-in-InIndirect g c =
    let f = c.args.self.now in
    let both = address_there f c.args.index c.in-InIndirect.at OfIndirect c.in-InIndirect.ensures c.requires.inside c.address-in-InIndirect.result c.address-in-InIndirect.ensures in
    record { ticket = both.0; path = both.1 }

pub address-requires-in-InDouble : goal.address-requires-in-InDouble
address-requires-in-InDouble g c =
    let is = c.in-InDouble.ensures in
    record { some = is.some; fits = is.fits; inside = is.inside; shaped = is.shaped }

pub returns-in-InDouble : goal.returns-in-InDouble
returns-in-InDouble g c =
    let f = c.args.self.now in
    let both = address_there f c.args.index c.in-InDouble.at OfDouble c.in-InDouble.ensures c.requires.inside c.address-in-InDouble.result c.address-in-InDouble.ensures in
    record { ticket = both.0; path = both.1 }
