-- An index falls to one of four ranges, and no node is missing on the way in it: so the ticket is put there, and what
-- the range changes at its place the file does at the index.
use Rattle.std.proofs.Common.{refl, sym, ◌∙◌}
use Rattle.nodes.specs.Places.{OfTickets, OfDirect, OfIndirect, OfDouble}
use Rattle.nodes.proofs.Placing.{puts, missed_there}
use Rattle.nodes.proofs.file.FileState.put_ticket.Goals as goal

pub put-requires : goal.put-requires
put-requires g c =
    let is = c.in-InTickets.ensures in
    record { some = is.some; fits = is.fits; inside = is.inside; shaped = is.shaped; path = refl }

pub returns-in-InTickets : goal.returns-in-InTickets
returns-in-InTickets g c =
    let put = c.put.ensures in
    puts c.args.self.now c.requires.file c.args.index c.requires.within c.args.ticket c.put.result c.in-InTickets.at OfTickets c.in-InTickets.ensures c.put.new.self
    (record { stood = put.old; sets = put.sets; namer = put.namer; useful = put.useful; shaped = put.shaped; change = put.change })

pub put-requires-in-InDirect : goal.put-requires-in-InDirect
put-requires-in-InDirect g c =
    let is = c.in-InDirect.ensures in
    record { some = is.some; fits = is.fits; inside = is.inside; shaped = is.shaped; path = sym (missed_there c.args.self.now c.args.index c.in-InDirect.at OfDirect is) ∙ c.requires.path }

pub returns-in-InDirect : goal.returns-in-InDirect
returns-in-InDirect g c =
    let put = c.put-in-InDirect.ensures in
    puts c.args.self.now c.requires.file c.args.index c.requires.within c.args.ticket c.put-in-InDirect.result c.in-InDirect.at OfDirect c.in-InDirect.ensures c.put-in-InDirect.new.self
    (record { stood = put.old; sets = put.sets; namer = put.namer; useful = put.useful; shaped = put.shaped; change = put.change })

pub put-requires-in-InIndirect : goal.put-requires-in-InIndirect
put-requires-in-InIndirect g c =
    let is = c.in-InIndirect.ensures in
    record { some = is.some; fits = is.fits; inside = is.inside; shaped = is.shaped; path = sym (missed_there c.args.self.now c.args.index c.in-InIndirect.at OfIndirect is) ∙ c.requires.path }

pub returns-in-InIndirect : goal.returns-in-InIndirect
returns-in-InIndirect g c =
    let put = c.put-in-InIndirect.ensures in
    puts c.args.self.now c.requires.file c.args.index c.requires.within c.args.ticket c.put-in-InIndirect.result c.in-InIndirect.at OfIndirect c.in-InIndirect.ensures c.put-in-InIndirect.new.self
    (record { stood = put.old; sets = put.sets; namer = put.namer; useful = put.useful; shaped = put.shaped; change = put.change })

pub put-requires-in-InDouble : goal.put-requires-in-InDouble
put-requires-in-InDouble g c =
    let is = c.in-InDouble.ensures in
    record { some = is.some; fits = is.fits; inside = is.inside; shaped = is.shaped; path = sym (missed_there c.args.self.now c.args.index c.in-InDouble.at OfDouble is) ∙ c.requires.path }

pub returns-in-InDouble : goal.returns-in-InDouble
returns-in-InDouble g c =
    let put = c.put-in-InDouble.ensures in
    puts c.args.self.now c.requires.file c.args.index c.requires.within c.args.ticket c.put-in-InDouble.result c.in-InDouble.at OfDouble c.in-InDouble.ensures c.put-in-InDouble.new.self
    (record { stood = put.old; sets = put.sets; namer = put.namer; useful = put.useful; shaped = put.shaped; change = put.change })
