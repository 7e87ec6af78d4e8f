-- An index falls to one of four ranges, and what goes from the range at its place goes from the file at the index.
use Rattle.nodes.specs.Places.{OfTickets, OfDirect, OfIndirect, OfDouble}
use Rattle.nodes.proofs.Placing.{erases}
use Rattle.nodes.proofs.file.FileState.erase.Goals as goal

pub returns-in-InTickets : goal.returns-in-InTickets
returns-in-InTickets g c =
    let done = c.erase.ensures in
    let all = erases c.args.self.now c.requires.file c.args.index c.in-InTickets.at OfTickets c.in-InTickets.ensures c.erase.new.self c.erase.result
    (record { shaped = done.shaped; namer = done.namer; useful = done.useful; way = done.way; none = done.none; out = done.out; change = done.change }) in
    record { hole = all.0; erased = all.1 }

pub returns-in-InDirect : goal.returns-in-InDirect
returns-in-InDirect g c =
    let done = c.erase-in-InDirect.ensures in
    let all = erases c.args.self.now c.requires.file c.args.index c.in-InDirect.at OfDirect c.in-InDirect.ensures c.erase-in-InDirect.new.self c.erase-in-InDirect.result
    (record { shaped = done.shaped; namer = done.namer; useful = done.useful; way = done.way; none = done.none; out = done.out; change = done.change }) in
    record { hole = all.0; erased = all.1 }

pub returns-in-InIndirect : goal.returns-in-InIndirect
returns-in-InIndirect g c =
    let done = c.erase-in-InIndirect.ensures in
    let all = erases c.args.self.now c.requires.file c.args.index c.in-InIndirect.at OfIndirect c.in-InIndirect.ensures c.erase-in-InIndirect.new.self c.erase-in-InIndirect.result
    (record { shaped = done.shaped; namer = done.namer; useful = done.useful; way = done.way; none = done.none; out = done.out; change = done.change }) in
    record { hole = all.0; erased = all.1 }

pub returns-in-InDouble : goal.returns-in-InDouble
returns-in-InDouble g c =
    let done = c.erase-in-InDouble.ensures in
    let all = erases c.args.self.now c.requires.file c.args.index c.in-InDouble.at OfDouble c.in-InDouble.ensures c.erase-in-InDouble.new.self c.erase-in-InDouble.result
    (record { shaped = done.shaped; namer = done.namer; useful = done.useful; way = done.way; none = done.none; out = done.out; change = done.change }) in
    record { hole = all.0; erased = all.1 }
