-- An index falls to one of four ranges, and what its way lacks is what that range lacks: so a spare made for the range
-- is one less lacking, and a range in the inode lacks none.
use Rattle.std.proofs.Common.{refl, arith}
use Rattle.nodes.specs.Places.{OfDirect, OfIndirect, OfDouble}
use Rattle.nodes.proofs.Placing.{lacked_there}
use Rattle.nodes.proofs.Results.{on_ok, on_err}
use Rattle.nodes.proofs.file.FileState.prepare.Goals as goal

pub returns-in-InTickets : goal.returns-in-InTickets
returns-in-InTickets g c = record { made = tt; tokens = tt; empty = c.requires.empty; refused = refl; token = refl }

pub prepare_in-requires : goal.prepare_in-requires
prepare_in-requires g c =
    let is = c.in-InDirect.ensures in
    record { some = is.some; fits = is.fits; inside = is.inside; shaped = is.shaped; empty = rw is.entries c.requires.empty.1.1 }

pub returns-in-InDirect : goal.returns-in-InDirect
returns-in-InDirect g c =
    let f = c.args.self.now in
    let is = c.in-InDirect.ensures in
    let done = c.prepare_in.ensures in
    let was = lacked_there f c.args.index c.in-InDirect.at c.args.spares.now OfDirect is in
    let now = lacked_there f c.args.index c.in-InDirect.at (record { nodes = record c.args.spares.now.nodes { below = record c.args.spares.now.nodes.below { below = c.prepare_in.new.spares } } }) OfDirect is in
    record {
      made = on_ok c.prepare_in.result done.made (λ more. omega arith);
      tokens = on_ok c.prepare_in.result done.tokens (λ all h. let one = all h in omega arith);
      empty = (c.requires.empty.0, (c.requires.empty.1.0, rw is.entries at done.empty));
      refused = on_err c.prepare_in.result done.refused (λ same k. record { nodes = record c.args.spares.now.nodes { below = record c.args.spares.now.nodes.below { below = same k } } });
      token = done.token;
    }

pub prepare_in-requires-in-InIndirect : goal.prepare_in-requires-in-InIndirect
prepare_in-requires-in-InIndirect g c =
    let is = c.in-InIndirect.ensures in
    record { some = is.some; fits = is.fits; inside = is.inside; shaped = is.shaped; empty = rw is.entries c.requires.empty.1 }

pub returns-in-InIndirect : goal.returns-in-InIndirect
returns-in-InIndirect g c =
    let f = c.args.self.now in
    let is = c.in-InIndirect.ensures in
    let done = c.prepare_in-in-InIndirect.ensures in
    let was = lacked_there f c.args.index c.in-InIndirect.at c.args.spares.now OfIndirect is in
    let now = lacked_there f c.args.index c.in-InIndirect.at (record { nodes = record c.args.spares.now.nodes { below = c.prepare_in-in-InIndirect.new.spares } }) OfIndirect is in
    record {
      made = on_ok c.prepare_in-in-InIndirect.result done.made (λ more. omega arith);
      tokens = on_ok c.prepare_in-in-InIndirect.result done.tokens (λ all h. let one = all h in omega arith);
      empty = (c.requires.empty.0, rw is.entries at done.empty);
      refused = on_err c.prepare_in-in-InIndirect.result done.refused (λ same k. record { nodes = record c.args.spares.now.nodes { below = same k } });
      token = done.token;
    }

pub prepare_in-requires-in-InDouble : goal.prepare_in-requires-in-InDouble
prepare_in-requires-in-InDouble g c =
    let is = c.in-InDouble.ensures in
    record { some = is.some; fits = is.fits; inside = is.inside; shaped = is.shaped; empty = rw is.entries c.requires.empty }

pub returns-in-InDouble : goal.returns-in-InDouble
returns-in-InDouble g c =
    let f = c.args.self.now in
    let is = c.in-InDouble.ensures in
    let done = c.prepare_in-in-InDouble.ensures in
    let was = lacked_there f c.args.index c.in-InDouble.at c.args.spares.now OfDouble is in
    let now = lacked_there f c.args.index c.in-InDouble.at (record { nodes = c.prepare_in-in-InDouble.new.spares }) OfDouble is in
    record {
      made = on_ok c.prepare_in-in-InDouble.result done.made (λ more. omega arith);
      tokens = on_ok c.prepare_in-in-InDouble.result done.tokens (λ all h. let one = all h in omega arith);
      empty = rw is.entries at done.empty;
      refused = on_err c.prepare_in-in-InDouble.result done.refused (λ same k. record { nodes = same k });
      token = done.token;
    }
