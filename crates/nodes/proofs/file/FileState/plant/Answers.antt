-- An index falls to one of four ranges, and the spare nodes for that range go in there: tickets and names stay, and one
-- node less is missing on the way. A range in the inode misses none.
use Rattle.std.proofs.Common.{refl, sym, subst, ◌∙◌, arith}
use Rattle.nodes.specs.Tree.{SparesIndex}
use Rattle.nodes.specs.Laws.{no_leaf}
use Rattle.nodes.specs.Change.{nothing}
use Rattle.nodes.specs.Places.{OfTickets, OfDirect, OfIndirect, OfDouble, first_of}
use Rattle.nodes.proofs.Placing.{missed_there, lacked_there, named_there, still, same, names, useful, marks, is_file}
use Rattle.nodes.proofs.file.FileState.plant.Goals as goal

pub returns-in-InTickets : goal.returns-in-InTickets
returns-in-InTickets g c =
    let none = missed_there c.args.self.now c.args.index c.in-InTickets.field-0 OfTickets c.in-InTickets.ensures in
    record {
      same = λ j. refl;
      namer = λ j k at. at;
      useful = λ asked spares ok. ok;
      end = λ gone here. absurd (omega arith);
      rest = λ gone. refl;
      grown = λ no. absurd (no_leaf no);
      change = λ no. absurd (no_leaf no);
      none = λ _. (none, refl, refl);
      ready = c.requires.ready;
      empty = c.requires.empty;
      length = refl;
      shape = refl;
      kind = refl;
      file = c.requires.file;
    }

pub plant_in-requires : goal.plant_in-requires
plant_in-requires g c =
    let is = c.in-InDirect.ensures in
    record {
      some = is.some;
      fits = is.fits;
      inside = is.inside;
      shaped = is.shaped;
      ready = sym (lacked_there c.args.self.now c.args.index c.in-InDirect.at c.args.spares.now OfDirect is) ∙ c.requires.ready;
      empty = rw is.entries c.requires.empty.1.1;
    }

pub returns-in-InDirect : goal.returns-in-InDirect
returns-in-InDirect g c =
    let f = c.args.self.now in
    let i = c.args.index in
    let spot = c.in-InDirect.at in
    let is = c.in-InDirect.ensures in
    let done = c.plant_in.ensures in
    let x = c.plant_in.new.below in
    let on = still f OfDirect x i spot is done.shaped in
    let was = missed_there f i spot OfDirect is in
    let now = missed_there (record f { direct = x }) i spot OfDirect on in
    let ready = lacked_there (record f { direct = x }) i spot (record { nodes = record c.args.spares.now.nodes { below = record c.args.spares.now.nodes.below { below = c.plant_in.new.spares } } }) OfDirect on in
    let kept = same f OfDirect x (rw is.entries at done.same) in
    let set = rw is.entries at done.useful in
    record {
      same = kept;
      namer = names f OfDirect x (rw is.entries at done.namer);
      useful = λ asked spares. useful f OfDirect x asked (set asked (first_of OfDirect f.shape) (subst (SparesIndex asked) is.index spares));
      end = λ gone here. named_there (record f { direct = x }) i spot OfDirect on ∙ done.end (omega arith) (omega arith);
      rest = λ gone. done.rest (omega arith);
      grown = λ yes. (let more = done.grown yes in omega arith);
      change = λ yes. (let made = done.change yes in (made.0, made.1, marks f OfDirect nothing (λ w. w.node made.0) x made.2, λ h. (let tokens = made.3 h in omega arith)));
      none = λ no. (let same = done.none no in (was ∙ same.0, λ k. record f { direct = same.1 k }, λ k. record { nodes = record c.args.spares.now.nodes { below = record c.args.spares.now.nodes.below { below = same.2 k } } }));
      ready = ready ∙ done.ready;
      empty = (c.requires.empty.0, (c.requires.empty.1.0, rw is.entries at done.empty));
      length = refl;
      shape = refl;
      kind = refl;
      file = is_file f OfDirect x c.requires.file (rw (is.entries, is.count) at done.shaped) (λ j h. kept j ∙ c.requires.file.within j h);
    }

pub plant_in-requires-in-InIndirect : goal.plant_in-requires-in-InIndirect
plant_in-requires-in-InIndirect g c =
    let is = c.in-InIndirect.ensures in
    record {
      some = is.some;
      fits = is.fits;
      inside = is.inside;
      shaped = is.shaped;
      ready = sym (lacked_there c.args.self.now c.args.index c.in-InIndirect.at c.args.spares.now OfIndirect is) ∙ c.requires.ready;
      empty = rw is.entries c.requires.empty.1;
    }

pub returns-in-InIndirect : goal.returns-in-InIndirect
returns-in-InIndirect g c =
    let f = c.args.self.now in
    let i = c.args.index in
    let spot = c.in-InIndirect.at in
    let is = c.in-InIndirect.ensures in
    let done = c.plant_in-in-InIndirect.ensures in
    let x = c.plant_in-in-InIndirect.new.below in
    let on = still f OfIndirect x i spot is done.shaped in
    let was = missed_there f i spot OfIndirect is in
    let now = missed_there (record f { indirect = x }) i spot OfIndirect on in
    let ready = lacked_there (record f { indirect = x }) i spot (record { nodes = record c.args.spares.now.nodes { below = c.plant_in-in-InIndirect.new.spares } }) OfIndirect on in
    let kept = same f OfIndirect x (rw is.entries at done.same) in
    let set = rw is.entries at done.useful in
    record {
      same = kept;
      namer = names f OfIndirect x (rw is.entries at done.namer);
      useful = λ asked spares. useful f OfIndirect x asked (set asked (first_of OfIndirect f.shape) (subst (SparesIndex asked) is.index spares));
      end = λ gone here. named_there (record f { indirect = x }) i spot OfIndirect on ∙ done.end (omega arith) (omega arith);
      rest = λ gone. done.rest (omega arith);
      grown = λ yes. (let more = done.grown yes in omega arith);
      change = λ yes. (let made = done.change yes in (made.0, made.1, marks f OfIndirect nothing (λ w. w.node made.0) x made.2, λ h. (let tokens = made.3 h in omega arith)));
      none = λ no. (let same = done.none no in (was ∙ same.0, λ k. record f { indirect = same.1 k }, λ k. record { nodes = record c.args.spares.now.nodes { below = same.2 k } }));
      ready = ready ∙ done.ready;
      empty = (c.requires.empty.0, rw is.entries at done.empty);
      length = refl;
      shape = refl;
      kind = refl;
      file = is_file f OfIndirect x c.requires.file (rw (is.entries, is.count) at done.shaped) (λ j h. kept j ∙ c.requires.file.within j h);
    }

pub plant_in-requires-in-InDouble : goal.plant_in-requires-in-InDouble
plant_in-requires-in-InDouble g c =
    let is = c.in-InDouble.ensures in
    record {
      some = is.some;
      fits = is.fits;
      inside = is.inside;
      shaped = is.shaped;
      ready = sym (lacked_there c.args.self.now c.args.index c.in-InDouble.at c.args.spares.now OfDouble is) ∙ c.requires.ready;
      empty = rw is.entries c.requires.empty;
    }

pub returns-in-InDouble : goal.returns-in-InDouble
returns-in-InDouble g c =
    let f = c.args.self.now in
    let i = c.args.index in
    let spot = c.in-InDouble.at in
    let is = c.in-InDouble.ensures in
    let done = c.plant_in-in-InDouble.ensures in
    let x = c.plant_in-in-InDouble.new.below in
    let on = still f OfDouble x i spot is done.shaped in
    let was = missed_there f i spot OfDouble is in
    let now = missed_there (record f { double = x }) i spot OfDouble on in
    let ready = lacked_there (record f { double = x }) i spot (record { nodes = c.plant_in-in-InDouble.new.spares }) OfDouble on in
    let kept = same f OfDouble x (rw is.entries at done.same) in
    let set = rw is.entries at done.useful in
    record {
      same = kept;
      namer = names f OfDouble x (rw is.entries at done.namer);
      useful = λ asked spares. useful f OfDouble x asked (set asked (first_of OfDouble f.shape) (subst (SparesIndex asked) is.index spares));
      end = λ gone here. named_there (record f { double = x }) i spot OfDouble on ∙ done.end (omega arith) (omega arith);
      rest = λ gone. done.rest (omega arith);
      grown = λ yes. (let more = done.grown yes in omega arith);
      change = λ yes. (let made = done.change yes in (made.0, made.1, marks f OfDouble nothing (λ w. w.node made.0) x made.2, λ h. (let tokens = made.3 h in omega arith)));
      none = λ no. (let same = done.none no in (was ∙ same.0, λ k. record f { double = same.1 k }, λ k. record { nodes = same.2 k }));
      ready = ready ∙ done.ready;
      empty = rw is.entries at done.empty;
      length = refl;
      shape = refl;
      kind = refl;
      file = is_file f OfDouble x c.requires.file (rw (is.entries, is.count) at done.shaped) (λ j h. kept j ∙ c.requires.file.within j h);
    }
