-- The file is made long enough before the ticket is put, so it stands within; what it showed is written at that index,
-- and each node on the way names something now.
use Rattle.std.proofs.Common.{◌≡◌, ap, ◌∙◌, arith}
use Rattle.nodes.specs.File.{below_weight}
use Rattle.nodes.proofs.Shown.{written_shows}
use Rattle.nodes.specs.Owners.{namer_at}
use Rattle.nodes.specs.Useful.{IsUseful, is_off}
use Rattle.nodes.proofs.Useful.{off_spares, useful_found}
use Rattle.nodes.proofs.file.FileState.put.Goals as goal

pub put_ticket-requires-clause-file : goal.put_ticket-requires-clause-file
put_ticket-requires-clause-file g c =
    let ok = c.requires.file in
    rw c.lengthen.ensures.state (record {
      tickets = ok.tickets;
      direct = ok.direct;
      indirect = ok.indirect;
      double = ok.double;
      within = λ j h. ok.within j (omega arith);
    })

pub returns-clause-sets : goal.returns-clause-sets
returns-clause-sets g c = rw c.lengthen.ensures.state at c.put_ticket.ensures.sets

pub returns-clause-written : goal.returns-clause-written
returns-clause-written g c file shows =
    let state = c.lengthen.ensures.state in
    let kind = c.put_ticket.ensures.kind ∙ ap (λ f. f.kind) state in
    let length = c.put_ticket.ensures.length ∙ ap (λ f. f.length) state in
    written_shows c.args.self.now c.put_ticket.new.self file shows kind c.args.index c.args.ticket length (rw state at c.put_ticket.ensures.sets)

pub returns-clause-change : goal.returns-clause-change
returns-clause-change g c =
    let state = c.lengthen.ensures.state in
    let done = c.put_ticket.ensures.change in
    record {
      own = done.own;
      trades = (
        done.trades.0,
        done.trades.1,
        λ w. (let all = done.trades.2 w in
            let same : below_weight c.lengthen.new.self w ≡ below_weight c.args.self.now w = ap (λ f. below_weight f w) state in
            omega arith),
      );
      kept = λ e. done.kept e ∙ c.lengthen.ensures.inode;
      marked = done.marked;
      token = done.token ∙ ap (λ f. f.token) state;
    }

pub returns-clause-namer : goal.returns-clause-namer
returns-clause-namer g c = λ j. c.put_ticket.ensures.namer j ∙ ap (λ f. namer_at f j) c.lengthen.ensures.state

pub returns-clause-useful : goal.returns-clause-useful
returns-clause-useful g c =
    λ off. (let kept : IsUseful (is_off c.args.index) c.lengthen.new.self = rw c.lengthen.ensures.state (record { direct = off.direct; indirect = off.indirect; double = off.double }) in
    useful_found c.put_ticket.new.self c.put_ticket.ensures.file c.args.index c.args.ticket c.put_ticket.ensures.sets.0
    (c.put_ticket.ensures.useful (is_off c.args.index) (off_spares c.args.index) kept))
