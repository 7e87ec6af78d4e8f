-- While a spare is handed out the file's length stays; where none is, all at or past the length is empty, so the file
-- may be shortened, and shows what it showed, cut.
use Rattle.std.proofs.Common.{ap, ◌∙◌, refl, inl, inr, arith}
use Rattle.std.proofs.lemmas.Bool.{cases_lt}
use Rattle.nodes.specs.File.{ticket_at, inode_of, below_weight}
use Rattle.nodes.specs.Marks.{shortened}
use Rattle.nodes.specs.Owners.{namer_at}
use Rattle.nodes.proofs.Balance.{fewer}
use Rattle.nodes.proofs.Shown.{cut_shows}
use Rattle.nodes.specs.Useful.{ends_by}
use Rattle.nodes.proofs.Useful.{by_spares}
use Rattle.nodes.proofs.file.FileState.cut.Goals as goal

pub returns-in-Some : goal.returns-in-Some
returns-in-Some g c =
    let done = c.in-Some.ensures in
    let change = done.change in
    record {
      none = tt;
      cut = tt;
      kept = tt;
      out = done.out;
      namer = done.namer;
      useful = done.useful (ends_by c.args.length) (by_spares c.args.length);
      past = tt;
      change = change;
      fewer = fewer change.2.own (below_weight c.args.self.now) (below_weight c.cut_entries.new.self) change.0 c.in-Some.spare change.2.trades change.1;
      length = done.long;
      shape = done.shape;
      kind = done.kind;
      file = done.file;
    }

pub returns : goal.returns
returns g c =
    let none = c.in_default.ensures in
    let state = rw none.0 at c.shorten.ensures.state in
    let same = ap ticket_at state in
    let ok = c.requires.file in
    let past = none.1.past in
    record {
      none = rw state (
        λ j. refl,
        none.1.empty,
        λ z. (let bare = none.1.bare z in record { tickets = bare.tickets; direct = bare.direct; indirect = bare.indirect; double = bare.double }),
      );
      cut = λ file shows.
          cut_shows c.args.self.now c.shorten.new.self file shows (ap (λ f. f.kind) state) c.args.length (ap (λ f. f.length) state)
          (λ j. ap (λ m. m j) same) (λ j h. ap (λ m. m j) same ∙ none.1.empty j h);
      kept = (λ w. ap (λ f. below_weight f w) state, c.shorten.ensures.inode ∙ ap (λ f. shortened c.args.length (inode_of f)) none.0, ap (λ f. f.token) state);
      out = tt;
      namer = λ j t at. ap (λ f. namer_at f j) state;
      useful = λ useful. rw state (record { direct = useful.direct; indirect = useful.indirect; double = useful.double });
      past = rw state (record { direct = past.direct; indirect = past.indirect; double = past.double });
      change = tt;
      fewer = tt;
      length = ap (λ f. f.length) state;
      shape = ap (λ f. f.shape) state;
      kind = ap (λ f. f.kind) state;
      file = rw state (record {
        tickets = ok.tickets;
        direct = ok.direct;
        indirect = ok.indirect;
        double = ok.double;
        within = λ j h. elim (cases_lt j c.args.self.now.length) [ inl lt ↦ none.1.empty j (omega arith) | inr ge ↦ ok.within j ge ];
      });
    }
