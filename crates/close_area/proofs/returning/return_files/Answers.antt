-- A pass stands for the one file of its number, which is taken from its place and given back; no other place changes,
-- so each turn makes one pass and one living file less.
use Rattle.std.proofs.Common.{◌≡◌, ◌<◌, ◌+◌, ◌-◌, ℕ, List, Some, None, length, get_or, set, inl, inr, refl, ap, sym, subst, ◌∙◌, arith}
use Rattle.std.specs.Prelude.{slice_get, ◌⊎◌}
use Rattle.std.proofs.lemmas.List.{length-set}
use Rattle.checkpoint_image.proofs.Turning.{got}
use Rattle.image_law.specs.Items.{Among}
use Rattle.rights_books.specs.Accounts.{HandView}
use Rattle.checkpoint.specs.Files.{HoldContents}
use Rattle.area_emptying.proofs.Nothing.{each_reset}
use Rattle.close_area.specs.HeldTokens.{HoldTokens}
use Rattle.nodes.specs.File.{file_of}
use Rattle.file_cells.specs.Cell.{CellView}
use Rattle.file_cells.specs.Pass.{Pass}
use Rattle.close_area.specs.Returned.{IsFileOf}
use Rattle.close_area.proofs.Giving.{among_last, among_front, of_last, left_on, one_less, some_same}
use Rattle.close_area.proofs.returning.return_files.Goals as goal

pub take-file-requires-clause-number : goal.take-file-requires-clause-number
take-file-requires-clause-number g c =
    let was = c.passes.invariant in
    let n = c.number.ensures in
    let some = n.some in
    let within = n.within in
    let every = was.every in
    let low : c.number.result - 1 < length c.passes.files.items = omega arith in
    let back : c.number.result - 1 + 1 ≡ c.number.result = omega arith in
    was.numbers (c.number.result - 1) c.index_mut.result.now (got c.passes.files.items (c.number.result - 1) c.index_mut.result.now low c.index_mut.ensures.value) ∙ (back ∙ n.number)

pub passes-preserved : goal.passes-preserved
passes-preserved g c =
    let was = c.passes.invariant in
    let n = c.number.ensures in
    let some = n.some in
    let within = n.within in
    let every = was.every in
    let now : List (CellView g.row.B.Denot g.row.B-Lease.Denot) = c.passes.files.items in
    let start : List (CellView g.row.B.Denot g.row.B-Lease.Denot) = c.args.files.now.items in
    let i : ℕ = c.number.result - 1 in
    let old : CellView g.row.B.Denot g.row.B-Lease.Denot = c.index_mut.result.now in
    let new : CellView g.row.B.Denot g.row.B-Lease.Denot = c.take-file.new.self in
    let pass : Pass = c.in-Some.pass in
    let rest : List Pass = c.pop.new.self.items in
    let popped = c.in-Some.ensures.items in
    let took = c.take-file.ensures in
    let gave = c.return_file.ensures in
    let low : i < length now = omega arith in
    let back : i + 1 ≡ c.number.result = omega arith in
    let there : slice_get now i ≡ Some old = got now i old low c.index_mut.ensures.value in
    let number : i + 1 ≡ pass.number = back ∙ n.number in
    let long = length-set now i new in
    let mine : Among pass c.args.passes.items = was.rest pass (subst (Among pass) (sym popped) (among_last pass rest)) in
    record {
      hand = gave.hand;
      every = long ∙ was.every;
      numbers = each_reset (λ k (d : CellView g.row.B.Denot g.row.B-Lease.Denot). d.number ≡ k + 1) now i new was.numbers (took.number ∙ was.numbers i old there);
      same = each_reset (λ k (d : CellView g.row.B.Denot g.row.B-Lease.Denot). (slice_get start k ≡ Some d) ⊎ (d.state ≡ None)) now i new was.same (inr took.none);
      count =
          let less = one_less now i old new c.take-file.result low c.index_mut.ensures.value took.state took.none in
          let fewer = c.in-Some.ensures.len in
          let count = was.count in omega arith;
      given = left_on (λ k d f. Among (record { number = k + 1; file = file_of f }) c.args.passes.items) start now was.given i old new c.take-file.result there took.state
          (subst (λ (p : Pass). Among p c.args.passes.items) (λ j. record { number = sym number j; file = sym took.file j }) mine);
      rest = λ p m. was.rest p (subst (Among p) (sym popped) (among_front p pass rest m));
      shown = λ p m. elim (was.shown p m) [
        | inr is ↦ inr is
        | inl before ↦ elim (of_last p pass rest (subst (Among p) popped before)) [
          | inl still ↦ inl still
          | inr last ↦ inr (record {
            place = i;
            cell = old;
            state = c.take-file.result;
            there = elim (was.same i old there) [
              | inl is ↦ is
              | inr none ↦ (let wrong = sym none ∙ took.state in absurd (cc))
            ];
            lives = took.state;
            number = sym (ap (λ (q : Pass). q.number) last) ∙ sym number;
            file = sym (ap (λ (q : Pass). q.file) last) ∙ sym took.file;
          })
        ]
      ];
      home = λ bytes shown.
          (let one = gave.home bytes shown in
          let before = was.home bytes one.0 in
          let tokens = subst (λ (h : HandView). HoldTokens bytes h.tokens) took.hand one.2 in
          (before.0, left_on (λ k d f. HoldContents bytes f × HoldTokens bytes d.account.tokens) start now before.1 i old new c.take-file.result there took.state (one.1, tokens)));
    }
