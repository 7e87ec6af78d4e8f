-- The files come in ascending order, so nothing is learned yet of those past the present one; what is learned weighs
-- what the first files have, and a turn adds the next.
use Rattle.std.proofs.Common.{rules, ◌≡◌, ℕ, ◌+◌, ◌∷◌, map, refl, sym, ap, ◌∙◌, subst, arith}
use Rattle.geometry.specs.Weights.{weigh}
use Rattle.rights_books.specs.Weights.{file_copy, past}
use Rattle.rights_books.specs.Accounts.{CensusView, FileView}
use Rattle.rights_books.specs.declared.claim.Copied.TheVariants.{FileCopy}
use Rattle.rights_books.proofs.Learning.{weigh_take_more, past_here, files_next, no_files}
use Rattle.checkpoint_image.proofs.Turning.{looked_at, set_shown}
use Rattle.checkpoint_image.proofs.files.learn_files.Goals as goal

pub loop-i-init : goal.loop-i-init
loop-i-init g c = record {
  kept = refl;
  same = refl;
  fresh = no_files 1 c.args.audit.now.copies c.requires.none;
  learned = record { book = refl; copies = λ h. omega arith };
}

pub learn-requires-clause-book : goal.learn-requires-clause-book
learn-requires-clause-book g c =
    let here = looked_at g.S.AuditedFile.account c.loop-i.files.items c.args.files.now.items c.loop-i.i c.index_mut.result.now c.loop-i.invariant.same c.index_mut.ensures.value (search rules) in
    (c.requires.files c.loop-i.i _ here.there).1

pub learn-requires-clause-ascending : goal.learn-requires-clause-ascending
learn-requires-clause-ascending g c =
    let here = looked_at g.S.AuditedFile.account c.loop-i.files.items c.args.files.now.items c.loop-i.i c.index_mut.result.now c.loop-i.invariant.same c.index_mut.ensures.value (search rules) in
    let numbered = c.requires.files c.loop-i.i _ here.there in
    subst (λ (n : ℕ). weigh (file_copy (past n)) c.loop-i.audit.copies ≡ 0) (sym numbered.0) c.loop-i.invariant.fresh

pub loop-i-preserved : goal.loop-i-preserved
loop-i-preserved g c =
    let shown = g.S.AuditedFile.account in
    let xs = c.args.files.now.items in
    let i = c.loop-i.i in
    let x = c.index_mut.result.now in
    let here = looked_at g.S.AuditedFile.account c.loop-i.files.items c.args.files.now.items c.loop-i.i c.index_mut.result.now c.loop-i.invariant.same c.index_mut.ensures.value (search rules) in
    let numbered = c.requires.files i (shown x) here.there in
    let copies : c.learn.new.audit.copies ≡ FileCopy (shown x).inode (shown x).tickets (shown x).tokens ∷ c.loop-i.audit.copies = ap (λ (v : CensusView). v.copies) c.learn.ensures.audit in
    let before = c.loop-i.invariant.learned in
    record {
      kept = set_shown g.S.HoldsFile.shown c.loop-i.files.items (map g.S.HoldsFile.shown xs) i x c.learn.new.self c.loop-i.invariant.kept c.index_mut.ensures.value c.learn.ensures.same;
      same = set_shown shown c.loop-i.files.items (map shown xs) i x c.learn.new.self c.loop-i.invariant.same c.index_mut.ensures.value c.learn.ensures.account;
      fresh =
          let a = files_next (i + 1) c.loop-i.audit.copies c.loop-i.invariant.fresh in
          let b = past_here (i + 1) (shown x).inode numbered.0 in
          let d = ap (weigh (file_copy (past (i + 1 + 1)))) copies in omega arith;
      learned = record {
        book = ap (λ (v : CensusView). v.book) c.learn.ensures.audit ∙ before.book;
        copies =
            λ h.
            let a = before.copies h in
            let b = weigh_take_more (λ (v : FileView). h (FileCopy v.inode v.tickets v.tokens)) (map shown xs) i (shown x) here.low here.is in
            let d = ap (weigh h) copies in omega arith;
      };
    }
