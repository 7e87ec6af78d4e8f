-- Accounts come in ascending order, so no file past the present one was learned; what the audit has is what the first
-- files have, and a turn adds the next.
use Rattle.std.proofs.Common.{rules, ◌≡◌, ℕ, ◌+◌, ◌<◌, ◌∷◌, slice_set, length, refl, sym, ap, ◌∙◌, subst, arith}
use Rattle.std.proofs.lemmas.List.{set-get_or}
use Rattle.geometry.specs.Weights.{weigh}
use Rattle.rights_books.specs.Weights.{file_copy, past}
use Rattle.rights_books.specs.Accounts.{FileView, CensusView}
use Rattle.rights_books.specs.declared.claim.Copied.TheVariants.{FileCopy}
use Rattle.rights_books.proofs.Learning.{borrowed_at, weigh_take_more, past_here, files_next, no_files}
use Rattle.rights_books.proofs.books.Books.learn_files.Goals as goal

pub loop-i-init : goal.loop-i-init
loop-i-init c = record {
  book = refl;
  same = refl;
  fresh = no_files 1 c.args.audit.now.copies c.requires.none;
  copies = λ h. omega arith;
}

pub learn_file-requires-clause-ascending : goal.learn_file-requires-clause-ascending
learn_file-requires-clause-ascending c =
    let x = c.index_mut.result.now in
    let here = borrowed_at c.args.files.now.items c.loop-i.files.items c.loop-i.i x c.loop-i.invariant.same c.index_mut.ensures.value (search rules) in
    let numbered = c.requires.files c.loop-i.i x here.1 in
    subst (λ (n : ℕ). weigh (file_copy (past n)) c.loop-i.audit.copies ≡ 0) (sym numbered.0) c.loop-i.invariant.fresh

pub loop-i-preserved : goal.loop-i-preserved
loop-i-preserved c =
    let i = c.loop-i.i in
    let x = c.index_mut.result.now in
    let xs = c.args.files.now.items in
    let within : i < length xs = search rules in
    let here = borrowed_at xs c.loop-i.files.items i x c.loop-i.invariant.same c.index_mut.ensures.value within in
    let numbered = c.requires.files i x here.1 in
    let copies : c.learn_file.new.audit.copies ≡ FileCopy x.inode x.tickets x.tokens ∷ c.loop-i.audit.copies = ap (λ (v : CensusView). v.copies) c.learn_file.ensures.audit in
    record {
      book = ap (λ (v : CensusView). v.book) c.learn_file.ensures.audit ∙ c.loop-i.invariant.book;
      same =
          ap (λ (y : FileView). slice_set c.loop-i.files.items i y) (c.learn_file.ensures.file ∙ c.index_mut.ensures.value)
          ∙ (set-get_or c.loop-i.files.items i x ∙ c.loop-i.invariant.same);
      fresh =
          let a = files_next (c.loop-i.i + 1) c.loop-i.audit.copies c.loop-i.invariant.fresh in
          let b = past_here (c.loop-i.i + 1) x.inode numbered.0 in
          let d = ap (weigh (file_copy (past ((c.loop-i.i + 1) + 1)))) copies in omega arith;
      copies =
          λ h.
          let a = c.loop-i.invariant.copies h in
          let b = weigh_take_more (λ v. h (FileCopy v.inode v.tickets v.tokens)) xs i x within here.0 in
          let d = ap (weigh h) copies in omega arith;
    }
