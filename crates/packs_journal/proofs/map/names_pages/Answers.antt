use Rattle.std.proofs.Common.{refl, sym, ◌∙◌, ap, ℕ, arith, add-one}
use Rattle.packs_journal.specs.Places.{map_pages}
use Rattle.std.specs.Prelude.{◌||◌, ◌==◌}
use Rattle.std.proofs.lemmas.Bool.{lt-ltb, le-ltb, ne_eqb}
use Rattle.packs_journal.specs.Journal.{copy_in, names_pages as names_pages_of}
use Rattle.packs_journal.proofs.Maps.{named_more, named_not}
use Rattle.packs_journal.proofs.map.names_pages.Goals as goal
use Rattle.packs_journal.proofs.map.names_pages.Goals.{else-k-pages-via-then-k-pages+else-copy_of-ne0, else-k-pages-via-else-k-pages}

pub loop-k-init : goal.loop-k-init
unfolding names_pages_of
loop-k-init c = record { named = refl }

pub returns-then-copy_of-ne0 : goal.returns-then-copy_of-ne0
returns-then-copy_of-ne0 c =
    let k = c.loop-k.k in
    let map = c.args.map.now in
    sym (named_not c.args.pages map k map_pages c.loop-k-test.true
    (ap (λ b. b || (copy_in map k == 0)) (le-ltb k c.args.pages c.if-k-pages.true)
    ∙ ne_eqb (copy_in map k) 0 (λ is. c.if-copy_of-ne0.true (c.copy_of.ensures.copy ∙ is))))

pub loop-k-preserved : goal.loop-k-preserved
loop-k-preserved c =
    let k = c.loop-k.k in
    record {
      named = ap (names_pages_of c.args.pages c.args.map.now) (add-one k) ∙ named_more c.args.pages c.args.map.now k c.loop-k.invariant.named
          (elim c.else-k-pages.branch [
            | else-k-pages-via-then-k-pages+else-copy_of-ne0 w ↦ ap (λ b. b || (copy_in c.args.map.now k == 0)) (le-ltb k c.args.pages w.if-k-pages.true) ∙ ap (λ (x : ℕ). x == 0) (sym w.copy_of.ensures.copy ∙ w.if-copy_of-ne0.false)
            | else-k-pages-via-else-k-pages w ↦ ap (λ b. b || (copy_in c.args.map.now k == 0)) (lt-ltb k c.args.pages (omega (arith, w.if-k-pages.false)))
          ]);
    }
