-- A page begins where the one before it ends: so its bytes read behind those read so far make the rest one page longer.
use Rattle.std.proofs.Common.{◌≡◌, refl, sym, ◌∙◌, ap, ℕ, suc, ◌+◌, ◌<◌, ◌++◌, length, take, arith, add-one}
use Rattle.std.proofs.lemmas.Slice.{take-put_mid}
use Rattle.device.proofs.Moments.{quiet_joined, elapses_same}
use Rattle.packs_journal.specs.Places.{page_count as pages_of, page_start as start_of_page, page_size as size_of_page}
use Rattle.packs_journal.specs.Reading.{page_in, gathered}
use Rattle.packs_journal.proofs.Pieces.{middle_long}
use Rattle.packs_journal.proofs.Gathering.{start_within, start_zero, gathered_none, gathered_more, page_long}
use Rattle.packs_journal.proofs.reading.read_pages.Goals as goal

pub loop-k-init : goal.loop-k-init
loop-k-init g c =
    let meta = c.args.meta.now in
    record {
      read = ap (λ (n : ℕ). take n c.args.rest.now) (start_zero c.args.len) ∙ sym (gathered_none c.args.len c.args.map.now (g.M.Meta.seen meta));
      long = refl;
      quiet = record { same = refl; fewer = λ d left. left; time = elapses_same (g.M.Meta.moment meta) (g.M.Meta.left_since meta) (g.M.Meta.may_leave meta) };
      failed = omega arith;
    }

pub loop-k-preserved : goal.loop-k-preserved
loop-k-preserved g c =
    let inv = c.loop-k.invariant in
    let len = c.args.len in
    let k = c.loop-k.k in
    let map = c.args.map.now in
    let seen = g.M.Meta.seen c.args.meta.now in
    let out = c.read_page.new.out in
    let from = c.page_start-from.ensures in
    let size = c.page_size.ensures.size in
    let below : k < pages_of len = omega (arith, c.loop-k-test.true, c.page_count-k-end.ensures) in
    let page : out ≡ page_in len map k seen = c.in_ok-read_page.ensures.page ∙ ap (page_in len map k) inv.quiet.same in
    let long : length out ≡ size_of_page len k = ap length page ∙ page_long len map k seen c.requires.area below in
    let within = start_within len k in
    let ends = start_within len (suc k) in
    record {
      read = take-put_mid c.page_start-from.result _ c.loop-k.rest out (start_of_page len (k + 1)) (next len k c.page_start-from.result (length out) from long) (omega (arith, from, within, inv.long, c.requires.long))
          ∙ ap (λ (n : ℕ). take n c.loop-k.rest ++ out) from ∙ ap (λ l. l ++ out) inv.read ∙ ap (λ l. gathered len map k seen ++ l) page
          ∙ sym (gathered_more len map k seen) ∙ ap (λ (n : ℕ). gathered len map n seen) (sym (add-one k));
      long = middle_long c.page_start-from.result _ c.loop-k.rest out (omega (arith, from, size, ends, below, inv.long, c.requires.long)) (omega (arith, long, size)) ∙ inv.long;
      quiet = quiet_joined g.M.Meta.moment g.M.Meta.left_since g.M.Meta.seen g.M.Meta.may_leave g.met.M.Meta.counts_now _ _ _ inv.quiet c.read_page.ensures.quiet;
      failed = omega (arith, inv.failed, c.read_page.ensures.cause.later);
    }
  where
    next : (len k a n : ℕ) → a ≡ start_of_page len k → n ≡ size_of_page len k → start_of_page len (k + 1) ≡ a + n
    next len k a n is size = omega (arith, is, size)
