-- Page by page the changes make more of the pages the body's rest; when all pages are gone through they make it whole.
use Rattle.std.proofs.Common.{◌≡◌, refl, sym, ◌∙◌, ap, subst, ⊎_elim, ℕ, zero, suc, ◌+◌, ◌-◌, ◌*◌, ◌<◌, List, ◌++◌, length, drop, arith, add-one, append-nil, length-drop}
use Rattle.std.proofs.lemmas.Bool.{cases_eq}
use Rattle.std.proofs.lemmas.List.{take_all, drop_all}
use Rattle.device.proofs.Moments.{quiet_joined, elapses_same}
use Rattle.packs_journal.specs.Places.{page_count as pages_of, page_start, word_count as words_of}
use Rattle.packs_journal.specs.Journal.{AreRising, IsPatchedTo, rises, next_place, patched}
use Rattle.packs_journal.specs.Reading.{page_in, gathered}
use Rattle.packs_journal.specs.Staging.{body_page}
use Rattle.packs_journal.specs.Pages.{has_page}
use Rattle.packs_journal.proofs.Gathering.{start_end, gathered_long}
use Rattle.packs_journal.proofs.difference.find_changes.Goals as goal

none_patched : (bytes before after : List ℕ) (count m : ℕ) → count ≡ 0 → m ≡ 0 → IsPatchedTo bytes count before after m
unfolding patched
none_patched bytes before after zero zero is none = refl
none_patched bytes before after (suc count) m is none = absurd (omega (arith, is))
none_patched bytes before after zero (suc m) is none = absurd (omega (arith, none))

none_rising : (words : ℕ) (bytes : List ℕ) (count : ℕ) → count ≡ 0 → AreRising words bytes count 0
unfolding rises next_place
none_rising words bytes zero is = record { rise = refl; end = omega arith }
none_rising words bytes (suc count) is = absurd (omega (arith, is))

pub loop-k-init : goal.loop-k-init
loop-k-init g c =
    let len = length c.args.body.now in
    let none = c.requires.none in
    let meta = c.args.meta.now in
    record {
      patched = none_patched c.args.changes.now.bytes (gathered len c.args.map.now (pages_of len) (g.M.Meta.seen meta)) (drop 56 c.args.body.now) c.args.changes.now.count (page_start len 0) none (omega arith);
      rises = none_rising (words_of len) c.args.changes.now.bytes c.args.changes.now.count none;
      noted = λ j less _. absurd (omega (arith, less));
      few = omega (arith, none);
      quiet = record { same = refl; fewer = λ d left. left; time = elapses_same (g.M.Meta.moment meta) (g.M.Meta.left_since meta) (g.M.Meta.may_leave meta) };
      failed = omega arith;
    }

pub returns-in_err-compare_page-clause-quiet : goal.returns-in_err-compare_page-clause-quiet
returns-in_err-compare_page-clause-quiet g c =
    quiet_joined g.M.Meta.moment g.M.Meta.left_since g.M.Meta.seen g.M.Meta.may_leave g.met.M.Meta.counts_now _ _ _ c.loop-k.invariant.quiet c.compare_page.ensures.quiet

pub returns-then-not-branch-clause-quiet : goal.returns-then-not-branch-clause-quiet
returns-then-not-branch-clause-quiet g c =
    quiet_joined g.M.Meta.moment g.M.Meta.left_since g.M.Meta.seen g.M.Meta.may_leave g.met.M.Meta.counts_now _ _ _ c.loop-k.invariant.quiet c.compare_page.ensures.quiet

-- what the loop knows holds of the area as it was, since nothing is written
pub compare_page-requires-clause-differs : goal.compare_page-requires-clause-differs
compare_page-requires-clause-differs g c = λ out.
    let k = c.loop-k.k in
    let below : k < pages_of (length c.args.body.now) = omega (arith, c.loop-k-test.true, c.page_count-k-end.ensures) in
    ap (page_in (length c.args.body.now) c.args.map.now k) c.loop-k.invariant.quiet.same ∙ c.requires.differs k below out

pub loop-k-preserved : goal.loop-k-preserved
loop-k-preserved g c =
    let k = c.loop-k.k in
    let inv = c.loop-k.invariant in
    let body = c.args.body.now in
    let len = length body in
    let map = c.args.map.now in
    let was = c.loop-k.changes in
    let now = c.compare_page.new.changes in
    let e = c.in_ok-compare_page.ensures in
    let found = c.if-not-branch.false in
    let same = inv.quiet.same in
    record {
      patched = subst (λ (i : ℕ). IsPatchedTo now.bytes now.count (gathered len map (pages_of len) (g.M.Meta.seen c.args.meta.now)) (drop 56 body) (page_start len i)) (sym (add-one k))
          (subst (λ (l : List ℕ). IsPatchedTo was.bytes was.count (gathered len map (pages_of len) l) (drop 56 body) (page_start len k) → IsPatchedTo now.bytes now.count (gathered len map (pages_of len) l) (drop 56 body) (page_start len (suc k))) same
          (e.patched found) inv.patched);
      rises = subst (λ (i : ℕ). AreRising (words_of len) now.bytes now.count (512 * i)) (sym (add-one k)) (e.rises found inv.rises);
      noted = λ j less out. ⊎_elim
          (λ (here : j ≡ k). ap (λ (i : ℕ). page_in len map i (g.M.Meta.seen c.args.meta.now)) here ∙ ap (page_in len map k) (sym same)
          ∙ e.noted (ap (has_page now.pages) (sym here) ∙ out) ∙ ap (λ (i : ℕ). body_page len i body) (sym here))
          (λ apart. inv.noted j (earlier j k less apart) (sym (c.compare_page.ensures.others j apart) ∙ out))
          (cases_eq j k);
      few = c.compare_page.ensures.few;
      quiet = quiet_joined g.M.Meta.moment g.M.Meta.left_since g.M.Meta.seen g.M.Meta.may_leave g.met.M.Meta.counts_now _ _ _ inv.quiet c.compare_page.ensures.quiet;
      failed = omega (arith, inv.failed, c.compare_page.ensures.cause.later);
    }
  where
    earlier : (j k : ℕ) → j < k + 1 → (j ≡ k → ⊥) → j < k
    earlier j k less apart = omega (arith, less, apart)

pub returns-clause-patched : goal.returns-clause-patched
returns-clause-patched g c = λ _.
    let body = c.args.body.now in
    let len = length body in
    let seen = g.M.Meta.seen c.args.meta.now in
    let whole = gathered len c.args.map.now (pages_of len) seen in
    let k : c.loop-k.k ≡ pages_of len = omega (arith, c.loop-k-test.false, c.loop-k.auto.k-end, c.page_count-k-end.ensures) in
    let start : page_start len c.loop-k.k ≡ len - 56 = ap (page_start len) k ∙ start_end len in
    let long = gathered_long len c.args.map.now (pages_of len) seen c.requires.area (omega arith) in
    let e = start_end len in
    c.loop-k.invariant.patched
    ∙ ap (λ l. l ++ drop (page_start len c.loop-k.k) whole) (take_all (page_start len c.loop-k.k) (drop 56 body) (omega (arith, start, length-drop 56 body)))
    ∙ ap (λ l. drop 56 body ++ l) (drop_all (page_start len c.loop-k.k) whole (omega (arith, start, long, e)))
    ∙ append-nil (drop 56 body)

pub returns-clause-noted : goal.returns-clause-noted
returns-clause-noted g c = λ _ k below out.
    let end : c.loop-k.k ≡ pages_of (length c.args.body.now) = omega (arith, c.loop-k-test.false, c.loop-k.auto.k-end, c.page_count-k-end.ensures) in
    c.loop-k.invariant.noted k (omega (arith, below, end)) out
