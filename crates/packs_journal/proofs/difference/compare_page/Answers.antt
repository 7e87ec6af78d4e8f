-- A page that is the same needs no change; one that differs is in the set, and its words are noted.
use Rattle.std.proofs.Common.{◌≡◌, refl, sym, ◌∙◌, ap, subst, ℕ, suc, ◌+◌, ◌*◌, ◌/◌, ◌<◌, ◌≤◌, length, drop, arith}
use Rattle.std.proofs.lemmas.Bool.{true≢false}
use Rattle.device.proofs.Moments.{elapses_same}
use Rattle.packs_journal.specs.declared.page_set.PageSet.{PageSet}
use Rattle.packs_journal.specs.Places.{page_count as pages_of, page_start, page_size, word_count as words_of}
use Rattle.packs_journal.specs.Journal.{IsPatchedTo}
use Rattle.packs_journal.specs.Reading.{gathered}
use Rattle.packs_journal.specs.Pages.{has_page}
use Rattle.packs_journal.proofs.Gathering.{start_of}
use Rattle.packs_journal.proofs.Patching.{whole_pages, page_kept}
use Rattle.packs_journal.proofs.Rising.{rising_on}
use Rattle.packs_journal.proofs.difference.compare_page.Goals as goal

page_ends : (len k n : ℕ) → page_start len k ≡ 4096 * k → n ≡ page_size len k → 4096 * k + n ≡ page_start len (suc k)
page_ends len k n start size = omega (arith, start, size)

words_end : (n k : ℕ) → n ≤ 4096 → 512 * k + (n + 7) / 8 ≤ 512 * suc k
words_end n k few = omega (arith, few)

words_fit : (len k n : ℕ) → k < pages_of len → n ≡ page_size len k → 512 * k + (n + 7) / 8 ≤ words_of len
words_fit len k n below size = omega (arith, below, size)

pub returns-then-not-contains-clause-patched : goal.returns-then-not-contains-clause-patched
returns-then-not-contains-clause-patched g c = λ _ first.
    let changes = c.args.changes.now in
    page_kept (length c.args.body.now) c.args.k c.args.map.now c.args.body.now (g.M.Meta.seen c.args.meta.now) changes.bytes changes.count c.requires.area c.requires.within
    (c.requires.differs (sym c.contains.ensures ∙ c.if-not-contains.true)) first

pub returns-then-not-contains-clause-rises : goal.returns-then-not-contains-clause-rises
returns-then-not-contains-clause-rises g c = λ _ first.
    let changes = c.args.changes.now in
    rising_on (words_of (length c.args.body.now)) changes.bytes changes.count (512 * c.args.k) (512 * suc c.args.k) (omega arith) first

pub returns-then-not-contains-clause-noted : goal.returns-then-not-contains-clause-noted
returns-then-not-contains-clause-noted g c = λ _. c.requires.differs (sym c.contains.ensures ∙ c.if-not-contains.true)

pub returns-then-not-contains-clause-quiet : goal.returns-then-not-contains-clause-quiet
returns-then-not-contains-clause-quiet g c =
    let meta = c.args.meta.now in
    record { same = refl; fewer = λ d left. left; time = elapses_same (g.M.Meta.moment meta) (g.M.Meta.left_since meta) (g.M.Meta.may_leave meta) }

pub returns-then-are_same-clause-patched : goal.returns-then-are_same-clause-patched
returns-then-are_same-clause-patched g c = λ _ first.
    let changes = c.args.changes.now in
    page_kept (length c.args.body.now) c.args.k c.args.map.now c.args.body.now (g.M.Meta.seen c.args.meta.now) changes.bytes changes.count c.requires.area c.requires.within
    (sym c.in_ok-read_page.ensures.page ∙ c.are_same.ensures c.if-are_same.true ∙ c.page_of-new.ensures.page) first

pub returns-then-are_same-clause-rises : goal.returns-then-are_same-clause-rises
returns-then-are_same-clause-rises g c = λ _ first.
    let changes = c.args.changes.now in
    rising_on (words_of (length c.args.body.now)) changes.bytes changes.count (512 * c.args.k) (512 * suc c.args.k) (omega arith) first

pub returns-then-are_same-clause-noted : goal.returns-then-are_same-clause-noted
returns-then-are_same-clause-noted g c = λ _. sym c.in_ok-read_page.ensures.page ∙ c.are_same.ensures c.if-are_same.true ∙ c.page_of-new.ensures.page

pub returns-clause-patched : goal.returns-clause-patched
returns-clause-patched g c = λ found first.
    let k = c.args.k in
    let body = c.args.body.now in
    let len = length body in
    let seen = g.M.Meta.seen c.args.meta.now in
    let whole = gathered len c.args.map.now (pages_of len) seen in
    let was = c.args.changes.now in
    let now = c.note_page.new.changes in
    let new = c.page_of-new.result.now in
    let size = c.page_of-new.ensures.size in
    let start = start_of len k c.requires.within in
    let pages = whole_pages len k c.args.map.now body seen c.read_page.new.out new c.requires.area refl c.requires.within c.in_ok-read_page.ensures.page c.page_of-new.ensures.page size in
    let begins = subst (λ (i : ℕ). IsPatchedTo was.bytes was.count whole (drop 56 body) i) start first in
    subst (λ (i : ℕ). IsPatchedTo now.bytes now.count whole (drop 56 body) i) (page_ends len k (length new) start size) (c.note_page.ensures.patched found whole (drop 56 body) pages begins)

pub returns-clause-rises : goal.returns-clause-rises
returns-clause-rises g c = λ found first.
    let k = c.args.k in
    let len = length c.args.body.now in
    let now = c.note_page.new.changes in
    let n = length c.page_of-new.result.now in
    rising_on (words_of len) now.bytes now.count (512 * k + (n + 7) / 8) (512 * suc k) (words_end n k c.page_of-new.ensures.few)
    (c.note_page.ensures.rises found (words_of len) (words_fit len k n c.requires.within c.page_of-new.ensures.size) first)

pub returns-clause-noted : goal.returns-clause-noted
returns-clause-noted g c = λ out.
    absurd (true≢false (sym (ap (λ (p : PageSet). has_page p c.args.k) c.note_page.ensures.pages ∙ c.insert.ensures.inserted) ∙ out))

pub returns-clause-others : goal.returns-clause-others
returns-clause-others g c = λ j apart. ap (λ (p : PageSet). has_page p j) c.note_page.ensures.pages ∙ c.insert.ensures.others j apart
