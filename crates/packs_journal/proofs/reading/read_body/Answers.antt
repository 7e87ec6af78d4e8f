use Rattle.std.proofs.Common.{◌≡◌, sym, ◌∙◌, ap, ℕ, ◌*◌, ◌≤◌, true, false, List, ◌++◌, length, take, arith}
use Rattle.std.proofs.lemmas.List.{length-take}
use Rattle.image.specs.Reading.{number_at}
use Rattle.packs_journal.specs.Places.{page_count as pages_of, changes_at, changes_bytes, most_changes}
use Rattle.packs_journal.specs.Journal.{map_of as map_in, changes_of, patched, is_head as is_head_of}
use Rattle.packs_journal.specs.Reading.{head_in, gathered, assembled}
use Rattle.packs_journal.proofs.Pieces.{part_long}
use Rattle.packs_journal.proofs.Heads.{head_few, assembled_none, assembled_some}
use Rattle.packs_journal.proofs.reading.read_body.Goals as goal

room : (n : ℕ) (xs : List ℕ) → length xs ≡ changes_bytes → n ≤ most_changes → 12 * n ≤ length xs
room n xs long few = omega (arith, long, few)

pub returns-then-not-is_head-clause-none : goal.returns-then-not-is_head-clause-none
returns-then-not-is_head-clause-none g c = λ _ is.
    let len = length c.args.out.now in
    let seen = g.M.Meta.seen c.args.meta.now in
    let head = head_in c.args.slot seen in
    let none : is_head_of len head ≡ false = ap (is_head_of len) (sym c.in_ok-read_head.ensures.head) ∙ sym c.is_head.ensures ∙ c.if-not-is_head.true in
    let short : length (assembled len c.args.slot seen) ≡ length (take 56 head) = ap length (assembled_none len c.args.slot seen none) in
    omega (arith, short, length-take 56 head, c.requires.area.body.header, is)

pub patch-requires : goal.patch-requires
patch-requires g c =
    let head = c.read_head.new.head in
    let has : is_head_of (length c.args.out.now) head ≡ true = sym c.is_head.ensures ∙ c.if-not-is_head.false in
    let few = head_few (length c.args.out.now) head has in
    room c.count_of.result _ (part_long changes_at changes_bytes head (omega (arith, c.read_head.array_long))) (omega (arith, few, c.count_of.ensures))

pub returns-clause-body : goal.returns-clause-body
returns-clause-body g c = λ _.
    let len = length c.args.out.now in
    let seen = g.M.Meta.seen c.args.meta.now in
    let head = c.read_head.new.head in
    let is = c.in_ok-read_head.ensures.head in
    let has : is_head_of len (head_in c.args.slot seen) ≡ true = ap (is_head_of len) (sym is) ∙ sym c.is_head.ensures ∙ c.if-not-is_head.false in
    let pages : c.read_pages.new.rest ≡ gathered len (map_in head) (pages_of len) seen
    = c.in_ok-read_pages.ensures.read ∙ ap (λ (m : List ℕ). gathered len m (pages_of len) (g.M.Meta.seen c.read_head.new.meta)) c.map_of.ensures ∙ ap (gathered len (map_in head) (pages_of len)) c.read_head.ensures.quiet.same in
    let rest : c.patch.new.bytes ≡ patched (changes_of head) (number_at head 56) (gathered len (map_in head) (pages_of len) seen)
    = c.patch.ensures ∙ ap (λ (n : ℕ). patched (changes_of head) n c.read_pages.new.rest) c.count_of.ensures ∙ ap (patched (changes_of head) (number_at head 56)) pages in
    ap (λ l. l ++ c.patch.new.bytes) c.copy_from_slice.ensures.after
    ∙ ap (λ l. take 56 head ++ l) rest
    ∙ ap (λ (h : List ℕ). take 56 h ++ patched (changes_of h) (number_at h 56) (gathered len (map_in h) (pages_of len) seen)) is
    ∙ sym (assembled_some len c.args.slot seen has)
