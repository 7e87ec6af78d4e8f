use Rattle.std.proofs.Common.{◌≡◌, refl, sym, ◌∙◌, ap, ℕ, ◌+◌, ◌*◌, ◌≤◌, true, false, List, ◌++◌, length, take, arith, length-take}
use Rattle.std.proofs.lemmas.List.{take_at}
use Rattle.image.specs.Reading.{number_at}
use Rattle.packs_journal.specs.Places.{head_at as place_of_head, page_count as pages_of, changes_at, changes_bytes, head_bytes, most_changes}
use Rattle.packs_journal.specs.Journal.{map_of as map_in, changes_of, patched, is_head as is_head_of}
use Rattle.packs_journal.specs.Reading.{head_in, gathered, assembled}
use Rattle.packs_journal.proofs.Pieces.{part_long, slice_part}
use Rattle.packs_journal.proofs.Heads.{head_few, assembled_none, assembled_some}
use Rattle.packs_journal.proofs.reading.assemble.Goals as goal

room : (n : ℕ) (xs : List ℕ) → length xs ≡ changes_bytes → n ≤ most_changes → 12 * n ≤ length xs
room n xs long few = omega (arith, long, few)

pub returns-then-not-is_head : goal.returns-then-not-is_head
returns-then-not-is_head c = λ is.
    let len = c.args.len in
    let area = c.args.area.now in
    let head = head_in c.args.slot area in
    let read = c.copy_from_slice.ensures.after ∙ slice_part c.head_at-at.result head_bytes (place_of_head c.args.slot) head_bytes area c.head_at-at.ensures refl in
    let none : is_head_of len head ≡ false = ap (is_head_of len) (sym read) ∙ sym c.is_head.ensures ∙ c.if-not-is_head.true in
    let short : length (assembled len c.args.slot area) ≡ length (take 56 head) = ap length (assembled_none len c.args.slot area none) in
    omega (arith, short, length-take 56 head, c.requires.body.header, is)

pub patch-requires : goal.patch-requires
patch-requires c =
    let head = c.copy_from_slice.new.self in
    let area = c.args.area.now in
    let read = c.copy_from_slice.ensures.after ∙ slice_part c.head_at-at.result head_bytes (place_of_head c.args.slot) head_bytes area c.head_at-at.ensures refl in
    let fits : place_of_head c.args.slot + head_bytes ≤ length area = omega (arith, c.requires.long, c.requires.slot) in
    let whole : length head ≡ head_bytes = ap length read ∙ part_long (place_of_head c.args.slot) head_bytes area fits in
    let few = head_few c.args.len head (sym c.is_head.ensures ∙ c.if-not-is_head.false) in
    room c.count_of.result _ (part_long changes_at changes_bytes head (omega (arith, whole))) (omega (arith, few, c.count_of.ensures))

pub returns : goal.returns
returns c =
    let len = c.args.len in
    let area = c.args.area.now in
    let head = c.copy_from_slice.new.self in
    let read : head ≡ head_in c.args.slot area = c.copy_from_slice.ensures.after ∙ slice_part c.head_at-at.result head_bytes (place_of_head c.args.slot) head_bytes area c.head_at-at.ensures refl in
    let has : is_head_of len (head_in c.args.slot area) ≡ true = ap (is_head_of len) (sym read) ∙ sym c.is_head.ensures ∙ c.if-not-is_head.false in
    let pages : c.in_ok-rest.rest.items ≡ gathered len (map_in head) (pages_of len) area = c.in_ok-rest.ensures ∙ ap (λ (m : List ℕ). gathered len m (pages_of len) area) c.map_of.ensures in
    let patches : c.patch.new.bytes ≡ patched (changes_of head) (number_at head 56) (gathered len (map_in head) (pages_of len) area)
    = c.patch.ensures ∙ ap (λ (n : ℕ). patched (changes_of head) n c.as_mut_slice.result.now) c.count_of.ensures ∙ ap (patched (changes_of head) (number_at head 56)) (c.as_mut_slice.ensures.value ∙ pages) in
    let rest : c.as_slice.result.now ≡ patched (changes_of head) (number_at head 56) (gathered len (map_in head) (pages_of len) area) = c.as_slice.ensures.value ∙ take_at c.patch.new.bytes _ c.in_ok-rest.rest.len (c.patch.auto.bytes ∙ c.as_mut_slice.ensures.len) ∙ patches in
    c.in_ok-extend_from_slice-2.ensures.items
    ∙ ap (λ l. l ++ c.as_slice.result.now) (c.in_ok-extend_from_slice.ensures.items ∙ ap (λ l. l ++ take 56 head) c.in_ok-body.ensures.items)
    ∙ ap (λ l. take 56 head ++ l) rest
    ∙ ap (λ (h : List ℕ). take 56 h ++ patched (changes_of h) (number_at h 56) (gathered len (map_in h) (pages_of len) area)) read
    ∙ sym (assembled_some len c.args.slot area has)
