use Rattle.std.proofs.Common.{◌≡◌, sym, ◌∙◌, ap, ℕ, ◌+◌, ◌-◌, List, ◌++◌, take, drop, arith, add-one}
use Rattle.device.specs.Disk.{part}
use Rattle.packs_journal.specs.Places.{page_at as place_of_page, page_size as size_of_page}
use Rattle.packs_journal.specs.Journal.{copy_in}
use Rattle.packs_journal.specs.Reading.{page_in, gathered}
use Rattle.packs_journal.proofs.Gathering.{gathered_none, gathered_more}
use Rattle.packs_journal.proofs.Pieces.{slice_part}
use Rattle.packs_journal.proofs.reading.gather.Goals as goal

pub loop-k-init : goal.loop-k-init
loop-k-init c = record { read = c.in_ok-rest.ensures.items ∙ sym (gathered_none c.args.len c.args.map.now c.args.area.now) }

pub loop-k-preserved : goal.loop-k-preserved
loop-k-preserved c =
    let len = c.args.len in
    let map = c.args.map.now in
    let area = c.args.area.now in
    let k = c.loop-k.k in
    let at = c.page_at-from.ensures ∙ ap (place_of_page k) c.copy_of.ensures.copy in
    record {
      read = c.in_ok-extend_from_slice.ensures.items
          ∙ ap (λ l. l ++ take (c.page_at-from.result + c.page_size.result - c.page_at-from.result) (drop c.page_at-from.result area)) c.loop-k.invariant.read
          ∙ ap (λ l. gathered len map k area ++ l) (slice_part c.page_at-from.result c.page_size.result (place_of_page k (copy_in map k)) (size_of_page len k) area at c.page_size.ensures.size)
          ∙ sym (gathered_more len map k area) ∙ ap (λ (n : ℕ). gathered len map n area) (sym (add-one k));
    }
