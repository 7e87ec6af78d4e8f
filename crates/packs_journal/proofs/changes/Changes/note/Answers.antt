-- The number is put in front of the word, so it stays.
use Rattle.std.proofs.Common.{◌∙◌, ◌+◌, ◌*◌, length, drop, arith}
use Rattle.std.proofs.lemmas.List.{take-take}
use Rattle.byteorder.specs.Endian.{little_bytes}
use Rattle.byteorder.specs.Numbers.{length-bytes_low_first}
use Rattle.device.proofs.Ranges.{holds_part}
use Rattle.packs_journal.proofs.Pieces.{number_by_part, number_put, put_front, put_before}
use Rattle.packs_journal.proofs.changes.Changes.note.Goals as goal

pub returns-clause-place : goal.returns-clause-place
returns-clause-place c = λ _.
    let at = 12 * c.args.self.now.count in
    number_by_part at c.put_bytes.new.all c.put_number.new.all
    (put_before (at + 4) c.args.word.now c.put_number.new.all c.put_bytes.new.all c.put_bytes.ensures.within c.put_bytes.ensures.put at 4 (omega arith))
    ∙ number_put at c.args.place c.args.self.now.bytes c.put_number.new.all c.put_number.ensures.within (omega (arith, c.ranges.place.fits)) c.put_number.ensures.put

pub returns-clause-word : goal.returns-clause-word
returns-clause-word c = λ _.
    let at = 12 * c.args.self.now.count + 4 in
    take-take (length c.args.word.now) 8 (drop at c.put_bytes.new.all) c.requires.word
    ∙ holds_part at c.args.word.now c.put_number.new.all c.put_bytes.new.all c.put_bytes.ensures.within c.put_bytes.ensures.put

pub returns-clause-others : goal.returns-clause-others
returns-clause-others c =
    let at = 12 * c.args.self.now.count in
    put_front (at + 4) c.args.word.now c.put_number.new.all c.put_bytes.new.all c.put_bytes.ensures.within c.put_bytes.ensures.put at (omega arith)
    ∙ put_front at (little_bytes 4 c.args.place) c.args.self.now.bytes c.put_number.new.all (omega (arith, c.put_number.ensures.within, length-bytes_low_first 0 4 c.args.place)) c.put_number.ensures.put at (omega arith)
