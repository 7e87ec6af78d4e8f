-- The bytes are the same, or their pages are touched before they are put.
use Rattle.std.proofs.Common.{◌∙◌, sym, ap, length}
use Rattle.device.specs.Disk.{part}
use Rattle.checkpoint_image.proofs.Touching.{untouched, holds_same, put_touched}
use Rattle.checkpoint_image.proofs.touched_body.TouchedBody.put.Goals as goal

pub returns-then-stands_at-clause-bytes : goal.returns-then-stands_at-clause-bytes
returns-then-stands_at-clause-bytes c =
    holds_same c.args.at c.args.bytes.now c.args.self.now.bytes.items
    (ap (part c.args.at (length c.args.bytes.now)) (sym c.as_slice.ensures.value) ∙ c.stands_at.ensures c.if-stands_at.true)

pub returns-then-stands_at-clause-touched : goal.returns-then-stands_at-clause-touched
returns-then-stands_at-clause-touched c = untouched _ c.args.self.now

pub returns-clause-touched : goal.returns-clause-touched
returns-clause-touched c =
    put_touched c.args.at c.args.bytes.now c.args.self.now (record { bytes = c.put_bytes.new.all; touched = c.touch.new.pages })
    c.requires.behind c.requires.within c.put_bytes.ensures c.touch.ensures.touched c.touch.ensures.others
