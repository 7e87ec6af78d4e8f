use Rattle.std.proofs.Common.{◌≡◌, ◌∷◌, ◌∙◌, ℕ, List, length, ap, rules, subst}
use Rattle.device.specs.Disk.{part}
use Rattle.image_reading.specs.Told.{HaveLengths, HaveParts}
use Rattle.image_reading.proofs.Telling.{on_ok, part_read, parts_before}
use Rattle.image_reading.proofs.source.FileSourceImageSource.read_at.Goals as goal

pub returns-clause-read : goal.returns-clause-read
returns-clause-read c =
    let old = c.args.self.now in
    let new = c.ask_part.new.self in
    let out = c.ask_part.new.out in
    on_ok c.ask_part.result (new.reads.items ≡ (c.args.at, record { items = out }) ∷ old.reads.items)
    ((bytes : List ℕ) → HaveParts new.reads.items bytes × HaveLengths new.sizes.items bytes → out ≡ part c.args.at (length c.args.out.now) bytes)
    (λ read bytes shown. part_read c.args.at out new.reads.items old.reads.items bytes read shown.0 ∙ ap (λ n. part c.args.at n bytes) (search rules))
    c.ask_part.ensures.read

pub returns-clause-kept : goal.returns-clause-kept
returns-clause-kept c = λ bytes shown.
    let old = c.args.self.now in
    let new = c.ask_part.new.self in (
      parts_before c.args.at c.ask_part.new.out new.reads.items old.reads.items bytes c.ask_part.result c.ask_part.ensures.read c.ask_part.ensures.failed shown.0,
      subst (λ xs. HaveLengths xs bytes) c.ask_part.ensures.sizes shown.1,
    )
