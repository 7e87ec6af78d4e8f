use Rattle.std.proofs.Common.{◌≡◌, ◌∷◌, ℕ, List, length, subst}
use Rattle.image_reading.specs.Told.{HaveLengths, HaveParts}
use Rattle.image_reading.proofs.Telling.{if_ok, length_told, lengths_before}
use Rattle.image_reading.proofs.source.FileSourceImageSource.size.Goals as goal

pub returns-clause-told : goal.returns-clause-told
returns-clause-told c =
    let old = c.args.self.now in
    let new = c.ask_size.new.self in
    if_ok c.ask_size.result (λ size. new.sizes.items ≡ (size, tt) ∷ old.sizes.items)
    (λ size. (bytes : List ℕ) → HaveParts new.reads.items bytes × HaveLengths new.sizes.items bytes → length bytes ≡ size)
    (λ size told bytes shown. length_told new.sizes.items old.sizes.items bytes size told shown.1)
    c.ask_size.ensures.told

pub returns-clause-kept : goal.returns-clause-kept
returns-clause-kept c = λ bytes shown.
    let old = c.args.self.now in
    let new = c.ask_size.new.self in (
      subst (λ xs. HaveParts xs bytes) c.ask_size.ensures.reads shown.0,
      lengths_before new.sizes.items old.sizes.items bytes c.ask_size.result c.ask_size.ensures.told c.ask_size.ensures.failed shown.1,
    )
