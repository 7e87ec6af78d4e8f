use Rattle.std.proofs.Common.{◌∙◌, ◌++◌, take, ap, arith}
use Rattle.std.proofs.lemmas.List.{take_all}
use Rattle.geometry.specs.Shape.{block_bytes}
use Rattle.image.specs.View.{image_view}
use Rattle.image_reading.specs.Content.{all_bytes}
use Rattle.image_reading.specs.Held.{file_in}
use Rattle.named_reading.proofs.volume.all_blocks.Goals as goal

pub returns-in-Ok-clause-all : goal.returns-in-Ok-clause-all
returns-in-Ok-clause-all g c = λ bytes shown.
    let geometry = c.args.geometry.now in
    let all = all_bytes (block_bytes geometry.shape) (file_in geometry (image_view c.args.image.now) bytes c.args.number) in
    let few = c.in-Ok.ensures.length bytes shown in
    c.in-Ok.ensures.handed bytes shown
    ∙ ap (λ xs. xs ++ take 18446744073709551615 all) c.new-all.ensures.items
    ∙ take_all 18446744073709551615 all (omega (arith, few))
