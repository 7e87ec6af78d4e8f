use Rattle.std.proofs.Common.{◌≡◌, true, refl, rules, arith}
use Rattle.geometry.specs.Shape.{block_bytes}
use Rattle.image.specs.View.{image_view}
use Rattle.image_reading.specs.Content.{all_bytes}
use Rattle.image_reading.specs.Held.{file_in}
use Rattle.image_reading.proofs.Handing.{all_handed}
use Rattle.named_reading.proofs.volume.OpenVolume.get_number.Goals as goal

pub returns-clause-got : goal.returns-clause-got
returns-clause-got g c = λ bytes shown.
    let geometry = c.args.self.now.geometry in
    let file = file_in geometry (image_view c.args.self.now.image) bytes c.args.number in
    let all = all_bytes (block_bytes geometry.shape) file in
    let there : c.has.result ≡ true = search rules in (
      all,
      record { file = file; there = c.has.ensures there bytes; content = refl },
      all_handed (g.O.Write.contents c.args.out.now) (g.O.Write.contents c.hand_out.new.out) 18446744073709551615 all (c.in_ok-hand_out.ensures.length bytes shown) (omega arith) (c.in_ok-hand_out.ensures.handed bytes shown),
    )
