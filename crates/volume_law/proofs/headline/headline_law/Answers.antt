use Rattle.std.proofs.Common.{sym, subst, ◌∙◌}
use Rattle.image_codec.specs.Blocks.{bytes_at}
use Rattle.close_area.specs.Shown.{AreShown}
use Rattle.pack_tables.proofs.Same.{law_holds}
use Rattle.volume_law.proofs.Standing.{held_again, files_again}
use Rattle.volume_law.proofs.headline.headline_law.Goals as goal

pub returns : goal.returns
returns g c = record {
  files = λ geometry other image image' closed found passes stands is shown front held.
      let M = g.M.Meta in let B = g.B.Block in
      let one = law_holds other geometry image' image (M.seen found.meta) (bytes_at B.content_of found.blocks.items)
      (record { front = front; tables = held.tables; nodes = held.nodes })
      (held_again M.seen M.may_leave B.address_of B.content_of geometry image closed found stands is).held in
      let same = one.2 ∙ files_again M.seen M.may_leave B.address_of B.content_of geometry image closed found stands is in
      subst (λ list. AreShown list passes) (sym same) shown;
}
