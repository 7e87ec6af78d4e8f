use Rattle.std.proofs.Common.{ap, ◌∙◌}
use Rattle.image.proofs.Emptiness.{no_files}
use Rattle.image.specs.Empty.{empty_image}
use Rattle.image.specs.Image.{Image}
use Rattle.image_codec.specs.Blocks.{bytes_at}
use Rattle.pack_tables.proofs.Same.{law_holds}
use Rattle.volume_law.proofs.Standing.{held_again}
use Rattle.volume_law.proofs.mount_laws.format_law.Goals as goal

pub returns-clause-numbers : goal.returns-clause-numbers
returns-clause-numbers g c geometry other image left found stands is front held =
    let M = g.M.Meta in let B = g.B.Block in
    let one = law_holds other geometry image (empty_image geometry) (M.seen found.meta) (bytes_at B.content_of found.blocks.items)
    (record { front = front; tables = held.tables; nodes = held.nodes })
    (held_again M.seen M.may_leave B.address_of B.content_of geometry (empty_image geometry) left found stands is).held in
    (one.0, ap (λ (i : Image). i.version) one.1, ap (λ (i : Image). i.total) one.1)

pub returns-clause-no_file : goal.returns-clause-no_file
returns-clause-no_file g c geometry other image left found stands is front held =
    let M = g.M.Meta in let B = g.B.Block in
    let bytes = bytes_at B.content_of found.blocks.items in
    let one = law_holds other geometry image (empty_image geometry) (M.seen found.meta) bytes
    (record { front = front; tables = held.tables; nodes = held.nodes })
    (held_again M.seen M.may_leave B.address_of B.content_of geometry (empty_image geometry) left found stands is).held in
    one.2 ∙ no_files geometry bytes
