use Rattle.std.proofs.Common.{refl}
use Rattle.image_codec.specs.Blocks.{bytes_at}
use Rattle.pack_tables.proofs.Same.{law_holds}
use Rattle.volume_law.proofs.Refusing.{refused_so}
use Rattle.volume_law.proofs.Standing.{held_again}
use Rattle.volume_law.proofs.mount_laws.mount_law.Goals as goal

pub returns-clause-at_once : goal.returns-clause-at_once
returns-clause-at_once g c geometry image left stands =
    record { area = g.met.M.Meta.seen_is_left left.meta; blocks = λ tables held address marked. refl; size = stands.size }

pub returns-clause-refused : goal.returns-clause-refused
returns-clause-refused g c geometry image left found error stands is why =
    let M = g.M.Meta in let B = g.B.Block in
    refused_so M.seen B.address_of B.content_of geometry image found (held_again M.seen M.may_leave B.address_of B.content_of geometry image left found stands is) error why

pub returns-clause-same : goal.returns-clause-same
returns-clause-same g c geometry other image image' left found stands is front held =
    let M = g.M.Meta in let B = g.B.Block in
    let one = law_holds other geometry image' image (M.seen found.meta) (bytes_at B.content_of found.blocks.items)
    (record { front = front; tables = held.tables; nodes = held.nodes })
    (held_again M.seen M.may_leave B.address_of B.content_of geometry image left found stands is).held in (one.0, one.1)
