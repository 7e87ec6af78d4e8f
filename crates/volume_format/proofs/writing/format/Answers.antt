use Rattle.std.proofs.Common.{◌∙◌}
use Rattle.image.proofs.Emptiness.{is_lawful}
use Rattle.image_codec.specs.Blocks.{bytes_at}
use Rattle.volume_format.proofs.Written.{no_nodes_read}
use Rattle.volume_format.proofs.writing.format.Goals as goal

pub returns-in-Ok-write_volume-clause-mountable : goal.returns-in-Ok-write_volume-clause-mountable
returns-in-Ok-write_volume-clause-mountable g c =
    let geometry = c.args.geometry in
    let size = c.requires.size in
    let written = c.in-Ok-write_volume.ensures in
    record {
      size = record { area = written.size ∙ size.area; count = size.count; run = size.run };
      front = written.front;
      tables = written.tables;
      nodes = no_nodes_read geometry (bytes_at g.B.Block.content_of c.args.parts.blocks.items);
      lawful = is_lawful geometry;
    }
