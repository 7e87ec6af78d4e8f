use Rattle.image.specs.View.{image_view}
use Rattle.image_c.proofs.rusziveg_read_file.Goals as goal

pub returns-in-Ok-clause-length : goal.returns-in-Ok-clause-length
returns-in-Ok-clause-length c = λ done. record {
  geometry = c.in-Ok.geometry;
  image = image_view c.in-Ok.image;
  holds = record { front = c.in-Ok.ensures.geometry; held = c.in-Ok.ensures.held; lawful = c.in-Ok.ensures.lawful };
  length = c.length_of.ensures;
}
