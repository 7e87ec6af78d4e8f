use Rattle.image.specs.View.{image_view}
use Rattle.program_run.proofs.check.tell_image.Goals as goal

pub returns-in_ok-tell_numbers-in-Ok-clause-lawful : goal.returns-in_ok-tell_numbers-in-Ok-clause-lawful
returns-in_ok-tell_numbers-in-Ok-clause-lawful g c = λ done. record {
  geometry = c.in-Ok.geometry;
  image = image_view c.in-Ok.image;
  held = record {
    superblock = c.in-Ok.ensures.geometry;
    held = c.in-Ok.ensures.held;
    lawful = c.in-Ok.ensures.lawful;
  };
  told = rw (← c.free-free.ensures) c.in_ok-tell_numbers-in-Ok.ensures;
}
