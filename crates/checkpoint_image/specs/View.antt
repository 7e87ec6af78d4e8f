-- An image that was taken, as the definitions see it.
use Rattle.image.specs.Image.{Image}
use Rattle.checkpoint_image.specs.Rows.{with_rows}
use Rattle.checkpoint_image.specs.declared.taken_image.TakenImage.{TakenImage}

-- its tables, with the rows that are not in memory
abbrev pub taken_view : TakenImage → Image
taken_view t = with_rows t.tables t.rows.rows
