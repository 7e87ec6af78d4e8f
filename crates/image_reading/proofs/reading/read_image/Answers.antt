-- Later reads narrow what is shown, so what each step told of the bytes holds of those that are shown in the end.
use Rattle.std.proofs.Common.{◌≡◌, ◌∙◌, ap, map}
use Rattle.std.proofs.lemmas.Result.{err_from_is_err_and}
use Rattle.image.specs.Reading.{read_nodes}
use Rattle.image.specs.View.{image_view, node_or_none}
use Rattle.image_reading.specs.Held.{area_in}
use Rattle.pack_tables.specs.File.{block_in}
use Rattle.image_reading.proofs.Refusing.{area_refused, if_refused, image_refused}
use Rattle.image_reading.proofs.Tables.{held_with, holds}
use Rattle.image_reading.proofs.reading.read_image.Goals as goal

pub returns-clause-held : goal.returns-clause-held
returns-clause-held g c = λ bytes shown.
    let geometry = c.in_ok-geometry.geometry in
    let before_nodes = c.in_ok-image-2.ensures.kept bytes shown in
    let before_tables = c.in_ok-image.ensures.kept bytes before_nodes in
    let size = c.in_ok-size.ensures.told bytes (c.in_ok-geometry.ensures.kept bytes before_tables) in
    let long = size ∙ c.in_ok-geometry.ensures.size in
    holds geometry (image_view c.in_ok-image.image) (map node_or_none c.in_ok-image-2.field-0.items) bytes long
    (c.in_ok-geometry.ensures.front bytes before_tables size)
    (c.in_ok-image.ensures.tables bytes before_nodes)
    (c.in_ok-image-2.ensures.nodes bytes shown long ∙ ap (read_nodes geometry.shape (block_in geometry bytes)) c.deref.ensures.value)
    c.in_ok-check.ensures

pub returns-in_err-image-clause-refused : goal.returns-in_err-image-clause-refused
returns-in_err-image-clause-refused g c =
    let geometry = c.in_ok-geometry.geometry in
    let p = err_from_is_err_and c.from_residual-in_err-image.result c.from_residual-in_err-image.ensures.1 in
    rw (p.1, p.2) (
    if_refused c.in_err-image.field-0.0 _ _
    (λ e refused bytes shown.
    let before_tables = c.in_err-image.ensures.kept bytes shown in
    let size = c.in_ok-size.ensures.told bytes (c.in_ok-geometry.ensures.kept bytes before_tables) in
    area_refused bytes geometry (c.in_ok-geometry.ensures.front bytes before_tables size) (size ∙ c.in_ok-geometry.ensures.size) e (refused bytes shown))
    c.in_err-image.ensures.refused
    )

pub returns-in_err-check-clause-refused : goal.returns-in_err-check-clause-refused
returns-in_err-check-clause-refused g c =
    let geometry = c.in_ok-geometry.geometry in
    let tables = image_view c.in_ok-image.image in
    let nodes = map node_or_none c.in_ok-image-2.field-0.items in
    let p = err_from_is_err_and c.from_residual-in_err-check.result c.from_residual-in_err-check.ensures.1 in
    rw (p.1, p.2) (λ bytes shown.
    let before_nodes = c.in_ok-image-2.ensures.kept bytes shown in
    let before_tables = c.in_ok-image.ensures.kept bytes before_nodes in
    let size = c.in_ok-size.ensures.told bytes (c.in_ok-geometry.ensures.kept bytes before_tables) in
    let long = size ∙ c.in_ok-geometry.ensures.size in
    let there : nodes ≡ read_nodes geometry.shape (block_in geometry bytes) tables.node_table
    = c.in_ok-image-2.ensures.nodes bytes shown long ∙ ap (read_nodes geometry.shape (block_in geometry bytes)) c.deref.ensures.value in
    image_refused bytes geometry (c.in_ok-geometry.ensures.front bytes before_tables size) long (record tables { nodes = nodes })
    (held_with geometry (area_in geometry bytes) tables nodes (c.in_ok-image.ensures.tables bytes before_nodes))
    there c.in_err-check.field-0.0 c.in_err-check.ensures)
