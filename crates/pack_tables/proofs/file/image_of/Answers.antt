use Rattle.std.proofs.Common.{sym, ◌∙◌, map}
use Rattle.std.proofs.lemmas.Result.{err_from_is_err_and}
use Rattle.image.specs.View.{image_view, node_or_none}
use Rattle.packs.specs.Area.{reading_of}
use Rattle.pack_tables.proofs.PickLemmas.{slot_picked}
use Rattle.pack_tables.proofs.FileLemmas.{read_with, read_holds, check_refuses, slot_refused}
use Rattle.pack_tables.proofs.file.image_of.Goals as goal

pub returns-in_err-check-clause-refused : goal.returns-in_err-check-clause-refused
returns-in_err-check-clause-refused c =
    let tables = image_view c.in_ok-image.image in
    let nodes = map node_or_none c.in_ok-image-2.field-0.items in
    let read = read_with c.args.geometry.now c.args.file.now ((reading_of c.args.geometry.now).body c.in-Some.slot c.args.file.now) _ tables nodes
    (c.if-file-file_bytes.false ∙ c.file_bytes.ensures) (slot_picked c.args.geometry.now c.args.file.now c.in-Some.slot (sym c.in-Some.is ∙ c.picked_slot.ensures)) c.in_ok-image.ensures.tables c.in_ok-image-2.ensures c.deref.ensures.value in
    let p = err_from_is_err_and c.from_residual-in_err-check.result c.from_residual-in_err-check.ensures.1 in
    rw (p.1, p.2) (check_refuses c.args.geometry.now c.args.file.now ((reading_of c.args.geometry.now).body c.in-Some.slot c.args.file.now) tables (record tables { nodes = nodes }) c.in_err-check.field-0.0 read c.in_err-check.ensures)

pub returns-clause-held : goal.returns-clause-held
returns-clause-held c =
    let tables = image_view c.in_ok-image.image in
    let nodes = map node_or_none c.in_ok-image-2.field-0.items in
    let read = read_with c.args.geometry.now c.args.file.now ((reading_of c.args.geometry.now).body c.in-Some.slot c.args.file.now) _ tables nodes
    (c.if-file-file_bytes.false ∙ c.file_bytes.ensures) (slot_picked c.args.geometry.now c.args.file.now c.in-Some.slot (sym c.in-Some.is ∙ c.picked_slot.ensures)) c.in_ok-image.ensures.tables c.in_ok-image-2.ensures c.deref.ensures.value in
    read_holds c.args.geometry.now c.args.file.now ((reading_of c.args.geometry.now).body c.in-Some.slot c.args.file.now) tables (record tables { nodes = nodes }) read

pub returns-in_err-image-clause-refused : goal.returns-in_err-image-clause-refused
returns-in_err-image-clause-refused c =
    let p = err_from_is_err_and c.from_residual.result c.from_residual.ensures.1 in
    rw (p.1, p.2) (slot_refused c.args.geometry.now c.args.file.now ((reading_of c.args.geometry.now).body c.in-Some.slot c.args.file.now) c.in_err-image.field-0.0
    (c.if-file-file_bytes.false ∙ c.file_bytes.ensures) (slot_picked c.args.geometry.now c.args.file.now c.in-Some.slot (sym c.in-Some.is ∙ c.picked_slot.ensures)) c.in_err-image.ensures.refused)
