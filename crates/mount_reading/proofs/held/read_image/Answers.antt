-- The tables are read off the pack and the nodes off the blocks, and the check tells the rest: what passes is lawful,
-- and a fault of what was read is one of pack and blocks.
use Rattle.std.proofs.Common.{◌≡◌, List, map, ap, subst, ◌∙◌}
use Rattle.std.proofs.lemmas.Result.{err_from_is_err_and}
use Rattle.image.specs.declared.image.Image.{Image as ImageValue}
use Rattle.geometry.specs.declared.geometry.Geometry.{Geometry}
use Rattle.image.specs.declared.image.NodeEntry.{NodeEntry}
use Rattle.image.specs.Faults.{IsRefusal}
use Rattle.image.specs.Image.{Image}
use Rattle.image.specs.Reading.{read_nodes}
use Rattle.image.specs.Rules.{IsLawful}
use Rattle.image.specs.View.{image_view, node_or_none}
use Rattle.checkpoint.specs.Holding.{counting_body}
use Rattle.checkpoint.specs.declared.image_packs.ImagePacks.{ImagePacks}
use Rattle.image_codec.specs.Blocks.{bytes_at}
use Rattle.image_codec.proofs.Unchanged.{AreSpelled}
use Rattle.mount_reading.proofs.Blocks.{are_blocks}
use Rattle.mount_reading.proofs.Opened.{spelled_with, check_refused}
use Rattle.mount_reading.proofs.held.read_image.Goals as goal

pub returns-in_err-check-clause-refused : goal.returns-in_err-check-clause-refused
returns-in_err-check-clause-refused g c =
    let geometry = c.args.packs.now.geometry in
    let body = counting_body g.M.Meta.seen c.args.packs.now in
    let tables = image_view c.in_ok-image.image in
    let nodes = map node_or_none c.in_ok-image-2.field-0.items in
    let image : Image = record tables { nodes = nodes } in
    let same : c.read.new.self.geometry ≡ geometry = ap (λ (p : ImagePacks g.row.M.Denot). p.geometry) c.read.ensures.same in
    let bytes = bytes_at g.B.Block.content_of c.args.blocks.now.items in
    let held = c.in_ok-image-2.ensures.nodes ∙ (ap (λ (x : Geometry). read_nodes x.shape bytes c.deref.result.now) same ∙ ap (read_nodes geometry.shape bytes) c.deref.ensures.value) in
    let refused = subst (λ (x : Geometry). IsRefusal x (image_view (record c.in_ok-image.image { nodes = c.in_ok-image-2.field-0 })) c.in_err-check.field-0.0) same c.in_err-check.ensures in
    let p = err_from_is_err_and c.from_residual-in_err-check.result c.from_residual-in_err-check.ensures.1 in
    rw (p.1, p.2) (check_refused geometry body bytes image c.in_err-check.field-0.0 (spelled_with geometry body tables nodes c.in_ok-image.ensures.tables) held refused)

pub returns-clause-blocks : goal.returns-clause-blocks
returns-clause-blocks g c =
    let geometry = c.args.packs.now.geometry in
    let image : ImageValue = record c.in_ok-image.image { nodes = c.in_ok-image-2.field-0 } in
    let content = g.B.Block.content_of in
    let blocks = c.args.blocks.now.items in
    let same : c.read.new.self.geometry ≡ geometry = ap (λ (p : ImagePacks g.row.M.Denot). p.geometry) c.read.ensures.same in
    let lawful : IsLawful geometry (image_view image) = subst (λ (x : Geometry). IsLawful x (image_view image)) same c.in_ok-check.ensures in
    let one : AreSpelled c.read.new.self.geometry.shape (bytes_at content blocks) image.nat.items image.nodes.items = subst (λ (l : List NodeEntry). AreSpelled c.read.new.self.geometry.shape (bytes_at content blocks) l image.nodes.items) c.deref.ensures.value c.in_ok-image-2.ensures.spelled in
    let spelled = subst (λ (x : Geometry). AreSpelled x.shape (bytes_at content blocks) image.nat.items image.nodes.items) same one in
    are_blocks g.B.Block.address_of content geometry image blocks lawful c.requires.run c.requires.count spelled
