-- The audit and the two shows change nothing of what is held, so the image that is taken after them is one of the area
-- as it was at the call.
use Rattle.std.proofs.Common.{◌≡◌, List, length, map, ap, sym, ◌∙◌, subst}
use Rattle.std.specs.Prelude.{AllPairs}
use Rattle.rights_books.specs.ClaimRules.{Ruled}
use Rattle.rights_books.specs.declared.claim.Layout.{Layout}
use Rattle.geometry.specs.declared.geometry.Geometry.{Geometry}
use Rattle.image.specs.Pack.{body_bytes}
use Rattle.checkpoint_image.specs.Cells.{OpenApart, parts_of}
use Rattle.checkpoint_image.specs.Touched.{AreTouched}
use Rattle.checkpoint_image.proofs.Joining.{if_ok}
use Rattle.checkpoint_sync.specs.LocksHeld.{AreaView, LogView, held_cells, open_in}
use Rattle.checkpoint_sync.proofs.LockLaws.{cells_law, segments_of, shards_of, segment_parts_of, shard_parts_of, law_back, parts_on, image_on, faithful_on, in_range, has_trees}
use Rattle.checkpoint_sync.proofs.locked_area.HeldArea.take_image.Given as given
use Rattle.checkpoint_sync.proofs.locked_area.HeldArea.take_image.Goals as goal

pub take_audited-requires-clause-segments : goal.take_audited-requires-clause-segments
take_audited-requires-clause-segments g c =
    segments_of g.V.Numbers.GeometryName.geometry g.V.Books.BooksName.books.book g.V.Words.WordsName.words c.args.books.now.book c.show_open.new.segments.items c.self.inside.segments.items
    c.show_open.ensures.segments (ap (λ (b : Ruled Layout). b.book) c.requires.books) c.self.invariant.segments_are

pub take_audited-requires-clause-shards : goal.take_audited-requires-clause-shards
take_audited-requires-clause-shards g c =
    shards_of g.V.Books.BooksName.books.book c.args.books.now.book g.V.Numbers.GeometryName.geometry.nodes c.self.inside.shards.items (ap (λ (b : Ruled Layout). b.book) c.requires.books) c.self.invariant.shards_are

pub take_audited-requires-clause-segment_parts : goal.take_audited-requires-clause-segment_parts
take_audited-requires-clause-segment_parts g c =
    segment_parts_of g.V.Books.BooksName.rows c.args.kept.now.rows c.show_open.new.segments.items c.self.inside.segments.items c.show_open.ensures.segments c.requires.kept.1 c.self.invariant.segment_parts

pub take_audited-requires-clause-shard_parts : goal.take_audited-requires-clause-shard_parts
take_audited-requires-clause-shard_parts g c =
    shard_parts_of g.V.Books.BooksName.rows c.args.kept.now.rows g.V.Numbers.GeometryName.geometry c.args.kept.now.geometry c.self.inside.shards.items c.requires.kept.1 c.requires.kept.0 c.self.invariant.shard_parts

pub take_audited-requires-clause-cells : goal.take_audited-requires-clause-cells
take_audited-requires-clause-cells g c =
    let geometry = g.V.Numbers.GeometryName.geometry in
    let filed = g.F.HoldsFile.shown in
    let files = c.args.files.now.items in
    let inside : AreaView = record { segments = c.self.inside.segments.items; shards = c.self.inside.shards.items; logs = c.self.inside.logs.items } in
    let shown : AreaView = record { segments = c.show_open.new.segments.items; shards = c.self.inside.shards.items; logs = c.show_apart.new.logs.items } in
    let same : shown ≡ inside = (λ i. record { segments = c.show_open.ensures.segments i; shards = c.self.inside.shards.items; logs = (c.show_apart.ensures.same ∙ c.show_open.ensures.logs) i }) in
    let apart = subst (λ (l : List LogView). AllPairs OpenApart (map open_in l)) c.show_open.ensures.logs c.show_apart.ensures.apart in
    let long = c.args.files.now.ok in
    let every : length files ≡ geometry.files = sym long.0 ∙ c.requires.every_file in
    law_back filed c.args.kept.now.geometry geometry shown inside files c.requires.kept.0 same
    (cells_law filed geometry g.V.Books.BooksName.books.book g.V.Books.BooksName.rows g.V.Words.WordsName.words inside files c.self.invariant c.show_open.ensures.open_there apart every c.requires.files)

-- what the audit was shown is what the area has
module _ (g : given.Over) (c : goal.After-take_audited g) where
  abbrev shown : AreaView
  shown = record { segments = c.show_open.new.segments.items; shards = c.self.inside.shards.items; logs = c.show_apart.new.logs.items }

  same : shown ≡ c.args.self.now
  same = (λ i. record { segments = c.show_open.ensures.segments i; shards = c.self.inside.shards.items; logs = (c.show_apart.ensures.same ∙ c.show_open.ensures.logs) i }) ∙ c.self.view_is

pub returns-clause-image : goal.returns-clause-image
returns-clause-image g c =
    image_on g.F.HoldsFile.shown c.args.kept.now.geometry g.V.Numbers.GeometryName.geometry (shown g c) c.args.self.now c.args.files.now.items c.requires.kept.0 (same g c) c.take_audited.result c.take_audited.ensures.image

pub returns-clause-faithful : goal.returns-clause-faithful
returns-clause-faithful g c =
    faithful_on g.F.HoldsFile.shown c.args.kept.now.geometry g.V.Numbers.GeometryName.geometry (shown g c) c.args.self.now c.args.files.now.items c.requires.kept.0 (same g c) c.take_audited.result c.take_audited.ensures.faithful

pub returns-clause-lawful : goal.returns-clause-lawful
returns-clause-lawful g c = if_ok c.take_audited.result (λ image is. is.lawful) (returns-clause-faithful g c)

pub returns-clause-touched : goal.returns-clause-touched
returns-clause-touched g c =
    subst (λ (geometry : Geometry). AreTouched (body_bytes geometry) c.args.kept.now.body c.take_audited.new.kept.body) c.requires.kept.0 c.take_audited.ensures.touched

pub returns-clause-in_range : goal.returns-clause-in_range
returns-clause-in_range g c =
    in_range g.V.Numbers.GeometryName.geometry (parts_of (held_cells g.F.HoldsFile.shown c.args.self.now c.args.files.now.items)) c.take_audited.result (returns-clause-faithful g c)

pub returns-clause-trees : goal.returns-clause-trees
returns-clause-trees g c =
    let parts = parts_on g.F.HoldsFile.shown c.args.kept.now.geometry g.V.Numbers.GeometryName.geometry (shown g c) c.args.self.now c.args.files.now.items c.requires.kept.0 (same g c) c.take_audited.ensures.parts in
    has_trees g.F.HoldsFile.shown g.V.Numbers.GeometryName.geometry c.args.self.now c.args.files.now.items c.take_audited.result parts (returns-clause-image g c)
