-- Each step reads what the parts hold and leaves their blocks and superblock: so what was found in the end is theirs,
-- and a refusal at any step names their fault and hands them back.
use Rattle.std.proofs.Common.{◌≡◌, ⊎_elim, ℕ, List, Some, None, inl, inr, sym, ap, subst, ◌∙◌, arith}
use Rattle.device.specs.Parts.{IsBlockRun}
use Rattle.geometry.specs.declared.geometry.Geometry.{Geometry}
use Rattle.geometry.specs.Area.{block_count}
use Rattle.geometry.specs.Shape.{block_bytes}
use Rattle.image.specs.Reading.{read_nodes}
use Rattle.image.specs.Rules.{IsLawful}
use Rattle.image.specs.View.{image_view}
use Rattle.packs.specs.Area.{reading_of}
use Rattle.packs.specs.Device.{IsSameArea}
use Rattle.packs.specs.Pack.{picked}
use Rattle.checkpoint.specs.Holding.{counting_body}
use Rattle.checkpoint.proofs.Bodies.{settled_holds}
use Rattle.device.specs.Disk.{Leaves}
use Rattle.pack_tables.specs.Grammar.{SpellsTables}
use Rattle.pack_tables.specs.Holding.{HoldsTables}
use Rattle.image_codec.specs.Blocks.{AreBlocks, bytes_at}
use Rattle.mount_reading.specs.Held.{HoldsImage, IsBodyRefusal, KeepsBetween}
use Rattle.mount_reading.proofs.Moments.{kept_same, kept_picked, between_quiet, between_opened, between_read}
use Rattle.mount_reading.proofs.Blocks.{run_kept, count_kept, addresses_same, bytes_same}
use Rattle.mount_reading.proofs.Opened.{size_of, geometry_refused, open_refused, body_refused, version_there}
use Rattle.mount_reading.proofs.open.open_device.Goals as goal

pub returns-in-Err-clause-refused : goal.returns-in-Err-clause-refused
returns-in-Err-clause-refused g c =
    geometry_refused g.M.Meta.seen g.B.Block.address_of g.B.Block.content_of c.args.parts c.in-Err.error c.in-Err.ensures.errors

pub returns-in-Err-open-clause-refused : goal.returns-in-Err-open-clause-refused
returns-in-Err-open-clause-refused g c =
    let seen = g.M.Meta.seen in
    let address = g.B.Block.address_of in
    let content = g.B.Block.content_of in
    let geometry = c.in-Ok.geometry in
    let all = c.in-Ok.ensures in
    let size = size_of seen address content c.args.parts geometry all.size in
    let refused = rw c.in-Err-open.error-is at c.in-Err-open.ensures.errors in
    let none = rw c.in-Err-open.error-is at c.in-Err-open.ensures.no_pack in
    open_refused seen address content c.args.parts geometry all.front size c.in-Err-open.error refused
    (λ is. subst (λ l. picked (reading_of geometry) l ≡ None) all.quiet.same (none is))

pub read_image-requires-clause-run : goal.read_image-requires-clause-run
read_image-requires-clause-run g c =
    let address = g.B.Block.address_of in
    let content = g.B.Block.content_of in
    let geometry = c.in-Ok.geometry in
    let all = c.in-Ok.ensures in
    let opened = rw c.in-Ok-open.packs-is at c.in-Ok-open.ensures.geometry in
    subst (λ (x : Geometry). IsBlockRun address content (block_bytes x.shape) 1 c.read_geometry.new.blocks.items) (sym opened)
    (run_kept address content (block_bytes geometry.shape) c.args.parts.blocks.items c.read_geometry.new.blocks.items all.size.2 all.addresses all.contents)

pub read_image-requires-clause-count : goal.read_image-requires-clause-count
read_image-requires-clause-count g c =
    let all = c.in-Ok.ensures in
    let opened = rw c.in-Ok-open.packs-is at c.in-Ok-open.ensures.geometry in
    count_kept g.B.Block.address_of g.B.Block.content_of c.args.parts.blocks.items c.read_geometry.new.blocks.items all.contents
    ∙ (all.size.1 ∙ sym (ap block_count opened))

pub returns-in-Ok-read_image-clause-image : goal.returns-in-Ok-read_image-clause-image
returns-in-Ok-read_image-clause-image g c =
    let seen = g.M.Meta.seen in
    let content = g.B.Block.content_of in
    let geometry = c.in-Ok.geometry in
    let all = c.in-Ok.ensures in
    let read = c.in-Ok-read_image.ensures in
    let image = image_view c.in-Ok-read_image.image in
    let packs = c.in-Ok-open.packs in
    let opened = rw c.in-Ok-open.packs-is at c.in-Ok-open.ensures.geometry in
    let found = rw c.in-Ok-open.packs-is at c.in-Ok-open.ensures.picked in
    let body = counting_body seen packs in
    let picks : picked (reading_of geometry) (seen c.args.parts.meta) ≡ Some body = subst (λ l. picked (reading_of geometry) l ≡ Some body) all.quiet.same found in
    let spelled : SpellsTables geometry body image = subst (λ (x : Geometry). SpellsTables x body image) opened read.tables in
    let bytes = bytes_same g.B.Block.address_of content c.args.parts.blocks.items c.read_geometry.new.blocks.items all.contents in
    let nodes : image.nodes ≡ read_nodes geometry.shape (bytes_at content c.args.parts.blocks.items) image.node_table
    = read.nodes ∙ (ap (λ (x : Geometry). read_nodes x.shape (bytes_at content c.read_geometry.new.blocks.items) image.node_table) opened ∙ ap (λ (b : ℕ → List ℕ). read_nodes geometry.shape b image.node_table) bytes) in
    subst (λ (x : Geometry). HoldsImage seen content x c.args.parts image) (sym (read.same.0 ∙ opened))
    (record { tables = record { body = body; picked = picks; spelled = spelled }; nodes = nodes })

pub returns-in-Ok-read_image-clause-lawful : goal.returns-in-Ok-read_image-clause-lawful
returns-in-Ok-read_image-clause-lawful g c =
    let read = c.in-Ok-read_image.ensures in
    subst (λ (x : Geometry). IsLawful x (image_view c.in-Ok-read_image.image)) (sym read.same.0) read.lawful

pub returns-in-Ok-read_image-clause-version : goal.returns-in-Ok-read_image-clause-version
returns-in-Ok-read_image-clause-version g c =
    let read = c.in-Ok-read_image.ensures in
    let packs = c.in-Ok-open.packs in
    let whole = rw c.in-Ok-open.packs-is at c.in-Ok-open.ensures.whole in
    version_there packs.geometry (counting_body g.M.Meta.seen packs) (image_view c.in-Ok-read_image.image) read.tables ∙ (sym whole.settled.version ∙ sym read.same.1)

pub returns-in-Ok-read_image-clause-some_version : goal.returns-in-Ok-read_image-clause-some_version
returns-in-Ok-read_image-clause-some_version g c =
    let some = (c.in-Ok-read_image.ensures.lawful 1 (omega arith) (omega arith)).version in omega arith

pub returns-in-Ok-read_image-clause-blocks : goal.returns-in-Ok-read_image-clause-blocks
returns-in-Ok-read_image-clause-blocks g c =
    let content = g.B.Block.content_of in
    let all = c.in-Ok.ensures in
    let read = c.in-Ok-read_image.ensures in
    let image = image_view c.in-Ok-read_image.image in
    let bytes = bytes_same g.B.Block.address_of content c.args.parts.blocks.items c.read_geometry.new.blocks.items all.contents in
    subst (λ (b : ℕ → List ℕ). AreBlocks c.read_image.new.packs.geometry image b) bytes
    (subst (λ (x : Geometry). AreBlocks x image (bytes_at content c.read_geometry.new.blocks.items)) (sym read.same.0) read.blocks)

pub returns-in-Err-read_image-clause-refused : goal.returns-in-Err-read_image-clause-refused
returns-in-Err-read_image-clause-refused g c =
    let seen = g.M.Meta.seen in
    let address = g.B.Block.address_of in
    let content = g.B.Block.content_of in
    let geometry = c.in-Ok.geometry in
    let all = c.in-Ok.ensures in
    let packs = c.in-Ok-open.packs in
    let opened = rw c.in-Ok-open.packs-is at c.in-Ok-open.ensures.geometry in
    let found = rw c.in-Ok-open.packs-is at c.in-Ok-open.ensures.picked in
    let body = counting_body seen packs in
    let picks : picked (reading_of geometry) (seen c.args.parts.meta) ≡ Some body = subst (λ l. picked (reading_of geometry) l ≡ Some body) all.quiet.same found in
    let bytes = bytes_same address content c.args.parts.blocks.items c.read_geometry.new.blocks.items all.contents in
    let refused : IsBodyRefusal geometry body (bytes_at content c.args.parts.blocks.items) c.in-Err-read_image.error
    = subst (λ (b : ℕ → List ℕ). IsBodyRefusal geometry body b c.in-Err-read_image.error) bytes
    (subst (λ (x : Geometry). IsBodyRefusal x body (bytes_at content c.read_geometry.new.blocks.items) c.in-Err-read_image.error) opened c.in-Err-read_image.ensures.refused) in
    body_refused seen address content c.args.parts geometry all.front (size_of seen address content c.args.parts geometry all.size) body picks c.in-Err-read_image.error refused

pub returns-in-Err-read_image-clause-device : goal.returns-in-Err-read_image-clause-device
returns-in-Err-read_image-clause-device g c =
    let failed = g.M.Meta.failed in
    let all = c.in-Ok.ensures in
    let first = all.failures.0 in
    let many = all.failures.1 in
    let second = rw c.in-Ok-open.packs-is at c.in-Ok-open.ensures.failures in
    let last = ap failed c.into_meta-meta.ensures in
    λ is. (elim (c.in-Err-read_image.ensures.device is) [
      | inl rose ↦ inl (omega arith)
      | inr rose ↦ inr (omega arith)
    ])

pub returns-in-Err-read_image-clause-back : goal.returns-in-Err-read_image-clause-back
returns-in-Err-read_image-clause-back g c =
    let seen = g.M.Meta.seen in
    let address = g.B.Block.address_of in
    let content = g.B.Block.content_of in
    let all = c.in-Ok.ensures in
    let read = c.in-Err-read_image.ensures in
    let first = rw c.in-Ok-open.packs-is at c.in-Ok-open.ensures.same in
    let now : seen c.into_meta-meta.result ≡ seen c.in-Ok-open.packs.area.meta = ap seen c.into_meta-meta.ensures ∙ read.quiet.same in
    record {
      area = subst (λ l. IsSameArea (seen c.args.parts.meta) l) (sym now) (subst (λ l. IsSameArea l (seen c.in-Ok-open.packs.area.meta)) all.quiet.same first);
      addresses = addresses_same address content _ _ c.read_geometry.new.blocks.items c.read_image.new.blocks.items
          (run_kept address content (block_bytes c.in-Ok.geometry.shape) c.args.parts.blocks.items c.read_geometry.new.blocks.items all.size.2 all.addresses all.contents) read.run read.contents ∙ all.addresses;
      contents = read.contents ∙ all.contents;
    }

pub returns-in-Err-clause-kept : goal.returns-in-Err-clause-kept
returns-in-Err-clause-kept g c = λ other. kept_same g.M.Meta.seen c.args.parts.meta c.read_geometry.new.meta c.in-Err.ensures.quiet.same

pub returns-in-Err-clause-any_moment_err : goal.returns-in-Err-clause-any_moment_err
returns-in-Err-clause-any_moment_err g c =
    between_quiet g.M.Meta.seen g.M.Meta.may_leave g.M.Meta.moment g.M.Meta.left_since g.met.M.Meta.only_now c.args.parts.meta c.read_geometry.new.meta c.in-Err.ensures.quiet

pub returns-in-Err-open-clause-kept : goal.returns-in-Err-open-clause-kept
returns-in-Err-open-clause-kept g c =
    let refused = rw c.in-Err-open.error-is at c.in-Err-open.ensures.errors in
    let still = rw (c.in-Err-open.error-is, c.in-Err-open.meta-is) at c.in-Err-open.ensures.untouched in
    λ other. kept_same g.M.Meta.seen c.args.parts.meta c.in-Err-open.meta (⊎_elim (λ none. still none ∙ c.in-Ok.ensures.quiet.same) (λ is. absurd (other is)) refused)

pub returns-in-Err-open-clause-any_moment_err : goal.returns-in-Err-open-clause-any_moment_err
returns-in-Err-open-clause-any_moment_err g c =
    let meta = g.M.Meta in
    let all = c.in-Ok.ensures in
    between_opened meta.seen meta.may_leave meta.moment meta.left_since g.met.M.Meta.only_now c.args.parts.meta c.read_geometry.new.meta c.in-Err-open.meta c.in-Ok.geometry all.front all.quiet
    (λ one next had. rw c.in-Err-open.meta-is at (c.in-Err-open.ensures.any_moment_err one next had))

pub returns-in-Ok-read_image-clause-held : goal.returns-in-Ok-read_image-clause-held
returns-in-Ok-read_image-clause-held g c =
    let meta = g.M.Meta in
    let packs = c.in-Ok-open.packs in
    let read = c.in-Ok-read_image.ensures in
    let image = image_view c.in-Ok-read_image.image in
    let whole = rw c.in-Ok-open.packs-is at c.in-Ok-open.ensures.whole in
    subst (λ (x : Geometry). Leaves meta.may_leave c.read_image.new.packs.area.meta (HoldsTables x image)) (sym read.same.0)
    (λ area left. settled_holds meta.seen meta.may_leave packs.geometry image packs.area (counting_body meta.seen packs) whole.size read.tables whole.settled area (read.quiet.fewer area left))

pub returns-in-Ok-read_image-clause-any_moment : goal.returns-in-Ok-read_image-clause-any_moment
returns-in-Ok-read_image-clause-any_moment g c =
    let meta = g.M.Meta in
    let all = c.in-Ok.ensures in
    let packs = c.in-Ok-open.packs in
    between_read meta.seen meta.may_leave meta.moment meta.left_since g.met.M.Meta.counts_now c.args.parts.meta packs.area.meta c.read_image.new.packs.area.meta
    (between_opened meta.seen meta.may_leave meta.moment meta.left_since g.met.M.Meta.only_now c.args.parts.meta c.read_geometry.new.meta packs.area.meta c.in-Ok.geometry all.front all.quiet
    (λ one next had. rw c.in-Ok-open.packs-is at (c.in-Ok-open.ensures.any_moment one next had)))
    c.in-Ok-read_image.ensures.quiet

pub returns-in-Err-read_image-clause-kept : goal.returns-in-Err-read_image-clause-kept
returns-in-Err-read_image-clause-kept g c =
    let seen = g.M.Meta.seen in
    let geometry = c.in-Ok.geometry in
    let all = c.in-Ok.ensures in
    let packs = c.in-Ok-open.packs in
    let opened = rw c.in-Ok-open.packs-is at c.in-Ok-open.ensures.geometry in
    let whole = rw c.in-Ok-open.packs-is at c.in-Ok-open.ensures.whole in
    let found = rw c.in-Ok-open.packs-is at c.in-Ok-open.ensures.picked in
    let picks : picked (reading_of geometry) (seen c.args.parts.meta) ≡ Some (counting_body seen packs) = subst (λ l. picked (reading_of geometry) l ≡ Some (counting_body seen packs)) all.quiet.same found in
    λ other. kept_picked seen g.M.Meta.may_leave g.met.M.Meta.seen_is_left c.args.parts.meta c.into_meta-meta.result geometry packs all.front opened whole picks (ap seen c.into_meta-meta.ensures ∙ c.in-Err-read_image.ensures.quiet.same)

pub returns-in-Err-read_image-clause-any_moment_err : goal.returns-in-Err-read_image-clause-any_moment_err
returns-in-Err-read_image-clause-any_moment_err g c =
    let meta = g.M.Meta in
    let all = c.in-Ok.ensures in
    let packs = c.in-Ok-open.packs in
    let now = c.read_image.new.packs.area.meta in
    subst (KeepsBetween meta.seen meta.may_leave meta.moment meta.left_since c.args.parts.meta) (sym c.into_meta-meta.ensures)
    (between_read meta.seen meta.may_leave meta.moment meta.left_since g.met.M.Meta.counts_now c.args.parts.meta packs.area.meta now
    (between_opened meta.seen meta.may_leave meta.moment meta.left_since g.met.M.Meta.only_now c.args.parts.meta c.read_geometry.new.meta packs.area.meta c.in-Ok.geometry all.front all.quiet
    (λ one next had. rw c.in-Ok-open.packs-is at (c.in-Ok-open.ensures.any_moment one next had)))
    c.in-Err-read_image.ensures.quiet)
