use Rattle.std.proofs.Common.{◌∙◌, ap, subst, sym, length}
use Rattle.device.specs.Outcomes.{Outcome, seen_is_outcome}
use Rattle.device.specs.declared.memory.meta.MemMeta.{MemMeta}
use Rattle.image.specs.Slots.{version_of}
use Rattle.image.specs.View.{image_view}
use Rattle.pack_tables.specs.Grammar.{SpellsTables}
use Rattle.pack_tables.specs.Holding.{HoldsTables}
use Rattle.image_reading.proofs.Written.{body_long, first_version, tables_there}
use Rattle.image_reading.proofs.area.new_area.Goals as goal

pub begin-requires-clause-len : goal.begin-requires-clause-len
begin-requires-clause-len c =
    let image = image_view c.args.image.now in
    let spelled = c.in_ok-body.ensures.spelled image.nodes c.requires.range in
    ap length c.as_slice.ensures.value ∙ body_long c.args.geometry.now image c.in_ok-body.body.items spelled

pub begin-requires-clause-first : goal.begin-requires-clause-first
begin-requires-clause-first c =
    let image = image_view c.args.image.now in
    let spelled = c.in_ok-body.ensures.spelled image.nodes c.requires.range in
    ap version_of c.as_slice.ensures.value ∙ first_version c.args.geometry.now image c.in_ok-body.body.items spelled c.requires.first

pub returns-in-Ok-clause-tables : goal.returns-in-Ok-clause-tables
returns-in-Ok-clause-tables c =
    let geometry = c.args.geometry.now in
    let image = image_view c.args.image.now in
    let spelled = subst (λ body. SpellsTables geometry body image) (sym c.as_slice.ensures.value) (c.in_ok-body.ensures.spelled image.nodes c.requires.range) in
    let numbers = rw c.in-Ok.packs-is at c.in-Ok.ensures.geometry in
    let settled = rw c.in-Ok.packs-is at c.in-Ok.ensures.settled in
    let packs = c.in-Ok.packs in
    subst (HoldsTables geometry image) (sym c.into_bytes.ensures)
    (tables_there (λ (meta : MemMeta). meta.bytes.items) (λ (meta : MemMeta) c. Outcome meta.calls.items meta.bytes.items c) geometry image packs c.as_slice.result.now numbers spelled settled
    (seen_is_outcome packs.meta.calls.items packs.meta.bytes.items))
