use Rattle.std.proofs.Common.{◌≡◌, ◌++◌, drop, length, subst, arith}
use Rattle.std.proofs.lemmas.Result.{err_from_is_err_and}
use Rattle.std.specs.Io.KnownBytes.{Appends}
use Rattle.geometry.specs.Area.{meta_bytes}
use Rattle.geometry.specs.declared.geometry.Geometry.{Geometry}
use Rattle.image.specs.Rules.{IsLawful}
use Rattle.image.specs.View.{image_view}
use Rattle.pack_tables.specs.Grammar.{HasSuper}
use Rattle.pack_tables.specs.Holding.{HoldsTables}
use Rattle.image_reading.specs.Upgraded.{first, paged}
use Rattle.image_reading.proofs.Anew.{is_upgraded}
use Rattle.image_reading.proofs.Copying.{appends_more}
use Rattle.image_reading.proofs.RefusingUpgrade.{no_memory}
use Rattle.image_reading.proofs.upgrading.upgrade.Goals as goal

pub new_area-requires-clause-range : goal.new_area-requires-clause-range
new_area-requires-clause-range g c = c.in_ok-check.ensures 1 (omega arith) (omega arith)

pub returns-in_err-copy_blocks-clause-refused : goal.returns-in_err-copy_blocks-clause-refused
returns-in_err-copy_blocks-clause-refused g c =
    let p = err_from_is_err_and c.from_residual-in_err-copy_blocks.result c.from_residual-in_err-copy_blocks.ensures.1 in
    rw (p.1, p.2) (no_memory (paged c.args.geometry.now) (first (image_view c.args.image)) c.in_err-copy_blocks.field-0.0 c.in_err-copy_blocks.ensures.refused)

pub returns-clause-upgraded : goal.returns-clause-upgraded
returns-clause-upgraded g c = λ bytes shown holds.
    let geometry = c.args.geometry.now in
    let image = image_view c.args.image in
    let area = c.in_ok-area.area.items in
    let is = c.with_packing-made.ensures in
    let before = g.O.Write.contents c.args.out.now in
    let between = g.O.Write.contents c.write_all.new.self in
    let after = g.O.Write.contents c.copy_blocks.new.out in
    let rest = drop (meta_bytes geometry) bytes in (
      area ++ rest,
      appends_more before between after area rest (subst (Appends before between) c.as_slice.ensures.value c.in_default.ensures.bytes) (c.in_ok-copy_blocks.ensures.copied bytes shown holds.size),
      is_upgraded geometry area bytes (subst (λ (n : Geometry). length area ≡ meta_bytes n) is c.in_ok-area.ensures.long) image
          (subst (λ (n : Geometry). HasSuper n area) is c.in_ok-area.ensures.front)
          (subst (λ (n : Geometry). HoldsTables n (first image) area) is c.in_ok-area.ensures.tables)
          (subst (λ (n : Geometry). IsLawful n (first image)) is c.in_ok-check.ensures) holds,
    )
