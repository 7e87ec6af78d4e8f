use Rattle.std.proofs.Common.{◌≡◌, refl, sym, ◌∙◌, ap, take, arith}
use Rattle.std.proofs.lemmas.List.{take-take}
use Rattle.std.proofs.lemmas.Bool.Decides.{Decides-eqb}
use Rattle.std.proofs.lemmas.Slice.Eq.{slice_eq-Decides}
use Rattle.image.specs.Pack.{superblock}
use Rattle.std.proofs.lemmas.Result.{err_from_is_err_and}
use Rattle.pack_tables.proofs.SuperLemmas.{too_short, not_super, head_super, front_numbers, numbers_same}
use Rattle.pack_tables.proofs.superblock.read_super.Goals as goal

pub returns-then-bytes-lt-SUPER_BYTES-clause-err : goal.returns-then-bytes-lt-SUPER_BYTES-clause-err
returns-then-bytes-lt-SUPER_BYTES-clause-err c = (refl, λ geometry. too_short geometry c.args.bytes.now c.if-bytes-lt-SUPER_BYTES.true)

pub returns-in_err-geometry-clause-err : goal.returns-in_err-geometry-clause-err
returns-in_err-geometry-clause-err c =
    let p = err_from_is_err_and c.from_residual.result c.from_residual.ensures.1 in
    let e = c.in_err-geometry.ensures.err in
    rw (p.1, p.2) (e.0, not_super c.args.bytes.now e.1)

pub returns-then-eq-clause-ok : goal.returns-then-eq-clause-ok
returns-then-eq-clause-ok c =
    let same = (slice_eq-Decides Decides-eqb (take 32 (take 64 c.args.bytes.now)) (take 32 c.write_super.new.out) c.eq.result c.eq.ensures).0 c.if-eq.true in
    (omega (arith, c.if-bytes-lt-SUPER_BYTES.false), sym (take-take 32 64 c.args.bytes.now (omega arith)) ∙ same ∙ ap (take 32) c.write_super.ensures)

pub returns-else-eq-clause-err : goal.returns-else-eq-clause-err
returns-else-eq-clause-err c = (
  refl,
  λ geometry has.
      let head = take 64 c.args.bytes.now in
      let at = head_super geometry c.args.bytes.now has in
      let one : superblock geometry ≡ superblock c.in_ok-geometry.geometry = numbers_same geometry c.in_ok-geometry.geometry head (front_numbers geometry head at) c.in_ok-geometry.ensures.ok in
      let same : take 32 head ≡ take 32 c.write_super.new.out = at.1 ∙ ap (take 32) (one ∙ sym c.write_super.ensures) in
      let found = (slice_eq-Decides Decides-eqb (take 32 head) (take 32 c.write_super.new.out) c.eq.result c.eq.ensures).1 same in
      let not_found = c.if-eq.false in
      absurd cc,
)
