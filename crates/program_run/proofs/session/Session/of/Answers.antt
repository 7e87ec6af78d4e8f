use Rattle.std.proofs.Common.{◌≡◌, ◌∙◌, ap, subst, arith, refl}
use Rattle.geometry.specs.Shape.{block_bytes}
use Rattle.geometry.specs.declared.geometry.Geometry.{Geometry}
use Rattle.program_run.specs.Files.{StandInPlace}
use Rattle.program_run.proofs.session.Session.of.Goals as goal

pub invariant_of-result : goal.invariant_of-result
invariant_of-result g c =
    let files = ap (λ (x : Geometry). x.files) c.geometry-geometry.ensures in (
      subst (λ n. StandInPlace n c.in_ok-passes.passes.items) files c.in_ok-passes.ensures.placed,
      omega (arith, c.in_ok-block.block.ok.0, c.in_ok-block.ensures.len, c.block_bytes.ensures, ap (λ (x : Geometry). block_bytes x.shape) c.geometry-geometry.ensures),
    )

pub returns-clause-lends : goal.returns-clause-lends
returns-clause-lends g c =
    let files = ap (λ (x : Geometry). x.files) c.geometry-geometry.ensures in record {
      numbers = refl;
      placed = subst (λ n. StandInPlace n c.in_ok-passes.passes.items) files c.in_ok-passes.ensures.placed;
      time_is = refl;
      passes_are = c.in_ok-passes.ensures.passes ∙ c.split-seats.ensures.passes;
      readers_are = c.split-seats.ensures.readers;
    }
