use Rattle.std.proofs.Common.{◌≡◌, List, ℕ, length, inr, refl, subst}
use Rattle.device.specs.Parts.{IsBlockRun}
use Rattle.geometry.specs.Area.{block_count, meta_bytes}
use Rattle.geometry.specs.Shape.{block_bytes}
use Rattle.mount_reading.proofs.open.read_geometry.Goals as goal

pub returns-else-branch-clause-errors : goal.returns-else-branch-clause-errors
returns-else-branch-clause-errors g c =
    let geometry = c.in_ok-geometry.geometry in
    let blocks = c.args.blocks.now.items in
    inr (inr (
      refl,
      (
        geometry,
        c.in_ok-geometry.ensures.front,
        subst (λ (l : List ℕ). ¬ ((length l ≡ meta_bytes geometry) × (length blocks ≡ block_count geometry) × IsBlockRun g.B.Block.address_of g.B.Block.content_of (block_bytes geometry.shape) 1 blocks)) c.in_ok-geometry.ensures.quiet.same (c.in_ok-have_size.ensures.no c.if-branch.false),
      ),
    ))
