use Rattle.std.proofs.Common.{List, Option, Bool, ap, sym, ◌∙◌, subst, length, replicate, true, false}
use Rattle.std.proofs.lemmas.List.{length-replicate}
use Rattle.geometry.specs.declared.owner.Owner.{Owner}
use Rattle.geometry.specs.declared.state.State.TheVariants.{Free}
use Rattle.geometry.specs.Shape.{segment_blocks, block_bytes}
use Rattle.geometry.specs.Address.{address_of}
use Rattle.sit.specs.Segment.{SegmentLaw}
use Rattle.sit.specs.Thread.{Thread}
use Rattle.sit.proofs.Homes.{home_of}
use Rattle.sit.proofs.Laws.{fresh-law}
use Rattle.sit.proofs.room.EmptySegment.fill_body.Goals as goal

pub invariant_of-result : goal.invariant_of-result
invariant_of-result g c =
    let r = c.self.inside in
    let n = segment_blocks r.shape in
    let home = c.fill_from.ensures.home ∙ ap (λ h. home_of h.first h.block_bytes (replicate (length h.present) true) c.fill_from.new.self.contents c.fill_from.new.self.failed) c.self.invariant.home_is
    ∙ ap (λ k. home_of (address_of r.shape r.number 0) (block_bytes r.shape) (replicate k true) c.fill_from.new.self.contents c.fill_from.new.self.failed) (length-replicate {A = Bool} n false) in
    subst (λ (p : List (Option Owner) × Thread). SegmentLaw (record { shape = r.shape; number = r.number; state = Free; summaries = p.0; mtime = 0; next = 0; contents = c.fill_from.new.self.contents; failed = c.fill_from.new.self.failed; thread = p.1 }) c.fill_from.new.self)
    (λ k. (sym c.self.invariant.unmarked k, sym c.self.invariant.unthreaded k)) (fresh-law r.shape r.number c.fill_from.new.self.failed c.fill_from.new.self.contents c.fill_from.new.self home)
