use Rattle.std.proofs.Common.{rules, ◌≡◌, ◌∷◌, [], All, ap, map, sym, ◌∙◌, subst, ◌++◌, length}
use Rattle.std.proofs.lemmas.List.Elements.{All-append, All-nil, All-cons, All-tail}
use Rattle.std.specs.Arc.{arc_value}
use Rattle.std.specs.Vec.Iter.{into_iter_items}
use Rattle.device.specs.declared.memory.block.MemBlock.{MemBlock}
use Rattle.file_device.specs.declared.block.FileBlock.{FileBlock}
use Rattle.file_device.specs.Blocks.{content_of, place_of}
use Rattle.geometry.specs.Shape.{block_bytes}
use Rattle.file_device.specs.Place.{block_place}
use Rattle.file_device.proofs.Wrapped.{moved}
use Rattle.file_device.proofs.whole.wrap.Goals as goal

pub loop-block-preserved : goal.loop-block-preserved
loop-block-preserved g c =
    let made = c.in_ok-keep.field-0 in
    let at = c.loop-block in
    let rest = into_iter_items c.next.new.self in
    let left = into_iter_items at.block-iterator in
    let Stands = λ (b : FileBlock g.row.S.Denot). place_of b ≡ block_place c.args.geometry.now b.address in
    let kept = c.in_ok-keep.ensures in
    let here : Stands made = subst (λ geometry. place_of made ≡ block_place geometry made.address) c.in_ok-site.ensures kept.place in
    let Fits = λ (b : MemBlock). length (arc_value b.bytes).items ≡ block_bytes c.args.geometry.now.shape in (
      subst (λ all. map (λ (b : FileBlock g.row.S.Denot). b.address) all ++ map (λ (b : MemBlock). b.address) rest ≡ map (λ (b : MemBlock). b.address) c.args.device.parts.blocks.items) (sym c.push_reserved.ensures.items)
          (moved (λ (b : FileBlock g.row.S.Denot). b.address) (λ (b : MemBlock). b.address) at.kept.items made c.in-Some.block left rest _ kept.address c.in-Some.ensures.steps.0 at.invariant.0),
      subst (λ all. map (λ (b : FileBlock g.row.S.Denot). content_of b) all ++ map (λ (b : MemBlock). (arc_value b.bytes).items) rest ≡ map (λ (b : MemBlock). (arc_value b.bytes).items) c.args.device.parts.blocks.items) (sym c.push_reserved.ensures.items)
          (moved (λ (b : FileBlock g.row.S.Denot). content_of b) (λ (b : MemBlock). (arc_value b.bytes).items) at.kept.items made c.in-Some.block left rest _ kept.content c.in-Some.ensures.steps.0 at.invariant.1),
      search rules,
      subst (All Stands) (sym c.push_reserved.ensures.items)
          (All-append Stands at.kept.items (made ∷ []) at.invariant.3 (All-cons Stands made [] here (All-nil Stands))),
      All-tail Fits c.in-Some.block rest (subst (All Fits) c.in-Some.ensures.steps.0 at.invariant.4),
    )
