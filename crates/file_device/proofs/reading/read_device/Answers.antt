use Rattle.std.proofs.Common.{◌≡◌, ◌∙◌, ◌++◌, ℕ, List, ap, ap₂, subst, sym}
use Rattle.std.specs.Arc.{arc_value}
use Rattle.std.specs.List.{flat_map}
use Rattle.std.specs.Io.KnownBytes.{Consumes}
use Rattle.device.specs.declared.memory.block.MemBlock.{MemBlock}
use Rattle.device.specs.declared.parts.Parts.{Parts}
use Rattle.device.specs.declared.memory.meta.MemMeta.{MemMeta}
use Rattle.pack_tables.specs.Grammar.{HasSuper}
use Rattle.file_device.proofs.Consuming.{consumes_more}
use Rattle.file_device.proofs.reading.read_device.Goals as goal
use Rattle.file_device.proofs.reading.read_device.Given as given

meta_is : (g : given.Over) (c : goal.After-join g) → c.join.result.parts.meta.bytes.items ≡ c.in_ok-geometry.area.items
meta_is g c = ap (λ (p : Parts MemMeta MemBlock). p.meta.bytes.items) c.join.ensures ∙ c.new.ensures.bytes

pub returns-clause-front : goal.returns-clause-front
returns-clause-front g c = subst (HasSuper c.in_ok-geometry.geometry) (sym (meta_is g c)) c.in_ok-geometry.ensures.front

pub returns-clause-bytes : goal.returns-clause-bytes
returns-clause-bytes g c =
    let area = c.in_ok-geometry.area.items in
    let blocks_of = flat_map (λ (b : MemBlock). (arc_value b.bytes).items) c.in_ok-blocks.blocks.items in
    let read = g.R.Read.remaining c.args.input.now in
    let then = g.R.Read.remaining c.read_area.new.input in
    let last = g.R.Read.remaining c.read_blocks.new.input in
    let all : Consumes read last (area ++ blocks_of) = consumes_more read then last area blocks_of c.in_ok-geometry.ensures.bytes c.in_ok-blocks.ensures.read in
    subst (Consumes read last) (sym (ap₂ (λ (xs ys : List ℕ). xs ++ ys) (meta_is g c) (ap (λ (p : Parts MemMeta MemBlock). flat_map (λ (b : MemBlock). (arc_value b.bytes).items) p.blocks.items) c.join.ensures))) all
