-- Each turn lays a part behind those before it.
use Rattle.std.proofs.Common.{◌≡◌, ◌∙◌, ◌+◌, ◌-◌, ◌*◌, ◌<◌, ◌≤◌, ℕ, List, length, take, drop, ap, sym, subst, rules, arith}
use Rattle.std.proofs.lemmas.List.{length-take-le}
use Rattle.geometry.specs.File.{File}
use Rattle.geometry.specs.Shape.{block_bytes}
use Rattle.byte_files.specs.Calls.{IsWrittenAt}
use Rattle.byte_files.proofs.Writes.{more_written}
use Rattle.byte_files.proofs.open.Open.write_parts.Goals as goal

pub parts-preserved : goal.parts-preserved
parts-preserved g c =
    let size : ℕ = block_bytes g.V.Numbers.GeometryName.geometry.shape in
    let bytes : List ℕ = c.args.bytes.now in
    let done : ℕ = c.parts.done in
    let part = c.part_at-part.result in
    let now : File = c.parts.pass.file in
    let new : File = c.lay_part.new.pass.file in
    let low : done ≤ length bytes = c.parts.invariant.0 in
    let block : length c.args.block.now ≡ size = c.requires.block in
    let here : part.index * size + part.from ≡ c.args.at + done = ap (λ n. part.index * n + part.from) (sym block) ∙ c.part_at-part.ensures.place in
    let count : done + part.size - done ≡ part.size = behind done part.size in
    let step : IsWrittenAt size (part.index * size + part.from) (take (done + part.size - done) (drop done bytes)) now new = search rules in (
      search rules,
      search rules,
      more_written size c.args.at done part.size (part.index * size + part.from) bytes c.args.pass.now.file now new c.parts.invariant.2 (length-take-le done bytes low) here
          (subst (λ n. IsWrittenAt size (part.index * size + part.from) (take n (drop done bytes)) now new) count step),
      c.lay_part.ensures.same.0 ∙ c.parts.invariant.3,
      c.lay_part.ensures.same.1 ∙ c.parts.invariant.4,
    )
  where
    behind : (a b : ℕ) → a + b - a ≡ b
    behind a b = omega arith
