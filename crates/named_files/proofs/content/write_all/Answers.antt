-- Each turn writes a block of what is left, filled up with zeros, so the blocks so far are the bytes so far.
use Rattle.std.proofs.Common.{◌≡◌, ◌∙◌, ◌++◌, ◌+◌, ◌-◌, ◌<◌, ◌≤◌, min, length, take, drop, replicate, ap, ap₂, sym, subst, refl, rules, arith}
use Rattle.std.proofs.lemmas.Grind.{common_steps}
use Rattle.std.proofs.lemmas.List.{take-append-drop, drop_all, nil_from_length}
use Rattle.geometry.specs.File.{cut_to}
use Rattle.geometry.specs.Shape.{block_bytes}
use Rattle.byte_files.specs.Bytes.{HasBytes}
use Rattle.named_folder.proofs.Cases.{on_ok}
use Rattle.byte_files.proofs.Blocks.{block_some}
use Rattle.named_files.proofs.Contents.{Writing, writing_begins, writing_goes_on, writing_ends}
use Rattle.named_files.proofs.content.write_all.Goals as goal

pub loop-rest-init : goal.loop-rest-init
loop-rest-init g c =
    let shape = g.V.Numbers.GeometryName.geometry.shape in
    (writing_begins (block_bytes shape) c.args.bytes.now c.args.pass.now.file (block_some shape), refl, refl)

pub loop-rest-preserved : goal.loop-rest-preserved
loop-rest-preserved g c =
    let size = block_bytes g.V.Numbers.GeometryName.geometry.shape in
    let rest = c.loop-rest.rest.now in
    let front = c.split_at.result.0.now in
    let behind = c.split_at.result.1.now in
    let pass = c.loop-rest.pass in
    let index = c.loop-rest.index in
    let block = c.as_slice.result.now in
    let n = c.min.result in
    let n_is : n ≡ min size (length rest) = search rules in
    let front_is : front ≡ take n rest = search rules in
    let behind_is : behind ≡ drop n rest = search rules in
    let long : length front ≡ n = search rules in
    let more : 0 < length rest = grind (arith, common_steps) in
    let positive : 0 < size = block_some g.V.Numbers.GeometryName.geometry.shape in
    let some : 0 < length front = omega (arith, n_is, long, more, positive) in
    let fits : length front ≤ size = omega (arith, n_is, long) in
    let cut : rest ≡ front ++ behind = sym (ap₂ (λ xs ys. xs ++ ys) front_is behind_is ∙ take-append-drop n rest) in
    let block_is : block ≡ front ++ replicate (size - length front) 0 = search rules in
    let next : c.in-Some.next ≡ index + 1 = search rules in
    let made = writing_goes_on size c.args.bytes.now rest front behind block pass.file c.write_block.new.pass.file index c.loop-rest.invariant.0
    c.in_ok-write_block.ensures.set cut some fits (λ short. behind_is ∙ drop_all n rest (omega (arith, n_is, long, short))) block_is in (
      subst (Writing size c.args.bytes.now behind c.write_block.new.pass.file) (sym next) made,
      c.in_ok-write_block.ensures.number ∙ c.loop-rest.invariant.1,
      c.in_ok-write_block.ensures.kind ∙ c.loop-rest.invariant.2,
    )

pub returns-clause-bytes : goal.returns-clause-bytes
returns-clause-bytes g c =
    let size = block_bytes g.V.Numbers.GeometryName.geometry.shape in
    let rest = c.loop-rest.rest.now in
    let pass = c.loop-rest.pass in
    let empty : length rest ≡ 0 = grind (arith, common_steps) in
    on_ok c.cut.result (c.cut.new.pass ≡ record pass { file = cut_to pass.file c.loop-rest.index }) (HasBytes size c.args.bytes.now c.cut.new.pass.file)
    (λ is. subst (HasBytes size c.args.bytes.now) (sym (ap (λ p. p.file) is))
    (writing_ends size c.args.bytes.now rest pass.file c.loop-rest.index c.loop-rest.invariant.0 (nil_from_length rest empty)))
    c.cut.ensures.file
