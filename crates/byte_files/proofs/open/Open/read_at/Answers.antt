use Rattle.std.proofs.Common.{◌≡◌, ◌∙◌, ◌+◌, ◌-◌, ◌*◌, ◌≤◌, ℕ, List, min, length, take, drop, replicate, ap, inr, rules, arith}
use Rattle.geometry.specs.File.{File}
use Rattle.geometry.specs.Shape.{block_bytes}
use Rattle.image_reading.specs.Content.{all_bytes}
use borrow.Rule.Slice.PartMut.{put_mid}
use Rattle.byte_files.proofs.Readings.{all_read, front_long, put_behind}
use Rattle.byte_files.proofs.Results.{on_ok, if_err}
use Rattle.byte_files.proofs.open.Open.read_at.Goals as goal

pub returns-clause-bytes : goal.returns-clause-bytes
returns-clause-bytes g c =
    let size : ℕ = block_bytes g.V.Numbers.GeometryName.geometry.shape in
    let file : File = c.args.pass.now.file in
    let out : List ℕ = c.args.out.now in
    let n : ℕ = length out in
    let count : ℕ = c.min-count.result in
    let few : count ≡ min (file.length * size - c.args.at) n = search rules in
    let within : count ≤ n = omega (arith, few) in
    let filled : c.fill.new.self ≡ replicate (n - count) 0 = search rules in
    let rest : drop count (put_mid count (n - count) out c.fill.new.self) ≡ replicate (n - count) 0
    = put_behind count (n - count) out c.fill.new.self (omega (arith, within)) ∙ filled in
    on_ok c.read_held.result _ _
    (λ is bytes has.
    all_read size file c.args.at n count bytes c.read_held.new.out (drop count (put_mid count (n - count) out c.fill.new.self)) c.blocks_law.ensures.whole has few
    (is ∙ ap (λ k. take k (drop c.args.at (all_bytes size file))) (front_long count (n - count) out c.fill.new.self within)) rest)
    c.read_held.ensures.bytes

pub returns-clause-error : goal.returns-clause-error
returns-clause-error g c = if_err c.read_held.result _ _ (λ error is. inr is) c.read_held.ensures.error
