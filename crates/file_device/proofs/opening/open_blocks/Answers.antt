use Rattle.std.proofs.Common.{suc, ◌+◌, ◌≡◌, ◌∙◌, ◌<◌, ◌++◌, ◌∷◌, [], ap, ap₂, arith, false, length, map, subst, sym, take, Bool, List}
use Rattle.std.proofs.Math.Seq.{take-suc}
use mathlib.Core.List.{map-append}
use Rattle.std.specs.declared.fs.File.{File}
use Rattle.device.specs.Parts.{IsBlockRun}
use Rattle.device.proofs.BlockRuns.{run_push}
use Rattle.geometry.specs.Area.{block_count}
use Rattle.geometry.specs.Shape.{block_bytes}
use Rattle.file_device.specs.declared.kept.Site.{Site}
use Rattle.file_device.specs.declared.block.FileBlock.{FileBlock}
use Rattle.std.specs.Arc.{arc_value}
use Rattle.file_device.specs.Blocks.{content_of, is_kept}
use Rattle.file_device.proofs.opening.open_blocks.Goals as goal

pub loop-place-preserved : goal.loop-place-preserved
loop-place-preserved c =
    let before = c.loop-place.invariant in
    let place = c.loop-place.place in
    let named = c.args.named.now in
    let size = block_bytes (arc_value c.args.site.now).geometry.shape in
    let blocks = c.loop-place.blocks.items in
    let made = c.in_ok-open_block.field-0 in
    let opened = c.in_ok-open_block.ensures in
    let pushed = c.in_ok-push.ensures in
    let is = λ (b : FileBlock File). is_kept b in
    let low : place < length named = let test = c.loop-place-test.true in let all = c.requires.named in let count = c.blocks-count.ensures ∙ ap block_count (ap (λ (s : Site File). s.geometry) c.deref.ensures) in omega (arith, test, all, count) in
    let next : suc place ≡ place + 1 = omega arith in
    record {
      run = subst (IsBlockRun _ _ size 1) (sym pushed.items)
          (run_push _ _ size 1 blocks made before.run (let count = before.count in let at = opened.address in omega arith) opened.length);
      count = let count = before.count in let l = pushed.len in omega arith;
      numbers = opened.run;
      read = ap (map is) pushed.items ∙ map-append is blocks (made ∷ [])
          ∙ ap₂ (λ (xs ys : List Bool). xs ++ ys) before.read (ap (λ (b : Bool). b ∷ []) opened.read)
          ∙ sym (take-suc named place false low) ∙ ap (λ n. take n named) next;
    }
