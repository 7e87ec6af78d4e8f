use Rattle.std.proofs.Common.{◌≡◌, ◌∙◌, ◌+◌, ◌*◌, ◌≤◌, ℕ, List, [], ◌∷◌, ◌++◌, append-nil, ap, ap₂, arith, drop, length, length-drop, length-take-le, subst, sym, take}
use Rattle.std.proofs.Math.Nat.{mul-le-mul_right, suc-mul}
use Rattle.std.proofs.Math.Seq.{take-add}
use Rattle.std.proofs.lemmas.List.Concat.{flat_map-append}
use Rattle.std.specs.List.{flat_map}
use Rattle.device.specs.Parts.{IsBlockRun}
use Rattle.device.proofs.BlockRuns.{run_push}
use Rattle.program_run.proofs.Memory.{address, content}
use Rattle.program_run.proofs.files.blocks_of.Goals as goal

pub loop-place-preserved : goal.loop-place-preserved
loop-place-preserved c =
    let before = c.loop-place.invariant in
    let place = c.loop-place.place in
    let size = c.args.size in
    let bytes = c.args.bytes.now in
    let blocks = c.loop-place.blocks.items in
    let block = c.in_ok-new.field-0 in
    let made = c.in_ok-new.ensures in
    let own : c.in_ok-own.own.items ≡ take size (drop (place * size) bytes) = c.in_ok-own.ensures.items ∙ ap (λ n. take n (drop (place * size) bytes)) (omega arith) in
    let within = mul-le-mul_right {m = place + 1} {n = c.args.count} size (let low = c.loop-place-test.true in omega arith) in
    let rest : size ≤ length (drop (place * size) bytes) = let whole = c.requires in omega (arith, length-drop (place * size) bytes, suc-mul place size) in
    let long : length (content block) ≡ size = ap length (made.content ∙ own) ∙ length-take-le size (drop (place * size) bytes) rest in
    let pushed = c.in_ok-push.ensures in record {
      run = subst (IsBlockRun address content size 1) (sym pushed.items)
          (run_push address content size 1 blocks block before.run (let count = before.count in let at = made.address in omega arith) long);
      count = let count = before.count in let l = pushed.len in omega arith;
      bytes = ap (flat_map content) pushed.items ∙ flat_map-append content blocks (block ∷ [])
          ∙ ap₂ (λ (xs ys : List ℕ). xs ++ ys) before.bytes (append-nil (content block) ∙ made.content ∙ own)
          ∙ sym (take-add (place * size) size bytes) ∙ ap (λ n. take n bytes) (omega arith);
    }
