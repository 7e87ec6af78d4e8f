use Rattle.std.proofs.Common.{◌≡◌, ◌≤◌, ◌∙◌, ℕ, List, ◌++◌, ap, ap₂, arith, drop, length, subst, sym, take}
use Rattle.std.proofs.lemmas.List.{length-take-le, take-append-drop, take-append-le}
use Rattle.geometry.specs.Area.{meta_bytes, pack_bytes}
use Rattle.geometry.proofs.Areas.{holds_front}
use Rattle.device.specs.Parts.{IsBlockRun}
use Rattle.program_run.proofs.Memory.{address, content}
use Rattle.program_run.proofs.files.parts_of.Goals as goal

pub returns-clause-device : goal.returns-clause-device
returns-clause-device c =
    let file = c.args.file.now in
    let geometry = c.in_ok-geometry.geometry in
    let split = c.split_at.ensures in
    let blocks = c.in_ok-blocks.blocks.items in
    let cut : c.meta_bytes.result ≡ meta_bytes geometry = c.meta_bytes.ensures in
    let area : c.new-meta.result.bytes.items ≡ take (meta_bytes geometry) file = c.new-meta.ensures.bytes ∙ c.in_ok-from_slice.ensures.items ∙ split.front ∙ ap (λ n. take n file) cut in
    let size = c.in_ok-geometry.ensures.held.size in
    let front = take (meta_bytes geometry) file in
    let long : length front ≡ meta_bytes geometry = length-take-le (meta_bytes geometry) file (omega (arith, size)) in
    let whole : 64 ≤ meta_bytes geometry = holds_front geometry.packing (pack_bytes geometry) in
    let as_long : length c.new-meta.result.bytes.items ≡ length front = ap length area in
    record {
      geometry = geometry;
      front = (
        omega (arith, as_long, long, whole),
        ap (take 32) area
            ∙ sym (take-append-le 32 front (drop (meta_bytes geometry) file) (omega (arith, long, whole))) ∙ ap (take 32) (take-append-drop (meta_bytes geometry) file)
            ∙ c.in_ok-geometry.ensures.geometry.1,
      );
      size = record {
        area = ap length area ∙ long;
        count = c.in_ok-blocks.ensures.count ∙ c.blocks-2.ensures;
        run = subst (λ bytes. IsBlockRun address content bytes 1 blocks) c.block_bytes.ensures c.in_ok-blocks.ensures.run;
      };
      bytes = ap₂ (λ (xs ys : List ℕ). xs ++ ys) area (c.in_ok-blocks.ensures.bytes ∙ split.back ∙ ap (λ n. drop n file) cut) ∙ take-append-drop (meta_bytes geometry) file;
    }

pub returns-clause-whole : goal.returns-clause-whole
returns-clause-whole c = (c.in_ok-geometry.geometry, c.in_ok-geometry.ensures.geometry, c.in_ok-geometry.ensures.held.size)
