-- The pieces that were handed out are the front of the file's bytes, cut at the most that is wanted.
use Rattle.std.proofs.Common.{◌≡◌, ◌+◌, ◌-◌, ◌*◌, ◌≤◌, ◌++◌, min, take, length, sym, subst, rules, arith}
use Rattle.std.specs.Io.KnownBytes.{Appends}
use Rattle.geometry.specs.Shape.{block_bytes}
use Rattle.image.specs.View.{image_view}
use Rattle.image_reading.specs.Content.{front_bytes}
use Rattle.image_reading.specs.Held.{file_in}
use Rattle.image_reading.proofs.Handing.{Handing, handing_begins, handing_goes_on}
use Rattle.image_reading.proofs.blocks.hand_out.Goals as goal

pub loop-index-init : goal.loop-index-init
loop-index-init g c = record {
  handing = λ bytes shown. handing_begins (block_bytes c.args.geometry.now.shape) c.args.most (file_in c.args.geometry.now (image_view c.args.image.now) bytes c.args.number) (g.O.Write.contents c.args.out.now);
  kept = λ bytes shown. shown;
  reaches = search rules;
  buffer = search rules;
}

pub loop-index-preserved : goal.loop-index-preserved
loop-index-preserved g c =
    let size = block_bytes c.args.geometry.now.shape in
    let first = g.O.Write.contents c.args.out.now in
    let before = g.O.Write.contents c.loop-index.out in
    let after = g.O.Write.contents c.write_all.new.self in
    let index = c.loop-index.index in
    let left = c.loop-index.left in
    let end = index + c.min.result in
    let piece = c.read_blocks.new.out in
    let order : index ≤ end = omega arith in
    let within : end ≤ c.length_of-length.result = search rules in
    let long : length piece ≡ (end - index) * size = search rules in
    let wanted : c.min-wanted.result ≡ min left (length piece) = search rules in
    let given : Appends before after (take (min left (length piece)) piece) = subst (λ n. Appends before after (take n piece)) wanted c.in_default.ensures.bytes in
    record {
      handing = λ bytes shown.
          let file = file_in c.args.geometry.now (image_view c.args.image.now) bytes c.args.number in
          let held = c.loop-index.invariant.handing bytes (c.in_ok-read_blocks.ensures.kept bytes shown) in
          let read : front_bytes size file index ++ piece ≡ front_bytes size file end = c.in_ok-read_blocks.ensures.read bytes shown in
          subst (λ w. Handing size c.args.most file end (left - w) first after) (sym wanted)
          (handing_goes_on size c.args.most file index end left piece first before after held order (omega (arith, within, c.length_of-length.ensures)) long read given);
      kept = λ bytes shown. c.loop-index.invariant.kept bytes (c.in_ok-read_blocks.ensures.kept bytes shown);
      reaches = within;
      buffer = search rules;
    }
