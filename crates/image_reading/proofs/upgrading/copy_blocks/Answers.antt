use Rattle.std.proofs.Common.{◌≤◌, rules, arith}
use Rattle.geometry.specs.Area.{meta_bytes}
use Rattle.image_reading.proofs.Copying.{none_copied, copied_piece, copied_all}
use Rattle.image_reading.proofs.upgrading.copy_blocks.Goals as goal

pub loop-at-init : goal.loop-at-init
loop-at-init g c = record {
  copied = λ bytes shown. none_copied (g.O.Write.contents c.args.out.now) bytes (meta_bytes c.args.geometry.now) c.meta_bytes-at.result (search rules);
  kept = λ bytes shown. shown;
  behind = search rules;
  reaches = search rules;
  buffer = search rules;
}

pub returns-in_err-read_at-clause-kept : goal.returns-in_err-read_at-clause-kept
returns-in_err-read_at-clause-kept g c = λ bytes shown. c.loop-at.invariant.kept bytes (c.in_err-read_at.ensures.kept bytes shown)

pub returns-in-Err-clause-kept : goal.returns-in-Err-clause-kept
returns-in-Err-clause-kept g c = λ bytes shown. c.loop-at.invariant.kept bytes (c.in_ok-read_at.ensures.kept bytes shown)

pub loop-at-preserved : goal.loop-at-preserved
loop-at-preserved g c = record {
  copied = λ bytes shown.
      copied_piece (g.O.Write.contents c.args.out.now) (g.O.Write.contents c.loop-at.out) (g.O.Write.contents c.write_all.new.self) bytes c.read_at.new.out
      (meta_bytes c.args.geometry.now) c.loop-at.at c.min-count.result c.loop-at.invariant.behind
      (c.loop-at.invariant.copied bytes (c.in_ok-read_at.ensures.kept bytes shown))
      (c.in_ok-read_at.ensures.read bytes shown) (search rules) c.in_default.ensures.bytes;
  kept = λ bytes shown. c.loop-at.invariant.kept bytes (c.in_ok-read_at.ensures.kept bytes shown);
  behind = search rules;
  reaches = search rules;
  buffer = search rules;
}

pub returns-clause-copied : goal.returns-clause-copied
returns-clause-copied g c = λ bytes shown long.
    let end : c.file_bytes-end.result ≤ c.loop-at.at = search rules in
    let is = c.file_bytes-end.ensures in
    copied_all (g.O.Write.contents c.args.out.now) (g.O.Write.contents c.loop-at.out) bytes (meta_bytes c.args.geometry.now) c.loop-at.at (omega (arith, long, is, end))
    (c.loop-at.invariant.copied bytes shown)
