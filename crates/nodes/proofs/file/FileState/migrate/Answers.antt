-- The inode's own entries are tried first, and a refusal there changes nothing: so one ticket is swapped for one of the
-- same bytes, in the inode or below it, or no node names the block.
use Rattle.std.proofs.Common.{◌+◌, Ok, ap, if◌then◌else◌, arith}
use Rattle.nodes.proofs.Placing.{kept}
use Rattle.nodes.proofs.Results.{if_ok, on_ok, on_err}
use Rattle.nodes.proofs.Shown.{swapped_shows}
use Rattle.nodes.proofs.file.FileState.migrate.Goals as goal

pub returns-in-Ok : goal.returns-in-Ok
returns-in-Ok g c =
    let done = c.in-Ok.ensures in
    let swaps = done.swaps in
    let here = ap (λ b. (if b then 1 else 0) + 0) done.named in
    record {
      named = omega arith;
      address = done.address;
      swaps = swaps.swaps;
      namer = swaps.namer;
      useful = swaps.useful;
      change = swaps.change;
      same = λ file shows.
          swapped_shows c.args.self.now c.migrate_inode.new.self file shows swaps.kind swaps.length c.args.from c.args.ticket c.requires.bytes
          (Ok c.in-Ok.before) done.address swaps.swaps tt;
      elsewhere = tt;
      refused = tt;
      back = tt;
      length = swaps.length;
      shape = swaps.shape;
      kind = swaps.kind;
      file = swaps.file;
    }

pub returns-in-Err : goal.returns-in-Err
returns-in-Err g c =
    let f = c.args.self.now in
    let r = c.migrate_below.result in
    let done = c.migrate_below.ensures in
    let still = c.in-Err.ensures.refused in
    let swaps = rw (still, c.in-Err.ensures.back) at done.swaps in
    let same = rw still at done.refused in
    let rest = kept f c.migrate_below.new.self c.args.ticket c.requires.file r swaps same in
    let swap = if_ok r swaps (λ before s. s.swaps) in
    let there = c.in-Err.ensures.elsewhere in
    let here = ap (λ b. (if b then 1 else 0) + 0) there in
    record {
      named = on_ok r (rw still at done.named) (λ some. omega arith);
      address = done.address;
      swaps = swap;
      namer = rest.namer;
      useful = rest.useful;
      change = if_ok r swaps (λ before s. s.change);
      same = λ file shows.
          swapped_shows f c.migrate_below.new.self file shows rest.kind rest.length c.args.from c.args.ticket c.requires.bytes r done.address swap same;
      elsewhere = on_err r (rw still at done.elsewhere) (λ none. omega arith);
      refused = same;
      back = rw c.in-Err.ensures.back at done.back;
      length = rest.length;
      shape = rest.shape;
      kind = rest.kind;
      file = rest.file;
    }
