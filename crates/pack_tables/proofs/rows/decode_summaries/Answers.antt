use Rattle.std.proofs.Common.{arith}
use Rattle.image.specs.Pack.{summary_bytes}
use Rattle.pack_tables.specs.Grammar.{IsSummaryRow}
use Rattle.pack_tables.proofs.Fronts.{front_next, front_all}
use Rattle.pack_tables.proofs.rows.decode_summaries.Goals as goal

pub loop-preserved : goal.loop-preserved
loop-preserved c =
    let pair = c.pair_of-nid.result in
    record {
      read = front_next summary_bytes IsSummaryRow c.loop.counter c.args.bytes.now c.loop.rest.now c.split_at.result.0.now c.split_at.result.1.now
          c.loop.summaries.items c.push.new.self.items (record { nid = pair.0; slot = pair.1 })
          c.loop.invariant.read c.split_at.ensures.by_index.0 c.in_ok-push.ensures.items c.pair_of-nid.ensures.bytes c.pair_of-nid.ensures.small;
      left = omega (arith, c.loop.invariant.left, c.split_at.ensures.back_len);
    }

pub returns : goal.returns
returns c =
    front_all summary_bytes IsSummaryRow c.loop.counter c.args.count c.args.bytes.now c.loop.rest.now c.loop.summaries.items c.loop.invariant.read
    (omega (arith, c.loop-test.false, c.loop.auto.counter-end)) (omega (arith, c.loop-test.false, c.loop.invariant.left))
