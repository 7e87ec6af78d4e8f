use Rattle.std.proofs.Common.{◌≡◌, ◌+◌, ◌*◌, ◌∙◌, sym, ap, subst, length, arith}
use Rattle.std.proofs.lemmas.List.Elements.{All-more}
use Rattle.pack_tables.proofs.Chunks.{row_written}
use Rattle.pack_tables.proofs.encoding.write_rows.Goals as goal

pub loop-i-preserved : goal.loop-i-preserved
loop-i-preserved g c =
    let f = g.P.Pair.bytes in
    let xs = c.args.rows.now in
    let i = c.loop-i.i in
    let item = c.index-rows-i.result in
    let e : 8 * (i + 1) ≡ 8 * i + 8 = omega arith in
    let len = c.loop-i.auto.bytes in
    let low = c.loop-i-test.true in
    let here = c.pair-first.ensures.bytes ∙ ap f c.index-rows-i.is in
    record {
      bytes = rw (e)
          (row_written f 8 xs item c.loop-i.bytes c.write_pair.new.row _ _ _ i (omega arith) (omega arith) (ap length (sym here)) here c.write_pair.ensures c.loop-i.invariant.bytes);
      small = All-more g.P.Pair.small xs i item (omega arith) c.loop-i.invariant.small (subst g.P.Pair.small c.index-rows-i.is c.pair-first.ensures.small);
    }
