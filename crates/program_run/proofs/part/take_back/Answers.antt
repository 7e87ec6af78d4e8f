use Rattle.std.proofs.Common.{OnOk, subst, length}
use Rattle.program_run.specs.Share.{IsPutBack}
use Rattle.program_run.proofs.Giving.{back_mapped, still_fit}
use Rattle.program_run.proofs.part.take_back.Goals as goal

pub loop-made-preserved : goal.loop-made-preserved
loop-made-preserved g c =
    let geometry = g.V.Numbers.GeometryName.geometry in
    let session = c.loop-made.session in
    let after = c.put_back.new.self in
    let made = c.in-Some.made in
    let left = c.pop.new.self.items in
    let put : IsPutBack geometry session made.lent after = subst (λ done. OnOk done (IsPutBack geometry session made.lent after)) c.in_ok-memory.ensures c.put_back.ensures.joined in
    record {
      fit = still_fit geometry (λ one. one.lent) (length session.readers) (length after.readers) c.loop-made.all.items left c.pop.result c.pop.ensures.items put.joined.readers.count c.loop-made.invariant.fit;
      back = λ new back. c.loop-made.invariant.back new (back_mapped geometry _ session after c.loop-made.all.items left made new c.in-Some.ensures.items put back);
    }
