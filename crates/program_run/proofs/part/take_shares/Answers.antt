use Rattle.std.proofs.Common.{length}
use Rattle.program_run.proofs.Keeping.{made_fit}
use Rattle.program_run.proofs.part.take_shares.Goals as goal

pub take_back-requires : goal.take_back-requires
take_back-requires g c =
    made_fit (λ text. text.items) g.V.Numbers.GeometryName.geometry _ _ (length c.args.session.now.readers) c.args.ended.items c.in_ok-all.all.items c.requires c.in_ok-all.ensures
