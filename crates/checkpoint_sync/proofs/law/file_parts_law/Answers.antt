use Rattle.checkpoint_sync.proofs.Filing.{filed}
use Rattle.checkpoint_sync.proofs.law.file_parts_law.Goals as goal

pub returns : goal.returns
returns g c = λ geometry is. filed geometry c.args.account.now.inode c.args.account.now c.args.state.now is
