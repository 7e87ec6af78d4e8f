use Rattle.rights_permits.proofs.Turns.{comes, most}
use Rattle.rights_permits.proofs.token.ChannelPass.receive.Goals as goal

pub recv_as-requires-clause-rule : goal.recv_as-requires-clause-rule
recv_as-requires-clause-rule g c = (comes _ _, most _ _)
