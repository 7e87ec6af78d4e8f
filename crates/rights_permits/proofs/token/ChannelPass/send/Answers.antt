use Rattle.std.proofs.Common.{arith}
use Rattle.rights_permits.proofs.Turns.{goes, most}
use Rattle.rights_permits.proofs.token.ChannelPass.send.Goals as goal

pub send_as-requires-clause-rule : goal.send_as-requires-clause-rule
send_as-requires-clause-rule g c = (goes _ _ _ _ (let e = c.self.view_is in let r = c.requires.out in omega (arith, e, r)), most _ _)
