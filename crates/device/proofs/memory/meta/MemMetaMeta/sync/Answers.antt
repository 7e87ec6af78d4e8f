use Rattle.std.proofs.Common.{refl}
use Rattle.device.proofs.Calls.{sync_fewer, call_elapses}
use Rattle.device.proofs.memory.meta.MemMetaMeta.sync.Goals as goal

pub returns-clause-quiet : goal.returns-clause-quiet
returns-clause-quiet c = record {
  same = refl;
  fewer = λ d left. sync_fewer _ _ c.args.self.now.bytes d c.and-calls.ensures left;
  time = call_elapses _ _ c.args.self.now.bytes _ _ c.and-calls.ensures;
}
