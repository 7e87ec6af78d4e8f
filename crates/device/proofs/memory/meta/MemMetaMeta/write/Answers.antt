use Rattle.device.proofs.Calls.{write_follows, call_elapses}
use Rattle.device.proofs.Ranges.{holds_torn}
use Rattle.device.proofs.memory.meta.MemMetaMeta.write.Goals as goal

pub returns-clause-crash : goal.returns-clause-crash
returns-clause-crash c = write_follows _ _ c.args.self.now.bytes _ _ _ c.and-calls.ensures (holds_torn _ _ _ _ c.requires c.put.ensures)

pub returns-clause-others : goal.returns-clause-others
returns-clause-others c = holds_torn _ _ _ _ c.requires c.put.ensures

pub returns-clause-time : goal.returns-clause-time
returns-clause-time c = call_elapses _ _ c.args.self.now.bytes _ _ c.and-calls.ensures
