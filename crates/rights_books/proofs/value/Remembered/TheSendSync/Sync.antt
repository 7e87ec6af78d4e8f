-- What is remembered is no value at run time, so any thread may share it.
use denote.RattleType.{RattleType}
use denote.Param.Send.{IsSync, part_keyless}
use Rattle.rights_books.specs.contracts.value.Remembered.{the_row}
use Rattle.rights_books.proofs.value.Remembered.TheSendSync.Send.{send}

pub sync : (T : RattleType) → IsSync (the_row T)
sync T = record { shared = λ d b o κ q. part_keyless (the_row T) (send T) q d b o }
