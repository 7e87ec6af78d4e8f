use denote.RattleType.{RattleType}
use denote.Param.Send.{IsSend}
use Rattle.rights_books.specs.contracts.shown.RestingSeat.{the_row}
use Rattle.atomic_table.proofs.Sent.{badge_keyless}

pub send : (V : RattleType) → IsSend (the_row V)
send V = record { owned = λ d vs. ((λ vss. (tt, ((λ uss. (tt, tt)), tt))), badge_keyless V.coded.code d.table_id d.id d.views); leaving = λ k f vs. tt }
