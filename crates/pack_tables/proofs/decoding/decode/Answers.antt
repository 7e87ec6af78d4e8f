use Rattle.std.proofs.Common.{refl, inr}
use Rattle.pack_tables.proofs.Parts.{none_of_this_length, none_of_these_logs, none_of_this_table}
use Rattle.pack_tables.proofs.decoding.decode.Goals as goal

pub returns-in_default-clause-refused : goal.returns-in_default-clause-refused
returns-in_default-clause-refused c = inr (refl, none_of_this_length c.args.geometry.now c.args.body.now c.in_default.ensures)

pub returns-in_default-2-clause-refused : goal.returns-in_default-2-clause-refused
returns-in_default-2-clause-refused c =
    inr (refl, none_of_these_logs c.args.geometry.now c.args.body.now _ _ _ _ _ c.in-Some.ensures (rw c.in_default-2.is at c.in_ok-logs.ensures))

pub returns-in_default-3-clause-refused : goal.returns-in_default-3-clause-refused
returns-in_default-3-clause-refused c =
    inr (refl, none_of_this_table c.args.geometry.now c.args.body.now _ _ _ _ _ c.in-Some.ensures (rw c.in_default-3.is at c.in_ok-nat.ensures))
