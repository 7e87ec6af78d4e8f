-- What is known of an Ok.
use Rattle.std.proofs.Common.{Result, Ok, Err, OnOk}

-- what is known of an Ok says something else of it
pub on_ok : {A E : Type 0} (result : Result A E) (P Q : Type 0) → (P → Q) → OnOk result P → OnOk result Q
on_ok (Ok value) P Q gives known = gives known
on_ok (Err error) P Q gives known = tt
