-- What follows of an answer, and of a refusal.
use Rattle.std.proofs.Common.{Result, Ok, Err, IfErr, OnErr, OnOk}

pub on_ok : {T E : Type 0} (result : Result T E) (P Q : Type 0) → (P → Q) → OnOk result P → OnOk result Q
on_ok (Ok value) P Q step holds = step holds
on_ok (Err error) P Q step holds = tt

pub if_err : {T E : Type 0} (result : Result T E) (P Q : E → Type 0) → ((error : E) → P error → Q error) → IfErr result P → IfErr result Q
if_err (Ok value) P Q step holds = tt
if_err (Err error) P Q step holds = step error holds

pub on_err : {T E : Type 0} (result : Result T E) (P Q : Type 0) → (P → Q) → OnErr result P → OnErr result Q
on_err (Ok value) P Q step holds = tt
on_err (Err error) P Q step holds = step holds
