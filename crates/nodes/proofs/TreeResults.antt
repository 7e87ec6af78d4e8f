-- What a fact gives, it gives of an answer.
use Rattle.std.specs.Prelude.{OnOk, OnErr, IfOk}
use Rattle.std.specs.declared.result.Result.{Result}
use Rattle.std.proofs.Common.{Ok, Err}

pub on_ok : {A E : Type 0} {P Q : Type 0} (r : Result A E) → OnOk r P → (P → Q) → OnOk r Q
on_ok (Ok x) h f = f h
on_ok (Err e) h f = tt

pub on_err : {A E : Type 0} {P Q : Type 0} (r : Result A E) → OnErr r P → (P → Q) → OnErr r Q
on_err (Ok x) h f = tt
on_err (Err e) h f = f h

pub if_ok : {A E : Type 0} {P Q : A → Type 0} (r : Result A E) → IfOk r P → ((x : A) → P x → Q x) → IfOk r Q
if_ok (Ok x) h f = f x h
if_ok (Err e) h f = tt
