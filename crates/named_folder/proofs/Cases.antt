-- What holds of a value in one of two cases, once the case is known, or in one case by another fact.
use Rattle.std.proofs.Common.{◌≡◌, Option, Some, None, Result, Ok, Err, IfOk, IfSome, IfNone, OnOk, false, subst, sym}
use Rattle.std.specs.Option.{is_some}

pub none_of : {X : Type 0} (P : Type 0) (o : Option X) → o ≡ None → IfNone o P → P
none_of P o is holds = subst (λ x. IfNone x P) is holds

pub on_ok : {T E : Type 0} (r : Result T E) (P Q : Type 0) → (P → Q) → OnOk r P → OnOk r Q
on_ok (Ok x) P Q so holds = so holds
on_ok (Err e) P Q so holds = tt

pub if_found : {X E : Type 0} (r : Result (Option X) E) (P Q : X → Type 0) → ((x : X) → P x → Q x) → IfOk r (λ o. IfSome o P) → IfOk r (λ o. IfSome o Q)
if_found (Ok (Some x)) P Q so holds = so x holds
if_found (Ok None) P Q so holds = tt
if_found (Err e) P Q so holds = tt

pub if_not_found : {X E : Type 0} (r : Result (Option X) E) (P Q : Type 0) → (P → Q) → IfOk r (λ o. IfNone o P) → IfOk r (λ o. IfNone o Q)
if_not_found (Ok (Some x)) P Q so holds = tt
if_not_found (Ok None) P Q so holds = so holds
if_not_found (Err e) P Q so holds = tt

pub some_of : {X : Type 0} (P : X → Type 0) (o : Option X) (x : X) → o ≡ Some x → IfSome o P → P x
some_of P o x is holds = subst (λ y. IfSome y P) is holds

-- what holds of one list holds of one that is the same
pub into : {X : Type 0} (P : X → Type 0) (other one : X) → other ≡ one → P one → P other
into P other one is holds = subst P (sym is) holds

pub none_unless : {X : Type 0} (P : Type 0) (o : Option X) → is_some o ≡ false → IfNone o P → P
none_unless P None not holds = holds
none_unless P (Some x) not holds = absurd (cc)
