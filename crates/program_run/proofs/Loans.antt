-- What a loan ends with.
use Rattle.std.proofs.Common.{◌≡◌, subst, sym}

-- what holds of the last value behind a reference holds of the value that was lent
pub ends_as : {A : Type 0} (P : A → Type 0) (last lent : A) → lent ≡ last → P last → P lent
ends_as P last lent same holds = subst P (sym same) holds
