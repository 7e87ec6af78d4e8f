-- What is read in one part and then in another is read in one.
use Rattle.std.proofs.Common.{ℕ, List, [], ◌++◌, Option}
use Rattle.std.proofs.KnownBytes.{Consumes-kept, Consumes-nil, Consumes-trans, Keeps-refl}
use Rattle.std.specs.Io.KnownBytes.{Consumes, Keeps}

pub consumes_nothing : (known : Option (List ℕ)) → Consumes known known []
consumes_nothing known = Consumes-nil known

pub consumes_more : (first then last : Option (List ℕ)) (xs ys : List ℕ) → Consumes first then xs → Consumes then last ys → Consumes first last (xs ++ ys)
consumes_more first then last xs ys one other = Consumes-trans first then last xs ys one other

pub consumes_no_more : (first then last : Option (List ℕ)) (xs : List ℕ) → Consumes first then xs → Keeps then last → Consumes first last xs
consumes_no_more first then last xs one other = Consumes-kept first then last xs one other

pub keeps_same : (known : Option (List ℕ)) → Keeps known known
keeps_same known = Keeps-refl known
