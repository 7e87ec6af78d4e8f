-- What is read in one part and then in another is read in one.
use Rattle.std.proofs.Common.{◌∙◌, ℕ, List, [], ◌++◌, Option, Some, None, ap, sym, refl}
use Rattle.std.proofs.lemmas.List.{append_assoc}
use Rattle.std.specs.Io.KnownBytes.{Consumes}

pub consumes_nothing : (known : Option (List ℕ)) → Consumes known known []
consumes_nothing None = tt
consumes_nothing (Some bytes) = refl

pub consumes_more : (first then last : Option (List ℕ)) (xs ys : List ℕ) → Consumes first then xs → Consumes then last ys → Consumes first last (xs ++ ys)
consumes_more None then last xs ys one other = tt
consumes_more (Some bytes) None last xs ys one other = absurd one
consumes_more (Some bytes) (Some rest) None xs ys one other = absurd other
consumes_more (Some bytes) (Some rest) (Some end) xs ys one other = one ∙ ap (λ zs. xs ++ zs) other ∙ sym (append_assoc xs ys end)
