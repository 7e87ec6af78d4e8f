-- What is read from a stream in two steps.
use Rattle.std.proofs.Common.{◌≡◌, ◌∙◌, ◌++◌, ℕ, List, Option, None, Some, ap, subst, sym}
use Rattle.std.proofs.lemmas.List.{append_assoc}
use Rattle.std.specs.Io.KnownBytes.{Consumes}

pub consumes_both : (before between after : Option (List ℕ)) (first second : List ℕ)
    → Consumes before between first → Consumes between after second → Consumes before after (first ++ second)
consumes_both None between after first second one other = tt
consumes_both (Some all) None after first second one other = absurd one
consumes_both (Some all) (Some left) None first second one other = absurd other
consumes_both (Some all) (Some left) (Some last) first second one other =
    one ∙ ap (λ bytes. first ++ bytes) other ∙ sym (append_assoc first second last)

pub consumes_same : (before after : Option (List ℕ)) (bytes others : List ℕ)
    → bytes ≡ others → Consumes before after bytes → Consumes before after others
consumes_same before after bytes others same consumed =
    let P : List ℕ → Type 0 = λ read. Consumes before after read in subst P same consumed
