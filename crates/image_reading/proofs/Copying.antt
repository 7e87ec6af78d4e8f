-- The main blocks are copied from their front on, piece by piece.
use Rattle.std.proofs.Common.{◌≡◌, ◌∙◌, ◌+◌, ◌-◌, ◌≤◌, ◌++◌, ℕ, List, [], Option, Some, None, length, take, drop, ap, sym, subst, arith}
use Rattle.std.proofs.Math.Seq.{take-add}
use Rattle.std.proofs.lemmas.List.{append-nil, append_assoc, drop-drop, length-drop, take_all}
use Rattle.std.specs.Io.KnownBytes.{Appends}
use Rattle.device.specs.Disk.{part}

pub appends_nothing : (known : Option (List ℕ)) → Appends known known []
appends_nothing None = tt
appends_nothing (Some xs) = sym (append-nil xs)

pub appends_more : (first then last : Option (List ℕ)) (xs ys : List ℕ) → Appends first then xs → Appends then last ys → Appends first last (xs ++ ys)
appends_more None then last xs ys one other = tt
appends_more (Some known) None last xs ys one other = absurd one
appends_more (Some known) (Some more) None xs ys one other = absurd other
appends_more (Some known) (Some more) (Some all) xs ys one other = other ∙ ap (λ zs. zs ++ ys) one ∙ append_assoc known xs ys

-- before the first piece none is
pub none_copied : (known : Option (List ℕ)) (bytes : List ℕ) (front at : ℕ) → at ≡ front → Appends known known (take (at - front) (drop front bytes))
none_copied known bytes front at here =
    let none : at - front ≡ 0 = omega (arith, here) in
    subst (λ n. Appends known known (take n (drop front bytes))) (sym none) (appends_nothing known)

-- a piece is copied behind those that were
copied_more : (first before after : Option (List ℕ)) (bytes piece : List ℕ) (front at count : ℕ) → front ≤ at
    → Appends first before (take (at - front) (drop front bytes)) → piece ≡ part at count bytes → Appends before after piece
    → Appends first after (take (at + count - front) (drop front bytes))
copied_more first before after bytes piece front at count behind so_far read given =
    let rest = drop front bytes in
    let done = at - front in
    let place : front + done ≡ at = omega (arith, behind) in
    let more : done + count ≡ at + count - front = omega (arith, behind) in
    let there : piece ≡ take count (drop done rest)
    = read ∙ ap (λ n. part n count bytes) (sym place) ∙ ap (take count) (sym (drop-drop done front bytes)) in
    let next : take done rest ++ piece ≡ take (at + count - front) rest
    = ap (λ p. take done rest ++ p) there ∙ sym (take-add done count rest) ∙ ap (λ n. take n rest) more in
    subst (Appends first after) next (appends_more first before after (take done rest) piece so_far given)

pub copied_piece : (first before after : Option (List ℕ)) (bytes piece : List ℕ) (front at count : ℕ) {n : ℕ} → front ≤ at
    → Appends first before (take (at - front) (drop front bytes)) → piece ≡ part at n bytes → n ≡ count → Appends before after piece
    → Appends first after (take (at + count - front) (drop front bytes))
copied_piece first before after bytes piece front at count behind so_far read as_many given =
    copied_more first before after bytes piece front at count behind so_far (read ∙ ap (λ k. part at k bytes) as_many) given

-- all of them
pub copied_all : (first last : Option (List ℕ)) (bytes : List ℕ) (front at : ℕ) → length bytes ≤ at
    → Appends first last (take (at - front) (drop front bytes)) → Appends first last (drop front bytes)
copied_all first last bytes front at end given =
    let rest : length (drop front bytes) ≡ length bytes - front = length-drop front bytes in
    subst (Appends first last) (take_all (at - front) (drop front bytes) (omega (arith, rest, end))) given
