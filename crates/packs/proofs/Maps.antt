-- The bits of a number are read back from it, so a map that was spelled reads as itself; and a part that a map names
-- has bytes, as its test asks.
use Rattle.std.proofs.Common.{◌≡◌, refl, sym, ◌∙◌, ap, subst, ℕ, zero, suc, ◌+◌, ◌-◌, ◌*◌, ◌/◌, ◌%◌, ◌^◌, ◌<◌, ◌≤◌, Bool, true, false, eqb, List, [], ◌∷◌, ◌++◌, length, take, set, replicate, arith, append-nil, append_assoc, length-append}
use Rattle.std.specs.Prelude.{Option, Some, None, slice_index_or, nat_lt, ◌&&◌, if◌then◌else◌}
use Rattle.std.proofs.Math.Nat.{pow-suc}
use Rattle.std.proofs.lemmas.List.{take_more_set, take_all}
use Rattle.std.proofs.lemmas.Bool.{lt-ltb}
use Rattle.byteorder.specs.Endian.{little_bytes, little_from}
use Rattle.byteorder.specs.Numbers.{little_from-cons, little_number-reads_back, length-bytes_low_first}
use Rattle.geometry.specs.declared.geometry.Geometry.{Geometry}
use Rattle.image.specs.Pack.{bits_number}
use Rattle.image.specs.Reading.{number_at, number_bits}
use Rattle.image.proofs.RoundTrip.{number_there}
use Rattle.packs.specs.declared.map.Map.{Map}
use Rattle.packs.specs.Parts.{place, side, are_parts, sides_of, is_map, map_of, read_map, spelled_map}

-- the bits of a number are what it was made of
pub bits_back : (bits : List Bool) → number_bits (length bits) (bits_number bits) ≡ bits
bits_back [] = refl
bits_back (true ∷ bits) =
    let half : (1 + 2 * bits_number bits) / 2 ≡ bits_number bits = omega arith in
    let odd : (1 + 2 * bits_number bits) % 2 ≡ 1 = omega arith in
    ap (λ x. eqb x 1 ∷ number_bits (length bits) ((1 + 2 * bits_number bits) / 2)) odd
    ∙ ap (λ x. true ∷ number_bits (length bits) x) half ∙ ap (λ l. true ∷ l) (bits_back bits)
bits_back (false ∷ bits) =
    let half : (2 * bits_number bits) / 2 ≡ bits_number bits = omega arith in
    let even : (2 * bits_number bits) % 2 ≡ 0 = omega arith in
    ap (λ x. eqb x 1 ∷ number_bits (length bits) ((2 * bits_number bits) / 2)) even
    ∙ ap (λ x. false ∷ number_bits (length bits) x) half ∙ ap (λ l. false ∷ l) (bits_back bits)

pub bits_small : (bits : List Bool) → bits_number bits < 2 ^ length bits
bits_small [] = omega arith
bits_small (true ∷ bits) = let s = bits_small bits in let p = pow-suc 2 (length bits) in omega (arith, s, p)
bits_small (false ∷ bits) = let s = bits_small bits in let p = pow-suc 2 (length bits) in omega (arith, s, p)

pub sides_back : (sides : List Bool) → length sides ≡ 64 → sides_of (bits_number sides) ≡ sides
unfolding sides_of
sides_back sides long = ap (λ n. number_bits n (bits_number sides)) (sym long) ∙ bits_back sides

read_by : (g : Geometry) (bytes : List ℕ) (format number tail : ℕ) → number_at bytes 0 ≡ format → little_from 4 8 bytes ≡ number → number_at bytes 12 ≡ tail
    → read_map g bytes ≡ map_of g format number tail
unfolding read_map
read_by g bytes format number tail a b c =
    ap (λ x. map_of g x (little_from 4 8 bytes) (number_at bytes 12)) a ∙ ap (λ x. map_of g format x (number_at bytes 12)) b ∙ ap (λ x. map_of g format number x) c

-- what was read of them
pub read_is : (g : Geometry) (bytes : List ℕ) (format number tail : ℕ) → format ≡ number_at bytes 0 → number ≡ little_from 4 8 bytes → tail ≡ number_at bytes 12
    → map_of g format number tail ≡ read_map g bytes
read_is g bytes format number tail a b c = sym (read_by g bytes format number tail (sym a) (sym b) (sym c))

later : (rest : List ℕ) → little_from 4 8 (little_bytes 4 2 ++ rest) ≡ little_from 0 8 rest
later rest = little_from-cons 3 8 2 (0 ∷ 0 ∷ 0 ∷ rest) ∙ little_from-cons 2 8 0 (0 ∷ 0 ∷ rest) ∙ little_from-cons 1 8 0 (0 ∷ rest) ∙ little_from-cons 0 8 0 rest

good : (g : Geometry) (number : ℕ) (sides : List Bool) → sides_of number ≡ sides → are_parts g 1 sides ≡ true → map_of g 2 number 0 ≡ Some (record { in_parts = true; sides = sides })
good g number sides is named =
    ap (λ s. if are_parts g 1 s then Some (record { in_parts = true; sides = s }) else None) is
    ∙ ap (λ b. if b then Some (record { in_parts = true; sides = sides }) else None) named

-- the map that was spelled is read
pub spelled_reads : (g : Geometry) (sides : List Bool) → length sides ≡ 64 → are_parts g 1 sides ≡ true → read_map g (spelled_map sides) ≡ Some (record { in_parts = true; sides = sides })
spelled_reads g sides long named =
    let number = bits_number sides in
    let small : number < 256 ^ 8 = let s = bits_small sides in let p : 2 ^ length sides ≡ 2 ^ 64 = ap (λ n. 2 ^ n) long in omega (arith, s, p) in
    let rest = little_bytes 8 number ++ replicate 4 0 in
    let format = number_there [] rest 2 (omega arith) in
    let middle = later rest ∙ little_number-reads_back 8 number (replicate 4 0) small in
    let front = little_bytes 4 2 ++ little_bytes 8 number in
    let tail : number_at (spelled_map sides) 12 ≡ 0
    = ap (λ l. number_at l 12) (sym (append_assoc (little_bytes 4 2) (little_bytes 8 number) (replicate 4 0)) ∙ ap (λ l. front ++ l) (sym (append-nil (little_bytes 4 0))))
    ∙ ap (λ n. number_at (front ++ (little_bytes 4 0 ++ [])) n) {y = length front} (sym (twelve number))
    ∙ number_there front [] 0 (omega arith) in
    read_by g (spelled_map sides) 2 number 0 format middle tail ∙ good g number sides (sides_back sides long) named
  where
    twelve : (number : ℕ) → length (little_bytes 4 2 ++ little_bytes 8 number) ≡ 12
    twelve number = let a = length-append (little_bytes 4 2) (little_bytes 8 number) in let b = length-bytes_low_first 0 8 number in omega (arith, a, b)

-- the parts from k on of which a bit is set have bytes
pub named_from : (g : Geometry) (sides : List Bool) (k : ℕ) → ((j : ℕ) → j < length sides → slice_index_or sides j false ≡ true → place g (k + j) < place g (suc (k + j))) → are_parts g k sides ≡ true
named_from g [] k each = refl
named_from g (true ∷ sides) k each =
    let zeroth : k + 0 ≡ k = omega arith in
    let first : place g k < place g (suc k) = subst (λ n. place g n < place g (suc n)) zeroth (each 0 (omega arith) refl) in
    let yes : nat_lt (place g k) (place g (suc k)) ≡ true = lt-ltb (place g k) (place g (suc k)) first in
    let rest = named_from g sides (suc k) (λ j below is. let at : k + suc j ≡ suc k + j = omega arith in subst (λ n. place g n < place g (suc n)) at (each (suc j) (omega (arith, below)) is)) in
    ap (λ b. b && are_parts g (suc k) sides) yes ∙ rest
named_from g (false ∷ sides) k each =
    named_from g sides (suc k) (λ j below is. let at : k + suc j ≡ suc k + j = omega arith in subst (λ n. place g n < place g (suc n)) at (each (suc j) (omega (arith, below)) is))

-- what was found of the numbers of a map
pub map_if : (g : Geometry) (format number tail : ℕ) (sides : List Bool) → sides ≡ sides_of number → is_map g format number tail sides ≡ true
    → Some (record { in_parts = eqb format 2; sides = sides }) ≡ map_of g format number tail
map_if g format number tail sides is good =
    ap (λ b. if b then Some (record { in_parts = eqb format 2; sides = sides }) else None) (sym good)
    ∙ ap (λ s. if is_map g format number tail s then Some (record { in_parts = eqb format 2; sides = s }) else None) is

pub map_else : (g : Geometry) (format number tail : ℕ) (sides : List Bool) → sides ≡ sides_of number → is_map g format number tail sides ≡ false → None ≡ map_of g format number tail
map_else g format number tail sides is bad =
    ap (λ b. if b then Some (record { in_parts = eqb format 2; sides = sides }) else None) (sym bad)
    ∙ ap (λ s. if is_map g format number tail s then Some (record { in_parts = eqb format 2; sides = s }) else None) is

-- one bit more of a number
pub bits_more : (n k rest : ℕ) (sides : List Bool) (all : List Bool) → k < n → k < length sides → take k sides ++ number_bits (n - k) rest ≡ all
    → take (k + 1) (set sides k (eqb (rest % 2) 1)) ++ number_bits (n - (k + 1)) (rest / 2) ≡ all
bits_more n k rest sides all below within so_far =
    let e : n - k ≡ suc (n - (k + 1)) = omega arith in
    ap (λ l. l ++ number_bits (n - (k + 1)) (rest / 2)) (take_more_set sides k (eqb (rest % 2) 1) within)
    ∙ append_assoc (take k sides) (eqb (rest % 2) 1 ∷ []) (number_bits (n - (k + 1)) (rest / 2))
    ∙ ap (λ m. take k sides ++ number_bits m rest) (sym e) ∙ so_far

pub bits_start : (n number : ℕ) (sides : List Bool) → take 0 sides ++ number_bits (n - 0) number ≡ number_bits n number
bits_start n number sides = ap (λ m. number_bits m number) (same n)
  where
    same : (n : ℕ) → n - 0 ≡ n
    same n = omega arith

pub bits_end : (n k rest : ℕ) (sides all : List Bool) → n ≤ k → length sides ≡ n → k ≤ n → take k sides ++ number_bits (n - k) rest ≡ all → sides ≡ all
bits_end n k rest sides all le long ge so_far =
    let none : n - k ≡ 0 = omega arith in
    sym (take_all k sides (omega arith)) ∙ sym (append-nil (take k sides)) ∙ ap (λ m. take k sides ++ number_bits m rest) {x = 0} (sym none) ∙ so_far

pub spelled_long : (sides : List Bool) → length (spelled_map sides) ≡ 16
spelled_long sides =
    let a = length-append (little_bytes 4 2) (little_bytes 8 (bits_number sides) ++ replicate 4 0) in
    let b = length-append (little_bytes 8 (bits_number sides)) (replicate 4 0) in
    let c = length-bytes_low_first 0 8 (bits_number sides) in
    omega (arith, a, b, c)
