-- Where the fields of a row stand in bytes that begin with it, and bytes put together from fields.
use Rattle.std.proofs.Common.{◌≡◌, ◌∙◌, ◌+◌, ◌++◌, ℕ, List, ap, ap₂, sym, length, take, drop, arith}
use Rattle.std.proofs.lemmas.List.{append_assoc, take_at, drop_at, drop-drop, take-append-drop, take-take, drop-take}
use Rattle.std.specs.Int.{w32, w64, to_le_bytes}

-- three fields of 4, 8 and 8 bytes, a name, and what comes behind it
module _ (a b c name behind bytes : List ℕ) (four : length a ≡ 4) (eight : length b ≡ 8) (other : length c ≡ 8) (is : bytes ≡ a ++ b ++ c ++ name ++ behind) where
  in_order : bytes ≡ a ++ (b ++ (c ++ (name ++ behind)))
  in_order = is ∙ append_assoc (a ++ b ++ c) name behind ∙ append_assoc (a ++ b) c (name ++ behind) ∙ append_assoc a b (c ++ (name ++ behind))

  pub first_is : take 4 bytes ≡ a
  first_is = ap (take 4) in_order ∙ take_at a (b ++ (c ++ (name ++ behind))) 4 four

  from_4 : drop 4 bytes ≡ b ++ (c ++ (name ++ behind))
  from_4 = ap (drop 4) in_order ∙ drop_at a (b ++ (c ++ (name ++ behind))) 4 four

  pub second_is : take 8 (drop 4 bytes) ≡ b
  second_is = ap (take 8) from_4 ∙ take_at b (c ++ (name ++ behind)) 8 eight

  from_12 : drop 12 bytes ≡ c ++ (name ++ behind)
  from_12 = sym (drop-drop 8 4 bytes) ∙ ap (drop 8) from_4 ∙ drop_at b (c ++ (name ++ behind)) 8 eight

  pub third_is : take 8 (drop 12 bytes) ≡ c
  third_is = ap (take 8) from_12 ∙ take_at c (name ++ behind) 8 other

  pub from_20 : drop 20 bytes ≡ name ++ behind
  from_20 = sym (drop-drop 8 12 bytes) ∙ ap (drop 8) from_12 ∙ drop_at c (name ++ behind) 8 other

-- the first m + n are the first m and the n behind them
pub take_split : (m n : ℕ) (xs : List ℕ) → take (m + n) xs ≡ take m xs ++ take n (drop m xs)
take_split m n xs =
    sym (take-append-drop m (take (m + n) xs)) ∙ ap₂ (λ (ys zs : List ℕ). ys ++ zs) (take-take m (m + n) xs (omega arith)) (drop-take m n xs)

-- the fields of a row, each where it stands, make the row
pub fields_make : (n number file_bytes : ℕ) (name bytes : List ℕ) → to_le_bytes w32 number ≡ take 4 bytes → to_le_bytes w64 file_bytes ≡ take 8 (drop 4 bytes)
    → to_le_bytes w64 n ≡ take 8 (drop 12 bytes) → name ≡ take n (drop 20 bytes) → length name ≡ n
    → take (20 + n) bytes ≡ to_le_bytes w32 number ++ to_le_bytes w64 file_bytes ++ to_le_bytes w64 (length name) ++ name
fields_make n number file_bytes name bytes first second third fourth long =
    take_split 20 n bytes
    ∙ ap₂ (λ (ys zs : List ℕ). ys ++ zs)
    (take_split 12 8 bytes
    ∙ ap₂ (λ (ys zs : List ℕ). ys ++ zs)
    (take_split 4 8 bytes ∙ ap₂ (λ (ys zs : List ℕ). ys ++ zs) (sym first) (sym second))
    (sym third ∙ ap (to_le_bytes w64) (sym long)))
    (sym fourth)
