-- What a written block makes of the bytes that a file has, where its last block goes on with zeros.
use Rattle.std.proofs.Common.{◌≡◌, ◌∙◌, ◌+◌, ◌-◌, ◌*◌, ◌++◌, ◌<◌, ◌≤◌, ℕ, List, replicate, length, take, drop, ap, ap₂, sym, subst, arith}
use Rattle.std.proofs.lemmas.List.{append_assoc, length-append, length-replicate, replicate-append-replicate, take-append-le}
use Rattle.geometry.specs.File.{File, bytes_at, written}
use Rattle.file_cells.specs.Pass.{AreWhole, AreWithin}
use Rattle.flash_volume.specs.Answers.{laid_over}
use Rattle.image_reading.specs.Content.{all_bytes}
use Rattle.byte_files.specs.Bytes.{HasBytes, extended, written_at}
use Rattle.byte_files.specs.Calls.{IsWrittenAt}
use Rattle.byte_files.proofs.Lists.{length_extended, drop_in_zeros, written_some, written_twice, take_split}
use Rattle.byte_files.proofs.Blocks.{block_written}

-- bytes were laid over those of the blocks, with zeros up to a room that ends with the block of the last
has_written : (size at room : ℕ) (bytes laid : List ℕ) (old new : File) → HasBytes size bytes old → at + length laid ≤ room → room < at + length laid + size
    → all_bytes size new ≡ laid_over (extended (all_bytes size old) room) at laid → HasBytes size (laid_over (extended bytes at) at laid) new
has_written size at room bytes laid old new has far near made =
    let all : List ℕ = all_bytes size old in
    let c : ℕ = length bytes in
    let w : ℕ = has.zeros + (room - length all) in
    let v : ℕ = w - (at - c) in
    let grown : List ℕ = extended bytes at in
    let all_long : length all ≡ c + has.zeros = ap length has.spelled ∙ length-append bytes (replicate has.zeros 0) ∙ ap (λ n. c + n) (length-replicate has.zeros 0) in
    let grown_long : length grown ≡ c + (at - c) = length_extended bytes at in
    let enough : at + length laid ≤ c + w = omega (arith, all_long, far) in
    let as_zeros : extended all room ≡ bytes ++ replicate w 0
    = ap (λ xs. xs ++ replicate (room - length all) 0) has.spelled ∙ append_assoc bytes (replicate has.zeros 0) (replicate (room - length all) 0)
    ∙ ap (λ xs. bytes ++ xs) (replicate-append-replicate has.zeros (room - length all) 0) in
    let sum : (at - c) + v ≡ w = omega (arith, enough) in
    let as_grown : extended all room ≡ grown ++ replicate v 0
    = as_zeros ∙ ap (λ n. bytes ++ replicate n 0) (sym sum) ∙ ap (λ xs. bytes ++ xs) (sym (replicate-append-replicate (at - c) v 0))
    ∙ sym (append_assoc bytes (replicate (at - c) 0) (replicate v 0)) in
    let zeros : ℕ = v - (at + length laid - length grown) in
    let front : take at (extended all room) ≡ take at grown = ap (take at) as_grown ∙ take-append-le at grown (replicate v 0) (omega (arith, grown_long)) in
    let back : drop (at + length laid) (extended all room) ≡ drop (at + length laid) grown ++ replicate zeros 0
    = ap (drop (at + length laid)) as_grown ∙ drop_in_zeros grown v (at + length laid) (omega (arith, grown_long, enough)) in
    record {
      zeros = zeros;
      in_last_block = small size c has.zeros room (length all) at (length laid) (length grown) has.in_last_block all_long grown_long near;
      spelled =
          made
          ∙ ap₂ (λ (xs ys : List ℕ). xs ++ (laid ++ ys)) front back
          ∙ ap (λ xs. take at grown ++ xs) (sym (append_assoc laid (drop (at + length laid) grown) (replicate zeros 0)))
          ∙ sym (append_assoc (take at grown) (laid ++ drop (at + length laid) grown) (replicate zeros 0));
    }
  where
    small : (s c z room all at d g : ℕ) → z < s → all ≡ c + z → g ≡ c + (at - c) → room < at + d + s → z + (room - all) - (at - c) - (at + d - g) < s
    small s c z room all at d g low one two less = omega (arith, low, one, two, less)

-- bytes were laid over the block at an index, from a byte of it on
pub part_written : (size : ℕ) (old : File) (index from : ℕ) (laid : List ℕ) → AreWhole size old → AreWithin old → from + length laid ≤ size → 0 < length laid
    → IsWrittenAt size (index * size + from) laid old (written old index (laid_over (bytes_at size old index) from laid))
part_written size old index from laid whole inside fits some bytes has =
    let at : ℕ = index * size + from in
    let new : File = written old index (laid_over (bytes_at size old index) from laid) in
    subst (λ xs. HasBytes size xs new) (sym (written_some bytes laid at some))
    (has_written size at ((index + 1) * size) bytes laid old new has (reach index size from (length laid) fits) (last index size from (length laid) some)
    (block_written size old index from laid whole inside fits))
  where
    reach : (i s f p : ℕ) → f + p ≤ s → i * s + f + p ≤ (i + 1) * s
    reach i s f p within = omega (arith, within)

    last : (i s f p : ℕ) → 0 < p → (i + 1) * s < i * s + f + p + s
    last i s f p positive = omega (arith, positive)

-- more bytes were written behind those before
pub more_written : (size at n m place : ℕ) (xs : List ℕ) (old now new : File) → IsWrittenAt size at (take n xs) old now → length (take n xs) ≡ n → place ≡ at + n
    → IsWrittenAt size place (take m (drop n xs)) now new → IsWrittenAt size at (take (n + m) xs) old new
more_written size at n m place xs old now new before long here step bytes has =
    let one : List ℕ = take n xs in
    let other : List ℕ = take m (drop n xs) in
    subst (λ ys. HasBytes size ys new)
    (ap (λ k. written_at (written_at bytes at one) k other) (here ∙ ap (λ k. at + k) (sym long)) ∙ written_twice bytes one other at ∙ ap (written_at bytes at) (sym (take_split n m xs)))
    (step (written_at bytes at one) (before bytes has))
