-- What stands in the blocks of a file, and what a write and a cut make of their bytes.
use Rattle.std.proofs.Common.{◌≡◌, ◌≢◌, ◌∙◌, ◌+◌, ◌-◌, ◌*◌, ◌++◌, ◌<◌, ◌≤◌, ℕ, zero, suc, List, [], Some, None, max, min, cond, nat_lt, unwrap_or, replicate, length, take, drop, ap, ap₂, sym, refl, subst, eq-eqb, ne_eqb, add-one, lit<, inl, inr, arith}
use borrow.Author.Tests.{lt-ltb, le-ltb}
use Rattle.std.proofs.lemmas.Bool.{cases_lt}
use Rattle.std.proofs.lemmas.Cmp.{nat_cmp_total}
use Rattle.std.proofs.lemmas.List.{append_assoc, append-nil, length-append, length-drop, replicate-append-replicate, take-append-le, drop-append-le}
use Rattle.std.specs.Cmp.{unsigned_tied}
use Rattle.std.specs.FinMap.{FinMap, get, insert, get-insert, get-retain_keys, nat_cmp-IsAntisymmetric}
use Rattle.std.specs.Ordering.{nat_cmp}
use Rattle.geometry.specs.File.{File, Block, bytes_at, written, cut_to}
use Rattle.geometry.specs.Shape.{block_bytes}
use Rattle.geometry.specs.declared.shape.Shape.{Shape}
use Rattle.geometry.specs.declared.shape.Shape.TheVariants.{Tiny, Kernel}
use Rattle.file_cells.specs.Pass.{AreWhole, AreWithin}
use Rattle.flash_volume.proofs.Laid.{whole_or_hole}
use Rattle.flash_volume.specs.Answers.{block_of, laid_over}
use Rattle.image_reading.specs.Content.{all_bytes, front_bytes}
use Rattle.byte_files.specs.Bytes.{extended}
use Rattle.byte_files.proofs.Lists.{extended_enough, laid_in_middle, drop_past}

pub block_some : (shape : Shape) → 0 < block_bytes shape
block_some Tiny = lit< tt
block_some Kernel = lit< tt

got : (m : FinMap nat_cmp Block) (k : ℕ) (v : Block) → get (insert m k v) k ≡ Some v
got m k v = get-insert nat_cmp_total m k v k ∙ ap (λ b. cond b (Some v) (get m k)) (unsigned_tied k k ∙ eq-eqb k k refl)

kept : (m : FinMap nat_cmp Block) (k : ℕ) (v : Block) (q : ℕ) → q ≢ k → get (insert m k v) q ≡ get m q
kept m k v q e = get-insert nat_cmp_total m k v q ∙ ap (λ b. cond b (Some v) (get m q)) (unsigned_tied q k ∙ ne_eqb q k e)

pub at_written : (size : ℕ) (file : File) (index : ℕ) (block : Block) → bytes_at size (written file index block) index ≡ block
at_written size file index block = ap (λ o. unwrap_or o (replicate size 0)) (got file.blocks index block)

at_others : (size : ℕ) (file : File) (index : ℕ) (block : Block) (q : ℕ) → q ≢ index → bytes_at size (written file index block) q ≡ bytes_at size file q
at_others size file index block q other = ap (λ o. unwrap_or o (replicate size 0)) (kept file.blocks index block q other)

-- ---- what stands at an index

module _ (size : ℕ) (file : File) where
  pub at_long : AreWhole size file → (index : ℕ) → length (bytes_at size file index) ≡ size
  at_long whole index = whole_or_hole size (get file.blocks index) (whole index)

  -- past the length a file has zeros
  pub at_past : AreWithin file → (index : ℕ) → file.length ≤ index → bytes_at size file index ≡ replicate size 0
  at_past within index past = ap (λ o. unwrap_or o (replicate size 0)) (within index past)

  pub block_of_is : AreWithin file → (index : ℕ) → block_of size file index ≡ bytes_at size file index
  block_of_is within index = elim (cases_lt index file.length) [
    | inl low ↦ ap (λ b. cond b (bytes_at size file index) (replicate size 0)) (lt-ltb index file.length low)
    | inr high ↦ ap (λ b. cond b (bytes_at size file index) (replicate size 0)) (le-ltb index file.length high) ∙ sym (at_past within index high)
  ]

  -- the bytes of so many blocks from one on
  abbrev pub behind : ℕ → ℕ → List ℕ
  behind i zero = []
  behind i (suc k) = bytes_at size file i ++ behind (i + 1) k

  pub split_at : (i k : ℕ) → front_bytes size file (i + k) ≡ front_bytes size file i ++ behind i k
  split_at i zero = ap (front_bytes size file) (nothing i) ∙ sym (append-nil (front_bytes size file i))
    where
      nothing : (a : ℕ) → a + 0 ≡ a
      nothing a = omega arith
  split_at i (suc k) =
      ap (front_bytes size file) (step i k) ∙ split_at (i + 1) k
      ∙ ap (λ xs. xs ++ behind (i + 1) k) (ap (front_bytes size file) (add-one i))
      ∙ append_assoc (front_bytes size file i) (bytes_at size file i) (behind (i + 1) k)
    where
      step : (a b : ℕ) → a + suc b ≡ a + 1 + b
      step a b = omega arith

  pub length_front : AreWhole size file → (n : ℕ) → length (front_bytes size file n) ≡ n * size
  length_front whole zero = none size
    where
      none : (a : ℕ) → 0 ≡ 0 * a
      none a = omega arith
  length_front whole (suc n) =
      length-append (front_bytes size file n) (bytes_at size file n)
      ∙ ap₂ (λ (a b : ℕ). a + b) (length_front whole n) (at_long whole n)
      ∙ more n size
    where
      more : (a s : ℕ) → a * s + s ≡ suc a * s
      more a s = omega arith

  pub front_past : AreWithin file → (k : ℕ) → front_bytes size file (file.length + k) ≡ all_bytes size file ++ replicate (k * size) 0
  front_past within zero =
      ap (front_bytes size file) (nothing file.length) ∙ sym (append-nil (all_bytes size file)) ∙ ap (λ n. all_bytes size file ++ replicate n 0) (none size)
    where
      nothing : (a : ℕ) → a + 0 ≡ a
      nothing a = omega arith

      none : (a : ℕ) → 0 ≡ 0 * a
      none a = omega arith
  front_past within (suc k) =
      ap (front_bytes size file) (step file.length k)
      ∙ ap₂ (λ (xs ys : List ℕ). xs ++ ys) (front_past within k) (at_past within (file.length + k) (omega arith))
      ∙ append_assoc (all_bytes size file) (replicate (k * size) 0) (replicate size 0)
      ∙ ap (λ xs. all_bytes size file ++ xs) (replicate-append-replicate (k * size) size 0)
      ∙ ap (λ n. all_bytes size file ++ replicate n 0) (more k size)
    where
      step : (a b : ℕ) → a + suc b ≡ suc (a + b)
      step a b = omega arith

      more : (a s : ℕ) → a * s + s ≡ suc a * s
      more a s = omega arith

  -- bytes that lie in one block are those of the block
  pub in_block : AreWhole size file → (index from count : ℕ) → index < file.length → from + count ≤ size
      → take count (drop (index * size + from) (all_bytes size file)) ≡ take count (drop from (bytes_at size file index))
  in_block whole index from count low fits =
      let k : ℕ = file.length - index - 1 in
      let sum : file.length ≡ index + suc k = omega (arith, low) in
      let front : List ℕ = front_bytes size file index in
      let here : List ℕ = bytes_at size file index in
      let rest : List ℕ = behind (index + 1) k in
      let long : length here ≡ size = at_long whole index in
      let cut = length-drop from here in
      ap (λ xs. take count (drop (index * size + from) xs)) (ap (front_bytes size file) sum ∙ split_at index (suc k))
      ∙ ap (λ n. take count (drop (n + from) (front ++ (here ++ rest)))) (sym (length_front whole index))
      ∙ ap (take count) (drop_past front (here ++ rest) from ∙ drop-append-le from here rest (omega (arith, long, fits)))
      ∙ take-append-le count (drop from here) rest (omega (arith, long, fits, cut))

-- ---- what a write makes of the bytes

pub front_written : (size : ℕ) (file : File) (index : ℕ) (block : Block) (n : ℕ) → n ≤ index
    → front_bytes size (written file index block) n ≡ front_bytes size file n
front_written size file index block zero few = refl
front_written size file index block (suc n) few =
    let fewer : n ≤ index = omega (arith, few) in
    let other : n ≢ index = λ e. omega (arith, few, e) in
    ap₂ (λ (xs ys : List ℕ). xs ++ ys) (front_written size file index block n fewer) (at_others size file index block n other)

behind_written : (size : ℕ) (file : File) (index : ℕ) (block : Block) (i k : ℕ) → index < i
    → behind size (written file index block) i k ≡ behind size file i k
behind_written size file index block i zero past = refl
behind_written size file index block i (suc k) past =
    let other : i ≢ index = λ e. omega (arith, past, e) in
    ap₂ (λ (xs ys : List ℕ). xs ++ ys) (at_others size file index block i other) (behind_written size file index block (i + 1) k (omega (arith, past)))

module _ (size : ℕ) (file : File) (index from : ℕ) (laid : List ℕ) (whole : AreWhole size file) (inside : AreWithin file) (fits : from + length laid ≤ size) where
  abbrev here : Block
  here = bytes_at size file index

  abbrev block : Block
  block = laid_over here from laid

  long : length here ≡ size
  long = at_long size file whole index

  -- the block lies in the file
  in_place : (k : ℕ) → file.length ≡ index + suc k
      → all_bytes size (written file index block) ≡ laid_over (extended (all_bytes size file) ((index + 1) * size)) (index * size + from) laid
  in_place k reach =
      let front : List ℕ = front_bytes size file index in
      let rest : List ℕ = behind size file (index + 1) k in
      let stays : max file.length (index + 1) ≡ index + suc k = omega (arith, reach) in
      let before : all_bytes size file ≡ front ++ (here ++ rest) = ap (front_bytes size file) reach ∙ split_at size file index (suc k) in
      let front_long : length front ≡ index * size = length_front size file whole index in
      let within : from + length laid ≤ length here = omega (arith, fits, long) in
      let all_long : length (all_bytes size file) ≡ (index + suc k) * size = length_front size file whole file.length ∙ ap (λ n. n * size) reach in
      let enough : (index + 1) * size ≤ length (all_bytes size file) = room index k size (length (all_bytes size file)) all_long in
      ap (front_bytes size (written file index block)) stays
      ∙ split_at size (written file index block) index (suc k)
      ∙ ap₂ (λ (xs ys : List ℕ). xs ++ ys) (front_written size file index block index (omega arith))
      (ap₂ (λ (xs ys : List ℕ). xs ++ ys) (at_written size file index block)
      (behind_written size file index block (index + 1) k (omega arith)))
      ∙ sym (laid_in_middle front here rest laid from within)
      ∙ ap₂ (λ xs n. laid_over xs (n + from) laid) (sym before ∙ sym (extended_enough (all_bytes size file) ((index + 1) * size) enough)) front_long
    where
      room : (i j s n : ℕ) → n ≡ (i + suc j) * s → (i + 1) * s ≤ n
      room i j s n is = omega (arith, is)

  -- the block lies past the end
  at_the_end : (k : ℕ) → index ≡ file.length + k
      → all_bytes size (written file index block) ≡ laid_over (extended (all_bytes size file) ((index + 1) * size)) (index * size + from) laid
  at_the_end k far =
      let high : file.length ≤ index = omega (arith, far) in
      let all : List ℕ = all_bytes size file in
      let front : List ℕ = all ++ replicate (k * size) 0 in
      let zeros : here ≡ replicate size 0 = at_past size file inside index high in
      let all_long : length all ≡ file.length * size = length_front size file whole file.length in
      let front_is : front_bytes size file index ≡ front = ap (front_bytes size file) far ∙ front_past size file inside k in
      let front_long : length front ≡ index * size = ap length (sym front_is) ∙ length_front size file whole index in
      let within : from + length laid ≤ length here = omega (arith, fits, long) in
      let grows : max file.length (index + 1) ≡ suc index = omega (arith, high) in
      let more : (index + 1) * size - length all ≡ k * size + size = rest file.length k index size (length all) far all_long in
      let before : front ++ (here ++ []) ≡ extended all ((index + 1) * size)
      = ap (λ xs. front ++ xs) (append-nil here ∙ zeros) ∙ append_assoc all (replicate (k * size) 0) (replicate size 0)
      ∙ ap (λ xs. all ++ xs) (replicate-append-replicate (k * size) size 0) ∙ ap (λ n. all ++ replicate n 0) (sym more) in
      ap (front_bytes size (written file index block)) grows
      ∙ ap₂ (λ (xs ys : List ℕ). xs ++ ys)
      (front_written size file index block index (omega arith) ∙ front_is)
      (at_written size file index block ∙ sym (append-nil block))
      ∙ sym (laid_in_middle front here [] laid from within)
      ∙ ap₂ (λ xs n. laid_over xs (n + from) laid) before front_long
    where
      rest : (a b i s n : ℕ) → i ≡ a + b → n ≡ a * s → (i + 1) * s - n ≡ b * s + s
      rest a b i s n one other = subst (λ j. (j + 1) * s - n ≡ b * s + s) (sym one) (subst (λ m. (a + b + 1) * s - m ≡ b * s + s) (sym other) (omega arith))

  -- bytes are laid over what stands at an index, and so over the bytes of the file, with zeros up to the end of that block
  pub block_written : all_bytes size (written file index block) ≡ laid_over (extended (all_bytes size file) ((index + 1) * size)) (index * size + from) laid
  block_written = elim (cases_lt index file.length) [
    | inl low ↦ in_place (file.length - index - 1) (omega (arith, low))
    | inr high ↦ at_the_end (index - file.length) (omega (arith, high))
  ]

-- ---- what a cut leaves of them

pub front_cut : (size : ℕ) (file : File) (m n : ℕ) → n ≤ m → front_bytes size (cut_to file m) n ≡ front_bytes size file n
front_cut size file m zero few = refl
front_cut size file m (suc n) few =
    let fewer : n ≤ m = omega (arith, few) in
    let below : n < m = omega (arith, few) in
    ap₂ (λ (xs ys : List ℕ). xs ++ ys) (front_cut size file m n fewer)
    (ap (λ o. unwrap_or o (replicate size 0))
    (get-retain_keys file.blocks (λ k. nat_lt k m) n (λ x e. ap (λ k. nat_lt k m) (sym (nat_cmp-IsAntisymmetric n x e)))
    ∙ ap (λ b. cond b (get file.blocks n) None) (lt-ltb n m below)))

pub all_cut : (size : ℕ) (file : File) (m : ℕ) → m ≤ file.length → all_bytes size (cut_to file m) ≡ front_bytes size file m
all_cut size file m low = let least : min m file.length ≡ m = omega (arith, low) in ap (front_bytes size (cut_to file m)) least ∙ front_cut size file m m (omega arith)
