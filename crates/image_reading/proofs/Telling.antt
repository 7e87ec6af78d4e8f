-- What a file shows after one more answer: this answer is true of it, and so are all earlier ones.
use Rattle.std.proofs.Common.{◌≡◌, ℕ, suc, List, ◌∷◌, length, Result, Ok, Err, IfOk, OnOk, OnErr, subst, arith}
use Rattle.device.specs.Disk.{part}
use Rattle.image_reading.specs.Told.{HaveLengths, HaveParts}
use Rattle.image_reading.specs.declared.seen.SeenBytes.{SeenBytes}

module _ {E : Type 0} (new old : List (ℕ × Unit {0})) (bytes : List ℕ) where
  pub lengths_before : (r : Result ℕ E) → IfOk r (λ size. new ≡ (size, tt) ∷ old) → OnErr r (new ≡ old) → HaveLengths new bytes → HaveLengths old bytes
  lengths_before (Ok size) told failed have = λ k d low. subst (λ xs. HaveLengths xs bytes) told have (suc k) d (omega (arith, low))
  lengths_before (Err e) told failed have = subst (λ xs. HaveLengths xs bytes) failed have

module _ (new old : List (ℕ × Unit {0})) (bytes : List ℕ) where
  pub length_told : (size : ℕ) → new ≡ (size, tt) ∷ old → HaveLengths new bytes → length bytes ≡ size
  length_told size told have = subst (λ xs. HaveLengths xs bytes) told have 0 (size, tt) (omega arith)

module _ {T E : Type 0} (at : ℕ) (out : List ℕ) (new old : List (ℕ × SeenBytes)) (bytes : List ℕ) where
  pub parts_before : (r : Result T E) → OnOk r (new ≡ (at, record { items = out }) ∷ old) → OnErr r (new ≡ old) → HaveParts new bytes → HaveParts old bytes
  parts_before (Ok x) read failed have = λ k d low. subst (λ xs. HaveParts xs bytes) read have (suc k) d (omega (arith, low))
  parts_before (Err e) read failed have = subst (λ xs. HaveParts xs bytes) failed have

module _ (at : ℕ) (out : List ℕ) (new old : List (ℕ × SeenBytes)) (bytes : List ℕ) where
  pub part_read : new ≡ (at, record { items = out }) ∷ old → HaveParts new bytes → out ≡ part at (length out) bytes
  part_read read have = subst (λ xs. HaveParts xs bytes) read have 0 (at, record { items = out }) (omega arith)

pub if_ok : {T E : Type 0} (r : Result T E) (P Q : T → Type 0) → ((x : T) → P x → Q x) → IfOk r P → IfOk r Q
if_ok (Ok x) P Q so is = so x is
if_ok (Err e) P Q so is = tt

pub on_ok : {T E : Type 0} (r : Result T E) (P Q : Type 0) → (P → Q) → OnOk r P → OnOk r Q
on_ok (Ok x) P Q so is = so is
on_ok (Err e) P Q so is = tt
