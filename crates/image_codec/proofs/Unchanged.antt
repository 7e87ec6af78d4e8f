-- A read puts the block back with its address and its bytes, and at most one more failure: so the run, its bytes and
-- what was read of them stay, and failures only grow.
use Rattle.std.proofs.Common.{◌≡◌, ℕ, zero, suc, ◌+◌, ◌-◌, ◌<◌, ◌≤◌, List, [], ◌∷◌, ◌++◌, length, map, get_or, set, take, Option, Some, None, inl, inr, refl, sym, ap, subst, ◌∙◌, arith}
use Rattle.std.specs.Prelude.{is_some, IfSome, IfErr, Result, Ok, Err}
use Rattle.std.proofs.lemmas.Bool.{cases_lt}
use Rattle.std.proofs.lemmas.List.{length-map, get_or-map, get_or_past, get_or_append_left, get_or-append_right}
use Rattle.geometry.specs.Weights.{weigh}
use Rattle.geometry.proofs.Indexing.{each_set}
use Rattle.geometry.proofs.Weighing.{weigh-set}
use Rattle.device.specs.Parts.{IsBlockRun}
use Rattle.geometry.specs.declared.shape.Shape.{Shape}
use Rattle.geometry.specs.File.{Block as Bytes}
use Rattle.image.specs.declared.image.Node.{Node as NodeValue}
use Rattle.image.specs.declared.image.NodeEntry.{NodeEntry}
use Rattle.image.specs.Image.{no_entry}
use Rattle.image.specs.Node.{Spells}
use Rattle.image.specs.View.{node_view}
use Rattle.image_codec.specs.Blocks.{bytes_at}

pub map_same : {A C : Type 0} (f : A → C) (xs : List A) (i : ℕ) (x d : A) → i < length xs → f x ≡ f (get_or xs i d) → map f (set xs i x) ≡ map f xs
map_same f [] i x d within same = refl
map_same f (y ∷ xs) zero x d within same = ap (λ z. z ∷ map f xs) same
map_same f (y ∷ xs) (suc i) x d within same = ap (λ zs. f y ∷ zs) (map_same f xs i x d (omega arith) same)

module _ {B : Type 0} (address : B → ℕ) (content : B → List ℕ) (size : ℕ) (blocks : List B) (run : IsBlockRun address content size 1 blocks) where
  pub block_long : (i : ℕ) (d : B) → i < length blocks → length (content (get_or blocks i d)) ≡ size
  block_long i d within = run.lengths i d within

  pub run_same : (i : ℕ) (x d : B) → i < length blocks → address x ≡ address (get_or blocks i d) → content x ≡ content (get_or blocks i d) → IsBlockRun address content size 1 (set blocks i x)
  run_same i x d within at is = record {
    addresses = each_set (λ k b. address b ≡ 1 + k) blocks i x run.addresses (at ∙ run.addresses i d within);
    lengths = each_set (λ k b. length (content b) ≡ size) blocks i x run.lengths (ap length is ∙ run.lengths i d within);
  }

  -- the bytes at an address are those of the block there
  pub bytes_here : (i : ℕ) (d : B) → i < length blocks → bytes_at content blocks (suc i) ≡ content (get_or blocks i d)
  bytes_here i d within = let back : suc i - 1 ≡ i = omega arith in ap (λ k. get_or (map content blocks) k []) back ∙ get_or-map content blocks i d [] within

  -- so what was read of the block at an address is the bytes there
  pub bytes_read : (a : ℕ) (found : B) (bytes : List ℕ) → 0 < a → a - 1 < length blocks → bytes ≡ content found → found ≡ get_or blocks (a - 1) found → bytes ≡ bytes_at content blocks a
  bytes_read a found bytes some within read value =
      let back : suc (a - 1) ≡ a = omega arith in
      read ∙ (ap content value ∙ sym (ap (bytes_at content blocks) (sym back) ∙ bytes_here (a - 1) found within))

  pub bytes_past : (i : ℕ) → length blocks ≤ i → bytes_at content blocks (suc i) ≡ []
  bytes_past i past = let back : suc i - 1 ≡ i = omega arith in let long = length-map blocks content in ap (λ k. get_or (map content blocks) k []) back ∙ get_or_past (map content blocks) i [] (omega arith)

pub long_take : {A : Type 0} (n : ℕ) (xs : List A) → n ≤ length xs → length (take n xs) ≡ n
long_take zero [] few = refl
long_take zero (x ∷ xs) few = refl
long_take (suc n) [] few = absurd (omega arith)
long_take (suc n) (x ∷ xs) few = let rest = long_take n xs (omega arith) in omega arith

-- a table comes to its next item
pub map_next : {A C : Type 0} (f : A → C) (xs : List A) (i : ℕ) (d : A) → i < length xs → map f (take (i + 1) xs) ≡ map f (take i xs) ++ f (get_or xs i d) ∷ []
map_next f [] i d low = absurd (omega arith)
map_next f (x ∷ xs) zero d low = refl
map_next f (x ∷ xs) (suc i) d low =
    let next : suc i + 1 ≡ suc (i + 1) = omega arith in
    ap (λ n. map f (take n (x ∷ xs))) next ∙ ap (λ ys. f x ∷ ys) (map_next f xs i d (omega arith))

pub map_push : {A C : Type 0} (f : A → C) (xs : List A) (x : A) → map f (xs ++ x ∷ []) ≡ map f xs ++ f x ∷ []
map_push f [] x = refl
map_push f (y ∷ xs) x = ap (λ ys. f y ∷ ys) (map_push f xs x)

-- ---- how often blocks have failed

pub if_err : {T E : Type 0} (r : Result T E) (P : E → Type 0) → ((e : E) → P e) → IfErr r P
if_err (Ok x) P all = tt
if_err (Err e) P all = all e

pub fails_more : {A : Type 0} (failed : A → ℕ) (xs : List A) (i : ℕ) (x d : A) → i < length xs → failed (get_or xs i d) < failed x → weigh failed xs < weigh failed (set xs i x)
fails_more failed xs i x d within more = let both = weigh-set failed xs i x d within in omega arith

pub fails_as_often : {A : Type 0} (failed : A → ℕ) (xs : List A) (i : ℕ) (x d : A) → i < length xs → failed x ≡ failed (get_or xs i d) → weigh failed (set xs i x) ≡ weigh failed xs
fails_as_often failed xs i x d within same = let both = weigh-set failed xs i x d within in omega arith

-- ---- each node that was read is spelled by its block

abbrev pub AreSpelled : Shape → (ℕ → Bytes) → List NodeEntry → List (Option NodeValue) → Type 0
AreSpelled shape bytes table nodes = (k : ℕ) (node : NodeValue) → get_or nodes k None ≡ Some node → Spells shape (bytes (get_or table k no_entry).address) (node_view node)

pub spelled_next : (shape : Shape) (bytes : ℕ → Bytes) (table : List NodeEntry) (nodes : List (Option NodeValue)) (found : Option NodeValue) → AreSpelled shape bytes table nodes
    → IfSome found (λ node. Spells shape (bytes (get_or table (length nodes) no_entry).address) (node_view node)) → AreSpelled shape bytes table (nodes ++ found ∷ [])
spelled_next shape bytes table nodes found are here k node at = elim (cases_lt k (length nodes)) [
  | inl low ↦ are k node (sym (get_or_append_left nodes (found ∷ []) None k low) ∙ at)
  | inr high ↦ past high (k - length nodes) refl
]
  where
    split : length nodes ≤ k → (m : ℕ) → k - length nodes ≡ m → get_or (nodes ++ found ∷ []) k None ≡ get_or (found ∷ []) m None
    split high m is = get_or-append_right nodes (found ∷ []) (length nodes) k None refl (omega arith) ∙ ap (λ i. get_or (found ∷ []) i None) is

    past : length nodes ≤ k → (m : ℕ) → k - length nodes ≡ m → Spells shape (bytes (get_or table k no_entry).address) (node_view node)
    past high zero is =
        let some : found ≡ Some node = sym (split high zero is) ∙ at in
        let last : length nodes ≡ k = omega arith in
        subst (λ i. Spells shape (bytes (get_or table i no_entry).address) (node_view node)) last
        (subst (λ f. IfSome f (λ n. Spells shape (bytes (get_or table (length nodes) no_entry).address) (node_view n))) some here)
    past high (suc m) is = let no = ap (λ (o : Option (NodeValue)). is_some o) (sym (split high (suc m) is) ∙ at) in cc
