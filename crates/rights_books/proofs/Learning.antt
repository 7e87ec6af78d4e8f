-- A copy is past a number or not, and one more number leaves fewer past it: so a list that is learned in order has
-- nothing past the next item, and weighs what its front does.
use Rattle.std.proofs.Common.{◌≡◌, ℕ, ◌+◌, ◌<◌, Bool, true, false, List, [], ◌∷◌, ◌++◌, take, get_or, slice_get, Some, length, nat_lt, if◌then◌else◌, refl, ap, ◌∙◌, arith, add-one, take-suc, ltb-true, lt-ltb}
use Rattle.std.proofs.lemmas.Option.{slice_get_read}
use Rattle.geometry.specs.Weights.{weigh}
use Rattle.geometry.proofs.Weighing.{weigh-append}
use Rattle.rights_books.specs.declared.claim.Copied.{Copied}
use Rattle.rights_books.specs.declared.claim.Copied.TheVariants.{SegmentCopy, FileCopy, ShardCopy}
use Rattle.rights_books.specs.Weights.{past, segment_copy, file_copy, shard_copy}
use Rattle.rights_books.proofs.Lists.{weigh_none}

pub weigh_take_more : {A : Type 0} (f : A → ℕ) (xs : List A) (i : ℕ) (x : A) → i < length xs → x ≡ get_or xs i x → weigh f (take (i + 1) xs) ≡ weigh f (take i xs) + f x
weigh_take_more f xs i x within is =
    let a : weigh f (take (i + 1) xs) ≡ weigh f (take i xs ++ get_or xs i x ∷ []) = ap (λ (k : ℕ). weigh f (take k xs)) (add-one i) ∙ ap (weigh f) (take-suc xs i x within) in
    let b = weigh-append f (take i xs) (get_or xs i x ∷ []) in
    let c = ap f is in omega arith

-- what was borrowed of a list that is as before is the item at that place
pub borrowed_at : {A : Type 0} (xs ys : List A) (i : ℕ) (x : A) → ys ≡ xs → x ≡ get_or ys i x → i < length xs → (x ≡ get_or xs i x) × (slice_get xs i ≡ Some x)
borrowed_at xs ys i x same value within =
    let is : x ≡ get_or xs i x = value ∙ ap (λ (l : List _). get_or l i x) same in (is, slice_get_read xs (length xs) i x refl within is)

pub past_here : (n j : ℕ) → j ≡ n → past (n + 1) j ≡ 0
past_here n j e = rw (lt-ltb j (n + 1) (omega arith)) refl

past_next : (n j : ℕ) → past n j ≡ 0 → past (n + 1) j ≡ 0
past_next n j z = go (nat_lt j n) refl z
  where
    go : (b : Bool) → nat_lt j n ≡ b → ◌≡◌ {A = ℕ} (if b then 0 else 1) 0 → past (n + 1) j ≡ 0
    go true e z' = rw (lt-ltb j (n + 1) (let l = ltb-true j n e in omega arith)) refl
    go false e z' = absurd (omega arith)

pub segments_next : (n : ℕ) (cs : List Copied) → weigh (segment_copy (past n)) cs ≡ 0 → weigh (segment_copy (past (n + 1))) cs ≡ 0
segments_next n = weigh_none (segment_copy (past n)) (segment_copy (past (n + 1))) each
  where
    each : (x : Copied) → segment_copy (past n) x ≡ 0 → segment_copy (past (n + 1)) x ≡ 0
    each (SegmentCopy s ms) z = past_next n s z
    each (FileCopy i ts ks) z = refl
    each (ShardCopy k es) z = refl

pub files_next : (n : ℕ) (cs : List Copied) → weigh (file_copy (past n)) cs ≡ 0 → weigh (file_copy (past (n + 1))) cs ≡ 0
files_next n = weigh_none (file_copy (past n)) (file_copy (past (n + 1))) each
  where
    each : (x : Copied) → file_copy (past n) x ≡ 0 → file_copy (past (n + 1)) x ≡ 0
    each (SegmentCopy s ms) z = refl
    each (FileCopy i ts ks) z = past_next n i z
    each (ShardCopy k es) z = refl

pub shards_next : (n : ℕ) (cs : List Copied) → weigh (shard_copy (past n)) cs ≡ 0 → weigh (shard_copy (past (n + 1))) cs ≡ 0
shards_next n = weigh_none (shard_copy (past n)) (shard_copy (past (n + 1))) each
  where
    each : (x : Copied) → shard_copy (past n) x ≡ 0 → shard_copy (past (n + 1)) x ≡ 0
    each (SegmentCopy s ms) z = refl
    each (FileCopy i ts ks) z = refl
    each (ShardCopy k es) z = past_next n k z

-- none of a kind is none past any number
pub no_segments : (n : ℕ) (cs : List Copied) → weigh (segment_copy (λ s. 1)) cs ≡ 0 → weigh (segment_copy (past n)) cs ≡ 0
no_segments n = weigh_none (segment_copy (λ s. 1)) (segment_copy (past n)) each
  where
    each : (x : Copied) → segment_copy (λ s. 1) x ≡ 0 → segment_copy (past n) x ≡ 0
    each (SegmentCopy s ms) z = absurd (omega arith)
    each (FileCopy i ts ks) z = refl
    each (ShardCopy k es) z = refl

pub no_files : (n : ℕ) (cs : List Copied) → weigh (file_copy (λ i. 1)) cs ≡ 0 → weigh (file_copy (past n)) cs ≡ 0
no_files n = weigh_none (file_copy (λ i. 1)) (file_copy (past n)) each
  where
    each : (x : Copied) → file_copy (λ i. 1) x ≡ 0 → file_copy (past n) x ≡ 0
    each (SegmentCopy s ms) z = refl
    each (FileCopy i ts ks) z = absurd (omega arith)
    each (ShardCopy k es) z = refl

pub no_shards : (n : ℕ) (cs : List Copied) → weigh (shard_copy (λ k. 1)) cs ≡ 0 → weigh (shard_copy (past n)) cs ≡ 0
no_shards n = weigh_none (shard_copy (λ k. 1)) (shard_copy (past n)) each
  where
    each : (x : Copied) → shard_copy (λ k. 1) x ≡ 0 → shard_copy (past n) x ≡ 0
    each (SegmentCopy s ms) z = refl
    each (FileCopy i ts ks) z = refl
    each (ShardCopy k es) z = absurd (omega arith)

pub weigh_nothing : {A : Type 0} (xs : List A) → weigh (λ x. 0) xs ≡ 0
weigh_nothing [] = refl
weigh_nothing (x ∷ xs) = let there = weigh_nothing xs in omega arith

pub weigh_ones : {A : Type 0} (xs : List A) → weigh (λ x. 1) xs ≡ length xs
weigh_ones [] = refl
weigh_ones (x ∷ xs) = let there = weigh_ones xs in omega arith
