-- An empty volume's claims hold nothing, so every sum of marks, tickets and tokens is 0 on both sides; and the accounts
-- are dealt once for each number.
use Rattle.std.proofs.Common.{◌≡◌, ℕ, zero, suc, ◌+◌, [], ◌++◌, refl, ap, arith, None}
use Rattle.geometry.specs.Weights.{weigh}
use Rattle.geometry.proofs.Weighing.{weigh-append}
use Rattle.rights_books.specs.declared.claim.Layout.{Layout}
use Rattle.rights_books.specs.declared.claim.Claim.{Claim}
use Rattle.rights_books.specs.declared.claim.Claim.TheVariants.{Segment, Hand, File, Shard}
use Rattle.rights_books.specs.Lists.{sum_below}
use Rattle.rights_books.specs.Rules.{Lawful, each_below, each_from, opening}
use Rattle.rights_books.specs.Weights.{marks_in, tickets_in, taken_in, tokens_in, shown_in, pass_in, segment_in, hand_in, file_in, shard_in, stray_in, copies_in}
use Rattle.rights_books.proofs.Lists.{sum_below_suc}

weigh-each : (h : Claim → ℕ) (n : ℕ) (f : ℕ → Claim) → weigh h (each_below n f) ≡ sum_below n (λ i. h (f i))
weigh-each h zero f = refl
weigh-each h (suc n) f = let there = weigh-each h n f in omega arith

none_below : (n : ℕ) → sum_below n (λ i. 0) ≡ 0
none_below zero = refl
none_below (suc n) = let there = none_below n in omega arith

weigh-each_from : (h : Claim → ℕ) (s n : ℕ) (f : ℕ → Claim) → weigh h (each_from s n f) + sum_below s (λ i. h (f i)) ≡ sum_below (n + s) (λ i. h (f i))
weigh-each_from h s zero f = let e : s ≡ 0 + s = omega arith in let a = ap (λ (k : ℕ). sum_below k (λ i. h (f i))) e in omega arith
weigh-each_from h s (suc n) f =
    let there = weigh-each_from h (suc s) n f in
    let e : n + suc s ≡ suc n + s = omega arith in
    let a = ap (λ (k : ℕ). sum_below k (λ i. h (f i))) e in omega arith

weigh-opening : (l : Layout) (h : Claim → ℕ)
    → weigh h (opening l) ≡ sum_below 64 (λ k. h (Hand [] [])) + (sum_below l.segments (λ s. h (Segment s [])) + (sum_below l.files (λ i. h (File (suc i) [] [] None)) + sum_below 16 (λ k. h (Shard k []))))
weigh-opening l h =
    let hands = each_below 64 (λ k. Hand [] []) in
    let segments = each_from 0 l.segments (λ s. Segment s []) in
    let files = each_from 1 l.files (λ i. File i [] [] None) in
    let shards = each_from 0 16 (λ k. Shard k []) in
    let a = weigh-append h hands (segments ++ (files ++ shards)) in
    let b = weigh-append h segments (files ++ shards) in
    let c = weigh-append h files shards in
    let d = weigh-each h 64 (λ k. Hand [] []) in
    let e = weigh-each_from h 0 l.segments (λ s. Segment s []) in
    let e' : sum_below (l.segments + 0) (λ s. h (Segment s [])) ≡ sum_below l.segments (λ s. h (Segment s [])) =
    let q : l.segments + 0 ≡ l.segments = omega arith in ap (λ (k : ℕ). sum_below k (λ s. h (Segment s []))) q in
    let f = weigh-each_from h 1 l.files (λ i. File i [] [] None) in
    let f' : sum_below (l.files + 1) (λ i. h (File i [] [] None)) ≡ sum_below (suc l.files) (λ i. h (File i [] [] None)) =
    let q : l.files + 1 ≡ suc l.files = omega arith in ap (λ (k : ℕ). sum_below k (λ i. h (File i [] [] None))) q in
    let f'' = sum_below_suc l.files (λ i. h (File i [] [] None)) in
    let g = weigh-each_from h 0 16 (λ k. Shard k []) in omega arith

pub opens : (l : Layout) → Lawful l (λ h. weigh h (opening l))
opens l = record {
  tickets = λ h. let a = weigh-opening l (marks_in h) in let b = weigh-opening l (tickets_in h) in let s = none_below l.segments in let f = none_below l.files in omega arith;
  tokens = λ h. let a = weigh-opening l (taken_in h) in let b = weigh-opening l (tokens_in h) in let s = none_below l.segments in let f = none_below l.files in omega arith;
  passes = λ h. let a = weigh-opening l (pass_in h) in let b = weigh-opening l (shown_in h) in let s = none_below l.segments in let f = none_below l.files in omega arith;
  segments = λ h. let a = weigh-opening l (segment_in h) in let f = none_below l.files in omega arith;
  files = λ h. let a = weigh-opening l (file_in h) in let s = none_below l.segments in omega arith;
  shards = λ h. let a = weigh-opening l (shard_in h) in let s = none_below l.segments in let f = none_below l.files in omega arith;
  hands = let a = weigh-opening l hand_in in let s = none_below l.segments in let f = none_below l.files in omega arith;
  copies = λ h. let a = weigh-opening l (copies_in h) in let s = none_below l.segments in let f = none_below l.files in omega arith;
  home = let a = weigh-opening l (stray_in l.blocks) in let s = none_below l.segments in let f = none_below l.files in omega arith;
}
