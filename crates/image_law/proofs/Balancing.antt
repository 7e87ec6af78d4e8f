-- Each account weighs as its part does, item by item: so the sums over all accounts, which the books balance, are the
-- sums over the parts.
use Rattle.geometry.specs.declared.owner.Mark.{Mark}
use Rattle.std.proofs.Common.{◌≡◌, ℕ, suc, ◌+◌, ◌<◌, List, [], ◌∷◌, length, get_or, arith}
use Rattle.std.specs.Prelude.{Option, None}
use Rattle.geometry.specs.Weights.{weigh}
use Rattle.image_law.specs.Parts.{SegmentState, FileTree, Token, each, tickets_of, tokens_of, node_ticket, Parts, shard_at, file_at, Balanced}

-- lists that weigh the same item by item
pub weigh_pointwise : {A B : Type 0} (f : A → ℕ) (g : B → ℕ) (xs : List A) (ys : List B) (d : A) (e : B) → length xs ≡ length ys
    → ((k : ℕ) → k < length xs → f (get_or xs k d) ≡ g (get_or ys k e)) → weigh f xs ≡ weigh g ys
weigh_pointwise f g [] [] d e long same = omega arith
weigh_pointwise f g [] (y ∷ ys) d e long same = absurd (omega arith)
weigh_pointwise f g (x ∷ xs) [] d e long same = absurd (omega arith)
weigh_pointwise f g (x ∷ xs) (y ∷ ys) d e long same =
    let here = same 0 (omega arith) in
    let there = weigh_pointwise f g xs ys d e (omega arith) (λ k low. same (suc k) (omega arith)) in
    omega arith

-- what a file has lodged
pub record Lodged : Type 0 where
  pub tickets : List Mark
  pub tokens : List Token

abbrev pub nothing : Lodged
nothing = record { tickets = []; tokens = [] }

-- the accounts of files and shards, as the books balance them, and that each has what its part has
pub record AreAccounts (parts : Parts) (lodged : List Lodged) (taken : List (List Token)) : Type 0 where
  pub tickets : (h : Mark → ℕ) → weigh (λ (s : SegmentState). weigh h s.marks) parts.segments
      ≡ weigh (λ (v : Lodged). weigh h v.tickets) lodged + weigh (λ es. weigh (node_ticket h) es) taken
  pub tokens : (h : Token → ℕ) → weigh (λ es. weigh h es) taken ≡ weigh (λ (v : Lodged). weigh h v.tokens) lodged
  pub as_many : length lodged ≡ length parts.files
  pub file_tickets : (k : ℕ) (h : Mark → ℕ) → k < length lodged → weigh h (get_or lodged k nothing).tickets ≡ weigh h (each tickets_of (file_at parts k))
  pub file_tokens : (k : ℕ) (h : Token → ℕ) → k < length lodged → weigh h (get_or lodged k nothing).tokens ≡ weigh h (each tokens_of (file_at parts k))
  pub as_many_shards : length taken ≡ length parts.shards
  pub shards : (k : ℕ) (h : Token → ℕ) → k < length taken → weigh h (get_or taken k []) ≡ weigh h (shard_at parts k)

pub balanced_accounts : (parts : Parts) (lodged : List Lodged) (taken : List (List Token)) → AreAccounts parts lodged taken → Balanced parts
balanced_accounts parts lodged taken are = record {
  tickets = λ h.
      let a = are.tickets h in
      let b = weigh_pointwise (λ (v : Lodged). weigh h v.tickets) (λ (o : Option FileTree). weigh h (each tickets_of o)) lodged parts.files nothing None are.as_many
      (λ k low. are.file_tickets k h low) in
      let c = weigh_pointwise (λ (es : List Token). weigh (node_ticket h) es) (λ (es : List Token). weigh (node_ticket h) es) taken parts.shards [] [] are.as_many_shards
      (λ k low. are.shards k (node_ticket h) low) in
      omega arith;
  tokens = λ h.
      let a = are.tokens h in
      let b = weigh_pointwise (λ (v : Lodged). weigh h v.tokens) (λ (o : Option FileTree). weigh h (each tokens_of o)) lodged parts.files nothing None are.as_many
      (λ k low. are.file_tokens k h low) in
      let c = weigh_pointwise (λ (es : List Token). weigh h es) (λ (es : List Token). weigh h es) taken parts.shards [] [] are.as_many_shards
      (λ k low. are.shards k h low) in
      omega arith;
}
