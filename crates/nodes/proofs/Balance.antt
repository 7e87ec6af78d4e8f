-- A node that stays has its token still: so a call's change balances the tickets and the tokens, each for themselves.
use Rattle.std.proofs.Common.{◌≡◌, ℕ, ◌+◌, Bool, true, false, Some, None, refl, sym, ap, arith}
use Rattle.rights_books.specs.declared.claim.TakenNumber.{TakenNumber}
use Rattle.nodes.specs.declared.spare.Spare.{Spare}
use Rattle.nodes.specs.declared.spare.Spare.TheVariants.{Ticket, Token}
use Rattle.nodes.specs.Change.{TreeNode, Weighing, Touched, MarksOne, gone, come, Trades, WeighsAs, nothing, each_one, of_tickets, of_tokens}

-- where a node weighs by its token, the one that was changed weighs what it weighed
even : {L : Type 0} (w : Weighing L) → ((before after : TreeNode) → after.token ≡ before.token → w.node after ≡ w.node before)
    → (own : Bool) (touched : Touched) → MarksOne own touched → gone w touched ≡ come w touched
even w same true None m = refl
even w same true (Some t) m = absurd m
even w same false None m = absurd m
even w same false (Some t) m = sym (same t.0 t.1 m.0)

module _ {L : Type 0} (own : Bool) (old new out into : Weighing L → ℕ) (trades : Trades own old new out into) where
  pub balanced_tickets : (h : L → ℕ) → new (of_tickets h) + out (of_tickets h) ≡ old (of_tickets h) + into (of_tickets h)
  balanced_tickets h =
      let all = trades.2 (of_tickets h) in
      let same = even {L = L} (of_tickets {L = L} h) (λ a b e. refl) own trades.0 trades.1 in
      omega arith

  pub balanced_tokens : (h : TakenNumber → ℕ) → new (of_tokens h) + out (of_tokens h) ≡ old (of_tokens h) + into (of_tokens h)
  balanced_tokens h =
      let all = trades.2 (of_tokens h) in
      let same = even {L = L} (of_tokens {L = L} h) (λ a b e. ap h e) own trades.0 trades.1 in
      omega arith

  pub balanced_count : new each_one + out each_one ≡ old each_one + into each_one
  balanced_count =
      let all = trades.2 each_one in
      let same = even {L = L} (each_one {L = L}) (λ a b e. refl) own trades.0 trades.1 in
      omega arith

-- what is handed out is one less
pub fewer_by : {L : Type 0} (own : Bool) (old new out : Weighing L → ℕ) → Trades own old new out nothing → out each_one ≡ 1 → new each_one + 1 ≡ old each_one
fewer_by {L} own old new out trades single =
    let all = balanced_count {L = L} own old new out nothing trades in
    omega arith

one : {L : Type 0} (spare : Spare L) (out : Weighing L → ℕ) → WeighsAs spare out → out each_one ≡ 1
one (Ticket t) out is = is each_one
one (Token k) out is = is.2 each_one

pub fewer : {L : Type 0} (own : Bool) (old new out : Weighing L → ℕ) (spare : Spare L) → Trades own old new out nothing → WeighsAs spare out → new each_one + 1 ≡ old each_one
fewer {L} own old new out spare trades is = fewer_by {L = L} own old new out trades (one spare out is)
