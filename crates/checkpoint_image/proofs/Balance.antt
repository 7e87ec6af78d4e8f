-- The audit's copies are those of the cells, and settled they say that marks are lodged tickets and taken numbers have
-- lodged tokens: weighed part by part, this is the balance.
use Rattle.std.proofs.Common.{◌≡◌, refl, ◌∙◌, subst, ℕ, suc, ◌+◌, List, [], ◌∷◌, map, arith}
use Rattle.std.specs.Prelude.{Option, Some, slice_get}
use Rattle.geometry.specs.declared.geometry.Geometry.{Geometry}
use Rattle.geometry.specs.Weights.{weigh}
use Rattle.rights_books.specs.declared.claim.Copied.{Copied}
use Rattle.rights_books.specs.Rules.{Balanced as AreSettled}
use Rattle.nat.specs.Shard.{ShardNodes}
use Rattle.image_law.specs.Parts.{SegmentState, Token, FileTree, each, tickets_of, tokens_of, node_ticket, Balanced}
use Rattle.image_law.proofs.Weighing.{weigh-map}
use Rattle.checkpoint_image.specs.Cells.{Cells, CellsLaw, Filed, tree_in, segment_part, token_of, shard_part, parts_of, IsFiledAt}
use Rattle.checkpoint_image.specs.Audited.{AreCopies}

weigh_same : {A : Type 0} (f g : A → ℕ) (xs : List A) → ((x : A) → f x ≡ g x) → weigh f xs ≡ weigh g xs
weigh_same f g [] same = refl
weigh_same f g (x ∷ xs) same = let here = same x in let there = weigh_same f g xs same in omega arith

-- files in their order, each of which weighs as its account does
files_weigh : (geometry : Geometry) (n : ℕ) (f g : Filed → ℕ) → ((k : ℕ) (x : Filed) → IsFiledAt geometry k x → f x ≡ g x)
    → (xs : List Filed) → ((k : ℕ) (x : Filed) → slice_get xs k ≡ Some x → IsFiledAt geometry (n + k) x) → weigh f xs ≡ weigh g xs
files_weigh geometry n f g same [] law = refl
files_weigh geometry n f g same (x ∷ xs) law =
    let here = same (n + 0) x (law 0 x refl) in
    let there = files_weigh geometry (suc n) f g same xs
    (λ k y at. let e : n + suc k ≡ suc n + k = omega arith in subst (λ (m : ℕ). IsFiledAt geometry m y) e (law (suc k) y at)) in
    omega arith

module _ (h : Token → ℕ) where
  shards_weigh : (xs : List ShardNodes) → weigh (λ es. weigh h es) (map shard_part xs) ≡ weigh (λ (s : ShardNodes). weigh (λ e. h (token_of e)) s.taken) xs
  shards_weigh xs =
      weigh-map (λ (es : List Token). weigh h es) shard_part xs
      ∙ weigh_same (λ (s : ShardNodes). weigh h (map token_of s.taken)) (λ (s : ShardNodes). weigh (λ e. h (token_of e)) s.taken) xs
      (λ s. weigh-map h token_of s.taken)

pub balanced : (geometry : Geometry) (cells : Cells) (copies : List Copied)
    → CellsLaw geometry cells → AreCopies cells copies → AreSettled copies → Balanced (parts_of cells)
balanced geometry cells copies law are settled = record {
  tickets = λ h.
      let marks = weigh-map (λ (s : SegmentState). weigh h s.marks) segment_part cells.segments in
      let a = are.marks h in
      let b = settled.tickets h in
      let c = are.tickets h in
      let d = files_weigh geometry 1 (λ (f : Filed). weigh h f.tickets) (λ (f : Filed). weigh h (each tickets_of f.tree)) (λ k f is. is.tickets h) cells.files filed in
      let e = weigh-map (λ (o : Option FileTree). weigh h (each tickets_of o)) tree_in cells.files in
      let f = shards_weigh (node_ticket h) cells.shards in
      omega arith;
  tokens = λ h.
      let a = shards_weigh h cells.shards in
      let b = are.taken (λ e. h (token_of e)) in
      let c = settled.tokens (λ e. h (token_of e)) in
      let d = are.tokens (λ e. h (token_of e)) in
      let e = files_weigh geometry 1 (λ (f : Filed). weigh (λ e. h (token_of e)) f.tokens) (λ (f : Filed). weigh h (each tokens_of f.tree)) (λ k f is. is.tokens h) cells.files filed in
      let f = weigh-map (λ (o : Option FileTree). weigh h (each tokens_of o)) tree_in cells.files in
      omega arith;
}
  where
    filed : (k : ℕ) (x : Filed) → slice_get cells.files k ≡ Some x → IsFiledAt geometry (1 + k) x
    filed k x at = let e : k + 1 ≡ 1 + k = omega arith in subst (λ (m : ℕ). IsFiledAt geometry m x) e (law.files k x at)
