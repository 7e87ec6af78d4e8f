-- A file's lodged token is that of a taken number: so main blocks that hold the bytes of taken numbers hold those of
-- each node, which spell it.
use Rattle.std.proofs.Common.{◌≡◌, ◌≢◌, refl, sym, ◌∙◌, ap, subst, ℕ, zero, suc, ◌+◌, ◌<◌, ◌≤◌, List, [], ◌∷◌, map, get_or, if◌then◌else◌, arith}
use Rattle.std.specs.Prelude.{Option, Some, None, IfSome, slice_get}
use Rattle.geometry.specs.declared.geometry.Geometry.{Geometry}
use Rattle.geometry.specs.File.{Block}
use Rattle.geometry.specs.Weights.{weigh}
use Rattle.geometry.proofs.Weighing.{weigh-append}
use Rattle.rights_books.specs.declared.claim.TakenNumber.{TakenNumber}
use Rattle.rights_books.specs.declared.claim.Copied.{Copied}
use Rattle.rights_books.specs.Lists.{times}
use Rattle.rights_books.specs.Sameness.{same_entry}
use Rattle.rights_books.specs.Rules.{Balanced as AreSettled}
use Rattle.nat.specs.Shard.{ShardNodes}
use Rattle.nat.specs.Table.{all_taken}
use Rattle.image.specs.Node.{Spells}
use Rattle.image_law.specs.Items.{Among}
use Rattle.image_law.specs.Parts.{Token, Stored, FileTree, stored_of, FileLaw}
use Rattle.image_law.specs.Assembled.{AreSpelled}
use Rattle.checkpoint_image.specs.Cells.{Cells, CellsLaw, Filed, tree_in, parts_of, IsWrittenIn}
use Rattle.checkpoint_image.specs.Audited.{AreCopies}
use Rattle.checkpoint_image.specs.Blocks.{HoldNodes}

pub weigh_all_taken : (h : TakenNumber → ℕ) (xs : List ShardNodes) → weigh h (all_taken xs) ≡ weigh (λ (s : ShardNodes). weigh h s.taken) xs
weigh_all_taken h [] = refl
weigh_all_taken h (s ∷ xs) = let a = weigh-append h s.taken (all_taken xs) in let there = weigh_all_taken h xs in omega arith

-- what a file weighs, all files weigh no less
weigh_one : {A : Type 0} (h : A → ℕ) (xs : List A) (k : ℕ) (x : A) → slice_get xs k ≡ Some x → h x ≤ weigh h xs
weigh_one h [] k x at = absurd (cc)
weigh_one h (y ∷ xs) zero x at = let same : y ≡ x = cc in let e = ap h same in omega arith
weigh_one h (y ∷ xs) (suc k) x at = let there = weigh_one h xs k x at in omega arith

-- the file at a place has that tree
pub filed_at : (xs : List Filed) (k : ℕ) (tree : FileTree) → get_or (map tree_in xs) k None ≡ Some tree → (x : Filed) × (slice_get xs k ≡ Some x) × (x.tree ≡ Some tree)
filed_at [] k tree at = absurd (cc)
filed_at (y ∷ xs) zero tree at = (y, refl, at)
filed_at (y ∷ xs) (suc k) tree at = filed_at xs k tree at

positive : (a : ℕ) → a ≢ 0 → 0 < a
positive zero some = absurd (some refl)
positive (suc a) some = omega arith

abbrev one : TakenNumber → TakenNumber → ℕ
one e y = if same_entry e y then 1 else 0

module _ (geometry : Geometry) (cells : Cells) (copies : List Copied) (law : CellsLaw geometry cells) (are : AreCopies cells copies) (settled : AreSettled copies) where
  -- a token that is lodged is that of a taken number
  taken_there : (k : ℕ) (x : Filed) (e : TakenNumber) → slice_get cells.files k ≡ Some x → 0 < times same_entry e x.tokens → 0 < times same_entry e (all_taken cells.shards)
  taken_there k x e at some =
      let a = weigh_one (λ (f : Filed). times same_entry e f.tokens) cells.files k x at in
      let b = are.tokens (one e) in
      let c = settled.tokens (one e) in
      let d = are.taken (one e) in
      let f = weigh_all_taken (one e) cells.shards in
      omega arith

  pub are_spelled : (blocks : ℕ → Block) → HoldNodes blocks cells → AreSpelled geometry (parts_of cells) blocks
  are_spelled blocks hold k tree s at m =
      let x = filed_at cells.files k tree at in
      let is = law.files k x.0 x.1 in
      let flushed : s.address ≢ 0 = (subst (λ (o : Option FileTree). IfSome o (FileLaw geometry (k + 1))) x.2 is.law).flushed s m in
      let written : IsWrittenIn geometry.shape x.0.tokens s
      = subst (λ (o : Option FileTree). IfSome o (λ tree. (s : Stored) → Among s (stored_of tree) → IsWrittenIn geometry.shape x.0.tokens s)) x.2 is.written s m in
      let address : written.token.address ≡ s.address = ap (λ (t : Token). t.address) written.token_is in
      let some = positive s.address flushed in
      let held = hold written.token (taken_there k x.0 written.token x.1 written.lodged) (omega arith) in
      subst (λ (block : Block). Spells geometry.shape block s.node) (sym (ap blocks (sym address) ∙ held)) written.spelled
