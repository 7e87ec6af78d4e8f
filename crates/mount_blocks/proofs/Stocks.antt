-- A right stands at one place only, that of its address or number: so where a stock weighs a name its right is there,
-- and taking it out takes just that weight away.
use Rattle.std.proofs.Common.{rules, IsSome, ◌&&◌, ◌≡◌, ℕ, zero, suc, ◌+◌, ◌<◌, ◌≤◌, ◌==◌, Bool, true, false, List, [], ◌∷◌, get_or, set, Option, Some, None, if◌then◌else◌, refl, sym, ap, subst, ◌∙◌, ne_eqb, arith}
use Rattle.geometry.specs.Weights.{weigh}
use Rattle.geometry.proofs.Weighing.{weigh-some}
use Rattle.geometry.specs.declared.owner.Mark.{Mark}
use Rattle.geometry.specs.declared.owner.Owner.{Owner}
use Rattle.geometry.specs.declared.owner.Owner.TheVariants.{Node, Data}
use Rattle.geometry.specs.Mark.{same_mark}
use Rattle.geometry.proofs.MarkTests.{mark_eq, mark_self}
use Rattle.rights_books.specs.declared.claim.TakenNumber.{TakenNumber}
use Rattle.rights_books.specs.Weights.{mark_of}
use Rattle.mount_blocks.specs.TreeGoods.{Goods, AreLeft, ArePlaced, IsData, in_place, goods_weight, marks_weight}
use Rattle.image.specs.Image.{Image, node_of}
use Rattle.image.specs.Walk.{node_name}
use Rattle.mount_blocks.specs.Loaded.{name_weight, names_below, numbers_in, weigh_from}

-- the number of a node
abbrev pub number_of : Owner → ℕ
number_of (Node n) = n
number_of (Data n s) = n

module _ {A : Type 0} where
  -- what stands there after one went, stood there before
  pub stood : (xs : List (Option A)) (k j : ℕ) (x : A) → get_or (set xs k None) j None ≡ Some x → get_or xs j None ≡ Some x
  stood [] k j x e = e
  stood (y ∷ xs) zero zero x e = cc
  stood (y ∷ xs) zero (suc j) x e = e
  stood (y ∷ xs) (suc k) zero x e = e
  stood (y ∷ xs) (suc k) (suc j) x e = stood xs k j x e

  -- what goes takes its weight away
  pub goes : (h : A → ℕ) (xs : List (Option A)) (k : ℕ) (x : A) → get_or xs k None ≡ Some x → weigh (in_place h) (set xs k None) + h x ≡ weigh (in_place h) xs
  goes h [] k x e = cc
  goes h (y ∷ xs) zero x e = let here = ap (in_place h) e in omega arith
  goes h (y ∷ xs) (suc k) x e = let rest = goes h xs k x e in omega arith

  -- nothing weighs anything where no item does
  pub weighs_nothing : (h : A → ℕ) (xs : List (Option A)) → ((k : ℕ) (x : A) → get_or xs k None ≡ Some x → h x ≡ 0) → weigh (in_place h) xs ≡ 0
  weighs_nothing h [] none = omega arith
  weighs_nothing h (None ∷ xs) none = let rest = weighs_nothing h xs (λ k x e. none (suc k) x e) in omega arith
  weighs_nothing h (Some x ∷ xs) none =
      let rest = weighs_nothing h xs (λ k y e. none (suc k) y e) in
      let here = none zero x refl in
      omega arith

  there : (xs : List (Option A)) (h : A → ℕ) (k : ℕ) (o : Option A) → get_or xs k None ≡ o → 0 < in_place h o → (x : A) × (get_or xs k None ≡ Some x) × (0 < h x)
  there xs h k None e more = absurd (omega arith)
  there xs h k (Some x) e more = (x, e, more)

  -- something weighs where the list does
  pub weighs_some : (h : A → ℕ) (xs : List (Option A)) → 0 < weigh (in_place h) xs → (k : ℕ) × (x : A) × (get_or xs k None ≡ Some x) × (0 < h x)
  weighs_some h xs some =
      let at = weigh-some (in_place h) xs None some in
      let found = there xs h at.0 (get_or xs at.0 None) refl at.2 in
      (at.0, found.0, found.1, found.2)

  of_some : (A → Type 0) → Option A → Type 0
  of_some P None = Unit {0}
  of_some P (Some x) = P x

  pub same_one : (P : A → Type 0) (o : Option A) (x y : A) → o ≡ Some x → o ≡ Some y → P x → P y
  unfolding of_some
  same_one P o x y e d p = subst (of_some P) (sym e ∙ d) p

  pub is_there : (o : Option A) (x : A) → o ≡ Some x → IsSome o
  is_there o x e = subst IsSome (sym e) (search rules)

is : Mark → Mark → ℕ
is m n = if same_mark m n then 1 else 0

is_self : (m : Mark) → is m m ≡ 1
unfolding is
is_self m = let same = mark_self m in rw same

by_test : (b : Bool) → ◌<◌ 0 (if b then 1 else 0) → b ≡ true
by_test true h = refl
by_test false h = absurd (omega arith)

is_same : (m n : Mark) → 0 < is m n → m ≡ n
unfolding is
is_same m n some = mark_eq m n (by_test (same_mark m n) some)

and_false : (b : Bool) → b && false ≡ false
and_false true = refl
and_false false = refl

-- a data block's mark is no node's
apart_node : (a p s : ℕ) (e : TakenNumber) → is (record { address = a; owner = Data p s }) (mark_of e) ≡ 0
unfolding is
apart_node a p s e = let no = and_false (a == e.address) in rw no

apart_data : (m : Mark) (n a : ℕ) → IsData m.owner → is (record { address = a; owner = Node n }) m ≡ 0
unfolding is
apart_data m n a owns = by_owner m.address m.owner owns
  where
    by_owner : (b : ℕ) (owner : Owner) → IsData owner → is (record { address = a; owner = Node n }) (record { address = b; owner = owner }) ≡ 0
    by_owner b (Node k) owns = absurd owns
    by_owner b (Data k t) owns = let no = and_false (a == b) in rw no

-- an entry of a number names a block
pub some_name : (h : Mark → ℕ) (p s a : ℕ) → 0 < a → name_weight h p s a ≡ h (record { address = a; owner = Data p s })
some_name h p s a positive = let no : (a == 0) ≡ false = ne_eqb a 0 (λ e. absurd (omega arith)) in rw no

pub node_names : (is_leaf : Bool) (names : ℕ → ℕ → ℕ → ℕ) (image : Image) (h : Mark → ℕ) (n : ℕ) → 0 < n
    → names_below is_leaf names image h n ≡ h (node_name image n) + weigh_from (names n) 0 (numbers_in is_leaf (node_of image n))
node_names is_leaf names image h n positive = let no : (n == 0) ≡ false = ne_eqb n 0 (λ e. absurd (omega arith)) in rw no

module _ {L : Type 0} (mark : L → Mark) (goods : Goods L) (tickets : AreLeft goods.tickets goods.all.tickets) (tokens : AreLeft goods.tokens goods.all.tokens) (placed : ArePlaced mark goods.all) where
  -- the ticket of a data block that weighs is there
  pub ticket_there : (a p s : ℕ) → 0 < a → ((h : Mark → ℕ) → name_weight h p s a ≤ marks_weight mark h goods)
      → (t : L) × (get_or goods.tickets a None ≡ Some t) × (mark t ≡ record { address = a; owner = Data p s })
  ticket_there a p s positive enough =
      let m : Mark = record { address = a; owner = Data p s } in
      let most = enough (is m) in
      let name = some_name (is m) p s a positive in
      let one = is_self m in
      let none : weigh (in_place (λ e. is m (mark_of e))) goods.tokens ≡ 0 = weighs_nothing (λ e. is m (mark_of e)) goods.tokens (λ k e at. apart_node a p s e) in
      let found = weighs_some (λ t. is m (mark t)) goods.tickets (omega arith) in
      let same : m ≡ mark found.1 = is_same m (mark found.1) found.3 in
      let home : (mark found.1).address ≡ found.0 = placed.addresses found.0 found.1 (tickets found.0 found.1 found.2) in
      let place : found.0 ≡ a = sym home ∙ sym (ap (λ n. n.address) same) in
      (found.1, subst (λ k. get_or goods.tickets k None ≡ Some found.1) place found.2, sym same)

  -- the token of a node that weighs is there
  pub token_there : (m : Mark) (n : ℕ) → m.owner ≡ Node n → ((h : Mark → ℕ) → h m ≤ marks_weight mark h goods)
      → (e : TakenNumber) × (get_or goods.tokens n None ≡ Some e) × (mark_of e ≡ m)
  token_there m n owner enough =
      let v : Mark = record { address = m.address; owner = Node n } in
      let is_v : m ≡ v = λ k. record { address = m.address; owner = owner k } in
      let most : is v v ≤ marks_weight mark (is v) goods = subst (λ w. is v w ≤ marks_weight mark (is v) goods) is_v (enough (is v)) in
      let one = is_self v in
      let none : weigh (in_place (λ t. is v (mark t))) goods.tickets ≡ 0 = weighs_nothing (λ t. is v (mark t)) goods.tickets (λ k t at. apart_data (mark t) n m.address (placed.owners k t (tickets k t at))) in
      let found = weighs_some (λ e. is v (mark_of e)) goods.tokens (omega arith) in
      let same : v ≡ mark_of found.1 = is_same v (mark_of found.1) found.3 in
      let home : found.1.number ≡ found.0 = placed.numbers found.0 found.1 (tokens found.0 found.1 found.2) in
      let number : n ≡ found.1.number = ap (λ w. number_of w.owner) same in
      let place : found.0 ≡ n = sym home ∙ sym number in
      (found.1, subst (λ k. get_or goods.tokens k None ≡ Some found.1) place found.2, sym same ∙ sym is_v)

module _ {L : Type 0} (goods new : Goods L) where
  pub ticket_trades : (a : ℕ) (x : L) → new ≡ record goods { tickets = set goods.tickets a None } → get_or goods.tickets a None ≡ Some x
      → (ticket : L → ℕ) (token : TakenNumber → ℕ) → goods_weight ticket token new + ticket x ≡ goods_weight ticket token goods
  ticket_trades a x e at ticket token =
      let went = goes ticket goods.tickets a x at in
      let is_new = ap (goods_weight ticket token) e in
      omega arith

  pub token_trades : (n : ℕ) (x : TakenNumber) → new ≡ record goods { tokens = set goods.tokens n None } → get_or goods.tokens n None ≡ Some x
      → (ticket : L → ℕ) (token : TakenNumber → ℕ) → goods_weight ticket token new + token x ≡ goods_weight ticket token goods
  token_trades n x e at ticket token =
      let went = goes token goods.tokens n x at in
      let is_new = ap (goods_weight ticket token) e in
      omega arith

pub token_mark : (e : TakenNumber) (m : Mark) (n : ℕ) → e.number ≡ n → e.address ≡ m.address → m.owner ≡ Node n → mark_of e ≡ m
token_mark e m n number address owner = λ k. record { address = address k; owner = (ap Node number ∙ sym owner) k }
