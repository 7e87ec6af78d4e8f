-- What a tree weighs is the sum over its slots, so one slot replaced takes away what it had and adds what it has now,
-- and no other part changes.
use Rattle.geometry.specs.declared.owner.Mark.{Mark}
use Rattle.std.proofs.Common.{◌≡◌, refl, ap, ℕ, zero, suc, ◌+◌, ◌<◌, List, [], ◌∷◌, map, length, get_or, set, arith}
use Rattle.std.specs.Prelude.{Option, None}
use Rattle.std.specs.List.{flat_map}
use Rattle.geometry.specs.declared.owner.Owner.TheVariants.{Data}
use Rattle.image.specs.Walk.{data_names}
use Rattle.geometry.specs.Weights.{weigh}
use Rattle.image_law.specs.Parts.{Token, Slots, Tree, Stored, each, top, stored_in, tickets_at, token_at}
use Rattle.geometry.proofs.Weighing.{weigh-append}
use Rattle.image_law.proofs.Weighing.{weigh-map, weigh-flat_map}

-- what the ticket in a slot weighs
abbrev pub ticket_weight : (Mark → ℕ) → ℕ → ℕ → ℕ → ℕ
ticket_weight h nid slot zero = 0
ticket_weight h nid slot (suc a) = h (record { address = suc a; owner = Data nid slot })

-- each data address set in its slot
pub data_replaced : (h : Mark → ℕ) (nid from slot a : ℕ) (xs : List ℕ) → slot < length xs
    → weigh h (data_names nid from (set xs slot a)) + ticket_weight h nid (from + slot) (get_or xs slot 0)
    ≡ weigh h (data_names nid from xs) + ticket_weight h nid (from + slot) a
data_replaced h nid from slot a [] low = absurd (omega arith)
data_replaced h nid from zero a (x ∷ xs) low =
    let e : from + 0 ≡ from = omega arith in
    let was = front from x in
    let now = front from a in
    let p = ap (λ (k : ℕ). ticket_weight h nid k x) e in
    let q = ap (λ (k : ℕ). ticket_weight h nid k a) e in
    omega arith
  where
    front : (from x : ℕ) → weigh h (data_names nid from (x ∷ xs)) ≡ ticket_weight h nid from x + weigh h (data_names nid (from + 1) xs)
    front from zero = omega arith
    front from (suc x) = refl
data_replaced h nid from (suc slot) a (x ∷ xs) low =
    let e : from + 1 + slot ≡ from + suc slot = omega arith in
    let there = data_replaced h nid (from + 1) slot a xs (omega arith) in
    let was = front x xs in
    let now = front x (set xs slot a) in
    let p = ap (λ (k : ℕ). ticket_weight h nid k (get_or xs slot 0)) e in
    let q = ap (λ (k : ℕ). ticket_weight h nid k a) e in
    omega arith
  where
    front : (x : ℕ) (ys : List ℕ) → weigh h (data_names nid from (x ∷ ys)) ≡ ticket_weight h nid from x + weigh h (data_names nid (from + 1) ys)
    front zero ys = omega arith
    front (suc x) ys = refl

-- a slot of a list of trees replaced, by any weight of their nodes
pub slots_replaced : {A : Type 0} (w : Stored → ℕ) (f : A → List Stored) (k : ℕ) (o : Option A) (xs : List (Option A)) → k < length xs
    → weigh w (flat_map (each f) (set xs k o)) + weigh w (each f (get_or xs k None)) ≡ weigh w (flat_map (each f) xs) + weigh w (each f o)
slots_replaced w f k o [] low = absurd (omega arith)
slots_replaced w f zero o (x ∷ xs) low =
    let a = weigh-append w (each f o) (flat_map (each f) xs) in
    let b = weigh-append w (each f x) (flat_map (each f) xs) in
    omega arith
slots_replaced w f (suc k) o (x ∷ xs) low =
    let there = slots_replaced w f k o xs (omega arith) in
    let a = weigh-append w (each f x) (flat_map (each f) (set xs k o)) in
    let b = weigh-append w (each f x) (flat_map (each f) xs) in
    omega arith

-- the weights of nodes that give tickets and tokens
abbrev pub tickets_weight : (Mark → ℕ) → Stored → ℕ
tickets_weight h s = weigh h (tickets_at s)

abbrev pub token_weight : (Token → ℕ) → Stored → ℕ
token_weight h s = h (token_at s)

pub tickets_by_node : (h : Mark → ℕ) (xs : List Stored) → weigh h (flat_map tickets_at xs) ≡ weigh (tickets_weight h) xs
tickets_by_node h xs = weigh-flat_map h tickets_at xs

pub tokens_by_node : (h : Token → ℕ) (xs : List Stored) → weigh h (map token_at xs) ≡ weigh (token_weight h) xs
tokens_by_node h xs = weigh-map h token_at xs

abbrev pub with_slots : (level : ℕ) → Tree level → Slots level → Tree level
with_slots level tree slots = record { nid = tree.nid; address = tree.address; slots = slots }

-- a child replaced: what it adds is what the tree adds, by each weight that sees of the node itself only its own part
pub child_replaced : (w : Stored → ℕ) (inode level : ℕ) (tree : Tree (suc level)) (k : ℕ) (o : Option (Tree level)) → k < length tree.slots
    → w (top inode (suc level) (with_slots (suc level) tree (set tree.slots k o))) ≡ w (top inode (suc level) tree)
    → weigh w (stored_in inode (suc level) (with_slots (suc level) tree (set tree.slots k o))) + weigh w (each (stored_in inode level) (get_or tree.slots k None))
    ≡ weigh w (stored_in inode (suc level) tree) + weigh w (each (stored_in inode level) o)
child_replaced w inode level tree k o low same =
    let a = slots_replaced w (stored_in inode level) k o tree.slots low in omega arith

-- a ticket replaced in a direct node
pub ticket_replaced : (h : Mark → ℕ) (inode : ℕ) (tree : Tree 0) (slot a : ℕ) → slot < length tree.slots
    → weigh (tickets_weight h) (stored_in inode 0 (with_slots 0 tree (set tree.slots slot a))) + ticket_weight h tree.nid slot (get_or tree.slots slot 0)
    ≡ weigh (tickets_weight h) (stored_in inode 0 tree) + ticket_weight h tree.nid slot a
ticket_replaced h inode tree slot a low =
    let r = data_replaced h tree.nid 0 slot a tree.slots low in
    let e : 0 + slot ≡ slot = omega arith in
    let p = ap (λ (k : ℕ). ticket_weight h tree.nid k (get_or tree.slots slot 0)) e in
    let q = ap (λ (k : ℕ). ticket_weight h tree.nid k a) e in
    omega arith
