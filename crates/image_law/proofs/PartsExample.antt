-- The laws of the parts can be met: a file of two blocks, one of them below a direct node, in one segment, balances
-- with its shards and has a faithful image.
use Rattle.image.specs.declared.image.LogHead.{LogHead}
use Rattle.geometry.specs.declared.path.Path.{Path}
use Rattle.std.proofs.Common.{◌≡◌, ◌≢◌, refl, sym, ◌∙◌, ap, subst, ℕ, zero, suc, ◌+◌, ◌-◌, ◌/◌, ◌%◌, ◌^◌, ◌<◌, ◌≤◌, inl, inr, Bool, true, false, List, [], ◌∷◌, get_or, replicate, if◌then◌else◌, ◌==◌, arith}
use Rattle.std.specs.Prelude.{Option, Some, None, IfSome, All, nat_lt, unwrap_or}
use Rattle.std.proofs.Math.Nat.{div-add-mod'}
use Rattle.std.proofs.lemmas.Bool.{ltb-true}
use Rattle.geometry.specs.declared.packing.Packing.TheVariants.{Slots}
use Rattle.geometry.specs.declared.geometry.Geometry.{Geometry}
use Rattle.geometry.specs.declared.shape.Shape.TheVariants.{Tiny}
use Rattle.geometry.specs.File.{Block}
use Rattle.image.specs.Node.{node_bytes, IsNode, Spells}
use Rattle.geometry.specs.declared.kind.Kind.TheVariants.{File}
use Rattle.geometry.specs.declared.owner.Owner.TheVariants.{Node, Data}
use Rattle.image.specs.Rules.{AreApart}
use Rattle.geometry.specs.Weights.{weigh}
use Rattle.image_law.specs.Items.{Among}
use Rattle.image_law.specs.Parts.{SegmentState, no_state, SegmentLaw, Token, ShardLaw, Tree, tree_node, FileTree, inode_node, Stored, stored_of, FileLaw, data_in, slot_of, direct_at, indirect_at, ticket_on, ticket_at, Parts, segment_at, PartsLaw, Balanced}
use Rattle.image_law.specs.Assembled.{assembled, AreSpelled}
use Rattle.image_law.specs.AssemblyLaw.{IsFaithful}
use Rattle.image_law.proofs.Weighing.{weigh_among}
use Rattle.image_law.proofs.Ranges.{all_of}
use Rattle.image_law.proofs.Lawfulness.{assembly_holds}

abbrev small : Geometry
small = record {
  shape = Tiny;
  segments = 16;
  per_section = 1;
  files = 2;
  nodes = 3;
  packing = Slots;
  limits = record {
    some_segments = omega arith;
    segments_fit = omega arith;
    a_segment = omega arith;
    section_fits = omega arith;
    sections = refl;
    a_file = omega arith;
    files_fit = omega arith;
    inodes = omega arith;
    nodes_fit = omega arith;
  };
}

abbrev segment : SegmentState
segment = record {
  number = 0;
  mtime = 7;
  summaries = Some (Node 1) ∷ Some (Data 1 0) ∷ Some (Node 3) ∷ Some (Data 3 0) ∷ None ∷ None ∷ None ∷ None ∷ [];
  marks =
      record { address = 2; owner = Data 1 0 } ∷ record { address = 1; owner = Node 1 }
      ∷ record { address = 4; owner = Data 3 0 } ∷ record { address = 3; owner = Node 3 } ∷ [];
  log = Some 4;
}

-- a segment that is free, and n of them with numbers from k on
abbrev fresh : ℕ → SegmentState
fresh k = record { number = k; mtime = 0; summaries = replicate 8 None; marks = []; log = None }

abbrev fresh_from : ℕ → ℕ → List SegmentState
fresh_from k zero = []
fresh_from k (suc n) = fresh k ∷ fresh_from (suc k) n

fresh_at : (n k i : ℕ) → i < n → get_or (fresh_from k n) i no_state ≡ fresh (k + i)
fresh_at zero k i low = absurd (omega arith)
fresh_at (suc n) k zero low = let e : k ≡ k + 0 = omega arith in ap fresh e
fresh_at (suc n) k (suc i) low = let e : suc k + i ≡ k + suc i = omega arith in fresh_at n (suc k) i (omega arith) ∙ ap fresh e

abbrev below : Tree 0
below = record { nid = 3; address = 3; slots = 4 ∷ 0 ∷ 0 ∷ 0 ∷ 0 ∷ 0 ∷ 0 ∷ 0 ∷ 0 ∷ 0 ∷ [] }

abbrev file : FileTree
file = record {
  inode = 1;
  address = 1;
  kind = File;
  length = 4;
  slots = 2 ∷ 0 ∷ 0 ∷ [];
  first_direct = Some below;
  second_direct = None;
  first_indirect = None;
  second_indirect = None;
  double = None;
}

abbrev first : Token
first = record { nid = 1; inode = 1; address = 1 }

abbrev second : Token
second = record { nid = 3; inode = 1; address = 3 }

abbrev parts : Parts
parts = record {
  segments = segment ∷ fresh_from 1 15;
  shards = [] ∷ (first ∷ []) ∷ [] ∷ (second ∷ []) ∷ [];
  logs = Some (record { segment = 0; next = 4 }) ∷ None ∷ None ∷ None ∷ None ∷ None ∷ [];
  files = Some file ∷ None ∷ [];
}

abbrev blocks : ℕ → Block
blocks (suc zero) = node_bytes Tiny (inode_node file)
blocks (suc (suc (suc zero))) = node_bytes Tiny (tree_node 1 0 below)
blocks k = []

segment_law : SegmentLaw Tiny segment
segment_law = record {
  sized = refl;
  marks = λ h. omega arith;
  log = (omega arith, free);
}
  where
    free : (offset : ℕ) → 4 ≤ offset → get_or segment.summaries offset None ≡ None
    free zero past = absurd (omega arith)
    free (suc zero) past = absurd (omega arith)
    free (suc (suc zero)) past = absurd (omega arith)
    free (suc (suc (suc zero))) past = absurd (omega arith)
    free (suc (suc (suc (suc zero)))) past = refl
    free (suc (suc (suc (suc (suc zero))))) past = refl
    free (suc (suc (suc (suc (suc (suc zero)))))) past = refl
    free (suc (suc (suc (suc (suc (suc (suc zero))))))) past = refl
    free (suc (suc (suc (suc (suc (suc (suc (suc k)))))))) past = refl

fresh_law : (k : ℕ) → SegmentLaw Tiny (fresh k)
fresh_law k = record { sized = refl; marks = λ h. refl; log = tt }

empty_shard : (k : ℕ) → ShardLaw small k []
empty_shard k = record {
  home = λ e m. absurd m;
  range = λ e m. absurd m;
  single = λ nid. omega arith;
}

shard_of_one : (e : Token) → (1 ≤ e.nid) × (e.nid ≤ 3) → (k : ℕ) → e.nid % 16 ≡ k → ShardLaw small k (e ∷ [])
shard_of_one e range k home = record {
  home = home_of;
  range = range_of;
  single = λ nid. few (e.nid == nid);
}
  where
    home_of : (d : Token) → Among d (e ∷ []) → d.nid % 16 ≡ k
    home_of d (inl same) = subst (λ (x : Token). x.nid % 16 ≡ k) same home
    home_of d (inr m) = absurd m

    range_of : (d : Token) → Among d (e ∷ []) → (1 ≤ d.nid) × (d.nid ≤ 3)
    range_of d (inl same) = subst (λ (x : Token). (1 ≤ x.nid) × (x.nid ≤ 3)) same range
    range_of d (inr m) = absurd m

    few : (b : Bool) → (if b then 1 else 0) + 0 ≤ 1
    few true = omega arith
    few false = omega arith

shard_laws : (k : ℕ) → ShardLaw small k (get_or parts.shards k [])
shard_laws zero = empty_shard 0
shard_laws (suc zero) = shard_of_one first (omega arith, omega arith) 1 refl
shard_laws (suc (suc zero)) = empty_shard 2
shard_laws (suc (suc (suc zero))) = shard_of_one second (omega arith, omega arith) 3 refl
shard_laws (suc (suc (suc (suc k)))) = empty_shard (suc (suc (suc (suc k))))

first_slot : (slot : ℕ) → get_or below.slots slot 0 ≢ 0 → slot ≡ 0
first_slot zero some = refl
first_slot (suc zero) some = absurd (some refl)
first_slot (suc (suc zero)) some = absurd (some refl)
first_slot (suc (suc (suc zero))) some = absurd (some refl)
first_slot (suc (suc (suc (suc zero)))) some = absurd (some refl)
first_slot (suc (suc (suc (suc (suc zero))))) some = absurd (some refl)
first_slot (suc (suc (suc (suc (suc (suc zero)))))) some = absurd (some refl)
first_slot (suc (suc (suc (suc (suc (suc (suc zero))))))) some = absurd (some refl)
first_slot (suc (suc (suc (suc (suc (suc (suc (suc zero)))))))) some = absurd (some refl)
first_slot (suc (suc (suc (suc (suc (suc (suc (suc (suc zero))))))))) some = absurd (some refl)
first_slot (suc (suc (suc (suc (suc (suc (suc (suc (suc (suc k)))))))))) some = absurd (some refl)

direct_only : (p slot : ℕ) → data_in (direct_at file p) slot ≢ 0 → (p ≡ 0) × (slot ≡ 0)
direct_only zero slot some = (refl, first_slot slot some)
direct_only (suc p) slot some = absurd (some refl)

no_indirect : (p a slot : ℕ) → data_in (slot_of (indirect_at file p) a) slot ≡ 0
no_indirect zero a slot = refl
no_indirect (suc zero) a slot = refl
no_indirect (suc (suc zero)) a slot = refl
no_indirect (suc (suc (suc p))) a slot = refl

either : (P : Option Path → Type 0) (b : Bool) (x y : Option Path) → (b ≡ true → P x) → (b ≡ false → P y) → P (if b then x else y)
either P true x y holds fails = holds refl
either P false x y holds fails = fails refl

within : (index : ℕ) → ticket_at Tiny file index ≢ 0 → index < 4
within index =
    either P (nat_lt index 3) _ _ (λ t some. let l = ltb-true index 3 t in omega arith) λ t.
    either P (nat_lt index 23) _ _
    (λ u some.
    let both = direct_only ((index - 3) / 10) ((index - 3) % 10) some in
    let q = both.0 in
    let r = both.1 in
    let e = div-add-mod' (index - 3) 10 in
    omega arith) λ u.
    either P (nat_lt index 223) _ _ (λ v some. absurd (some (no_indirect _ _ _))) λ v.
    either P (nat_lt index 1223) _ _ (λ w some. absurd (some refl)) (λ w some. absurd (some refl))
  where
    P : Option Path → Type 0
    P p = ticket_on file p ≢ 0 → index < 4

file_law : FileLaw small 1 file
file_law = record {
  number = refl;
  flushed = flushed;
  others = others;
  reach = omega arith;
  within = within;
}
  where
    flushed : (s : Stored) → Among s (stored_of file) → s.address ≢ 0
    flushed s (inl e) = subst (λ (x : Stored). x.address ≢ 0) e (λ z. cc)
    flushed s (inr (inl e)) = subst (λ (x : Stored). x.address ≢ 0) e (λ z. cc)
    flushed s (inr (inr m)) = absurd m

    others : (s : Stored) → Among s (record { node = tree_node 1 0 below; address = 3 } ∷ []) → 2 < s.node.nid
    others s (inl e) = subst (λ (x : Stored). 2 < x.node.nid) e (omega arith)
    others s (inr m) = absurd m

parts_law : PartsLaw small parts
parts_law = record {
  segments = refl;
  numbers = numbers;
  states = states;
  shards = shard_laws;
  logs = refl;
  opened = opened;
  apart = apart;
  as_many = refl;
  files = files;
}
  where
    opened : (k : ℕ) (d : Option LogHead) → k < 6 → IfSome (get_or parts.logs k d) (λ place. (place.segment < 16) × ((segment_at parts place.segment).log ≡ Some place.next))
    opened zero d low = (omega arith, refl)
    opened (suc zero) d low = tt
    opened (suc (suc zero)) d low = tt
    opened (suc (suc (suc zero))) d low = tt
    opened (suc (suc (suc (suc zero)))) d low = tt
    opened (suc (suc (suc (suc (suc zero))))) d low = tt
    opened (suc (suc (suc (suc (suc (suc k)))))) d low = absurd (omega arith)

    apart : (i j : ℕ) (d : Option LogHead) → i < j → j < 6 → AreApart (get_or parts.logs i d) (get_or parts.logs j d)
    apart zero zero d before low = absurd (omega arith)
    apart zero (suc zero) d before low = tt
    apart zero (suc (suc zero)) d before low = tt
    apart zero (suc (suc (suc zero))) d before low = tt
    apart zero (suc (suc (suc (suc zero)))) d before low = tt
    apart zero (suc (suc (suc (suc (suc zero))))) d before low = tt
    apart zero (suc (suc (suc (suc (suc (suc j)))))) d before low = absurd (omega arith)
    apart (suc zero) j d before low = tt
    apart (suc (suc zero)) j d before low = tt
    apart (suc (suc (suc zero))) j d before low = tt
    apart (suc (suc (suc (suc zero)))) j d before low = tt
    apart (suc (suc (suc (suc (suc zero))))) j d before low = tt
    apart (suc (suc (suc (suc (suc (suc i)))))) j d before low = absurd (omega arith)

    numbers : (k : ℕ) → k < 16 → (segment_at parts k).number ≡ k
    numbers zero low = refl
    numbers (suc k) low = ap (λ (s : SegmentState). s.number) (fresh_at 15 1 k (omega arith)) ∙ omega arith

    states : (k : ℕ) → k < 16 → SegmentLaw Tiny (segment_at parts k)
    states zero low = segment_law
    states (suc k) low = subst (SegmentLaw Tiny) (sym (fresh_at 15 1 k (omega arith))) (fresh_law (1 + k))

    files : (k : ℕ) (f : FileTree) → get_or parts.files k None ≡ Some f → FileLaw small (k + 1) f
    files zero f e = subst (FileLaw small 1) (ap (λ (o : Option FileTree). unwrap_or o file) e) file_law
    files (suc zero) f e = absurd cc
    files (suc (suc k)) f e = absurd cc

even : Balanced parts
even = record { tickets = λ h. omega arith; tokens = λ h. omega arith }

-- each number of a list is below 5, by a test
low_all : (xs : List ℕ) → weigh (λ x. if nat_lt x 5 then 0 else 1) xs ≡ 0 → All (λ x. x < 2 ^ 32) xs
low_all xs none = all_of (λ x. x < 2 ^ 32) xs (λ x m.
    let a = weigh_among (λ x. if nat_lt x 5 then 0 else 1) x xs m in
    go x (nat_lt x 5) refl (let z = none in omega arith))
  where
    go : (x : ℕ) (b : Bool) → nat_lt x 5 ≡ b → (if b then 0 else 1) ≤ 0 → x < 2 ^ 32
    go x true t some = let l = ltb-true x 5 t in omega arith
    go x false t some = absurd (omega arith)

inode_is_node : IsNode Tiny (inode_node file)
inode_is_node = record {
  nid = (omega arith, omega arith);
  inode = (omega arith, omega arith);
  class = omega arith;
  length = omega arith;
  entries = (refl, refl);
  addresses = low_all file.slots refl;
  children = low_all (3 ∷ 0 ∷ 0 ∷ 0 ∷ 0 ∷ []) refl;
  plain = inl refl;
}

below_is_node : IsNode Tiny (tree_node 1 0 below)
below_is_node = record {
  nid = (omega arith, omega arith);
  inode = (omega arith, omega arith);
  class = omega arith;
  length = omega arith;
  entries = (refl, refl);
  addresses = low_all below.slots refl;
  children = λ k d low. absurd (omega arith);
  plain = inr (refl, refl);
}

are_spelled : AreSpelled small parts blocks
are_spelled zero f s e m = spelled f s e m
  where
    spelled_in : (s : Stored) → Among s (stored_of file) → Spells Tiny (blocks s.address) s.node
    spelled_in s (inl same) = subst (λ (x : Stored). Spells Tiny (blocks x.address) x.node) same (inode_is_node, refl)
    spelled_in s (inr (inl same)) = subst (λ (x : Stored). Spells Tiny (blocks x.address) x.node) same (below_is_node, refl)
    spelled_in s (inr (inr m)) = absurd m

    spelled : (f : FileTree) (s : Stored) → Some file ≡ Some f → Among s (stored_of f) → Spells Tiny (blocks s.address) s.node
    spelled f s e m =
        let same : file ≡ f = ap (λ (o : Option FileTree). unwrap_or o file) e in
        spelled_in s (subst (λ (x : FileTree). Among s (stored_of x)) (sym same) m)
are_spelled (suc zero) f s e m = absurd cc
are_spelled (suc (suc k)) f s e m = absurd cc

-- so the image of version 2 of these parts is faithful
pub example_is_faithful : IsFaithful small parts blocks (assembled small 2 parts blocks)
example_is_faithful =
    assembly_holds small 2 parts blocks (omega arith) parts_law even are_spelled
