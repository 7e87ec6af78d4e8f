-- What the crash law asks can be met: a run from a new volume writes a file of one block and its pack, and completes
-- version 2; and a segment that was filled can have a hole again.
use Rattle.std.proofs.Common.{◌≡◌, refl, sym, ◌∙◌, ap, subst, ℕ, zero, suc, ◌<◌, inl, inr, Bool, true, false, IsTrue, List, [], ◌∷◌, get_or, replicate, arith}
use Rattle.std.proofs.lemmas.Bool.{eqb-false}
use Rattle.std.proofs.lemmas.Bool.Decides.{leb_tells}
use Rattle.std.proofs.lemmas.List.{get_or-replicate, get_or_past}
use Rattle.std.specs.Prelude.{Option, Some, None, IsSome, is_some, unwrap_or, ◌==◌, nat_lt, if◌then◌else◌}
use Rattle.geometry.specs.declared.owner.Owner.{Owner}
use Rattle.geometry.specs.Summary.{summary_of}
use Rattle.geometry.specs.declared.shape.Shape.TheVariants.{Tiny}
use Rattle.image.specs.Node.{node_bytes}
use Rattle.image.specs.Image.{Image, no_entry, no_node, no_summary, is_marked, summary_at}
use Rattle.geometry.specs.declared.owner.Owner.TheVariants.{Node, Data}
use Rattle.image.specs.Rules.{IsLawful, MarkedIsNamed}
use Rattle.image.specs.Reading.{image_in}
use Rattle.image.specs.Pack.{pack_body}
use Rattle.image.specs.Slots.{version_of}
use Rattle.geometry.specs.declared.state.State.TheVariants.{Free, Open, Sealed}
use Rattle.geometry.specs.Address.{segment_of, offset_of}
use Rattle.geometry.specs.Segment.{unfilled, filled, IsVacant}
use Rattle.image_law.specs.Core.{idle, Segment, Core, owner_at, next_in, completed_image, HasHole, released, moved, append, write_body, sync, write_footer, advance, Run, IsFormatted, MayWrite, appended}
use Rattle.image.proofs.Testing.{lawful_by_tests}
use Rattle.image_law.proofs.Keeping.{by_place}
use Rattle.image.proofs.Examples.{small, plain_segment, segment_with_first, one_inode, one_file, one_file_is_lawful}

unfoldable pub empty_image : Image
empty_image = record {
  version = 1;
  total = 0;
  logs = Some (record { segment = 0; next = 0 }) ∷ Some (record { segment = 1; next = 0 }) ∷ Some (record { segment = 2; next = 0 })
      ∷ Some (record { segment = 3; next = 0 }) ∷ Some (record { segment = 4; next = 0 }) ∷ Some (record { segment = 5; next = 0 }) ∷ [];
  node_table = replicate 64 no_entry;
  segments = replicate 32 plain_segment;
  summaries = replicate 256 no_summary;
  nodes = replicate 64 no_node;
}

empty_is_lawful : IsLawful small empty_image
unfolding small empty_image plain_segment
empty_is_lawful = lawful_by_tests small empty_image (record {
  version = refl;
  logs = refl;
  places = refl;
  table = refl;
  entries = refl;
  segments = refl;
  bits = refl;
  summaries = refl;
  as_many = refl;
  nodes = refl;
  owned = refl;
  apart = refl;
  holds = refl;
  fit = refl;
  met = refl;
  distinct = refl;
  named = refl;
  marked = refl;
  owners = refl;
  unmarked = refl;
  counts = refl;
  total = refl;
  free_places = refl;
  lengths = refl;
})

unfoldable pub empty_body : List ℕ
empty_body = pack_body Tiny empty_image

empty_reads_back : image_in small empty_body (λ address. []) ≡ empty_image
unfolding small empty_image plain_segment empty_body image_in
empty_reads_back = refl

unfoldable pub begin : Core
begin = record {
  blocks = λ address. [];
  loose = λ address. false;
  segments = λ segment. record {
    stage = if nat_lt segment 6 then record { state = Open; incarnation = 1; stamp = 0 } else record { state = Free; incarnation = 0; stamp = 0 };
    fill = unfilled 8;
  };
  version = 1;
  slots = λ slot. (if slot == 1 then record { body = empty_body; footer = 1 } else record { body = []; footer = 0 });
  phase = idle;
  written = record { body = empty_body; blocks = λ address. [] } ∷ [];
}

nothing_marked : (a : ℕ) → ¬ IsTrue (is_marked small empty_image a)
unfolding small empty_image plain_segment
nothing_marked a marked =
    let named : MarkedIsNamed small empty_image = empty_is_lawful 8 (omega arith) (omega arith) in
    let within = (named a marked).1 in omega arith

-- of eight blocks nobody names one
none_named : IsVacant (unfilled 8)
none_named offset =
    elim (leb_tells 8 offset) [
      | inl (e, past) ↦ get_or_past (replicate {A = Option Owner} 8 None) offset None past
      | inr (e, within) ↦ get_or-replicate {A = Option Owner} 8 offset None None within
    ]

pub begins : IsFormatted small begin
unfolding begin empty_body small empty_image plain_segment version_of
begins = record {
  phase = refl;
  version = refl;
  header = refl;
  footer = refl;
  empty_slot = refl;
  lawful = subst (IsLawful small) (sym empty_reads_back) empty_is_lawful;
  no_mark = subst (λ (i : Image). (a : ℕ) → ¬ IsTrue (is_marked small i a)) (sym empty_reads_back) nothing_marked;
  no_owner = λ segment. none_named;
  written = refl;
}

-- the data block, the inode's block, and then the pack
with_data : Core
with_data = appended Tiny begin (next_in 4) (Data 1 0) []

with_node : Core
with_node = appended Tiny with_data (next_in 1) (Node 1) (node_bytes Tiny one_inode)

unfoldable pub next_body : List ℕ
next_body = pack_body Tiny one_file

one_file_read : image_in small next_body with_node.blocks ≡ one_file
unfolding small one_file one_inode plain_segment segment_with_first next_body with_node with_data begin image_in
one_file_read = refl

owned : (a : ℕ) → IsTrue (is_marked small one_file a) → IsSome (owner_at Tiny with_node.segments a)
unfolding small one_file one_inode plain_segment segment_with_first with_node with_data begin
owned a marked =
    let named : MarkedIsNamed small one_file = one_file_is_lawful 8 (omega arith) (omega arith) in
    let found = named a marked in
    place found.0 found.1 found.2
  where
    place : (k : ℕ) → k < 2 → get_or {A = ℕ} (9 ∷ 33 ∷ []) k a ≡ a → IsSome (owner_at Tiny with_node.segments a)
    place zero within is = subst (λ (x : ℕ). IsSome (owner_at Tiny with_node.segments x)) is refl
    place (suc zero) within is = subst (λ (x : ℕ). IsSome (owner_at Tiny with_node.segments x)) is refl
    place (suc (suc k)) within is = absurd (omega arith)

none_some : (o : Option Owner) (owner : Owner) → o ≡ None → o ≡ Some owner → ⊥
none_some o owner none some = let no = ap is_some (sym none ∙ some) in cc

-- where the first block alone is named, a named block is the first
only_first : (first owner : Owner) (offset : ℕ) → get_or (filled first (unfilled 8)).owners offset None ≡ Some owner → (offset ≡ 0) × (Some first ≡ Some owner)
only_first first owner zero e = (refl, e)
only_first first owner (suc offset) e = absurd (none_some _ owner (none_named (suc offset)) e)

not_zero : (zero : Bool) (o : Option Owner) (owner : Owner) → (if zero then None else o) ≡ Some owner → (zero ≡ false) × (o ≡ Some owner)
not_zero true o owner e = absurd cc
not_zero false o owner e = (refl, e)

abbrev Told : ℕ → Owner → Type 0
Told a owner = IsTrue (is_marked small one_file a) × (summary_at one_file a ≡ summary_of owner)

told : (a : ℕ) (owner : Owner) → owner_at Tiny with_node.segments a ≡ Some owner → Told a owner
unfolding small one_file one_inode plain_segment segment_with_first with_node with_data begin
told a owner e =
    let named = not_zero (a == 0) _ owner e in
    let some = eqb-false a 0 named.0 in
    by_place (λ (s : Segment). get_or s.fill.owners (offset_of Tiny a) None ≡ Some owner → Told a owner) with_data.segments 1
    (record { stage = (begin.segments 1).stage; fill = filled (Node 1) (unfilled 8) }) (segment_of Tiny a)
    (λ is has.
    let first = only_first (Node 1) owner (offset_of Tiny a) has in
    let place = first.0 in
    let at : 9 ≡ a = omega arith in
    subst (λ (x : ℕ). Told x owner) at (refl, ap (λ (o : Option Owner). summary_of (unwrap_or o owner)) first.1))
    (λ isn't. by_place (λ (s : Segment). get_or s.fill.owners (offset_of Tiny a) None ≡ Some owner → Told a owner) begin.segments 4
    (record { stage = (begin.segments 4).stage; fill = filled (Data 1 0) (unfilled 8) }) (segment_of Tiny a)
    (λ is has.
    let first = only_first (Data 1 0) owner (offset_of Tiny a) has in
    let place = first.0 in
    let at : 33 ≡ a = omega arith in
    subst (λ (x : ℕ). Told x owner) at (refl, ap (λ (o : Option Owner). summary_of (unwrap_or o owner)) first.1))
    (λ isn't has. absurd (none_some _ owner (none_named (offset_of Tiny a)) has))) named.1

version_of_body : version_of next_body ≡ 2
unfolding next_body one_file version_of
version_of_body = refl

may_write : MayWrite small with_node next_body
unfolding small with_node with_data begin
may_write = record {
  phase = refl;
  lawful = subst (IsLawful small) (sym one_file_read) one_file_is_lawful;
  version = version_of_body;
  marks = subst (λ (i : Image). (a : ℕ) → IsTrue (is_marked small i a) → IsSome (owner_at Tiny with_node.segments a)) (sym one_file_read) owned;
  owners = subst (λ (i : Image). (a : ℕ) (owner : Owner) → owner_at Tiny with_node.segments a ≡ Some owner → IsTrue (is_marked small i a) × (summary_at i a ≡ summary_of owner)) (sym one_file_read) told;
}

-- a run that completes version 2
pub completes : (m : Core) × Run small begin (append (next_in 4) (Data 1 0) [] ∷ append (next_in 1) (Node 1) (node_bytes Tiny one_inode)
    ∷ write_body next_body ∷ sync ∷ write_footer ∷ sync ∷ advance ∷ []) m × (m.version ≡ 2)
unfolding small with_node with_data begin
completes = (
  _,
  (
    with_data,
    (record { phase = refl; range = omega arith; state = refl; room = omega arith }, refl),
    (
      with_node,
      (record { phase = refl; range = omega arith; state = refl; room = omega arith }, refl),
      (_, (may_write, refl), (_, refl, (_, (refl, refl), (_, refl, (_, (refl, refl), refl))))),
    ),
  ),
  refl,
)

-- a segment that was filled, of which a block was released, and written again in its hole
fill_one : Core → ℕ → Core
fill_one machine index = appended Tiny machine (next_in 4) (Data 1 index) []

filled_up : Core
filled_up = fill_one (fill_one (fill_one (fill_one (fill_one (fill_one (fill_one (fill_one begin 0) 1) 2) 3) 4) 5) 6) 7

pub with_hole : Core
with_hole = released Tiny (moved filled_up 4 (record { state = Sealed; incarnation = 1; stamp = 0 })) 34

not_marked : is_marked small (completed_image small with_hole) 34 ≡ false
unfolding with_hole filled_up fill_one begin empty_body small empty_image plain_segment image_in
not_marked = refl

pub has_hole : HasHole small with_hole 4 1
unfolding small with_hole filled_up fill_one begin
has_hole = record { phase = refl; range = omega arith; state = refl; within = omega arith; hole = (refl, not_marked) }
