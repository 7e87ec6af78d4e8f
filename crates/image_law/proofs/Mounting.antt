-- A crash leaves the current slot as it was, and the other slot with an old footer or the next pack's body: so a slot
-- is picked, and what its image marks is as it was written.
use Rattle.geometry.specs.declared.owner.Owner.{Owner}
use Rattle.geometry.specs.declared.owner.Summary.{Summary}
use Rattle.image.specs.declared.image.LogHead.{LogHead}
use Rattle.std.proofs.Common.{◌≡◌, ◌≢◌, refl, sym, ◌∙◌, ap, subst, ℕ, zero, suc, ◌+◌, ◌-◌, ◌%◌, ◌<◌, ◌≤◌, ◌⊎◌, inl, inr, Bool, true, false, ◌&&◌, IsTrue, List, [], ◌∷◌, length, get_or, arith}
use Rattle.std.proofs.lemmas.List.{get_or_past}
use Rattle.std.proofs.lemmas.List.FromFn.{length-map-range_with_len, get_or-map-range_with_len}
use Rattle.std.proofs.lemmas.List.Sums.{length-filter}
use Rattle.std.specs.Prelude.{Option, Some, None, IsSome, unwrap_or, IfSome, filter, All, count_by, ◌==◌, nat_lt, if◌then◌else◌}
use Rattle.std.proofs.lemmas.Bool.{ltb-true, ltb-false, eqb-true, eqb-false, eq-eqb, lt-ltb, le-ltb}
use Rattle.std.proofs.lemmas.Bool.Decides.{eqb_tells, leb_tells}
use Rattle.geometry.specs.declared.geometry.Geometry.{Geometry}
use Rattle.geometry.specs.Address.{address_of, segment_of, offset_of}
use Rattle.image.specs.Image.{Image, SegmentInfo, no_segment, is_marked, summary_at}
use Rattle.image.specs.Rules.{IsLawful, Rule}
use Rattle.image.specs.Reading.{image_in}
use Rattle.image.specs.Slots.{Slot, version_of, slot_of, IsSound, IsPicked}
use Rattle.image.proofs.Picking.{is_picked, picked_or_none}
use Rattle.image_law.specs.Disk.{HoldsPacks}
use Rattle.image_law.specs.Core.{Written, Phase, idle, body_written, body_synced, footer_written, footer_synced, mending, Core, Left, current, other, footed, LeavesSlot, MayLeave, IsPicked as IsPick, image_of, log_in, mounted_stage, mounted_owner, mounted_owners, mounted_segment, mounted_when, mounted}
use Rattle.image_law.proofs.Invariant.{marks_are, are_marks, IsLiveAs, IsLive, NamesLive, IsStored, Same, Settled, Pending, Invariant}
use Rattle.image_law.proofs.Keeping.{changed_elsewhere, changed_there, live_is_safe, live_at, none_owned, current_not_other}
use Rattle.geometry.proofs.Addresses.{address_of-parts}
use Rattle.image.proofs.Frame.{same_image}
use Rattle.image.proofs.Marking.{true_or_false, segment_within, bit_of_mark}
use Rattle.geometry.specs.Shape.{segment_blocks}

-- what the slot that is not current may hold after a crash: an old footer, or the next pack's body
abbrev pub OldOrNext : Geometry → Core → Left → ℕ → ℕ → Type 0
OldOrNext geometry m left slot version =
    ((left.slots slot).footer < version)
    ⊎ ((w : Written) × IsStored geometry m.written (left.slots slot) (version + 1) w × Same geometry left.blocks w)

left_same : (geometry : Geometry) (m : Core) (left : Left) (w : Written) → MayLeave m left
    → Same geometry m.blocks w → Settled geometry m.loose w → Same geometry left.blocks w
left_same geometry m left w may same settled a h = may.blocks a (settled a h) ∙ same a h

moved_stored : (geometry : Geometry) (written : List Written) (from to : Slot) (version : ℕ) (w : Written) → to.body ≡ from.body
    → IsStored geometry written from version w → IsStored geometry written to version w
moved_stored geometry written from to version w e stored = record {
  was_written = stored.was_written;
  lawful = stored.lawful;
  header = stored.header;
  body = e ∙ stored.body;
}

left_other : (geometry : Geometry) (m : Core) (left : Left) (phase : Phase) → MayLeave m left → Pending geometry m phase
    → LeavesSlot phase (m.slots (other (current m.version))) (left.slots (other (current m.version)))
    → OldOrNext geometry m left (other (current m.version)) m.version
left_other geometry m left idle may p e =
    inl (let f = ap (λ (s : Slot). s.footer) e in omega arith)
left_other geometry m left body_written may p e = inl (let f = p.0 in omega arith)
left_other geometry m left body_synced may p e =
    inl (let f = ap (λ (s : Slot). s.footer) e in let g = p.0 in omega arith)
left_other geometry m left footer_written may p e =
    inr (p.1.0, moved_stored geometry m.written _ _ (m.version + 1) p.1.0 e p.1.1.stored, left_same geometry m left p.1.0 may p.1.1.same p.1.3)
left_other geometry m left footer_synced may p e =
    inr (p.1.0, moved_stored geometry m.written _ _ (m.version + 1) p.1.0 (ap (λ (s : Slot). s.body) e) p.1.1.stored, left_same geometry m left p.1.0 may p.1.1.same p.1.3)
left_other geometry m left mending may p e =
    inr (p.1.0, moved_stored geometry m.written _ _ (m.version + 1) p.1.0 e p.1.1.stored, left_same geometry m left p.1.0 may p.1.1.same p.1.2)

-- what stands in a picked slot
pub record IsFound (geometry : Geometry) (m : Core) (left : Left) (slot : ℕ) (w : Written) : Type 0 where
  pub stored : IsStored geometry m.written (left.slots slot) (left.slots slot).footer w
  pub same : Same geometry left.blocks w
  pub later : m.version ≤ (left.slots slot).footer
  pub parity : current (left.slots slot).footer ≡ slot
  pub positive : 1 ≤ (left.slots slot).footer
  pub rest : OldOrNext geometry m left (other slot) (left.slots slot).footer

pub current_below : (version : ℕ) → current version < 2
current_below version = omega arith

pub other_other : (version : ℕ) → other (other (current version)) ≡ current version
other_other version = omega arith

-- the current slot stays as it was
current_footer : (geometry : Geometry) (m : Core) (left : Left) (inv : Invariant geometry m) → MayLeave m left
    → (left.slots (current m.version)).footer ≡ m.version
current_footer geometry m left inv may = ap (λ (s : Slot). s.footer) may.current_slot ∙ inv.footer

current_body : (geometry : Geometry) (m : Core) (left : Left) (inv : Invariant geometry m) → MayLeave m left
    → (left.slots (current m.version)).body ≡ inv.now.body
current_body geometry m left inv may = ap (λ (s : Slot). s.body) may.current_slot ∙ inv.stored.body

current_sound : (geometry : Geometry) (m : Core) (left : Left) (inv : Invariant geometry m) → MayLeave m left → IsSound left.slots (current m.version)
current_sound geometry m left inv may =
    let header : version_of (left.slots (current m.version)).body ≡ m.version = ap version_of (current_body geometry m left inv may) ∙ inv.stored.header in
    record {
      same = header ∙ sym (current_footer geometry m left inv may);
      positive = (let p = inv.positive in omega arith);
      parity = ap current header;
    }

current_found : (geometry : Geometry) (m : Core) (left : Left) (inv : Invariant geometry m) → MayLeave m left
    → IsFound geometry m left (current m.version) inv.now
current_found geometry m left inv may =
    let footer = current_footer geometry m left inv may in
    record {
      stored = record {
        was_written = inv.stored.was_written;
        lawful = inv.stored.lawful;
        header = inv.stored.header ∙ sym footer;
        body = current_body geometry m left inv may;
      };
      same = left_same geometry m left inv.now may inv.same inv.settled;
      later = (let p = inv.positive in omega arith);
      parity = ap current footer;
      positive = (let p = inv.positive in omega arith);
      rest = subst (OldOrNext geometry m left (other (current m.version))) (sym footer)
          (left_other geometry m left m.phase may inv.pending may.other_slot);
    }

-- the other slot, where it is picked, holds the next pack
other_found : (geometry : Geometry) (m : Core) (left : Left) → Invariant geometry m → MayLeave m left
    → IsPicked left.slots (other (current m.version))
    → (w : Written) × IsFound geometry m left (other (current m.version)) w
other_found geometry m left inv may picked =
    let footer = current_footer geometry m left inv may in
    let sound = picked.sound in
    let here = current_sound geometry m left inv may in
    let back = other_other m.version in
    let same : (left.slots (current m.version)).footer ≡ version_of (left.slots (current m.version)).body = sym here.same in
    let lower : version_of (left.slots (current m.version)).body < version_of (left.slots (other (current m.version))).body
    = subst (λ (k : ℕ). version_of (left.slots k).body < version_of (left.slots (other (current m.version))).body) back
    (picked.highest (subst (IsSound left.slots) (sym back) here)) in
    let higher : (left.slots (current m.version)).footer < (left.slots (other (current m.version))).footer = let is = sound.same in omega arith in
    elim (left_other geometry m left m.phase may inv.pending may.other_slot) [
      | inl old ↦ absurd (omega arith)
      | inr (w, stored, same) ↦
          let header : (left.slots (other (current m.version))).footer ≡ m.version + 1
          = sym sound.same ∙ ap version_of stored.body ∙ stored.header in (
            w,
            record {
              stored = record { was_written = stored.was_written; lawful = stored.lawful; header = stored.header ∙ sym header; body = stored.body };
              same = same;
              later = omega arith;
              parity = ap current (sym sound.same) ∙ sound.parity;
              positive = (let p = sound.positive in let is = sound.same in omega arith);
              rest = inl (subst (λ (k : ℕ). (left.slots k).footer < (left.slots (other (current m.version))).footer) (sym back) higher);
            },
          )
    ]

one_of_two : (slot version : ℕ) → slot ≤ 1 → slot ≢ current version → slot ≡ other (current version)
one_of_two slot version below isn't = omega arith

pub picked_found : (geometry : Geometry) (m : Core) (left : Left) (slot : ℕ) → Invariant geometry m → MayLeave m left
    → IsPicked left.slots slot → (w : Written) × IsFound geometry m left slot w
picked_found geometry m left slot inv may picked =
    elim (eqb_tells slot (current m.version)) [
      | inl (e, is) ↦ (inv.now, subst (λ (k : ℕ). IsFound geometry m left k inv.now) (sym is) (current_found geometry m left inv may))
      | inr (e, isn't) ↦
          let is = one_of_two slot m.version picked.within isn't in
          let found = other_found geometry m left inv may (subst (IsPicked left.slots) is picked) in
          (found.0, subst (λ (k : ℕ). IsFound geometry m left k found.0) (sym is) found.1)
    ]

-- some slot is picked, since the current one is sound
pub some_picked : (geometry : Geometry) (m : Core) (left : Left) → Invariant geometry m → MayLeave m left
    → (slot : ℕ) × IsPicked left.slots slot
some_picked geometry m left inv may =
    elim (picked_or_none left.slots) [
      | inl found ↦ found
      | inr none ↦ absurd (none.1 (current m.version) (omega arith) (current_sound geometry m left inv may))
    ]

-- the slots are settled, or between two packs
pub left_packs : (geometry : Geometry) (m : Core) (left : Left) → Invariant geometry m → MayLeave m left → HoldsPacks m left.slots
left_packs geometry m left inv may =
    let is = inv.stored.header in
    let at : slot_of (version_of inv.now.body) ≡ current m.version = ap slot_of is in
    let positive : 0 < version_of inv.now.body = let p = inv.positive in omega arith in
    let body : (left.slots (slot_of (version_of inv.now.body))).body ≡ inv.now.body = ap (λ (k : ℕ). (left.slots k).body) at ∙ current_body geometry m left inv may in
    let footer : (left.slots (slot_of (version_of inv.now.body))).footer ≡ version_of inv.now.body = ap (λ (k : ℕ). (left.slots k).footer) at ∙ current_footer geometry m left inv may ∙ sym is in
    record {
      old = inv.now;
      was_written = inv.stored.was_written;
      completed = is;
      packs = elim (left_other geometry m left m.phase may inv.pending may.other_slot) [
        | inl low ↦ inl (record {
          positive = positive;
          body = body;
          footer = footer;
          below = subst (λ (v : ℕ). (left.slots (1 - slot_of v)).footer < v) (sym is) low;
        })
        | inr (w, stored, same) ↦ inr (
          w,
          stored.was_written,
          record {
            positive = positive;
            next = stored.header ∙ ap (λ (v : ℕ). v + 1) (sym is);
            body = body;
            footer = footer;
            other = inr (ap (λ (v : ℕ). (left.slots (1 - slot_of v)).body) is ∙ stored.body);
          },
        )
      ];
    }

-- a marked block lies below its log's next offset, and in a segment whose count isn't 0
live_of : (log : Option ℕ) (count offset : ℕ) → IfSome log (λ next. offset < next) → 1 ≤ count
    → IsLiveAs (mounted_stage log count).state (unwrap_or log 0) offset
live_of (Some next) count offset below counted = below
live_of None zero offset below counted = absurd (omega arith)
live_of None (suc count) offset below counted = tt

log_below : (geometry : Geometry) (image : Image) (logs : List (Option LogHead)) (segment offset : ℕ)
    → All (λ log. IfSome log (λ (place : LogHead). (o : ℕ) → place.next ≤ o → o < segment_blocks geometry.shape
    → ¬ IsTrue (is_marked geometry image (address_of geometry.shape place.segment o)))) logs
    → offset < segment_blocks geometry.shape → IsTrue (is_marked geometry image (address_of geometry.shape segment offset))
    → IfSome (log_in logs segment) (λ next. offset < next)
log_below geometry image [] segment offset all fits marked = tt
log_below geometry image (None ∷ logs) segment offset all fits marked =
    log_below geometry image logs segment offset (λ k d below. all (suc k) d (omega arith)) fits marked
log_below geometry image (Some place ∷ logs) segment offset all fits marked =
    elim (true_or_false (place.segment == segment)) [
      | inl same ↦
          let there = eqb-true place.segment segment same in
          rw same
          (elim (leb_tells place.next offset) [
            | inl (e, past) ↦ absurd (all 0 (Some place) (omega arith) offset past fits
                (subst (λ (k : ℕ). IsTrue (is_marked geometry image (address_of geometry.shape k offset))) (sym there) marked))
            | inr (e, below) ↦ below
          ])
      | inr differs ↦ rw differs (log_below geometry image logs segment offset (λ k d below. all (suc k) d (omega arith)) fits marked)
    ]

listed : (bits : List Bool) (o : ℕ) → get_or bits o false ≡ true → 1 ≤ length (filter (λ bit. bit) bits)
listed [] o set = absurd cc
listed (true ∷ bits) o set = omega arith
listed (false ∷ bits) zero set = absurd cc
listed (false ∷ bits) (suc o) set = listed bits o set

counted : (bits : List Bool) (o : ℕ) → get_or bits o false ≡ true → 1 ≤ count_by (λ bit. bit) bits
counted bits o set = let h = listed bits o set in let e = length-filter (λ bit. bit) bits in omega arith

segment_counted : (segments : List SegmentInfo) (s o : ℕ) → All (λ (i : SegmentInfo). i.count ≡ count_by (λ bit. bit) i.bits) segments
    → get_or (get_or segments s no_segment).bits o false ≡ true → 1 ≤ (get_or segments s no_segment).count
segment_counted [] s o all set = absurd cc
segment_counted (i ∷ segments) zero o all set =
    let c = counted i.bits o set in let e : i.count ≡ count_by (λ bit. bit) i.bits = all 0 i (omega arith) in omega arith
segment_counted (i ∷ segments) (suc s) o all set = segment_counted segments s o (λ k d below. all (suc k) d (omega arith)) set

-- a marked block of a lawful image is live in the segments that a mount finds
mounted_live : (geometry : Geometry) (image : Image) (a : ℕ) → IsLawful geometry image → IsTrue (is_marked geometry image a)
    → IsLive geometry.shape (λ segment. mounted_segment geometry image segment) a
mounted_live geometry image a lawful marked =
    let sized : Rule geometry image 1 = lawful 1 (omega arith) (omega arith) in
    let agree : Rule geometry image 10 = lawful 10 (omega arith) (omega arith) in
    let bit = bit_of_mark (a == 0) _ marked in
    let fits = segment_within image.segments (segment_of geometry.shape a) (offset_of geometry.shape a) (segment_blocks geometry.shape) sized.bits bit.1 in
    let some = eqb-false a 0 bit.0 in
    let back = address_of-parts geometry.shape a (omega arith) in
    live_of _ _ (offset_of geometry.shape a)
    (log_below geometry image image.logs (segment_of geometry.shape a) (offset_of geometry.shape a) agree.logs fits
    (subst (λ (k : ℕ). IsTrue (is_marked geometry image k)) (sym back) marked))
    (segment_counted image.segments (segment_of geometry.shape a) (offset_of geometry.shape a) agree.counts bit.1)

owned_marked : (b : Bool) (summary : Summary) → IsSome (mounted_owner b summary) → b ≡ true
owned_marked true summary h = refl
owned_marked false summary h = absurd cc

-- a mount names live places only
mounted_names : (geometry : Geometry) (image : Image) (segment : ℕ) → IsLawful geometry image → NamesLive (mounted_segment geometry image segment)
mounted_names geometry image segment lawful offset has =
    elim (leb_tells (segment_blocks geometry.shape) offset) [
      | inl (e, past) ↦ absurd (none_owned _ (get_or_past (mounted_owners geometry image segment) offset None
          (let l = length-map-range_with_len owner_of 0 (segment_blocks geometry.shape) in omega arith)) has)
      | inr (e, within) ↦
          let there = get_or-map-range_with_len owner_of 0 (segment_blocks geometry.shape) offset offset None within (omega arith) in
          live_at geometry.shape (λ segment. mounted_segment geometry image segment) segment offset within
          (mounted_live geometry image (address_of geometry.shape segment offset) lawful
          (owned_marked _ _ (subst (λ (o : Option Owner). IsSome o) there has)))
    ]
  where
    owner_of : ℕ → Option Owner
    owner_of o = mounted_owner (is_marked geometry image (address_of geometry.shape segment o)) (summary_at image (address_of geometry.shape segment o))

-- the image that is found is the one that was written
pub found_image : (geometry : Geometry) (m : Core) (left : Left) (slot : ℕ) (w : Written) → IsFound geometry m left slot w
    → image_of geometry left slot ≡ image_in geometry w.body w.blocks
found_image geometry m left slot w found =
    ap (λ body. image_in geometry body left.blocks) found.stored.body
    ∙ same_image geometry w.body left.blocks w.blocks found.stored.lawful (λ a marked. found.same a (are_marks geometry w a marked))

mounted_pending : (geometry : Geometry) (m : Core) (left : Left) (slot : ℕ) (w : Written) (is_below : Bool) → IsFound geometry m left slot w
    → (is_below ≡ true → (left.slots (other slot)).footer < (left.slots slot).footer)
    → (is_below ≡ false → (left.slots slot).footer ≤ (left.slots (other slot)).footer)
    → Pending geometry (mounted_when is_below geometry m left slot) (mounted_when is_below geometry m left slot).phase
mounted_pending geometry m left slot w true found below above =
    subst (λ (k : ℕ). (left.slots (other k)).footer < (left.slots slot).footer) (sym found.parity) (below refl)
mounted_pending geometry m left slot w false found below above =
    let zeroed : Slot = record { body = (left.slots (other slot)).body; footer = 0 } in
    let there : footed left.slots (other slot) 0 (other (current (left.slots slot).footer)) ≡ zeroed
    = changed_there left.slots (other slot) zeroed (other (current (left.slots slot).footer)) (ap other found.parity) in
    let footer : (footed left.slots (other slot) 0 (other (current (left.slots slot).footer))).footer ≡ 0 = ap (λ (s : Slot). s.footer) there in
    let positive = found.positive in
    elim found.rest [
      | inl old ↦ let high = above refl in absurd (omega arith)
      | inr (next, stored, same) ↦ (
        omega arith,
        (
          next,
          record {
            stored = moved_stored geometry m.written (left.slots (other slot)) _ ((left.slots slot).footer + 1) next (ap (λ (s : Slot). s.body) there) stored;
            same = same;
          },
          λ a h. refl,
        ),
      )
    ]

slots_kept : (is_below : Bool) (slots : ℕ → Slot) (slot version : ℕ) → current version ≡ slot
    → (if is_below then slots else footed slots (other slot) 0) (current version) ≡ slots slot
slots_kept true slots slot version e = ap slots e
slots_kept false slots slot version e =
    ap (footed slots (other slot) 0) e ∙ changed_elsewhere slots (other slot) _ slot (λ same. omega arith)

mounted_keeps_when : (geometry : Geometry) (m : Core) (left : Left) (slot : ℕ) (w : Written) (is_below : Bool) → IsFound geometry m left slot w
    → (is_below ≡ true → (left.slots (other slot)).footer < (left.slots slot).footer)
    → (is_below ≡ false → (left.slots slot).footer ≤ (left.slots (other slot)).footer)
    → Invariant geometry (mounted_when is_below geometry m left slot)
mounted_keeps_when geometry m left slot w is_below found below above =
    let image = found_image geometry m left slot w found in
    let lawful : IsLawful geometry (image_of geometry left slot) = subst (IsLawful geometry) (sym image) found.stored.lawful in
    let here : (mounted_when is_below geometry m left slot).slots (current (left.slots slot).footer) ≡ left.slots slot
    = slots_kept is_below left.slots slot (left.slots slot).footer found.parity in
    record {
      now = w;
      stored = record {
        was_written = found.stored.was_written;
        lawful = found.stored.lawful;
        header = found.stored.header;
        body = ap (λ (s : Slot). s.body) here ∙ found.stored.body;
      };
      positive = found.positive;
      footer = ap (λ (s : Slot). s.footer) here;
      same = found.same;
      settled = λ a h. refl;
      safe = λ a h.
          let live = mounted_live geometry (image_of geometry left slot) a lawful
          (subst (λ (i : Image). IsTrue (is_marked geometry i a)) (sym image) (marks_are geometry w a h)) in
          live_is_safe _ _ _ _ _ live;
      pending = mounted_pending geometry m left slot w is_below found below above;
      live = λ segment. mounted_names geometry (image_of geometry left slot) segment lawful;
    }

pub mount_keeps : (geometry : Geometry) (m : Core) (left : Left) (slot : ℕ) → MayLeave m left → IsPick left.slots slot
    → Invariant geometry m → Invariant geometry (mounted geometry m left slot)
mount_keeps geometry m left slot may picked inv =
    let found = picked_found geometry m left slot inv may (is_picked left.slots slot picked) in
    mounted_keeps_when geometry m left slot found.0 (nat_lt (left.slots (other slot)).footer (left.slots slot).footer) found.1
    (ltb-true _ _) (ltb-false _ _)
