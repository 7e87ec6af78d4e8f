-- An event writes only where the image that counts marks nothing, and a pack only in the other slot: so that image
-- keeps its blocks, and the next one does until its footer makes it count.
use Rattle.geometry.specs.declared.owner.Owner.{Owner}
use Rattle.std.proofs.Common.{◌≡◌, ◌≢◌, refl, sym, ◌∙◌, ap, subst, ℕ, zero, suc, ◌+◌, ◌<◌, ◌≤◌, inl, inr, Bool, true, false, List, [], ◌∷◌, get_or, set, arith}
use Rattle.std.specs.Prelude.{Option, Some, None, IsSome, IsTrue, is_some, Contains, ◌==◌, if◌then◌else◌}
use Rattle.std.proofs.lemmas.List.{get_or-set_other}
use Rattle.std.proofs.lemmas.Bool.{ne_eqb, eq-eqb}
use Rattle.std.proofs.lemmas.Bool.Decides.{eqb_tells}
use Rattle.geometry.specs.declared.shape.Shape.{Shape}
use Rattle.geometry.specs.declared.geometry.Geometry.{Geometry}
use Rattle.geometry.specs.Address.{address_of, segment_of, offset_of}
use Rattle.geometry.specs.File.{Block}
use Rattle.image.specs.Slots.{Slot}
use Rattle.geometry.specs.declared.state.State.{State}
use Rattle.geometry.specs.declared.state.State.TheVariants.{Free, Open, Sealed, Prefree}
use Rattle.geometry.specs.Life.{Stage, StepFrom, LifeStep}
use Rattle.geometry.specs.Segment.{Fill, named, filled, vacated, next_after, fill_after}
use Rattle.image.specs.Image.{is_marked}
use Rattle.image.specs.Reading.{image_in}
use Rattle.image.proofs.Frame.{same_image}
use Rattle.image_law.specs.Core.{Segment, Written, Phase, idle, body_written, body_synced, footer_written, footer_synced, mending, Core, current, other, changed, owner_at, Target, next_in, hole_at, segment_at, place_at, target_address, fill_at, completed_image, refilled, HasRoom, HasHole, MayAppend, appended, spoiled, released, MayMove, moved, MayWrite, with_body, with_footer, synced, phase_after_sync, advanced}
use Rattle.geometry.proofs.Addresses.{segment_of-address_of, offset_of-address_of}
use Rattle.image_law.proofs.Invariant.{Marks, marks_are, are_marks, IsSafeAs, IsSafe, IsLiveAs, IsLive, NamesLive, AllLive, IsNext, Pending, Invariant}
use Rattle.geometry.specs.Shape.{segment_blocks}

pub changed_elsewhere : {X : Type 0} (f : ℕ → X) (at : ℕ) (value : X) (k : ℕ) → k ≢ at → changed f at value k ≡ f k
changed_elsewhere f at value k ne = rw (ne_eqb k at ne)

pub changed_there : {X : Type 0} (f : ℕ → X) (at : ℕ) (value : X) (k : ℕ) → k ≡ at → changed f at value k ≡ value
changed_there f at value k e = rw (eq-eqb k at e)

-- a fact of a changed function, by whether the place is the changed one
pub by_place : {X : Type 0} (P : X → Type 0) (f : ℕ → X) (at : ℕ) (value : X) (k : ℕ)
    → (k ≡ at → P value) → (k ≢ at → P (f k)) → P (changed f at value k)
by_place P f at value k there elsewhere =
    elim (eqb_tells k at) [
      | inl (e, is) ↦ subst P (sym (changed_there f at value k is)) (there is)
      | inr (e, isn't) ↦ subst P (sym (changed_elsewhere f at value k isn't)) (elsewhere isn't)
    ]

pub live_is_safe : (state : State) (c stamp next offset : ℕ) → IsLiveAs state next offset → IsSafeAs state c stamp next offset
live_is_safe Open c stamp next offset h = h
live_is_safe Sealed c stamp next offset h = tt
live_is_safe Prefree c stamp next offset h = absurd h
live_is_safe Free c stamp next offset h = absurd h

safe_more : (state : State) (c stamp next next' offset : ℕ) → next ≤ next' → IsSafeAs state c stamp next offset → IsSafeAs state c stamp next' offset
safe_more Open c stamp next next' offset le h = omega arith
safe_more Sealed c stamp next next' offset le h = tt
safe_more Prefree c stamp next next' offset le h = h
safe_more Free c stamp next next' offset le h = h

live_more : (state : State) (next offset : ℕ) → IsLiveAs state next offset → IsLiveAs state (next + 1) offset
live_more Open next offset h = omega arith
live_more Sealed next offset h = tt
live_more Prefree next offset h = h
live_more Free next offset h = h

pub none_owned : (o : Option Owner) → o ≡ None → IsSome o → ⊥
none_owned o e h = let f = ap is_some e in cc

not_zero : (zero : Bool) (o : Option Owner) → IsSome (if zero then None else o) → IsSome o
not_zero true o h = absurd (none_owned None refl h)
not_zero false o h = h

-- a place whose block has an owner is named in its segment
named_there : (shape : Shape) (segments : ℕ → Segment) (a : ℕ) → IsSome (owner_at shape segments a)
    → IsSome (get_or (segments (segment_of shape a)).fill.owners (offset_of shape a) None)
named_there shape segments a h = not_zero (a == 0) _ h

-- an event of an idle machine that leaves alone the blocks that the completed image marks, and keeps safe places safe
quiet_keeps : (geometry : Geometry) (m : Core) (blocks : ℕ → Block) (loose : ℕ → Bool) (segments : ℕ → Segment)
    → m.phase ≡ idle → (inv : Invariant geometry m)
    → ((a : ℕ) → Marks geometry inv.now a → blocks a ≡ m.blocks a)
    → ((a : ℕ) → Marks geometry inv.now a → loose a ≡ m.loose a)
    → ((a : ℕ) → IsSafe geometry.shape m.version m.segments a → IsSafe geometry.shape m.version segments a)
    → AllLive segments
    → Invariant geometry (record m { blocks = blocks; loose = loose; segments = segments })
quiet_keeps geometry m blocks loose segments phase inv same_blocks same_loose safe live = record {
  now = inv.now;
  stored = inv.stored;
  positive = inv.positive;
  footer = inv.footer;
  same = λ a h. same_blocks a h ∙ inv.same a h;
  settled = λ a h. same_loose a h ∙ inv.settled a h;
  safe = λ a h. safe a (inv.safe a h);
  pending = subst (Pending geometry (record m { blocks = blocks; loose = loose; segments = segments })) (sym phase)
      (subst (Pending geometry m) phase inv.pending);
  live = live;
}

safe_at : (shape : Shape) (c : ℕ) (segments : ℕ → Segment) (segment offset : ℕ) → offset < segment_blocks shape
    → IsSafe shape c segments (address_of shape segment offset)
    → IsSafeAs (segments segment).stage.state c (segments segment).stage.stamp (segments segment).fill.next offset
safe_at shape c segments segment offset h safe =
    let in_segment = subst (λ (s : ℕ). IsSafeAs (segments s).stage.state c (segments s).stage.stamp (segments s).fill.next (offset_of shape (address_of shape segment offset)))
    (segment_of-address_of shape segment offset h) safe in
    subst (λ (o : ℕ). IsSafeAs (segments segment).stage.state c (segments segment).stage.stamp (segments segment).fill.next o)
    (offset_of-address_of shape segment offset h) in_segment

pub live_at : (shape : Shape) (segments : ℕ → Segment) (segment offset : ℕ) → offset < segment_blocks shape → IsLive shape segments (address_of shape segment offset)
    → IsLiveAs (segments segment).stage.state (segments segment).fill.next offset
live_at shape segments segment offset h live =
    let in_segment = subst (λ (s : ℕ). IsLiveAs (segments s).stage.state (segments s).fill.next (offset_of shape (address_of shape segment offset)))
    (segment_of-address_of shape segment offset h) live in
    subst (λ (o : ℕ). IsLiveAs (segments segment).stage.state (segments segment).fill.next o) (offset_of-address_of shape segment offset h) in_segment

-- a safe place is not the next one of a segment
past_safe : (geometry : Geometry) (m : Core) (segment a : ℕ) → HasRoom geometry m segment
    → IsSafe geometry.shape m.version m.segments a → a ≢ target_address geometry.shape m (next_in segment)
past_safe geometry m segment a room safe e =
    let there = safe_at geometry.shape m.version m.segments segment (m.segments segment).fill.next room.room
    (subst (IsSafe geometry.shape m.version m.segments) e safe) in
    let again : (m.segments segment).fill.next < (m.segments segment).fill.next =
    subst (λ (st : State). IsSafeAs st m.version (m.segments segment).stage.stamp (m.segments segment).fill.next (m.segments segment).fill.next) room.state there in
    omega arith

-- what the completed image marks is what the machine reads in the slot that counts
marked_now : (geometry : Geometry) (m : Core) (inv : Invariant geometry m) (a : ℕ) → Marks geometry inv.now a → IsTrue (is_marked geometry (completed_image geometry m) a)
marked_now geometry m inv a h =
    let image = ap (λ body. image_in geometry body m.blocks) inv.stored.body
    ∙ same_image geometry inv.now.body m.blocks inv.now.blocks inv.stored.lawful (λ b marked. inv.same b (are_marks geometry inv.now b marked)) in
    subst (λ i. IsTrue (is_marked geometry i a)) (sym image) (marks_are geometry inv.now a h)

not_both : (b : Bool) → b ≡ false → IsTrue b → ⊥
not_both true e h = absurd cc
not_both false e h = absurd cc

-- a block that the completed image marks is not the one that is appended
away : (geometry : Geometry) (m : Core) (target : Target) (a : ℕ) → MayAppend geometry m target → (inv : Invariant geometry m)
    → Marks geometry inv.now a → a ≢ target_address geometry.shape m target
away geometry m (next_in segment) a may inv h e = past_safe geometry m segment a may (inv.safe a h) e
away geometry m (hole_at segment offset) a may inv h e =
    not_both (is_marked geometry (completed_image geometry m) (address_of geometry.shape segment offset)) may.hole.1
    (subst (λ k. IsTrue (is_marked geometry (completed_image geometry m) k)) e (marked_now geometry m inv a h))

pub idle_at : (geometry : Geometry) (m : Core) (target : Target) → MayAppend geometry m target → m.phase ≡ idle
idle_at geometry m (next_in segment) may = may.phase
idle_at geometry m (hole_at segment offset) may = may.phase

pub spoil_keeps : (geometry : Geometry) (m : Core) (target : Target) (block : Block) → MayAppend geometry m target
    → Invariant geometry m → Invariant geometry (spoiled geometry.shape m target block)
spoil_keeps geometry m target block may inv =
    quiet_keeps geometry m _ _ m.segments (idle_at geometry m target may) inv
    (λ a h. changed_elsewhere m.blocks (target_address geometry.shape m target) block a (away geometry m target a may inv h))
    (λ a h. changed_elsewhere m.loose (target_address geometry.shape m target) true a (away geometry m target a may inv h))
    (λ a safe. safe) inv.live

-- where the next place of a segment is no earlier, safe places are safe
pub safe_refilled : (shape : Shape) (c : ℕ) (segments : ℕ → Segment) (segment : ℕ) (fill : Fill) (a : ℕ) → (segments segment).fill.next ≤ fill.next
    → IsSafe shape c segments a → IsSafe shape c (refilled segments segment fill) a
safe_refilled shape c segments segment fill a later safe =
    by_place (λ (s : Segment). IsSafeAs s.stage.state c s.stage.stamp s.fill.next (offset_of shape a)) segments segment
    (record { stage = (segments segment).stage; fill = fill }) (segment_of shape a)
    (λ e. safe_more (segments segment).stage.state c (segments segment).stage.stamp (segments segment).fill.next fill.next (offset_of shape a) later
    (subst (λ (s : ℕ). IsSafeAs (segments s).stage.state c (segments s).stage.stamp (segments s).fill.next (offset_of shape a)) e safe))
    (λ isn't. safe)

-- one segment is filled so that it names live places only
pub live_refilled : (segments : ℕ → Segment) (segment : ℕ) (fill : Fill) → AllLive segments → NamesLive (record { stage = (segments segment).stage; fill = fill })
    → AllLive (refilled segments segment fill)
live_refilled segments segment fill live there k =
    by_place NamesLive segments segment (record { stage = (segments segment).stage; fill = fill }) k (λ is. there) (λ isn't. live k)

filled_live : (s : Segment) (owner : Owner) → s.stage.state ≡ Open → NamesLive s → NamesLive (record { stage = s.stage; fill = filled owner s.fill })
filled_live s owner opn live offset has =
    elim (eqb_tells offset s.fill.next) [
      | inl (e, is) ↦ subst (λ (st : State). IsLiveAs st (s.fill.next + 1) offset) (sym opn) (omega arith)
      | inr (e, isn't) ↦ live_more s.stage.state s.fill.next offset
          (live offset (subst (λ (o : Option Owner). IsSome o) (get_or-set_other s.fill.owners s.fill.next offset (Some owner) None isn't) has))
    ]

-- where a segment's next place is after an append
next_no_earlier : (m : Core) (target : Target) (owner : Owner) → (m.segments (segment_at target)).fill.next ≤ (fill_at m target owner).next
next_no_earlier m (next_in segment) owner = omega arith
next_no_earlier m (hole_at segment offset) owner = omega arith

appended_live : (geometry : Geometry) (m : Core) (target : Target) (owner : Owner) → MayAppend geometry m target → AllLive m.segments
    → NamesLive (record { stage = (m.segments (segment_at target)).stage; fill = fill_at m target owner })
appended_live geometry m (next_in segment) owner may live offset has = filled_live (m.segments segment) owner may.state (live segment) offset has
appended_live geometry m (hole_at segment at) owner may live offset has =
    subst (λ (st : State). IsLiveAs st (m.segments segment).fill.next offset) (sym may.state) tt

pub append_keeps : (geometry : Geometry) (m : Core) (target : Target) (owner : Owner) (block : Block) → MayAppend geometry m target
    → Invariant geometry m → Invariant geometry (appended geometry.shape m target owner block)
append_keeps geometry m target owner block may inv =
    quiet_keeps geometry m _ _ _ (idle_at geometry m target may) inv
    (λ a h. changed_elsewhere m.blocks (target_address geometry.shape m target) block a (away geometry m target a may inv h))
    (λ a h. changed_elsewhere m.loose (target_address geometry.shape m target) true a (away geometry m target a may inv h))
    (λ a safe. safe_refilled geometry.shape m.version m.segments (segment_at target) (fill_at m target owner) a (next_no_earlier m target owner) safe)
    (live_refilled m.segments (segment_at target) (fill_at m target owner) inv.live (appended_live geometry m target owner may inv.live))

-- what is named once a place was vacated was named before
named_before : (owners : List (Option Owner)) (o i : ℕ) → IsSome (get_or (set owners o None) i None) → IsSome (get_or owners i None)
named_before [] o i h = h
named_before (x ∷ xs) zero zero h = absurd (none_owned None refl h)
named_before (x ∷ xs) zero (suc i) h = h
named_before (x ∷ xs) (suc o) zero h = h
named_before (x ∷ xs) (suc o) (suc i) h = named_before xs o i h

pub release_keeps : (geometry : Geometry) (m : Core) (address : ℕ) → m.phase ≡ idle
    → Invariant geometry m → Invariant geometry (released geometry.shape m address)
release_keeps geometry m address phase inv =
    let segment = segment_of geometry.shape address in
    let fill = vacated (offset_of geometry.shape address) (m.segments segment).fill in
    quiet_keeps geometry m m.blocks m.loose _ phase inv (λ a h. refl) (λ a h. refl)
    (λ a safe. safe_refilled geometry.shape m.version m.segments segment fill a (omega arith) safe)
    (live_refilled m.segments segment fill inv.live
    (λ offset has. inv.live segment offset (named_before (m.segments segment).fill.owners (offset_of geometry.shape address) offset has)))

move_safe : (c : ℕ) (old new : Stage) (next offset : ℕ) → LifeStep c old new
    → IsSafeAs old.state c old.stamp next offset → IsSafeAs new.state c new.stamp (next_after new.state next) offset
move_safe c old new next offset step safe = go old.state step safe
  where
    go : (state : State) → StepFrom state c old new → IsSafeAs state c old.stamp next offset → IsSafeAs new.state c new.stamp (next_after new.state next) offset
    go Free is h = absurd h
    go Open is h = subst (λ (s : Stage). IsSafeAs s.state c s.stamp (next_after s.state next) offset) (sym is) tt
    go Sealed is h = subst (λ (s : Stage). IsSafeAs s.state c s.stamp (next_after s.state next) offset) (sym is) (omega arith)
    go Prefree later h = let earlier = later.0 in absurd (omega arith)

move_live : (c : ℕ) (old new : Stage) (next offset : ℕ) → LifeStep c old new
    → IsLiveAs old.state next offset → new.state ≢ Prefree → IsLiveAs new.state (next_after new.state next) offset
move_live c old new next offset step live isn't = go old.state step live
  where
    go : (state : State) → StepFrom state c old new → IsLiveAs state next offset → IsLiveAs new.state (next_after new.state next) offset
    go Free is h = absurd h
    go Open is h = subst (λ (s : Stage). IsLiveAs s.state (next_after s.state next) offset) (sym is) tt
    go Sealed is h = absurd (isn't (ap (λ (s : Stage). s.state) is))
    go Prefree later h = absurd h

pub move_keeps : (geometry : Geometry) (m : Core) (segment : ℕ) (stage : Stage) → MayMove geometry m segment stage
    → Invariant geometry m → Invariant geometry (moved m segment stage)
move_keeps geometry m segment stage may inv =
    let old = m.segments segment in
    let new : Segment = record { stage = stage; fill = fill_after stage.state old.fill } in
    quiet_keeps geometry m m.blocks m.loose _ may.phase inv (λ a h. refl) (λ a h. refl)
    (λ a safe. by_place (λ (s : Segment). IsSafeAs s.stage.state m.version s.stage.stamp s.fill.next (offset_of geometry.shape a)) m.segments segment new (segment_of geometry.shape a)
    (λ e. move_safe m.version old.stage stage old.fill.next (offset_of geometry.shape a) may.pair
    (subst (λ (s : ℕ). IsSafeAs (m.segments s).stage.state m.version (m.segments s).stage.stamp (m.segments s).fill.next (offset_of geometry.shape a)) e safe))
    (λ isn't. safe))
    (λ k. by_place NamesLive m.segments segment new k
    (λ is offset has. move_live m.version old.stage stage old.fill.next offset may.pair (inv.live segment offset has)
    (λ becomes. none_owned _ (may.empty becomes offset) has))
    (λ isn't. inv.live k))

pub current_not_other : (version : ℕ) → current version ≢ other (current version)
current_not_other version e = omega arith

pub other_of_next : (version : ℕ) → current (version + 1) ≡ other (current version)
other_of_next version = omega arith

pub other_back : (version : ℕ) → other (current (version + 1)) ≡ current version
other_back version = omega arith

one_more : (written : List Written) (new w : Written) → Contains written w → Contains (new ∷ written) w
one_more written new w (k, below, is) = (suc k, omega arith, is)

-- the other slot is written, and the slot that counts is as it was
module _ (geometry : Geometry) (m : Core) (slot : Slot) (phase : Phase) (written : List Written) where
  abbrev other_written : Core
  other_written = record m { slots = changed m.slots (other (current m.version)) slot; phase = phase; written = written }

  other_there : other_written.slots (other (current m.version)) ≡ slot
  other_there = changed_there m.slots (other (current m.version)) slot (other (current m.version)) refl

  other_keeps : ((w : Written) → Contains m.written w → Contains written w) → Invariant geometry m → Pending geometry other_written phase → Invariant geometry other_written
  other_keeps more inv pending =
      let elsewhere = changed_elsewhere m.slots (other (current m.version)) slot (current m.version) (current_not_other m.version) in
      record {
        now = inv.now;
        stored = record {
          was_written = more inv.now inv.stored.was_written;
          lawful = inv.stored.lawful;
          header = inv.stored.header;
          body = ap (λ (s : Slot). s.body) elsewhere ∙ inv.stored.body;
        };
        positive = inv.positive;
        footer = ap (λ (s : Slot). s.footer) elsewhere ∙ inv.footer;
        same = inv.same;
        settled = inv.settled;
        safe = inv.safe;
        pending = pending;
        live = inv.live;
      }

pub write_keeps : (geometry : Geometry) (m : Core) (body : List ℕ) → MayWrite geometry m body
    → Invariant geometry m → Invariant geometry (with_body m body)
write_keeps geometry m body may inv =
    let slot : Slot = record { body = body; footer = (m.slots (other (current m.version))).footer } in
    let new : Written = record { body = body; blocks = m.blocks } in
    let there = other_there geometry m slot body_written (new ∷ m.written) in
    let below : (m.slots (other (current m.version))).footer < m.version = subst (Pending geometry m) may.phase inv.pending in
    other_keeps geometry m slot body_written (new ∷ m.written) (λ w. one_more m.written new w) inv (
      let e : ((with_body m body).slots (other (current m.version))).footer ≡ (m.slots (other (current m.version))).footer = ap (λ (s : Slot). s.footer) there in omega arith,
      (
        new,
        record {
          stored = record { was_written = (0, omega arith, refl); lawful = may.lawful; header = may.version; body = ap (λ (s : Slot). s.body) there };
          same = λ a h. refl;
        },
        λ a h. may.marks a (marks_are geometry _ a h),
      ),
    )

next_synced : (geometry : Geometry) (m : Core) (w : Written) → IsNext geometry m w → IsNext geometry (synced m) w
next_synced geometry m w next = record { stored = next.stored; same = next.same }

pending_synced : (geometry : Geometry) (m : Core) (phase : Phase) → Pending geometry m phase → Pending geometry (synced m) (phase_after_sync phase)
pending_synced geometry m idle p = p
pending_synced geometry m body_written p = (p.0, (p.1.0, next_synced geometry m p.1.0 p.1.1, p.1.2, λ a h. refl))
pending_synced geometry m body_synced p = (p.0, (p.1.0, next_synced geometry m p.1.0 p.1.1, p.1.2, λ a h. refl))
pending_synced geometry m footer_written p = (p.0, (p.1.0, next_synced geometry m p.1.0 p.1.1, p.1.2, λ a h. refl))
pending_synced geometry m footer_synced p = (p.0, (p.1.0, next_synced geometry m p.1.0 p.1.1, p.1.2, λ a h. refl))
pending_synced geometry m mending p = p.0

pub sync_keeps : (geometry : Geometry) (m : Core) → Invariant geometry m → Invariant geometry (synced m)
sync_keeps geometry m inv = record {
  now = inv.now;
  stored = inv.stored;
  positive = inv.positive;
  footer = inv.footer;
  same = inv.same;
  settled = λ a h. refl;
  safe = inv.safe;
  pending = pending_synced geometry m m.phase inv.pending;
  live = inv.live;
}

pub footer_keeps : (geometry : Geometry) (m : Core) → m.phase ≡ body_synced → Invariant geometry m → Invariant geometry (with_footer m)
footer_keeps geometry m phase inv =
    let slot : Slot = record { body = (m.slots (other (current m.version))).body; footer = m.version + 1 } in
    let there = other_there geometry m slot footer_written m.written in
    let p : Pending geometry m body_synced = subst (Pending geometry m) phase inv.pending in
    other_keeps geometry m slot footer_written m.written (λ w had. had) inv (
      ap (λ (s : Slot). s.footer) there,
      (
        p.1.0,
        record {
          stored = record {
            was_written = p.1.1.stored.was_written;
            lawful = p.1.1.stored.lawful;
            header = p.1.1.stored.header;
            body = ap (λ (s : Slot). s.body) there ∙ p.1.1.stored.body;
          };
          same = p.1.1.same;
        },
        p.1.2,
        p.1.3,
      ),
    )

pub advance_keeps : (geometry : Geometry) (m : Core) → m.phase ≡ footer_synced → Invariant geometry m → Invariant geometry (advanced m)
advance_keeps geometry m phase inv =
    let p : Pending geometry m footer_synced = subst (Pending geometry m) phase inv.pending in
    let slot = ap m.slots (other_of_next m.version) in
    record {
      now = p.1.0;
      stored = record {
        was_written = p.1.1.stored.was_written;
        lawful = p.1.1.stored.lawful;
        header = p.1.1.stored.header;
        body = ap (λ (s : Slot). s.body) slot ∙ p.1.1.stored.body;
      };
      positive = omega arith;
      footer = ap (λ (s : Slot). s.footer) slot ∙ p.0;
      same = p.1.1.same;
      settled = p.1.3;
      safe = λ a h. live_is_safe (m.segments (segment_of geometry.shape a)).stage.state (m.version + 1) (m.segments (segment_of geometry.shape a)).stage.stamp
          (m.segments (segment_of geometry.shape a)).fill.next (offset_of geometry.shape a)
          (inv.live (segment_of geometry.shape a) (offset_of geometry.shape a) (named_there geometry.shape m.segments a (p.1.2 a h)));
      pending = (let e : (m.slots (other (current (m.version + 1)))).footer ≡ m.version
          = ap (λ k. (m.slots k).footer) (other_back m.version) ∙ inv.footer in omega arith);
      live = inv.live;
    }
