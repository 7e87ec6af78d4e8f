-- A block is at home where nobody names it, an open segment has none from the next place on, and each hole is clear: a
-- step changes one place or the state, and keeps all three.
use Rattle.std.proofs.Common.{◌≡◌, ℕ, zero, suc, ◌+◌, ◌-◌, ◌<◌, ◌≤◌, List, IsSome, Option, Some, None, Bool, true, false, map, length, get_or, set, replicate, refl, sym, ap, ◌∙◌, subst, inl, inr, ⊎_elim, arith}
use Rattle.std.proofs.lemmas.List.{map-set, length-set, length-map, length-replicate, get_or-map, get_or_past, get_or-set_same, get_or-set_other}
use Rattle.std.proofs.lemmas.Bool.{cases_lt}
use mathlib.Core.Logic.{dite}
use native.Mathlib.Decide.{ℕ_discrete}
use Rattle.geometry.specs.declared.shape.Shape.{Shape}
use Rattle.geometry.specs.declared.owner.Owner.{Owner}
use Rattle.geometry.specs.declared.state.State.{State}
use Rattle.geometry.specs.declared.state.State.TheVariants.{Free, Open, Sealed, Prefree}
use Rattle.geometry.specs.Shape.{segment_blocks, block_bytes}
use Rattle.geometry.specs.Address.{address_of, segment_of, offset_of}
use Rattle.geometry.proofs.Addresses.{address_of-parts, segment_blocks-positive}
use Rattle.sit.specs.Home.{Home}
use Rattle.sit.specs.Summaries.{is_set, is_clear, count_of}
use Rattle.sit.specs.declared.segment.Released.{Released}
use Rattle.sit.specs.declared.segment.Released.TheVariants.{Kept, Retired}
use Rattle.sit.specs.Released.{IsFate, HasReleased, thread_left}
use Rattle.sit.specs.Bits.{neither_of}
use Rattle.sit.specs.Thread.{Thread, begun, filled_at, ended, keeping, is_threadable, HasBegun, AreHoles}
use Rattle.sit.specs.Segment.{Segment, SegmentLaw, IsFitting, IsStateAt, fresh}
use Rattle.sit.proofs.Lists.{none_valid, clear_past, set_past, count-set, count-clear, count_none, map_replicate}
use Rattle.sit.proofs.Homes.{home_of, home_set}
use Rattle.sit.proofs.BitLemmas.{length-neither_of, neither-is}

-- the place that a call reads off an address
pub offset_is : (shape : Shape) (number address first : ℕ) → 0 < address → segment_of shape address ≡ number → first ≡ address_of shape number 0
    → (first ≤ address) × (address - first ≡ offset_of shape address)
offset_is shape number address first some home is =
    let parts = address_of-parts shape address some in
    let here = ap (λ n. address_of shape n (offset_of shape address)) home in
    (omega arith, omega arith)

pub some-set : (o : Option Owner) → IsSome o → is_set o ≡ true
some-set (Some w) e = refl
some-set None e = absurd (let no = e in cc)

-- a place that is true is one of the list
pub true_within : (bits : List Bool) (o : ℕ) → get_or bits o false ≡ true → o < length bits
true_within bits o set = ⊎_elim (λ lt. lt) (λ ge. absurd (let no = sym (get_or_past bits o false ge) ∙ set in cc)) (cases_lt o (length bits))

pub not-set : (o : Option Owner) → is_set o ≡ false → o ≡ None
not-set (Some w) e = absurd (let no = e in cc)
not-set None e = refl

-- a thread that has ended has no holes
none_ended : (n o : ℕ) → get_or (replicate n false) o false ≡ true → ⊥
none_ended zero o e = let no = e in cc
none_ended (suc n) zero e = let no = e in cc
none_ended (suc n) (suc o) e = none_ended n o e

module _ (s : Segment) (home : Home) (law : SegmentLaw s home) where
  abbrev ss : List (Option Owner)
  ss = s.summaries

  pub is_open : s.state ≡ Open → IsFitting Open s.next ss
  is_open e = subst (λ x. IsFitting x s.next ss) e law.fitting

  long : length home.present ≡ length ss
  long = ap (λ h. length h.present) law.home_is ∙ length-map ss is_clear

  pub within_home : (o : ℕ) → o < segment_blocks s.shape → o < length home.present
  within_home o within = let l = long in let e = law.sized in omega arith

  pub is_present : (o : ℕ) → o < segment_blocks s.shape → get_or ss o None ≡ None → get_or home.present o false ≡ true
  is_present o within clear =
      let e = law.sized in
      ap (λ h. get_or h.present o false) law.home_is ∙ get_or-map is_clear ss o None false (omega arith) ∙ ap is_clear clear

  -- a segment that is not sealed has no holes
  no_holes : (state : State) (ss' : List (Option Owner)) → (s.state ≡ Sealed → ⊥) → AreHoles state ss' s.thread
  no_holes state ss' isn't o hole = absurd (isn't (law.holes_are o hole).0)

  -- once its thread is another one
  pub rethreaded-law : (thread : Thread) → length thread.kept ≡ segment_blocks s.shape → length thread.holes ≡ segment_blocks s.shape → AreHoles s.state ss thread
      → SegmentLaw (record s { thread = thread }) home
  rethreaded-law thread kept holes are = record {
    sized = law.sized;
    home_is = law.home_is;
    fitting = law.fitting;
    kept_sized = kept;
    holes_sized = holes;
    holes_are = are;
  }

  -- a log has begun to fill its holes
  pub begun-law : (has : Bool) (log : ℕ) (thread : Thread) → is_threadable s.state s.thread ≡ true → HasBegun has log ss s.thread thread → SegmentLaw (record s { thread = thread }) home
  begun-law false log thread may is = subst (λ t. SegmentLaw (record s { thread = t }) home) (sym is.0) law
  begun-law true log thread may is = subst (λ t. SegmentLaw (record s { thread = t }) home) (sym is.0)
      (rethreaded-law (begun log ss s.thread) law.kept_sized (length-neither_of (map is_set ss) s.thread.kept ∙ length-map ss is_set ∙ law.sized)
      (λ o hole.
      let clear = neither-is (map is_set ss) s.thread.kept o hole in
      let l = length-map ss is_set in
      let m = length-neither_of (map is_set ss) s.thread.kept in
      let within = true_within (neither_of (map is_set ss) s.thread.kept) o hole in
      (sealed s.state may, not-set (get_or ss o None) (sym (get_or-map is_set ss o None false (omega arith)) ∙ clear.0), clear.1)))
    where
      sealed : (state : State) → is_threadable state s.thread ≡ true → state ≡ Sealed
      sealed Free e = absurd (let no = e in cc)
      sealed Open e = absurd (let no = e in cc)
      sealed Sealed e = refl
      sealed Prefree e = absurd (let no = e in cc)

  -- no log fills its holes any more
  pub unthreaded-law : (thread : Thread) → thread ≡ ended s.thread → SegmentLaw (record s { thread = thread }) home
  unthreaded-law thread is = subst (λ t. SegmentLaw (record s { thread = t }) home) (sym is)
      (rethreaded-law (ended s.thread) law.kept_sized (length-replicate {A = Bool} (length s.thread.holes) false ∙ law.holes_sized)
      (λ o hole. absurd (none_ended (length s.thread.holes) o hole)))

  -- a checkpoint is complete
  pub kept-law : (thread : Thread) → thread ≡ keeping ss s.thread → SegmentLaw (record s { thread = thread }) home
  kept-law thread is = subst (λ t. SegmentLaw (record s { thread = t }) home) (sym is)
      (rethreaded-law (keeping ss s.thread) (length-map ss is_set ∙ law.sized) law.holes_sized
      (λ o hole.
      let was = law.holes_are o hole in
      let l = true_within s.thread.holes o hole in
      let e = law.holes_sized in
      let f = law.sized in
      (was.0, was.1, get_or-map is_set ss o None false (omega arith) ∙ ap is_set was.1)))

  -- where a hole is
  pub hole_within : (o : ℕ) → get_or s.thread.holes o false ≡ true → o < segment_blocks s.shape
  hole_within o hole = let l = true_within s.thread.holes o hole in let e = law.holes_sized in omega arith

  -- the block in a hole was placed
  pub filled-law : (offset mtime failed : ℕ) (bytes : List ℕ) (ss' : List (Option Owner)) (home' : Home) (thread' : Thread) (owner : Owner) → get_or s.thread.holes offset false ≡ true
      → ss' ≡ set ss offset (Some owner) → home' ≡ home_set home offset false bytes failed → thread' ≡ filled_at offset s.thread
      → SegmentLaw (record s { summaries = ss'; mtime = mtime; contents = home'.contents; failed = failed; thread = thread' }) home'
  filled-law offset mtime failed bytes ss' home' thread' owner hole is is_home is_thread =
      let was = law.holes_are offset hole in
      let within = hole_within offset hole in record {
        sized = ap length is ∙ length-set ss offset (Some owner) ∙ law.sized;
        home_is = is_home ∙ (ap (λ h. home_set h offset false bytes failed) law.home_is
            ∙ (λ k. home_of (address_of s.shape s.number 0) (block_bytes s.shape) (sym (ap (map is_clear) is ∙ map-set is_clear ss offset (Some owner)) k) (bytes_are k) failed));
        fitting = subst (λ x. IsFitting x s.next ss') (sym was.0)
            (let e = law.sized in
            let counted = count-set ss offset owner (omega arith) was.1 in
            let same = ap count_of is in omega arith);
        kept_sized = ap (λ t. length t.kept) is_thread ∙ law.kept_sized;
        holes_sized = ap (λ t. length t.holes) is_thread ∙ (length-set s.thread.holes offset false ∙ law.holes_sized);
        holes_are = λ o still. left o (sym (ap (λ t. get_or t.holes o false) is_thread) ∙ still);
      }
    where
      bytes_are : set s.contents offset bytes ≡ home'.contents
      bytes_are = sym (ap (λ h. h.contents) is_home ∙ ap (λ h. set h.contents offset bytes) law.home_is)

      left : (o : ℕ) → get_or (set s.thread.holes offset false) o false ≡ true → (s.state ≡ Sealed) × (get_or ss' o None ≡ None) × (get_or thread'.kept o false ≡ false)
      left o still = dite (ℕ_discrete o offset)
          (λ same. absurd (let none = get_or-set_same s.thread.holes offset false false (true_within s.thread.holes offset hole) in
          let here = sym (ap (λ k. get_or (set s.thread.holes offset false) k false) same) ∙ still in
          let not = sym none ∙ here in cc))
          (λ other.
          let was = law.holes_are o (sym (get_or-set_other s.thread.holes offset o false false other) ∙ still) in (
            was.0,
            ap (λ xs. get_or xs o None) is ∙ (get_or-set_other ss offset o (Some owner) None other ∙ was.1),
            ap (λ t. get_or t.kept o false) is_thread ∙ was.2,
          ))

  pub placed-law : (offset mtime failed : ℕ) (bytes : List ℕ) (state : State) (ss' : List (Option Owner)) (home' : Home) (owner : Owner) → s.state ≡ Open → offset ≡ s.next
      → ss' ≡ set ss offset (Some owner) → home' ≡ home_set home offset false bytes failed → IsStateAt (s.next + 1) (segment_blocks s.shape) state
      → SegmentLaw (record s { state = state; summaries = ss'; mtime = mtime; next = s.next + 1; contents = home'.contents; failed = failed }) home'
  placed-law offset mtime failed bytes state ss' home' owner opn place is is_home at_state =
      let fits = is_open opn in
      let at : ss' ≡ set ss s.next (Some owner) = is ∙ ap (λ o. set ss o (Some owner)) place in record {
        sized = ap length is ∙ length-set ss offset (Some owner) ∙ law.sized;
        home_is = is_home ∙ (ap (λ h. home_set h offset false bytes failed) law.home_is
            ∙ (λ k. home_of (address_of s.shape s.number 0) (block_bytes s.shape) (sym (ap (map is_clear) is ∙ map-set is_clear ss offset (Some owner)) k) (bytes_are k) failed));
        fitting = fitting at at_state;
        kept_sized = law.kept_sized;
        holes_sized = law.holes_sized;
        holes_are = no_holes state ss' (λ sealed. let no = sym opn ∙ sealed in cc);
      }
    where
      bytes_are : set s.contents offset bytes ≡ home'.contents
      bytes_are = sym (ap (λ h. h.contents) is_home ∙ ap (λ h. set h.contents offset bytes) law.home_is)

      fitting : ss' ≡ set ss s.next (Some owner) → IsStateAt (s.next + 1) (segment_blocks s.shape) state → IsFitting state (s.next + 1) ss'
      fitting at (inl more) = subst (λ x. IsFitting x (s.next + 1) ss') (sym more.1) (
        let l = length-set ss offset (Some owner) in let m = ap length is in let e = law.sized in let r = more.0 in omega arith,
        λ p le. ap (λ xs. get_or xs p None) at ∙ set_past ss s.next owner (is_open opn).1 p le,
      )
      fitting at (inr full) = subst (λ x. IsFitting x (s.next + 1) ss') (sym full.1) (
          let counted = count-set ss s.next owner (is_open opn).0 ((is_open opn).1 s.next (omega arith)) in
          let same = ap count_of at in omega arith)

  cleared_home : (o failed : ℕ) (bytes : List ℕ) (home' : Home) → home' ≡ home_set home o true bytes failed
      → home' ≡ home_of (address_of s.shape s.number 0) (block_bytes s.shape) (map is_clear (set ss o None)) home'.contents failed
  cleared_home o failed bytes home' is_home =
      let bytes_are : set s.contents o bytes ≡ home'.contents = sym (ap (λ h. h.contents) is_home ∙ ap (λ h. set h.contents o bytes) law.home_is) in
      is_home ∙ (ap (λ h. home_set h o true bytes failed) law.home_is
      ∙ (λ k. home_of (address_of s.shape s.number 0) (block_bytes s.shape) (sym (map-set is_clear ss o None) k) (bytes_are k) failed))

  -- where the state is not sealed, or a valid block is left
  still_fits : (o : ℕ) → o < length ss → is_set (get_or ss o None) ≡ true → (s.state ≡ Sealed → 0 < count_of (set ss o None)) → IsFitting s.state s.next (set ss o None)
  still_fits o within valid left = go s.state law.fitting left
    where
      go : (x : State) → IsFitting x s.next ss → (x ≡ Sealed → 0 < count_of (set ss o None)) → IsFitting x s.next (set ss o None)
      go Free fits more = let e = count-clear ss o within valid in absurd (omega arith)
      go Open fits more = (let l = length-set ss o None in let f = fits.0 in omega arith, clear_past ss o s.next within fits.1)
      go Sealed fits more = more refl
      go Prefree fits more = let e = count-clear ss o within valid in absurd (omega arith)

  -- what is left of a segment of which a block was cleared
  fate_fits : (o : ℕ) (ss' : List (Option Owner)) (state : State) (released : Released) → o < length ss → is_set (get_or ss o None) ≡ true → ss' ≡ set ss o None
      → IsFate s.state (count_of ss') state released → IsFitting state s.next ss'
  fate_fits o ss' state Kept within valid is fate =
      subst (λ xs. IsFitting state s.next xs) (sym is) (subst (λ x. IsFitting x s.next (set ss o None)) (sym fate.0)
      (still_fits o within valid (λ sealed. let more = fate.1 sealed in let same = ap count_of is in omega arith)))
  fate_fits o ss' state Retired within valid is fate = subst (λ x. IsFitting x s.next ss') (sym fate.0) fate.2

  -- the holes that are left
  holes_left : (o : ℕ) (ss' : List (Option Owner)) (thread' : Thread) (state : State) (released : Released) (valid : ℕ) → ((p : ℕ) → get_or ss p None ≡ None → get_or ss' p None ≡ None)
      → IsFate s.state valid state released → thread' ≡ thread_left released s.thread → AreHoles state ss' thread'
  holes_left o ss' thread' state Kept valid clear fate is p hole =
      let was = law.holes_are p (sym (ap (λ t. get_or t.holes p false) is) ∙ hole) in
      (fate.0 ∙ was.0, clear p was.1, ap (λ t. get_or t.kept p false) is ∙ was.2)
  holes_left o ss' thread' state Retired valid clear fate is p hole =
      absurd (none_ended (length s.thread.holes) p (sym (ap (λ t. get_or t.holes p false) is) ∙ hole))

  kept_left : (thread' : Thread) (released : Released) → thread' ≡ thread_left released s.thread → length thread'.kept ≡ segment_blocks s.shape
  kept_left thread' Kept is = ap (λ t. length t.kept) is ∙ law.kept_sized
  kept_left thread' Retired is = ap (λ t. length t.kept) is ∙ law.kept_sized

  holes_left_sized : (thread' : Thread) (released : Released) → thread' ≡ thread_left released s.thread → length thread'.holes ≡ segment_blocks s.shape
  holes_left_sized thread' Kept is = ap (λ t. length t.holes) is ∙ law.holes_sized
  holes_left_sized thread' Retired is = ap (λ t. length t.holes) is ∙ (length-replicate {A = Bool} (length s.thread.holes) false ∙ law.holes_sized)

  pub cleared-law : (o failed : ℕ) (bytes : List ℕ) (ss' : List (Option Owner)) (home' : Home) (thread' : Thread) (state : State) (released : Released) → o < segment_blocks s.shape → is_set (get_or ss o None) ≡ true
      → ss' ≡ set ss o None → home' ≡ home_set home o true bytes failed → IsFate s.state (count_of ss') state released → thread' ≡ thread_left released s.thread
      → SegmentLaw (record s { state = state; summaries = ss'; contents = home'.contents; failed = failed; thread = thread' }) home'
  cleared-law o failed bytes ss' home' thread' state released within valid is is_home fate is_thread = record {
    sized = ap length is ∙ length-set ss o None ∙ law.sized;
    home_is = cleared_home o failed bytes home' is_home ∙ ap (λ xs. home_of (address_of s.shape s.number 0) (block_bytes s.shape) (map is_clear xs) home'.contents failed) (sym is);
    fitting = fate_fits o ss' state released (let e = law.sized in omega arith) valid is fate;
    kept_sized = kept_left thread' released is_thread;
    holes_sized = holes_left_sized thread' released is_thread;
    holes_are = holes_left o ss' thread' state released (count_of ss')
        (λ p none. ap (λ xs. get_or xs p None) is ∙ dite (ℕ_discrete p o)
        (λ same. ap (λ k. get_or (set ss o None) k None) same ∙ get_or-set_same ss o None None (let e = law.sized in omega arith))
        (λ other. get_or-set_other ss o p None None other ∙ none)) fate is_thread;
  }

  -- a segment that is retired where it is empty
  pub settled-law : (state : State) (released : Released) (thread' : Thread) → IsFate s.state (count_of ss) state released → thread' ≡ thread_left released s.thread
      → SegmentLaw (record s { state = state; thread = thread' }) home
  settled-law state released thread' fate is = record {
    sized = law.sized;
    home_is = law.home_is;
    fitting = go released fate;
    kept_sized = kept_left thread' released is;
    holes_sized = holes_left_sized thread' released is;
    holes_are = holes_left 0 ss thread' state released (count_of ss) (λ p none. none) fate is;
  }
    where
      go : (released : Released) → IsFate s.state (count_of ss) state released → IsFitting state s.next ss
      go Kept fate = subst (λ x. IsFitting x s.next ss) (sym fate.0) law.fitting
      go Retired fate = subst (λ x. IsFitting x s.next ss) (sym fate.0) fate.2

  pub opened-law : s.state ≡ Free → SegmentLaw (record s { state = Open; next = 0 }) home
  opened-law free = record {
    sized = law.sized;
    home_is = law.home_is;
    fitting = let none : count_of ss ≡ 0 = subst (λ x. IsFitting x s.next ss) free law.fitting in
        (let e = law.sized in let b = segment_blocks-positive s.shape in omega arith, λ o le. none_valid ss none o);
    kept_sized = law.kept_sized;
    holes_sized = law.holes_sized;
    holes_are = no_holes Open ss (λ sealed. let no = sym free ∙ sealed in cc);
  }

  -- a segment that was not sealed comes into a state that its blocks fit
  pub entered-law : (state : State) → (s.state ≡ Sealed → ⊥) → IsFitting state s.next ss → SegmentLaw (record s { state = state }) home
  entered-law state isn't fits = record {
    sized = law.sized;
    home_is = law.home_is;
    fitting = fits;
    kept_sized = law.kept_sized;
    holes_sized = law.holes_sized;
    holes_are = no_holes state ss isn't;
  }

-- what became of a segment
pub has_released : (s : Segment) (state : State) (released : Released) (thread : Thread) → IsFate s.state (count_of s.summaries) state released → thread ≡ thread_left released s.thread
    → HasReleased s released (record s { state = state; thread = thread })
has_released s state Kept thread fate is = (λ k. record s { state = fate.0 k; thread = is k }, fate.1)
has_released s state Retired thread fate is = (λ k. record s { state = fate.0 k; thread = is k }, fate.1, fate.2)

-- with all its blocks at home
pub fresh-law : (shape : Shape) (number failed : ℕ) (contents : List (List ℕ)) (home : Home)
    → home ≡ home_of (address_of shape number 0) (block_bytes shape) (replicate (segment_blocks shape) true) contents failed → SegmentLaw (fresh shape number contents failed) home
fresh-law shape number failed contents home is_home = record {
  sized = length-replicate {A = Option Owner} (segment_blocks shape) None;
  home_is = is_home ∙ ap (λ p. home_of (address_of shape number 0) (block_bytes shape) p contents failed) (sym (map_replicate is_clear (segment_blocks shape) None));
  fitting = count_none (segment_blocks shape);
  kept_sized = length-replicate {A = Bool} (segment_blocks shape) false;
  holes_sized = length-replicate {A = Bool} (segment_blocks shape) false;
  holes_are = λ o hole. absurd (none_ended (segment_blocks shape) o hole);
}
