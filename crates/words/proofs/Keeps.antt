-- A step changes one word and one seat's claims; where those are counted as before, or by as much as the word says,
-- every other segment's part of the rule stays as it was.
use Rattle.std.proofs.Common.{◌≡◌, ◌≢◌, ℕ, ◌+◌, ◌*◌, ◌<◌, ◌≤◌, List, length, get_or, set, sym, ◌∙◌, subst, arith, length-set, get_or-set_same, get_or-set_other}
use mathlib.Core.Logic.{dite}
use native.Mathlib.Decide.{ℕ_discrete}
use mathlib.Core.Option.{some}
use lib.ListN.{get_elem?}
use Rattle.geometry.specs.Weights.{weigh}
use Rattle.words.specs.declared.claim.SeatClaim.{SeatClaim}
use Rattle.words.specs.declared.claim.SeatClaim.TheVariants.{Stands, Slip, Appends, Reads, Checkpoint}
use Rattle.words.specs.Claims.{Every, total, stands, stands_at, rank, frees, opens, room, slips, appends, pins, pins_at, readers, checkpoints, version}
use Rattle.words.specs.Rule.{Sound, Law}
use Rattle.words.proofs.Counts.{times_at_le, sum-set, sum-mono, sum-le, every-set, every-map}

pub pins_le : (n completed s : ℕ) (c : SeatClaim) → Sound n completed c → pins s c ≤ readers c
pins_le n completed s (Stands l) h = omega arith
pins_le n completed s (Slip k) h = omega arith
pins_le n completed s (Appends k) h = omega arith
pins_le n completed s (Reads r) h = h.0 s
pins_le n completed s (Checkpoint k) h = omega arith

-- Claims come in the place of others, and those who stand, write and read are counted as before.
pub record IsAlike (v w : List SeatClaim) : Type 0 where
  pub standings : (s : ℕ) → weigh (stands s) w ≡ weigh (stands s) v
  pub one_checkpoint : weigh checkpoints w ≡ weigh checkpoints v
  pub free_slips : (s : ℕ) → weigh (slips s) w + weigh (frees s) v ≡ weigh (slips s) v + weigh (frees s) w
  pub open_appenders : (s : ℕ) → weigh (appends s) w + weigh (opens s) v ≡ weigh (appends s) v + weigh (opens s) w
  pub same_readers : weigh readers w ≡ weigh readers v

-- They come to a seat, and there are no more pins than there is room for.
pub record IsCounted (views : List (List SeatClaim)) (id : ℕ) (v w : List SeatClaim) : Type 0 where
  pub alike : IsAlike v w
  pub within : (s : ℕ) → total (pins s) (set views id w) ≤ total (room s) (set views id w)
  pub same_life : (s i : ℕ) → total (pins_at s i) (set views id w) ≤ 64 * total (stands_at s i) (set views id w)

module _ (n : ℕ) (words : List ℕ) (views : List (List SeatClaim)) (law : Law n words views) where
  -- a rearrangement of the claims
  pub regrouped : (views' : List (List SeatClaim)) → ((f : SeatClaim → ℕ) → total f views' ≡ total f views) → ((P : SeatClaim → Type 0) → Every (Every P) views → Every (Every P) views') → Law n words views'
  regrouped views' same every = record {
    wide = law.wide;
    one_standing = λ s h. same (stands s) ∙ law.one_standing s h;
    one_checkpoint = same checkpoints ∙ law.one_checkpoint;
    encoded = λ s h. let a = same (rank s) in let b = same (pins s) in let e = law.encoded s h in omega arith;
    completed = law.completed ∙ sym (same version);
    bounded = law.bounded;
    one_slip = λ s. same (slips s) ∙ (law.one_slip s ∙ sym (same (frees s)));
    one_appender = λ s. same (appends s) ∙ (law.one_appender s ∙ sym (same (opens s)));
    within = λ s. let a = same (pins s) in let b = same (room s) in let e = law.within s in omega arith;
    same_life = λ s i. let a = same (pins_at s i) in let b = same (stands_at s i) in let e = law.same_life s i in omega arith;
    few_readers = let a = same readers in let e = law.few_readers in omega arith;
    sound = every (Sound n (get_or words n 0)) law.sound;
  }

  module _ (id : ℕ) (v w : List SeatClaim) (at_id : get_elem? views id ≡ some v) where
    pub moved : (f : SeatClaim → ℕ) → total f (set views id w) + weigh f v ≡ total f views + weigh f w
    moved f = sum-set (λ u. weigh f u) views id v w at_id

    pub changed : (words' : List ℕ) → length words' ≡ n + 1
        → ((s : ℕ) → s < n → get_or words' s 0 + (weigh (rank s) v + weigh (pins s) v) ≡ get_or words s 0 + (weigh (rank s) w + weigh (pins s) w))
        → get_or words' n 0 + weigh version v ≡ get_or words n 0 + weigh version w
        → get_or words n 0 ≤ get_or words' n 0
        → get_or words' n 0 < 4294967296
        → IsCounted views id v w
        → Every (Sound n (get_or words' n 0)) w
        → ((c : SeatClaim) → Sound n (get_or words n 0) c → Sound n (get_or words' n 0) c)
        → Law n words' (set views id w)
    changed words' wide enc ver up bound counted snd later = record {
      wide = wide;
      one_standing = λ s h. let a = moved (stands s) in let b = counted.alike.standings s in let e = law.one_standing s h in omega arith;
      one_checkpoint = let a = moved checkpoints in let d = counted.alike.one_checkpoint in let e = law.one_checkpoint in omega arith;
      encoded = λ s h. let a = moved (rank s) in let b = moved (pins s) in let e = law.encoded s h in let d = enc s h in omega arith;
      completed = let a = moved version in let e = law.completed in omega arith;
      bounded = bound;
      one_slip = λ s. let a = moved (slips s) in let b = moved (frees s) in let e = law.one_slip s in let d = counted.alike.free_slips s in omega arith;
      one_appender = λ s. let a = moved (appends s) in let b = moved (opens s) in let e = law.one_appender s in let d = counted.alike.open_appenders s in omega arith;
      within = counted.within;
      same_life = counted.same_life;
      few_readers = let a = moved readers in let d = counted.alike.same_readers in let e = law.few_readers in omega arith;
      sound = every-set (Every (Sound n (get_or words' n 0))) views id w
          (every-map (Every (Sound n (get_or words n 0))) (Every (Sound n (get_or words' n 0))) views (λ u h. every-map (Sound n (get_or words n 0)) (Sound n (get_or words' n 0)) u later h) law.sound) snd;
    }

    -- the word of one segment changes
    pub word_changed : (seg x : ℕ) → seg < n
        → x + (weigh (rank seg) v + weigh (pins seg) v) ≡ get_or words seg 0 + (weigh (rank seg) w + weigh (pins seg) w)
        → ((s : ℕ) → s ≢ seg → weigh (rank s) w + weigh (pins s) w ≡ weigh (rank s) v + weigh (pins s) v)
        → weigh version w ≡ weigh version v
        → IsCounted views id v w
        → Every (Sound n (get_or words n 0)) w
        → Law n (set words seg x) (set views id w)
    word_changed seg x lt here else ver counted snd =
        let long : length words ≡ n + 1 = law.wide in
        let other : n ≢ seg = omega arith in
        let last : get_or (set words seg x) n 0 ≡ get_or words n 0 = get_or-set_other words seg n x 0 other in
        let bound = law.bounded in
        changed (set words seg x) (length-set words seg x ∙ law.wide)
        (λ s h. dite (ℕ_discrete s seg)
        (λ e. let P : ℕ → Type 0 = λ z. get_or (set words seg x) z 0 + (weigh (rank z) v + weigh (pins z) v) ≡ get_or words z 0 + (weigh (rank z) w + weigh (pins z) w) in
        subst P (sym e) (let is : get_or (set words seg x) seg 0 ≡ x = get_or-set_same words seg x 0 (omega arith) in omega (arith, here)))
        (λ ne. let is : get_or (set words seg x) s 0 ≡ get_or words s 0 = get_or-set_other words seg s x 0 ne in let d = else s ne in omega arith))
        (omega arith) (omega arith) (omega arith) counted (subst (λ z. Every (Sound n z) w) (sym last) snd) (λ c. subst (λ z. Sound n (get_or words n 0) c → Sound n z c) (sym last) (λ k. k))

    -- a load
    pub looked : ((s : ℕ) → weigh (rank s) w + weigh (pins s) w ≡ weigh (rank s) v + weigh (pins s) v)
        → weigh version w ≡ weigh version v
        → IsCounted views id v w
        → Every (Sound n (get_or words n 0)) w
        → Law n words (set views id w)
    looked enc ver counted snd =
        let bound = law.bounded in
        changed words law.wide (λ s h. let d = enc s in omega arith) (omega arith) (omega arith) bound counted snd (λ c k. k)

  -- no segment has more pins than there are readers
  pub few_pins : (s : ℕ) → total (pins s) views ≤ 64
  few_pins s =
      let a = sum-mono (λ u. weigh (pins s) u) (λ u. weigh readers u) (Every (Sound n (get_or words n 0))) views (λ u h. sum-mono (pins s) readers (Sound n (get_or words n 0)) u (pins_le n (get_or words n 0) s) h) law.sound in
      let b = law.few_readers in omega arith

pins_at_le : (s i : ℕ) (c : SeatClaim) → pins_at s i c ≤ pins s c
pins_at_le s i (Stands l) = omega arith
pins_at_le s i (Slip k) = omega arith
pins_at_le s i (Appends k) = omega arith
pins_at_le s i (Reads r) = times_at_le s i r.held
pins_at_le s i (Checkpoint k) = omega arith

-- the pins on one incarnation are among those on the segment
pub part_of_pins : (s i : ℕ) (views : List (List SeatClaim)) → total (pins_at s i) views ≤ total (pins s) views
part_of_pins s i views = sum-le (λ u. weigh (pins_at s i) u) (λ u. weigh (pins s) u) views (λ u. sum-le (pins_at s i) (pins s) u (pins_at_le s i))
