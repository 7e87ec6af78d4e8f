-- A change moves the same weight on both sides of each balance, and holders stay who they were: so the rule holds after
-- it whatever the others have.
use Rattle.std.proofs.Common.{◌≡◌, ◌≢◌, ℕ, zero, suc, ◌+◌, ◌-◌, ◌/◌, ◌%◌, ◌<◌, ◌≤◌, ◌==◌, Bool, true, false, List, [], ◌∷◌, if◌then◌else◌, refl, sym, ap, ◌∙◌, subst, arith, eqb-true, eq-eqb, ne_eqb, Option, Some, None}
use Rattle.geometry.specs.Weights.{weigh}
use Rattle.rights_books.specs.ClaimRules.{together, Follows, Tells}
use Rattle.geometry.specs.declared.owner.Mark.{Mark}
use Rattle.rights_books.specs.declared.claim.TakenNumber.{TakenNumber}
use Rattle.rights_books.specs.declared.claim.FileContent.{FileContent}
use Rattle.rights_books.specs.declared.claim.Layout.{Layout}
use Rattle.rights_books.specs.declared.claim.Claim.{Claim}
use Rattle.rights_books.specs.declared.claim.Copied.{Copied}
use Rattle.rights_books.specs.declared.claim.Claim.TheVariants.{Segment, Hand, File, Shard, Pass, Census}
use Rattle.rights_books.specs.Lists.{times, without}
use Rattle.geometry.specs.Mark.{same_mark}
use Rattle.geometry.proofs.MarkTests.{mark_eq, mark_self}
use Rattle.rights_books.specs.Sameness.{same_entry, same_content}
use Rattle.rights_books.specs.Weights.{mark_of, of_entry, stray_mark, stray_entry, marks_in, tickets_in, taken_in, tokens_in, shown, shown_in, segment_in, hand_in, file_in, shard_in, stray_in, pass_in, copies_in, copied_in}
use Rattle.rights_books.specs.Rules.{Lawful, moved_to, with_lodged, IsWhole, Settled}
use Rattle.rights_books.proofs.Sameness.{entry_eq, entry_self, content_eq, content_self}
use Rattle.rights_books.proofs.Lists.{is, is_self, weigh_none, weigh_plus, weigh-without, without_head, none_past, one_below, sum_below_suc, sum_below_ones, weigh_le}
use Rattle.rights_books.proofs.Rests.{at, in_place, no_mark_at_none, no_mark_elsewhere, no_entry_elsewhere, no_file_elsewhere, no_census}

pub at_self : (s : ℕ) → at s s ≡ 1
at_self s = is_self (λ a b. b == a) (λ a b e. sym (eqb-true b a e)) (λ a. eq-eqb a a refl) s

at_home : (t s : ℕ) → t ≡ s → ◌≡◌ {A = ℕ} (if t == s then 0 else 1) 0
at_home t s e = rw (eq-eqb t s e) refl

pub without_mark : (h : Mark → ℕ) (m : Mark) (ms : List Mark) → 0 < times same_mark m ms → h m + weigh h (without same_mark m ms) ≡ weigh h ms
without_mark = weigh-without same_mark mark_eq mark_self

pub without_entry : (h : TakenNumber → ℕ) (e : TakenNumber) (es : List TakenNumber) → 0 < times same_entry e es → h e + weigh h (without same_entry e es) ≡ weigh h es
without_entry = weigh-without same_entry entry_eq entry_self

-- the list without what was put in front is the list as it was
pub without_mark_first : (m : Mark) (ms : List Mark) → without same_mark m (m ∷ ms) ≡ ms
without_mark_first = without_head same_mark mark_eq mark_self

pub without_entry_first : (e : TakenNumber) (es : List TakenNumber) → without same_entry e (e ∷ es) ≡ es
without_entry_first = without_head same_entry entry_eq entry_self

weigh-with_lodged : (h : Mark → ℕ) (e : TakenNumber) (ts : List Mark) → weigh h (with_lodged e ts) ≡ of_entry h e + weigh h ts
weigh-with_lodged h e ts = go (e.address == 0)
  where
    go : (b : Bool) → weigh h (if b then ts else mark_of e ∷ ts) ≡ (if b then 0 else h (mark_of e)) + weigh h ts
    go true = omega arith
    go false = omega arith

-- the account of a file is no pass
pub file_is_no_pass : (i j : ℕ) (ts : List Mark) (ks : List TakenNumber) (o : Option FileContent) (f : FileContent) → File i ts ks o ∷ [] ≢ Pass j f ∷ []
file_is_no_pass i j ts ks o f e = let counts = ap (weigh (file_in (λ k. 1))) e in absurd (omega arith)

-- Claims come in the place of others that have a hand: the holders are the same, and the passes, and nothing is counted.
record AreSameHolders (old new : List Claim) : Type 0 where
  segments : (h : ℕ → ℕ) → weigh (segment_in h) new ≡ weigh (segment_in h) old
  files : (h : ℕ → ℕ) → weigh (file_in h) new ≡ weigh (file_in h) old
  shards : (h : ℕ → ℕ) → weigh (shard_in h) new ≡ weigh (shard_in h) old
  hands : weigh hand_in new ≡ weigh hand_in old
  passes : (h : ℕ → FileContent → ℕ) → weigh (pass_in h) new ≡ weigh (pass_in h) old
  shown_same : (h : ℕ → FileContent → ℕ) → weigh (shown_in h) new ≡ weigh (shown_in h) old
  hand : 0 < weigh hand_in old
  uncounted : (h : Copied → ℕ) → weigh (copies_in h) new ≡ 0

segment_and_hand : (s : ℕ) (ms ms' ts ts' : List Mark) (ks ks' : List TakenNumber) → AreSameHolders (Segment s ms ∷ Hand ts ks ∷ []) (Segment s ms' ∷ Hand ts' ks' ∷ [])
segment_and_hand s ms ms' ts ts' ks ks' =
    record { segments = λ h. refl; files = λ h. refl; shards = λ h. refl; hands = refl; passes = λ h. refl; shown_same = λ h. refl; hand = omega arith; uncounted = λ h. refl }

shard_and_hand : (k : ℕ) (es es' ks ks' : List TakenNumber) (ts ts' : List Mark) → AreSameHolders (Shard k es ∷ Hand ts ks ∷ []) (Shard k es' ∷ Hand ts' ks' ∷ [])
shard_and_hand k es es' ks ks' ts ts' =
    record { segments = λ h. refl; files = λ h. refl; shards = λ h. refl; hands = refl; passes = λ h. refl; shown_same = λ h. refl; hand = omega arith; uncounted = λ h. refl }

file_and_hand : (i : ℕ) (f : Option FileContent) (fts fts' ts ts' : List Mark) (fks fks' ks ks' : List TakenNumber) → AreSameHolders (File i fts fks f ∷ Hand ts ks ∷ []) (File i fts' fks' f ∷ Hand ts' ks' ∷ [])
file_and_hand i f fts fts' ts ts' fks fks' ks ks' =
    record { segments = λ h. refl; files = λ h. refl; shards = λ h. refl; hands = refl; passes = λ h. refl; shown_same = λ h. refl; hand = omega arith; uncounted = λ h. refl }

-- Claims come in the place of others that hold and count the same, and only the passes and what is shown are others.
record AreSameButPasses (l : Layout) (old new : List Claim) : Type 0 where
  marked : (h : Mark → ℕ) → weigh (marks_in h) new ≡ weigh (marks_in h) old
  tickets : (h : Mark → ℕ) → weigh (tickets_in h) new ≡ weigh (tickets_in h) old
  taken : (h : TakenNumber → ℕ) → weigh (taken_in h) new ≡ weigh (taken_in h) old
  tokens : (h : TakenNumber → ℕ) → weigh (tokens_in h) new ≡ weigh (tokens_in h) old
  segments : (h : ℕ → ℕ) → weigh (segment_in h) new ≡ weigh (segment_in h) old
  files : (h : ℕ → ℕ) → weigh (file_in h) new ≡ weigh (file_in h) old
  shards : (h : ℕ → ℕ) → weigh (shard_in h) new ≡ weigh (shard_in h) old
  hands : weigh hand_in new ≡ weigh hand_in old
  copies : (h : Copied → ℕ) → weigh (copies_in h) new ≡ weigh (copies_in h) old
  copied : (h : Copied → ℕ) → weigh (copied_in h) new ≡ weigh (copied_in h) old
  strays : weigh (stray_in l.blocks) new ≡ weigh (stray_in l.blocks) old

module _ (l : Layout) where
  -- the rule stays if it does for the tickets, the tokens and the places
  keeps : {old new : List Claim} (rest : List Claim) → AreSameHolders old new → Lawful l (together old rest)
      → ((h : Mark → ℕ) → together new rest (marks_in h) ≡ together new rest (tickets_in h)) → ((h : TakenNumber → ℕ) → together new rest (taken_in h) ≡ together new rest (tokens_in h))
      → together new rest (stray_in l.blocks) ≡ 0 → Lawful l (together new rest)
  keeps rest same law tickets tokens home = record {
    tickets = tickets;
    tokens = tokens;
    passes = λ h. let p = law.passes h in let a = same.passes h in let b = same.shown_same h in omega arith;
    segments = λ h. let p = law.segments h in let a = same.segments h in omega arith;
    files = λ h. let p = law.files h in let a = same.files h in omega arith;
    shards = λ h. let p = law.shards h in let a = same.shards h in omega arith;
    hands = let p = law.hands in let a = same.hands in omega arith;
    copies = λ h. let p = law.hands in let a = same.hand in let q = no_census h rest (omega arith) in let b = same.uncounted h in omega arith;
    home = home;
  }

  pub segment_alone : (mine rest : List Claim) (s : ℕ) → Lawful l (together mine rest) → 0 < weigh (segment_in (at s)) mine → weigh (segment_in (at s)) rest ≡ 0
  segment_alone mine rest s law some = let p = law.segments (at s) in let q = one_below l.segments s in omega arith

  pub shard_alone : (mine rest : List Claim) (k : ℕ) → Lawful l (together mine rest) → 0 < weigh (shard_in (at k)) mine → weigh (shard_in (at k)) rest ≡ 0
  shard_alone mine rest k law some = let p = law.shards (at k) in let q = one_below 16 k in omega arith

  pub file_alone : (mine rest : List Claim) (i : ℕ) → Lawful l (together mine rest) → 0 < weigh (file_in (at i)) mine → weigh (file_in (at i)) rest ≡ 0
  file_alone mine rest i law some =
      let p = law.files (at i) in let r = sum_below_suc l.files (at i) in let q = one_below (suc l.files) i in omega arith

  pub home_alone : (mine rest : List Claim) → Lawful l (together mine rest) → weigh (stray_in l.blocks) rest ≡ 0
  home_alone mine rest law = let p = law.home in omega arith

  -- the place of a mark that is called by two names
  pub same_place : (s : ℕ) (m t : Mark) → m ≡ t → (t.address - 1) / l.blocks ≡ s → (m.address - 1) / l.blocks ≡ s
  same_place s m t e here = ap (λ (k : Mark). (k.address - 1) / l.blocks) e ∙ here

  pub marks : (s : ℕ) (ms ts : List Mark) (ks : List TakenNumber) (m : Mark) → 0 < m.address → (m.address - 1) / l.blocks ≡ s
      → Follows (Lawful l) (Segment s ms ∷ Hand ts ks ∷ []) (Segment s (m ∷ ms) ∷ Hand (m ∷ ts) ks ∷ []) (Unit {0})
  marks s ms ts ks m some here rest law = (
    keeps rest (segment_and_hand s ms (m ∷ ms) ts (m ∷ ts) ks ks) law
        (λ h. let p = law.tickets h in omega arith)
        law.tokens
        (let p = law.home in let q = in_place l.blocks s m some here in omega arith),
    tt,
  )

  pub clears : (s : ℕ) (ms ts : List Mark) (ks : List TakenNumber) (m : Mark) → (m.address - 1) / l.blocks ≡ s → 0 < times same_mark m ts
      → Follows (Lawful l) (Segment s ms ∷ Hand ts ks ∷ []) (Segment s (without same_mark m ms) ∷ Hand (without same_mark m ts) ks ∷ []) (0 < times same_mark m ms)
  clears s ms ts ks m here held rest law =
      let mine : List Claim = Segment s ms ∷ Hand ts ks ∷ [] in
      let one = at_self s in
      let alone = segment_alone mine rest s law (omega arith) in
      let none = no_mark_elsewhere l.blocks s m here rest alone (home_alone mine rest law) in
      let count = law.tickets (is same_mark m) in
      let marked : 0 < times same_mark m ms = omega arith in (
        keeps rest (segment_and_hand s ms (without same_mark m ms) ts (without same_mark m ts) ks ks) law
            (λ h. let p = law.tickets h in let a = without_mark h m ms marked in let b = without_mark h m ts held in omega arith)
            law.tokens
            (let p = law.home in let q = without_mark (stray_mark l.blocks s) m ms marked in omega arith),
        marked,
      )

  -- a ticket that is out is of a block of one of the segments
  located_at : (ts : List Mark) (ks : List TakenNumber) (m : Mark) → 0 < times same_mark m ts → (rest : List Claim) → Lawful l (together (Hand ts ks ∷ []) rest)
      → (0 < m.address) × ((m.address - 1) / l.blocks < l.segments)
  located_at ts ks m held rest law = (some m.address refl, within (l.segments - s) refl)
    where
      s : ℕ
      s = (m.address - 1) / l.blocks

      out : 0 < weigh (marks_in (is same_mark m)) rest
      out = let count = law.tickets (is same_mark m) in omega arith

      home : weigh (stray_in l.blocks) rest ≡ 0
      home = home_alone (Hand ts ks ∷ []) rest law

      some : (a : ℕ) → m.address ≡ a → 0 < m.address
      some zero e = let none = no_mark_at_none l.blocks m e rest home in let o = out in absurd (omega arith)
      some (suc a) e = omega arith

      alone : l.segments ≤ s → weigh (segment_in (at s)) rest ≡ 0
      alone high = let p = law.segments (at s) in let q = none_past l.segments s high in omega arith

      within : (d : ℕ) → l.segments - s ≡ d → s < l.segments
      within zero e =
          let high : l.segments ≤ s = omega arith in
          let none = no_mark_elsewhere l.blocks s m refl rest (alone high) home in let o = out in absurd (omega arith)
      within (suc d) e = omega arith

  pub located : (ts : List Mark) (ks : List TakenNumber) (m : Mark) → 0 < times same_mark m ts
      → Follows (Lawful l) (Hand ts ks ∷ []) (Hand ts ks ∷ []) ((0 < m.address) × ((m.address - 1) / l.blocks < l.segments))
  located ts ks m held rest law = (law, located_at ts ks m held rest law)

  pub takes : (k : ℕ) (es ks : List TakenNumber) (ts : List Mark) (e : TakenNumber) → e.number % 16 ≡ k → e.address ≡ 0
      → Follows (Lawful l) (Shard k es ∷ Hand ts ks ∷ []) (Shard k (e ∷ es) ∷ Hand ts (e ∷ ks) ∷ []) (Unit {0})
  takes k es ks ts e here bare rest law = (
    keeps rest (shard_and_hand k es (e ∷ es) ks (e ∷ ks) ts ts) law
        (λ h. let p = law.tickets h in let q : of_entry h e ≡ 0 = rw (eq-eqb e.address 0 bare) refl in omega arith)
        (λ h. let p = law.tokens h in omega arith)
        (let p = law.home in let q : stray_entry k e ≡ 0 = at_home (e.number % 16) k here in omega arith),
    tt,
  )

  taken_here : (k : ℕ) (es ks : List TakenNumber) (ts : List Mark) (e : TakenNumber) → e.number % 16 ≡ k → 0 < times same_entry e ks
      → (rest : List Claim) → Lawful l (together (Shard k es ∷ Hand ts ks ∷ []) rest) → 0 < times same_entry e es
  taken_here k es ks ts e here held rest law =
      let mine : List Claim = Shard k es ∷ Hand ts ks ∷ [] in
      let one = at_self k in
      let alone = shard_alone mine rest k law (omega arith) in
      let none = no_entry_elsewhere l.blocks k e here rest alone (home_alone mine rest law) in
      let count = law.tokens (is same_entry e) in omega arith

  -- a number whose token is in hand is taken
  pub finds : (k : ℕ) (es ks : List TakenNumber) (ts : List Mark) (e : TakenNumber) → e.number % 16 ≡ k → 0 < times same_entry e ks
      → Follows (Lawful l) (Shard k es ∷ Hand ts ks ∷ []) (Shard k es ∷ Hand ts ks ∷ []) (0 < times same_entry e es)
  finds k es ks ts e here held rest law = (law, taken_here k es ks ts e here held rest law)

  pub gives : (k : ℕ) (es ks : List TakenNumber) (ts : List Mark) (e : TakenNumber) → e.number % 16 ≡ k → 0 < times same_entry e ks
      → Follows (Lawful l) (Shard k es ∷ Hand ts ks ∷ []) (Shard k (without same_entry e es) ∷ Hand (with_lodged e ts) (without same_entry e ks) ∷ []) (0 < times same_entry e es)
  gives k es ks ts e here held rest law =
      let taken = taken_here k es ks ts e here held rest law in (
        keeps rest (shard_and_hand k es (without same_entry e es) ks (without same_entry e ks) ts (with_lodged e ts)) law
            (λ h. let p = law.tickets h in let a = without_entry (of_entry h) e es taken in let b = weigh-with_lodged h e ts in omega arith)
            (λ h. let p = law.tokens h in let a = without_entry h e es taken in let b = without_entry h e ks held in omega arith)
            (let p = law.home in let q = without_entry (stray_entry k) e es taken in omega arith),
        taken,
      )

  pub swaps : (k : ℕ) (es ks : List TakenNumber) (ts : List Mark) (e : TakenNumber) (a : ℕ) (bytes : List ℕ) → e.number % 16 ≡ k → 0 < times same_entry e ks → 0 < times same_mark (mark_of (moved_to a bytes e)) ts
      → Follows (Lawful l) (Shard k es ∷ Hand ts ks ∷ [])
      (Shard k (moved_to a bytes e ∷ without same_entry e es) ∷ Hand (with_lodged e (without same_mark (mark_of (moved_to a bytes e)) ts)) (moved_to a bytes e ∷ without same_entry e ks) ∷ [])
      ((0 < times same_entry e es) × (0 < a))
  swaps k es ks ts e a bytes here held ticket rest law =
      let taken = taken_here k es ks ts e here held rest law in
      let m = mark_of (moved_to a bytes e) in
      let mine : List Claim = Shard k es ∷ Hand ts ks ∷ [] in
      let placed : a ≢ 0 =
      λ none. let unmarked = no_mark_at_none l.blocks m none rest (home_alone mine rest law) in let count = law.tickets (is same_mark m) in omega arith in (
        keeps rest (shard_and_hand k es (moved_to a bytes e ∷ without same_entry e es) ks (moved_to a bytes e ∷ without same_entry e ks) ts (with_lodged e (without same_mark m ts))) law
            (λ h. let p = law.tickets h in let x = without_entry (of_entry h) e es taken in let y = weigh-with_lodged h e (without same_mark m ts) in let z = without_mark h m ts ticket in let q : of_entry h (moved_to a bytes e) ≡ h m = rw (ne_eqb a 0 placed) refl in omega arith)
            (λ h. let p = law.tokens h in let x = without_entry h e es taken in let y = without_entry h e ks held in omega arith)
            (let p = law.home in let q = without_entry (stray_entry k) e es taken in let r : stray_entry k (moved_to a bytes e) ≡ 0 = at_home (e.number % 16) k here in omega arith),
        (taken, omega arith),
      )

  pub lodges : (i : ℕ) (fts ts : List Mark) (fks ks : List TakenNumber) (f : Option FileContent) (m : Mark) → 0 < times same_mark m ts
      → Follows (Lawful l) (File i fts fks f ∷ Hand ts ks ∷ []) (File i (m ∷ fts) fks f ∷ Hand (without same_mark m ts) ks ∷ []) (Unit {0})
  lodges i fts ts fks ks f m held rest law = (
    keeps rest (file_and_hand i f fts (m ∷ fts) ts (without same_mark m ts) fks fks ks ks) law
        (λ h. let p = law.tickets h in let a = without_mark h m ts held in omega arith)
        law.tokens
        law.home,
    tt,
  )

  pub unlodges : (i : ℕ) (fts ts : List Mark) (fks ks : List TakenNumber) (f : Option FileContent) (m : Mark) → 0 < times same_mark m fts
      → Follows (Lawful l) (File i fts fks f ∷ Hand ts ks ∷ []) (File i (without same_mark m fts) fks f ∷ Hand (m ∷ ts) ks ∷ []) (Unit {0})
  unlodges i fts ts fks ks f m lodged rest law = (
    keeps rest (file_and_hand i f fts (without same_mark m fts) ts (m ∷ ts) fks fks ks ks) law
        (λ h. let p = law.tickets h in let a = without_mark h m fts lodged in omega arith)
        law.tokens
        law.home,
    tt,
  )

  pub lodges_token : (i : ℕ) (fts ts : List Mark) (fks ks : List TakenNumber) (f : Option FileContent) (e : TakenNumber) → 0 < times same_entry e ks
      → Follows (Lawful l) (File i fts fks f ∷ Hand ts ks ∷ []) (File i fts (e ∷ fks) f ∷ Hand ts (without same_entry e ks) ∷ []) (Unit {0})
  lodges_token i fts ts fks ks f e held rest law = (
    keeps rest (file_and_hand i f fts fts ts ts fks (e ∷ fks) ks (without same_entry e ks)) law
        law.tickets
        (λ h. let p = law.tokens h in let a = without_entry h e ks held in omega arith)
        law.home,
    tt,
  )

  pub unlodges_token : (i : ℕ) (fts ts : List Mark) (fks ks : List TakenNumber) (f : Option FileContent) (e : TakenNumber) → 0 < times same_entry e fks
      → Follows (Lawful l) (File i fts fks f ∷ Hand ts ks ∷ []) (File i fts (without same_entry e fks) f ∷ Hand ts (e ∷ ks) ∷ []) (Unit {0})
  unlodges_token i fts ts fks ks f e lodged rest law = (
    keeps rest (file_and_hand i f fts fts ts ts fks (without same_entry e fks) ks (e ∷ ks)) law
        law.tickets
        (λ h. let p = law.tokens h in let a = without_entry h e fks lodged in omega arith)
        law.home,
    tt,
  )

  -- tickets and tokens go from a file to a hand or back
  pub lodges_all : (i : ℕ) (fts ts fts' ts' : List Mark) (fks ks fks' ks' : List TakenNumber) (f : Option FileContent)
      → ((h : Mark → ℕ) → weigh h fts' + weigh h ts' ≡ weigh h fts + weigh h ts) → ((h : TakenNumber → ℕ) → weigh h fks' + weigh h ks' ≡ weigh h fks + weigh h ks)
      → Follows (Lawful l) (File i fts fks f ∷ Hand ts ks ∷ []) (File i fts' fks' f ∷ Hand ts' ks' ∷ []) (Unit {0})
  lodges_all i fts ts fts' ts' fks ks fks' ks' f marks entries rest law = (
    keeps rest (file_and_hand i f fts fts' ts ts' fks fks' ks ks') law
        (λ h. let p = law.tickets h in let a = marks h in omega arith)
        (λ h. let p = law.tokens h in let a = entries h in omega arith)
        law.home,
    tt,
  )

  -- 1 for this content of this file
  abbrev hit : ℕ → FileContent → ℕ → FileContent → ℕ
  hit i f j g = if j == i then is same_content f g else 0

  hit_self : (i : ℕ) (f : FileContent) → hit i f i f ≡ 1
  hit_self i f = rw (eq-eqb i i refl) (is_self same_content content_eq content_self f)

  hit_other : (i : ℕ) (f : FileContent) (j : ℕ) (g : FileContent) → (j ≡ i → ⊥) → hit i f j g ≡ 0
  hit_other i f j g apart = rw (ne_eqb j i apart) refl

  hit_only : (i : ℕ) (f : FileContent) (o : Option FileContent) → 0 < shown (hit i f) i o → o ≡ Some f
  hit_only i f None some = absurd (omega arith)
  hit_only i f (Some g) some = go (same_content f g) refl (subst (λ (b : Bool). 0 < (if b then is same_content f g else 0)) (eq-eqb i i refl) some)
    where
      go : (b : Bool) → same_content f g ≡ b → 0 < (if b then 1 else 0) → Some g ≡ Some f
      go true e some' = ap (λ (x : FileContent). Some x) (sym (content_eq f g e))
      go false e some' = absurd (omega arith)

  passed : (i : ℕ) (ts : List Mark) (ks : List TakenNumber) (o : Option FileContent) (f : FileContent)
      → (rest : List Claim) → Lawful l (together (File i ts ks o ∷ Pass i f ∷ []) rest) → o ≡ Some f
  passed i ts ks o f rest law =
      let mine : List Claim = File i ts ks o ∷ Pass i f ∷ [] in
      let one = at_self i in
      let alone = file_alone mine rest i law (omega arith) in
      let none = no_file_elsewhere i (hit i f) (λ j g. hit_other i f j g) rest alone in
      let self = hit_self i f in
      let p = law.passes (hit i f) in hit_only i f o (omega arith)

  -- the rule stays if it does for the passes
  repasses : {old new : List Claim} (rest : List Claim) → AreSameButPasses l old new → Lawful l (together old rest)
      → ((h : ℕ → FileContent → ℕ) → together new rest (pass_in h) ≡ together new rest (shown_in h)) → Lawful l (together new rest)
  repasses rest same law passes = record {
    tickets = λ h. let p = law.tickets h in let a = same.marked h in let b = same.tickets h in omega arith;
    tokens = λ h. let p = law.tokens h in let a = same.taken h in let b = same.tokens h in omega arith;
    passes = passes;
    segments = λ h. let p = law.segments h in let a = same.segments h in omega arith;
    files = λ h. let p = law.files h in let a = same.files h in omega arith;
    shards = λ h. let p = law.shards h in let a = same.shards h in omega arith;
    hands = let p = law.hands in let a = same.hands in omega arith;
    copies = λ h. let p = law.copies h in let a = same.copies h in let b = same.copied h in omega arith;
    home = let p = law.home in let a = same.strays in omega arith;
  }

  same_rest : {i : ℕ} {ts : List Mark} {ks : List TakenNumber} {o o' : Option FileContent} {f f' : FileContent} → AreSameButPasses l (File i ts ks o ∷ Pass i f ∷ []) (File i ts ks o' ∷ Pass i f' ∷ [])
  same_rest = record { marked = λ h. refl; tickets = λ h. refl; taken = λ h. refl; tokens = λ h. refl; segments = λ h. refl; files = λ h. refl; shards = λ h. refl; hands = refl; copies = λ h. refl; copied = λ h. refl; strays = refl }

  pass_comes : {i : ℕ} {ts : List Mark} {ks : List TakenNumber} {o o' : Option FileContent} {f : FileContent} → AreSameButPasses l (File i ts ks o ∷ []) (File i ts ks o' ∷ Pass i f ∷ [])
  pass_comes = record { marked = λ h. refl; tickets = λ h. refl; taken = λ h. refl; tokens = λ h. refl; segments = λ h. refl; files = λ h. refl; shards = λ h. refl; hands = refl; copies = λ h. refl; copied = λ h. refl; strays = refl }

  pass_goes : {i : ℕ} {ts : List Mark} {ks : List TakenNumber} {o o' : Option FileContent} {f : FileContent} → AreSameButPasses l (File i ts ks o ∷ Pass i f ∷ []) (File i ts ks o' ∷ [])
  pass_goes = record { marked = λ h. refl; tickets = λ h. refl; taken = λ h. refl; tokens = λ h. refl; segments = λ h. refl; files = λ h. refl; shards = λ h. refl; hands = refl; copies = λ h. refl; copied = λ h. refl; strays = refl }

  pub notes : (i : ℕ) (ts : List Mark) (ks : List TakenNumber) (o : Option FileContent) (f g : FileContent)
      → Follows (Lawful l) (File i ts ks o ∷ Pass i f ∷ []) (File i ts ks (Some g) ∷ Pass i g ∷ []) (o ≡ Some f)
  notes i ts ks o f g rest law =
      let same = passed i ts ks o f rest law in (
        repasses rest same_rest law (λ h. let p = law.passes h in let q : shown h i o ≡ h i f = ap (λ (x : Option FileContent). shown h i x) same in omega arith),
        same,
      )

  pub compares : (i j : ℕ) (ts : List Mark) (ks : List TakenNumber) (o : Option FileContent) (f : FileContent) → i ≡ j → Tells (Lawful l) (File i ts ks o ∷ Pass j f ∷ []) (o ≡ Some f)
  compares i j ts ks o f e = subst (λ (j' : ℕ). Tells (Lawful l) (File i ts ks o ∷ Pass j' f ∷ []) (o ≡ Some f)) e (passed i ts ks o f)

  pub issues : (i : ℕ) (ts : List Mark) (ks : List TakenNumber) (f : FileContent)
      → Follows (Lawful l) (File i ts ks None ∷ []) (File i ts ks (Some f) ∷ Pass i f ∷ []) (Unit {0})
  issues i ts ks f rest law = (
    repasses rest pass_comes law (λ h. let p = law.passes h in omega arith),
    tt,
  )

  pub spends : (i : ℕ) (ts : List Mark) (ks : List TakenNumber) (o : Option FileContent) (f : FileContent)
      → Follows (Lawful l) (File i ts ks o ∷ Pass i f ∷ []) (File i ts ks None ∷ []) (o ≡ Some f)
  spends i ts ks o f rest law =
      let same = passed i ts ks o f rest law in (
        repasses rest pass_goes law (λ h. let p = law.passes h in let q : shown h i o ≡ h i f = ap (λ (x : Option FileContent). shown h i x) same in omega arith),
        same,
      )

  -- the same, where the pass has its own name for the file
  pub notes_at : (i j : ℕ) (ts : List Mark) (ks : List TakenNumber) (o : Option FileContent) (f g : FileContent) → i ≡ j
      → Follows (Lawful l) (File i ts ks o ∷ Pass j f ∷ []) (File i ts ks (Some g) ∷ Pass j g ∷ []) (o ≡ Some f)
  notes_at i j ts ks o f g e = subst (λ (j' : ℕ). Follows (Lawful l) (File i ts ks o ∷ Pass j' f ∷ []) (File i ts ks (Some g) ∷ Pass j' g ∷ []) (o ≡ Some f)) e (notes i ts ks o f g)

  pub spends_at : (i j : ℕ) (ts : List Mark) (ks : List TakenNumber) (o : Option FileContent) (f : FileContent) → i ≡ j
      → Follows (Lawful l) (File i ts ks o ∷ Pass j f ∷ []) (File i ts ks None ∷ []) (o ≡ Some f)
  spends_at i j ts ks o f e = subst (λ (j' : ℕ). Follows (Lawful l) (File i ts ks o ∷ Pass j' f ∷ []) (File i ts ks None ∷ []) (o ≡ Some f)) e (spends i ts ks o f)

  pub issues_at : (i : ℕ) (ts : List Mark) (ks : List TakenNumber) (o : Option FileContent) (f : FileContent) → o ≡ None
      → Follows (Lawful l) (File i ts ks o ∷ []) (File i ts ks (Some f) ∷ Pass i f ∷ []) (Unit {0})
  issues_at i ts ks o f e = subst (λ (o' : Option FileContent). Follows (Lawful l) (File i ts ks o' ∷ []) (File i ts ks (Some f) ∷ Pass i f ∷ []) (Unit {0})) (sym e) (issues i ts ks f)

  -- no file has two passes
  pub differs : (i j : ℕ) (f g : FileContent) → Follows (Lawful l) (Pass i f ∷ Pass j g ∷ []) (Pass i f ∷ Pass j g ∷ []) (i ≢ j)
  differs i j f g rest law = (
    law,
    (λ e.
        let one = at_self j in
        let a = ap (at j) e in
        let p = law.passes (λ k x. at j k) in
        let q = law.files (at j) in
        let r = sum_below_suc l.files (at j) in
        let b = one_below (suc l.files) j in
        let d = weigh_le (shown_in (λ k x. at j k)) (file_in (at j)) (shown_le j) rest in omega arith),
  )
    where
      shown_le : (n : ℕ) (c : Claim) → shown_in (λ k x. at n k) c ≤ file_in (at n) c
      shown_le n (Segment s ms) = omega arith
      shown_le n (Hand ts ks) = omega arith
      shown_le n (File k ts ks (Some x)) = omega arith
      shown_le n (File k ts ks None) = omega arith
      shown_le n (Shard k es) = omega arith
      shown_le n (Pass k x) = omega arith
      shown_le n (Census cs) = omega arith

  -- what is neither a pass nor counted weighs nothing
  abbrev counted : Claim → ℕ
  counted c = hand_in c + (segment_in (λ s. 1) c + (file_in (λ i. 1) c + shard_in (λ k. 1) c))

  none_counted : (rest : List Claim) (mine : List Claim) → IsWhole l mine → Lawful l (together mine rest) → weigh counted rest ≡ 0
  none_counted rest mine whole law =
      let a = law.hands in
      let b = law.segments (λ s. 1) in
      let c = law.files (λ i. 1) in
      let d = law.shards (λ k. 1) in
      let p = weigh_plus hand_in (λ c. segment_in (λ s. 1) c + (file_in (λ i. 1) c + shard_in (λ k. 1) c)) rest in
      let q = weigh_plus (segment_in (λ s. 1)) (λ c. file_in (λ i. 1) c + shard_in (λ k. 1) c) rest in
      let r = weigh_plus (file_in (λ i. 1)) (shard_in (λ k. 1)) rest in
      let x = sum_below_ones l.segments in
      let y = sum_below_ones l.files in
      let hands = whole.hands in
      let segments = whole.segments in
      let files = whole.files in
      let shards = whole.shards in omega arith

  one_not_none : {A : Type 0} → ◌≡◌ {A = ℕ} 1 0 → A
  one_not_none e = absurd (omega arith)

  no_marks : (h : Mark → ℕ) (c : Claim) → counted c ≡ 0 → marks_in h c ≡ 0
  no_marks h (Segment s ms) e = one_not_none e
  no_marks h (Hand ts ks) e = refl
  no_marks h (File i ts ks f) e = refl
  no_marks h (Shard k es) e = refl
  no_marks h (Pass i f) e = refl
  no_marks h (Census cs) e = refl

  no_tickets : (h : Mark → ℕ) (c : Claim) → counted c ≡ 0 → tickets_in h c ≡ 0
  no_tickets h (Segment s ms) e = refl
  no_tickets h (Hand ts ks) e = one_not_none e
  no_tickets h (File i ts ks f) e = one_not_none e
  no_tickets h (Shard k es) e = one_not_none e
  no_tickets h (Pass i f) e = refl
  no_tickets h (Census cs) e = refl

  no_taken : (h : TakenNumber → ℕ) (c : Claim) → counted c ≡ 0 → taken_in h c ≡ 0
  no_taken h (Segment s ms) e = refl
  no_taken h (Hand ts ks) e = refl
  no_taken h (File i ts ks f) e = refl
  no_taken h (Shard k es) e = one_not_none e
  no_taken h (Pass i f) e = refl
  no_taken h (Census cs) e = refl

  no_tokens : (h : TakenNumber → ℕ) (c : Claim) → counted c ≡ 0 → tokens_in h c ≡ 0
  no_tokens h (Segment s ms) e = refl
  no_tokens h (Hand ts ks) e = one_not_none e
  no_tokens h (File i ts ks f) e = one_not_none e
  no_tokens h (Shard k es) e = refl
  no_tokens h (Pass i f) e = refl
  no_tokens h (Census cs) e = refl

  no_shown : (h : ℕ → FileContent → ℕ) (c : Claim) → counted c ≡ 0 → shown_in h c ≡ 0
  no_shown h (Segment s ms) e = refl
  no_shown h (Hand ts ks) e = refl
  no_shown h (File i ts ks f) e = one_not_none e
  no_shown h (Shard k es) e = refl
  no_shown h (Pass i f) e = refl
  no_shown h (Census cs) e = refl

  pub audits : (mine : List Claim) → IsWhole l mine → Follows (Lawful l) mine mine (Settled mine)
  audits mine whole rest law =
      let none = none_counted rest mine whole law in (
        law,
        record {
          tickets = λ h.
              let a = law.tickets h in
              let b = weigh_none counted (marks_in h) (no_marks h) rest none in
              let c = weigh_none counted (tickets_in h) (no_tickets h) rest none in omega arith;
          tokens = λ h.
              let a = law.tokens h in
              let b = weigh_none counted (taken_in h) (no_taken h) rest none in
              let c = weigh_none counted (tokens_in h) (no_tokens h) rest none in omega arith;
          passes = λ h.
              let a = law.passes h in
              let b = weigh_none counted (shown_in h) (no_shown h) rest none in omega arith;
        },
      )
