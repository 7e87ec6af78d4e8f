-- Whoever has all hands and accounts leaves nobody else anything to hold: so the copies in a census are all that is
-- marked, lodged and taken, and the rule says that these balance.
use Rattle.std.proofs.Common.{◌≡◌, ℕ, zero, suc, ◌+◌, ◌<◌, ◌≤◌, ◌==◌, Bool, true, false, List, [], ◌∷◌, if◌then◌else◌, refl, ◌∙◌, arith, eq-eqb, ne_eqb, Option}
use Rattle.geometry.specs.Weights.{weigh}
use Rattle.geometry.proofs.Weighing.{weigh-same}
use Rattle.rights_books.specs.ClaimRules.{together, Follows}
use Rattle.geometry.specs.declared.owner.Mark.{Mark}
use Rattle.rights_books.specs.declared.claim.TakenNumber.{TakenNumber}
use Rattle.rights_books.specs.declared.claim.FileContent.{FileContent}
use Rattle.rights_books.specs.declared.claim.Layout.{Layout}
use Rattle.rights_books.specs.declared.claim.Claim.{Claim}
use Rattle.rights_books.specs.declared.claim.Claim.TheVariants.{Segment, Hand, File, Shard, Pass, Census}
use Rattle.rights_books.specs.declared.claim.Copied.{Copied}
use Rattle.rights_books.specs.declared.claim.Copied.TheVariants.{SegmentCopy, FileCopy, ShardCopy}
use Rattle.rights_books.specs.Weights.{marks_in, tickets_in, taken_in, tokens_in, shown_in, pass_in, segment_in, hand_in, file_in, shard_in, stray_in, copied_in, copies_in, segment_copy, file_copy, shard_copy, past, marks_copied, tickets_copied, taken_copied, tokens_copied}
use Rattle.rights_books.specs.Rules.{Lawful, each_below, IsComplete, Balanced}
use Rattle.rights_books.proofs.Lists.{weigh_plus, sum_below_ones, as_many, weigh_same_where, weigh_le}
use Rattle.rights_books.proofs.Rests.{no_census, copied_all, weigh-copied_all, accounts_counted, copies_counted, marks_of_copied, taken_of_copied, tickets_of_copied, tokens_of_copied}
use Rattle.std.proofs.Common.{nat_lt, ltb-true}

-- so many hands with nothing in them
abbrev pub empty_hands : ℕ → List Claim
empty_hands n = each_below n (λ k. Hand [] [])

pub hands_none : (f : Claim → ℕ) → f (Hand [] []) ≡ 0 → (n : ℕ) → weigh f (empty_hands n) ≡ 0
hands_none f z zero = refl
hands_none f z (suc n) = let there = hands_none f z n in omega arith

pub hands_count : (n : ℕ) → weigh hand_in (empty_hands n) ≡ n
hands_count zero = refl
hands_count (suc n) = let there = hands_count n in omega arith

-- n where the numbers differ
abbrev unless : ℕ → ℕ → ℕ → ℕ
unless s j n = if j == s then 0 else n

unless_le : (s j n : ℕ) → unless s j n ≤ n
unless_le s j n = go (j == s)
  where
    go : (b : Bool) → (if b then 0 else n) ≤ n
    go true = omega arith
    go false = omega arith

unless_self : (s n : ℕ) → unless s s n ≡ 0
unless_self s n = rw (eq-eqb s s refl) refl

unless_past : (s j n : ℕ) → past s j ≡ 0 → n ≡ unless s j n
unless_past s j n z = rw (ne_eqb j s (λ e. omega (arith, below (nat_lt j s) refl z))) refl
  where
    below : (b : Bool) → nat_lt j s ≡ b → ◌≡◌ {A = ℕ} (if b then 0 else 1) 0 → j < s
    below true e z' = ltb-true j s e
    below false e z' = absurd (omega arith)

-- h, less what it is of one segment, file or shard
abbrev but_segment : ℕ → (Copied → ℕ) → Copied → ℕ
but_segment s h (SegmentCopy j ms) = unless s j (h (SegmentCopy j ms))
but_segment s h (FileCopy i ts ks) = h (FileCopy i ts ks)
but_segment s h (ShardCopy k es) = h (ShardCopy k es)

abbrev but_file : ℕ → (Copied → ℕ) → Copied → ℕ
but_file i h (SegmentCopy s ms) = h (SegmentCopy s ms)
but_file i h (FileCopy j ts ks) = unless i j (h (FileCopy j ts ks))
but_file i h (ShardCopy k es) = h (ShardCopy k es)

abbrev but_shard : ℕ → (Copied → ℕ) → Copied → ℕ
but_shard k h (SegmentCopy s ms) = h (SegmentCopy s ms)
but_shard k h (FileCopy i ts ks) = h (FileCopy i ts ks)
but_shard k h (ShardCopy j es) = unless k j (h (ShardCopy j es))

but_segment_same : (s : ℕ) (h : Copied → ℕ) (x : Copied) → segment_copy (past s) x ≡ 0 → h x ≡ but_segment s h x
but_segment_same s h (SegmentCopy j ms) z = unless_past s j (h (SegmentCopy j ms)) z
but_segment_same s h (FileCopy i ts ks) z = refl
but_segment_same s h (ShardCopy k es) z = refl

but_file_same : (i : ℕ) (h : Copied → ℕ) (x : Copied) → file_copy (past i) x ≡ 0 → h x ≡ but_file i h x
but_file_same i h (SegmentCopy s ms) z = refl
but_file_same i h (FileCopy j ts ks) z = unless_past i j (h (FileCopy j ts ks)) z
but_file_same i h (ShardCopy k es) z = refl

but_shard_same : (k : ℕ) (h : Copied → ℕ) (x : Copied) → shard_copy (past k) x ≡ 0 → h x ≡ but_shard k h x
but_shard_same k h (SegmentCopy s ms) z = refl
but_shard_same k h (FileCopy i ts ks) z = refl
but_shard_same k h (ShardCopy j es) z = unless_past k j (h (ShardCopy j es)) z

but_segment_le : (s : ℕ) (h : Copied → ℕ) (c : Claim) → copied_in (but_segment s h) c ≤ copied_in h c
but_segment_le s h (Segment j ms) = unless_le s j (h (SegmentCopy j ms))
but_segment_le s h (Hand ts ks) = omega arith
but_segment_le s h (File i ts ks f) = omega arith
but_segment_le s h (Shard k es) = omega arith
but_segment_le s h (Pass i f) = omega arith
but_segment_le s h (Census cs) = omega arith

but_file_le : (i : ℕ) (h : Copied → ℕ) (c : Claim) → copied_in (but_file i h) c ≤ copied_in h c
but_file_le i h (Segment s ms) = omega arith
but_file_le i h (Hand ts ks) = omega arith
but_file_le i h (File j ts ks f) = unless_le i j (h (FileCopy j ts ks))
but_file_le i h (Shard k es) = omega arith
but_file_le i h (Pass j f) = omega arith
but_file_le i h (Census cs) = omega arith

but_shard_le : (k : ℕ) (h : Copied → ℕ) (c : Claim) → copied_in (but_shard k h) c ≤ copied_in h c
but_shard_le k h (Segment s ms) = omega arith
but_shard_le k h (Hand ts ks) = omega arith
but_shard_le k h (File i ts ks f) = omega arith
but_shard_le k h (Shard j es) = unless_le k j (h (ShardCopy j es))
but_shard_le k h (Pass i f) = omega arith
but_shard_le k h (Census cs) = omega arith

-- Claims that hold nothing and show nothing: a census, and hands with nothing in them.
record AreEmpty (l : Layout) (cs : List Claim) : Type 0 where
  marks : (h : Mark → ℕ) → weigh (marks_in h) cs ≡ 0
  tickets : (h : Mark → ℕ) → weigh (tickets_in h) cs ≡ 0
  taken : (h : TakenNumber → ℕ) → weigh (taken_in h) cs ≡ 0
  tokens : (h : TakenNumber → ℕ) → weigh (tokens_in h) cs ≡ 0
  passes : (h : ℕ → FileContent → ℕ) → weigh (pass_in h) cs ≡ 0
  shown_none : (h : ℕ → FileContent → ℕ) → weigh (shown_in h) cs ≡ 0
  segments : (h : ℕ → ℕ) → weigh (segment_in h) cs ≡ 0
  files : (h : ℕ → ℕ) → weigh (file_in h) cs ≡ 0
  shards : (h : ℕ → ℕ) → weigh (shard_in h) cs ≡ 0
  strays : weigh (stray_in l.blocks) cs ≡ 0

module _ (l : Layout) where
  hands_empty : AreEmpty l (empty_hands 64)
  hands_empty = record {
    marks = λ h. hands_none (marks_in h) refl 64;
    tickets = λ h. hands_none (tickets_in h) refl 64;
    taken = λ h. hands_none (taken_in h) refl 64;
    tokens = λ h. hands_none (tokens_in h) refl 64;
    passes = λ h. hands_none (pass_in h) refl 64;
    shown_none = λ h. hands_none (shown_in h) refl 64;
    segments = λ h. hands_none (segment_in h) refl 64;
    files = λ h. hands_none (file_in h) refl 64;
    shards = λ h. hands_none (shard_in h) refl 64;
    strays = hands_none (stray_in l.blocks) refl 64;
  }

  census_empty : (cs : List Copied) → AreEmpty l (Census cs ∷ [])
  census_empty cs = record { marks = λ h. refl; tickets = λ h. refl; taken = λ h. refl; tokens = λ h. refl; passes = λ h. refl; shown_none = λ h. refl; segments = λ h. refl; files = λ h. refl; shards = λ h. refl; strays = refl }

  -- the rule stays where claims that hold nothing come in the place of others that hold nothing, if it does for the hands and the copies
  keeps_empty : {old new : List Claim} (rest : List Claim) → AreEmpty l old → AreEmpty l new → Lawful l (together old rest)
      → weigh hand_in new ≡ weigh hand_in old → ((h : Copied → ℕ) → together new rest (copies_in h) ≤ together new rest (copied_in h)) → Lawful l (together new rest)
  keeps_empty rest before after law same copies = record {
    tickets = λ h. let p = law.tickets h in let a = before.marks h in let b = before.tickets h in let d = after.marks h in let e = after.tickets h in omega arith;
    tokens = λ h. let p = law.tokens h in let a = before.taken h in let b = before.tokens h in let d = after.taken h in let e = after.tokens h in omega arith;
    passes = λ h. let p = law.passes h in let a = before.passes h in let b = before.shown_none h in let d = after.passes h in let e = after.shown_none h in omega arith;
    segments = λ h. let p = law.segments h in let a = before.segments h in let b = after.segments h in omega arith;
    files = λ h. let p = law.files h in let a = before.files h in let b = after.files h in omega arith;
    shards = λ h. let p = law.shards h in let a = before.shards h in let b = after.shards h in omega arith;
    hands = let p = law.hands in omega arith;
    copies = copies;
    home = let p = law.home in let a = before.strays in let b = after.strays in omega arith;
  }

  pub gathers : Follows (Lawful l) (empty_hands 64) (Census [] ∷ []) (Unit {0})
  gathers rest law = (
    keeps_empty rest hands_empty (census_empty []) law (let a = hands_count 64 in omega arith)
        (λ h. let p = law.hands in let a = hands_count 64 in let q = no_census h rest (omega arith) in omega arith),
    tt,
  )

  pub scatters : (cs : List Copied) → Follows (Lawful l) (Census cs ∷ []) (empty_hands 64) (Unit {0})
  scatters cs rest law = (
    keeps_empty rest (census_empty cs) hands_empty law (let a = hands_count 64 in omega arith)
        (λ h. let p = law.hands in let a = hands_none (copies_in h) refl 64 in let q = no_census h rest (omega arith) in omega arith),
    tt,
  )

  pub counts_segment : (s : ℕ) (ms : List Mark) (cs : List Copied) → weigh (segment_copy (past s)) cs ≡ 0
      → Follows (Lawful l) (Census cs ∷ Segment s ms ∷ []) (Census (SegmentCopy s ms ∷ cs) ∷ Segment s ms ∷ []) (Unit {0})
  counts_segment s ms cs fresh rest law = (
    record {
      tickets = law.tickets;
      tokens = law.tokens;
      passes = law.passes;
      segments = law.segments;
      files = law.files;
      shards = law.shards;
      hands = law.hands;
      copies =
          λ h.
          let p = law.hands in
          let q = no_census h rest (omega arith) in
          let a = law.copies (but_segment s h) in
          let b = unless_self s (h (SegmentCopy s ms)) in
          let c = weigh_le (copied_in (but_segment s h)) (copied_in h) (but_segment_le s h) rest in
          let d = weigh_same_where (segment_copy (past s)) h (but_segment s h) (but_segment_same s h) cs fresh in omega arith;
      home = law.home;
    },
    tt,
  )

  pub counts_file : (i : ℕ) (ts : List Mark) (ks : List TakenNumber) (f : Option FileContent) (cs : List Copied) → weigh (file_copy (past i)) cs ≡ 0
      → Follows (Lawful l) (Census cs ∷ File i ts ks f ∷ []) (Census (FileCopy i ts ks ∷ cs) ∷ File i ts ks f ∷ []) (Unit {0})
  counts_file i ts ks f cs fresh rest law = (
    record {
      tickets = law.tickets;
      tokens = law.tokens;
      passes = law.passes;
      segments = law.segments;
      files = law.files;
      shards = law.shards;
      hands = law.hands;
      copies =
          λ h.
          let p = law.hands in
          let q = no_census h rest (omega arith) in
          let a = law.copies (but_file i h) in
          let b = unless_self i (h (FileCopy i ts ks)) in
          let c = weigh_le (copied_in (but_file i h)) (copied_in h) (but_file_le i h) rest in
          let d = weigh_same_where (file_copy (past i)) h (but_file i h) (but_file_same i h) cs fresh in omega arith;
      home = law.home;
    },
    tt,
  )

  pub counts_shard : (k : ℕ) (es : List TakenNumber) (cs : List Copied) → weigh (shard_copy (past k)) cs ≡ 0
      → Follows (Lawful l) (Census cs ∷ Shard k es ∷ []) (Census (ShardCopy k es ∷ cs) ∷ Shard k es ∷ []) (Unit {0})
  counts_shard k es cs fresh rest law = (
    record {
      tickets = law.tickets;
      tokens = law.tokens;
      passes = law.passes;
      segments = law.segments;
      files = law.files;
      shards = law.shards;
      hands = law.hands;
      copies =
          λ h.
          let p = law.hands in
          let q = no_census h rest (omega arith) in
          let a = law.copies (but_shard k h) in
          let b = unless_self k (h (ShardCopy k es)) in
          let c = weigh_le (copied_in (but_shard k h)) (copied_in h) (but_shard_le k h) rest in
          let d = weigh_same_where (shard_copy (past k)) h (but_shard k h) (but_shard_same k h) cs fresh in omega arith;
      home = law.home;
    },
    tt,
  )

  -- a complete census knows all that the accounts have
  pub settles : (cs : List Copied) → IsComplete l cs → Follows (Lawful l) (Census cs ∷ []) (Census cs ∷ []) (Balanced cs)
  settles cs complete rest law =
      let hands : weigh hand_in rest ≡ 0 = let p = law.hands in omega arith in
      let below : (h : Copied → ℕ) → weigh h cs ≤ weigh h (copied_all rest) =
      λ h. let a = law.copies h in let b = weigh-copied_all h rest in omega arith in
      let count : weigh (λ x. 1) cs ≡ weigh (λ x. 1) (copied_all rest) =
      let a = weigh-same (λ x. 1) (λ x. segment_copy (λ s. 1) x + (file_copy (λ i. 1) x + shard_copy (λ k. 1) x)) cs copies_counted in
      let b = weigh_plus (segment_copy (λ s. 1)) (λ x. file_copy (λ i. 1) x + shard_copy (λ k. 1) x) cs in
      let c = weigh_plus (file_copy (λ i. 1)) (shard_copy (λ k. 1)) cs in
      let d = weigh-same (copied_in (λ x. 1)) (λ x. segment_in (λ s. 1) x + (file_in (λ i. 1) x + shard_in (λ k. 1) x)) rest accounts_counted in
      let e = weigh_plus (segment_in (λ s. 1)) (λ x. file_in (λ i. 1) x + shard_in (λ k. 1) x) rest in
      let f = weigh_plus (file_in (λ i. 1)) (shard_in (λ k. 1)) rest in
      let g = weigh-copied_all (λ x. 1) rest in
      let p = law.segments (λ s. 1) in
      let q = law.files (λ i. 1) in
      let r = law.shards (λ k. 1) in
      let x = sum_below_ones l.segments in
      let y = sum_below_ones l.files in
      let u = complete.segments in
      let v = complete.files in
      let w = complete.shards in omega arith in
      let all : (h : Copied → ℕ) → weigh h cs ≡ weigh (copied_in h) rest = λ h. as_many cs (copied_all rest) below count h ∙ weigh-copied_all h rest in (
        law,
        record {
          tickets =
              λ h.
              let p = law.tickets h in
              let a = all (marks_copied h) in
              let b = all (tickets_copied h) in
              let c = weigh-same (marks_in h) (copied_in (marks_copied h)) rest (marks_of_copied h) in
              let d = tickets_of_copied h rest hands in omega arith;
          tokens =
              λ h.
              let p = law.tokens h in
              let a = all (taken_copied h) in
              let b = all (tokens_copied h) in
              let c = weigh-same (taken_in h) (copied_in (taken_copied h)) rest (taken_of_copied h) in
              let d = tokens_of_copied h rest hands in omega arith;
        },
      )
