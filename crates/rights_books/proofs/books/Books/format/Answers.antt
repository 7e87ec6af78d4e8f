-- The claims of an empty volume are the permits, the segments, the files and the shards, one row behind another: each
-- dealer takes its row off the front and leaves the next.
use Rattle.std.proofs.Common.{◌≡◌, ℕ, List, [], ◌++◌, drop, None, ap, ◌∙◌}
use Rattle.rights_books.specs.ClaimRules.{Held}
use Rattle.rights_books.specs.declared.claim.Claim.{Claim}
use Rattle.rights_books.specs.declared.claim.Claim.TheVariants.{Segment, File, Shard}
use Rattle.rights_books.specs.declared.claim.Layout.{Layout}
use Rattle.rights_books.specs.Rules.{each_from, opening}
use Rattle.rights_books.proofs.Dealing.{each_first, each_after, each_alone}
use Rattle.rights_books.proofs.books.Books.format.Goals as goal

abbrev segment : ℕ → Claim
segment n = Segment n []

abbrev file : ℕ → Claim
file n = File n [] [] None

abbrev shard : ℕ → Claim
shard n = Shard n []

-- what is left of an empty volume's claims once the permits are dealt
after_permits : (l : Layout) (had left : Held Claim) → had.claims ≡ opening l → left.claims ≡ drop 64 had.claims
    → left.claims ≡ each_from 0 l.segments segment ++ (each_from 1 l.files file ++ each_from 0 16 shard)
after_permits l had left all rest = rest ∙ ap (λ (cs : List Claim). drop 64 cs) all

-- and once the segments are dealt too
after_segments : (l : Layout) (had left rest : Held Claim) → had.claims ≡ opening l → left.claims ≡ drop 64 had.claims → rest.claims ≡ drop l.segments left.claims
    → rest.claims ≡ each_from 1 l.files file ++ each_from 0 16 shard
after_segments l had left rest all next then =
    then ∙ each_after segment 0 l.segments left.claims (each_from 1 l.files file ++ each_from 0 16 shard) (after_permits l had left all next)

pub deal_segments-requires-clause-first : goal.deal_segments-requires-clause-first
deal_segments-requires-clause-first c =
    let l = c.args.layout.now in
    let e = after_permits l c.in_ok-books.dealer c.deal_permits-permits.result.1
    (ap (λ (h : Held Claim). h.claims) c.in_ok-books.ensures.dealer) (ap (λ (h : Held Claim). h.claims) c.deal_permits-permits.ensures.dealer) in
    each_first segment 0 l.segments c.deal_permits-permits.result.1.claims (each_from 1 l.files file ++ each_from 0 16 shard) e

pub deal_files-requires-clause-first : goal.deal_files-requires-clause-first
deal_files-requires-clause-first c =
    let l = c.args.layout.now in
    let e = after_segments l c.in_ok-books.dealer c.deal_permits-permits.result.1 c.in_ok-segments.dealer
    (ap (λ (h : Held Claim). h.claims) c.in_ok-books.ensures.dealer) (ap (λ (h : Held Claim). h.claims) c.deal_permits-permits.ensures.dealer)
    (ap (λ (h : Held Claim). h.claims) c.in_ok-segments.ensures.dealer) in
    each_first file 1 l.files c.in_ok-segments.dealer.claims (each_from 0 16 shard) e

pub deal_shards-requires-clause-first : goal.deal_shards-requires-clause-first
deal_shards-requires-clause-first c =
    let l = c.args.layout.now in
    let e = after_segments l c.in_ok-books.dealer c.deal_permits-permits.result.1 c.in_ok-segments.dealer
    (ap (λ (h : Held Claim). h.claims) c.in_ok-books.ensures.dealer) (ap (λ (h : Held Claim). h.claims) c.deal_permits-permits.ensures.dealer)
    (ap (λ (h : Held Claim). h.claims) c.in_ok-segments.ensures.dealer) in
    let fs = c.in_ok-files.dealer.claims in
    let e' : fs ≡ each_from 0 16 shard =
    ap (λ (h : Held Claim). h.claims) c.in_ok-files.ensures.dealer ∙ each_after file 1 l.files c.in_ok-segments.dealer.claims (each_from 0 16 shard) e in
    each_first shard 0 16 fs [] (each_alone shard 0 16 fs e')
