-- One call learns all accounts of each kind in order and settles them: copies then balance by every weight, and each
-- copy is that of an account, so the accounts do.
use Rattle.std.proofs.Common.{◌≡◌, ℕ, ◌+◌, ap, arith}
use Rattle.geometry.specs.Weights.{weigh}
use Rattle.rights_books.specs.Weights.{segment_copy, file_copy, shard_copy, marks_copied, tickets_copied, taken_copied, tokens_copied}
use Rattle.rights_books.specs.Accounts.{CensusView}
use Rattle.rights_books.specs.declared.claim.Copied.{Copied}
use Rattle.rights_books.specs.declared.claim.Copied.TheVariants.{SegmentCopy, FileCopy, ShardCopy}
use Rattle.rights_books.proofs.Learning.{weigh_nothing, weigh_ones}
use Rattle.rights_books.proofs.books.Books.balance.Goals as goal

pub learn_segments-requires-clause-none : goal.learn_segments-requires-clause-none
learn_segments-requires-clause-none c = ap (λ (v : CensusView). weigh (segment_copy (λ n. 1)) v.copies) c.audit-audit.ensures

pub learn_files-requires-clause-none : goal.learn_files-requires-clause-none
learn_files-requires-clause-none c =
    let segments = c.args.segments.now.items in
    let files = c.args.files.now.items in
    let shards = c.args.shards.now.items in
    let empty : (h : Copied → ℕ) → weigh h c.audit-audit.result.copies ≡ 0 = λ h. ap (λ (v : CensusView). weigh h v.copies) c.audit-audit.ensures in
    let a = c.learn_segments.ensures.copies (file_copy (λ n. 1)) in
    let b = empty (file_copy (λ n. 1)) in
    let d = weigh_nothing segments in omega arith

pub learn_shards-requires-clause-none : goal.learn_shards-requires-clause-none
learn_shards-requires-clause-none c =
    let segments = c.args.segments.now.items in
    let files = c.args.files.now.items in
    let shards = c.args.shards.now.items in
    let empty : (h : Copied → ℕ) → weigh h c.audit-audit.result.copies ≡ 0 = λ h. ap (λ (v : CensusView). weigh h v.copies) c.audit-audit.ensures in
    let a = c.learn_segments.ensures.copies (shard_copy (λ n. 1)) in
    let a' = c.learn_files.ensures.copies (shard_copy (λ n. 1)) in
    let b = empty (shard_copy (λ n. 1)) in
    let d = weigh_nothing segments in
    let d' = weigh_nothing files in omega arith

pub settle-requires-clause-complete : goal.settle-requires-clause-complete
settle-requires-clause-complete c =
    let segments = c.args.segments.now.items in
    let files = c.args.files.now.items in
    let shards = c.args.shards.now.items in
    let empty : (h : Copied → ℕ) → weigh h c.audit-audit.result.copies ≡ 0 = λ h. ap (λ (v : CensusView). weigh h v.copies) c.audit-audit.ensures in
    let s = weigh_nothing segments in
    let f = weigh_nothing files in
    let k = weigh_nothing shards in
    let s' = weigh_ones segments in
    let f' = weigh_ones files in
    let k' = weigh_ones shards in
    record {
      segments =
          let a = c.learn_segments.ensures.copies (segment_copy (λ n. 1)) in
          let b = c.learn_files.ensures.copies (segment_copy (λ n. 1)) in
          let d = c.learn_shards.ensures.copies (segment_copy (λ n. 1)) in
          let e = empty (segment_copy (λ n. 1)) in omega arith;
      files =
          let a = c.learn_segments.ensures.copies (file_copy (λ n. 1)) in
          let b = c.learn_files.ensures.copies (file_copy (λ n. 1)) in
          let d = c.learn_shards.ensures.copies (file_copy (λ n. 1)) in
          let e = empty (file_copy (λ n. 1)) in omega arith;
      shards =
          let a = c.learn_segments.ensures.copies (shard_copy (λ n. 1)) in
          let b = c.learn_files.ensures.copies (shard_copy (λ n. 1)) in
          let d = c.learn_shards.ensures.copies (shard_copy (λ n. 1)) in
          let e = empty (shard_copy (λ n. 1)) in omega arith;
    }

-- where the audit knows the same of two weights in the end, the segments, the files and the shards together have the same of them
same_of : (c : goal.After-end_audit) (h k : Copied → ℕ) → weigh h c.learn_shards.new.audit.copies ≡ weigh k c.learn_shards.new.audit.copies
    → weigh (λ v. h (SegmentCopy v.segment v.marks)) c.args.segments.now.items
    + (weigh (λ v. h (FileCopy v.inode v.tickets v.tokens)) c.args.files.now.items + weigh (λ v. h (ShardCopy v.shard v.taken)) c.args.shards.now.items)
    ≡ weigh (λ v. k (SegmentCopy v.segment v.marks)) c.args.segments.now.items
    + (weigh (λ v. k (FileCopy v.inode v.tickets v.tokens)) c.args.files.now.items + weigh (λ v. k (ShardCopy v.shard v.taken)) c.args.shards.now.items)
same_of c h k same =
    let empty : (f : Copied → ℕ) → weigh f c.audit-audit.result.copies ≡ 0 = λ f. ap (λ (v : CensusView). weigh f v.copies) c.audit-audit.ensures in
    let a = c.learn_segments.ensures.copies h in
    let b = c.learn_files.ensures.copies h in
    let d = c.learn_shards.ensures.copies h in
    let e = empty h in
    let a' = c.learn_segments.ensures.copies k in
    let b' = c.learn_files.ensures.copies k in
    let d' = c.learn_shards.ensures.copies k in
    let e' = empty k in omega arith

pub returns-clause-tickets : goal.returns-clause-tickets
returns-clause-tickets c =
    λ h.
    let s = weigh_nothing c.args.segments.now.items in
    let f = weigh_nothing c.args.files.now.items in
    let k = weigh_nothing c.args.shards.now.items in
    let same = same_of c (marks_copied h) (tickets_copied h) (c.settle.ensures.balanced.tickets h) in omega arith

pub returns-clause-tokens : goal.returns-clause-tokens
returns-clause-tokens c =
    λ h.
    let s = weigh_nothing c.args.segments.now.items in
    let f = weigh_nothing c.args.files.now.items in
    let k = weigh_nothing c.args.shards.now.items in
    let same = same_of c (taken_copied h) (tokens_copied h) (c.settle.ensures.balanced.tokens h) in omega arith
