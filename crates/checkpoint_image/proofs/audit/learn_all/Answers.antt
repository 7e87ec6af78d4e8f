-- What is learned of segments, of shards and of files is each apart from the others: so in the end every account is
-- learned once, and the books can settle the audit.
use Rattle.std.proofs.Common.{◌≡◌, ℕ, map, refl, ap, arith}
use Rattle.std.proofs.lemmas.List.{length-map}
use Rattle.geometry.specs.Weights.{weigh}
use Rattle.rights_books.specs.Weights.{segment_copy, file_copy, shard_copy, marks_copied, tickets_copied, taken_copied, tokens_copied}
use Rattle.rights_books.specs.Accounts.{CensusView}
use Rattle.rights_books.specs.declared.claim.Copied.{Copied}
use Rattle.rights_books.proofs.Learning.{weigh_nothing, weigh_ones}
use Rattle.checkpoint_image.proofs.Learned.{no_files_yet}
use Rattle.checkpoint_image.proofs.audit.learn_all.Goals as goal

pub learn_files-requires-clause-none : goal.learn_files-requires-clause-none
learn_files-requires-clause-none g c =
    no_files_yet (map g.S.HoldsSegment.shown c.args.segments.now.items) (map g.H.HoldsShard.shown c.args.shards.now.items) c.args.audit.now c.learn_segments.new.audit c.learn_shards.new.audit
    c.learn_segments.ensures.audit c.learn_shards.ensures.audit (ap (λ (v : CensusView). weigh (file_copy (λ n. 1)) v.copies) c.requires.audit)

pub settle-requires-clause-complete : goal.settle-requires-clause-complete
settle-requires-clause-complete g c =
    let segments = map g.S.HoldsSegment.shown c.args.segments.now.items in
    let shards = map g.H.HoldsShard.shown c.args.shards.now.items in
    let files = map g.F.AuditedFile.account c.args.files.now.items in
    let empty : (h : Copied → ℕ) → weigh h c.args.audit.now.copies ≡ 0 = λ h. ap (λ (v : CensusView). weigh h v.copies) c.requires.audit in
    let no_shards = weigh_nothing shards in
    let no_files = weigh_nothing files in
    record {
      segments =
          let a = c.learn_segments.ensures.audit.numbers (λ n. 1) in
          let b = c.learn_shards.ensures.audit.copies (segment_copy (λ n. 1)) in
          let d = c.learn_files.ensures.audit.copies (segment_copy (λ n. 1)) in
          let e = empty (segment_copy (λ n. 1)) in
          let all = weigh_ones segments in
          let long = length-map c.args.segments.now.items g.S.HoldsSegment.shown in
          let every = c.requires.every_segment in omega arith;
      files =
          let a = c.learn_segments.ensures.audit.others (file_copy (λ n. 1)) (λ n marks. refl) in
          let b = c.learn_shards.ensures.audit.copies (file_copy (λ n. 1)) in
          let d = c.learn_files.ensures.audit.copies (file_copy (λ n. 1)) in
          let e = empty (file_copy (λ n. 1)) in
          let all = weigh_ones files in
          let long = length-map c.args.files.now.items g.F.AuditedFile.account in
          let every = c.requires.every_file in omega arith;
      shards =
          let a = c.learn_segments.ensures.audit.others (shard_copy (λ n. 1)) (λ n marks. refl) in
          let b = c.learn_shards.ensures.audit.copies (shard_copy (λ n. 1)) in
          let d = c.learn_files.ensures.audit.copies (shard_copy (λ n. 1)) in
          let e = empty (shard_copy (λ n. 1)) in
          let all = weigh_ones shards in
          let long = length-map c.args.shards.now.items g.H.HoldsShard.shown in
          let every = c.requires.every_shard in omega arith;
    }

pub returns-clause-copies : goal.returns-clause-copies
returns-clause-copies g c =
    let shards = map g.H.HoldsShard.shown c.args.shards.now.items in
    let files = map g.F.AuditedFile.account c.args.files.now.items in
    let empty : (h : Copied → ℕ) → weigh h c.args.audit.now.copies ≡ 0 = λ h. ap (λ (v : CensusView). weigh h v.copies) c.requires.audit in
    let last : (h : Copied → ℕ) → weigh h c.settle.new.audit.copies ≡ weigh h c.learn_files.new.audit.copies = λ h. ap (λ (v : CensusView). weigh h v.copies) c.settle.ensures.audit in
    let no_shards = weigh_nothing shards in
    let no_files = weigh_nothing files in
    record {
      marks =
          λ h.
          let a = c.learn_segments.ensures.audit.marks h in
          let b = c.learn_shards.ensures.audit.copies (marks_copied h) in
          let d = c.learn_files.ensures.audit.copies (marks_copied h) in
          let e = empty (marks_copied h) in
          let f = last (marks_copied h) in omega arith;
      taken =
          λ h.
          let a = c.learn_segments.ensures.audit.others (taken_copied h) (λ n marks. refl) in
          let b = c.learn_shards.ensures.audit.copies (taken_copied h) in
          let d = c.learn_files.ensures.audit.copies (taken_copied h) in
          let e = empty (taken_copied h) in
          let f = last (taken_copied h) in omega arith;
      tickets =
          λ h.
          let a = c.learn_segments.ensures.audit.others (tickets_copied h) (λ n marks. refl) in
          let b = c.learn_shards.ensures.audit.copies (tickets_copied h) in
          let d = c.learn_files.ensures.audit.copies (tickets_copied h) in
          let e = empty (tickets_copied h) in
          let f = last (tickets_copied h) in omega arith;
      tokens =
          λ h.
          let a = c.learn_segments.ensures.audit.others (tokens_copied h) (λ n marks. refl) in
          let b = c.learn_shards.ensures.audit.copies (tokens_copied h) in
          let d = c.learn_files.ensures.audit.copies (tokens_copied h) in
          let e = empty (tokens_copied h) in
          let f = last (tokens_copied h) in omega arith;
    }
