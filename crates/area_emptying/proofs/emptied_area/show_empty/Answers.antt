-- The audit tells that taken numbers are those of lodged tokens, and marks those of lodged tickets: files lodge
-- nothing, so no number is taken, no ticket is lodged, and no block is marked.
use Rattle.std.proofs.Common.{◌≡◌, ℕ, ◌<◌, List, Some, length, get_or, map, refl, sym, ap, subst, ◌∙◌, arith, rules}
use Rattle.std.specs.Prelude.{slice_get}
use Rattle.std.proofs.lemmas.List.{map-id}
use Rattle.std.proofs.lemmas.Option.{slice_get_within}
use Rattle.geometry.specs.Weights.{weigh}
use Rattle.geometry.proofs.Weighing.{weigh-at}
use Rattle.geometry.specs.Address.{address_of}
use Rattle.geometry.specs.declared.owner.Mark.{Mark}
use Rattle.rights_books.specs.declared.claim.TakenNumber.{TakenNumber}
use Rattle.rights_books.specs.declared.claim.Copied.{Copied}
use Rattle.rights_books.specs.Accounts.{CensusView, FileView}
use Rattle.rights_books.specs.Weights.{segment_copy, file_copy, shard_copy, marks_copied, tickets_copied, taken_copied, tokens_copied, of_entry}
use Rattle.rights_books.proofs.Learning.{weigh_nothing, weigh_ones}
use Rattle.nat.specs.Shard.{ShardNodes}
use Rattle.sit.specs.Registered.{Registered}
use Rattle.sit.specs.Segment.{marks_of}
use Rattle.sit.proofs.Marks.{marks_count}
use Rattle.checkpoint_image.proofs.Learned.{no_files_yet}
use Rattle.area_emptying.specs.Rows.{AreSegments}
use Rattle.area_emptying.proofs.Nothing.{stands_at, weigh_none, lodged_few}
use Rattle.area_emptying.proofs.emptied_area.show_empty.Goals as goal

pub learn_segments-requires-clause-segments : goal.learn_segments-requires-clause-segments
learn_segments-requires-clause-segments g c =
    λ k r got.
    let segments : List Registered = c.args.segments.now.items in
    let here : slice_get segments k ≡ Some r = subst (λ (xs : List Registered). slice_get xs k ≡ Some r) (map-id segments) got in
    let at : get_or segments k r ≡ r = stands_at segments k r here in
    let is = c.requires.segments k r (slice_get_within segments k r here) in
    (sym (ap (λ (x : Registered). x.segment.number) at) ∙ is.number_is, sym (ap (λ (x : Registered). x.book) at) ∙ is.book_is ∙ sym (ap (λ x. x.book) c.requires.books))

pub learn_shards-requires-clause-shards : goal.learn_shards-requires-clause-shards
learn_shards-requires-clause-shards g c =
    λ k s got.
    let shards : List ShardNodes = c.args.shards.now.items in
    let here : slice_get shards k ≡ Some s = subst (λ (xs : List ShardNodes). slice_get xs k ≡ Some s) (map-id shards) got in
    let is = c.requires.shards k s here in (is.number, is.book_is ∙ sym (ap (λ x. x.book) c.requires.books))

pub learn_files-requires-clause-none : goal.learn_files-requires-clause-none
learn_files-requires-clause-none g c =
    no_files_yet (map (λ s. s) c.args.segments.now.items) (map (λ s. s) c.args.shards.now.items) c.args.audit.now c.learn_segments.new.audit c.learn_shards.new.audit
    c.learn_segments.ensures.audit c.learn_shards.ensures.audit (ap (λ (v : CensusView). weigh (file_copy (λ n. 1)) v.copies) c.requires.audit)

pub settle-requires-clause-complete : goal.settle-requires-clause-complete
settle-requires-clause-complete g c =
    let segments : List Registered = map (λ s. s) c.args.segments.now.items in
    let shards : List ShardNodes = map (λ s. s) c.args.shards.now.items in
    let files : List FileView = c.args.files.now.items in
    let empty : (h : Copied → ℕ) → weigh h c.args.audit.now.copies ≡ 0 = λ h. ap (λ (v : CensusView). weigh h v.copies) c.requires.audit in
    let no_shards = weigh_nothing shards in
    let no_files = weigh_nothing files in
    let key = ap (λ x. x.key) c.requires.books in
    record {
      segments =
          let a = c.learn_segments.ensures.audit.numbers (λ n. 1) in
          let b = c.learn_shards.ensures.audit.copies (segment_copy (λ n. 1)) in
          let d = c.learn_files.ensures.copies (segment_copy (λ n. 1)) in
          let e = empty (segment_copy (λ n. 1)) in
          let all = weigh_ones segments in
          let long = ap (λ (xs : List Registered). length xs) (map-id c.args.segments.now.items) in
          let lens = c.args.segments.now.ok.0 in
          let every = c.requires.every_segment in
          let layout = ap (λ x. x.segments) (key ∙ c.requires.layout) in omega arith;
      files =
          let a = c.learn_segments.ensures.audit.others (file_copy (λ n. 1)) (λ n marks. refl) in
          let b = c.learn_shards.ensures.audit.copies (file_copy (λ n. 1)) in
          let d = c.learn_files.ensures.copies (file_copy (λ n. 1)) in
          let e = empty (file_copy (λ n. 1)) in
          let all = weigh_ones files in
          let lens = c.args.files.now.ok.0 in
          let every = c.requires.every_file in
          let layout = ap (λ x. x.files) (key ∙ c.requires.layout) in omega arith;
      shards =
          let a = c.learn_segments.ensures.audit.others (shard_copy (λ n. 1)) (λ n marks. refl) in
          let b = c.learn_shards.ensures.audit.copies (shard_copy (λ n. 1)) in
          let d = c.learn_files.ensures.copies (shard_copy (λ n. 1)) in
          let e = empty (shard_copy (λ n. 1)) in
          let all = weigh_ones shards in
          let long = ap (λ (xs : List ShardNodes). length xs) (map-id c.args.shards.now.items) in
          let lens = c.args.shards.now.ok.0 in
          let every = c.requires.every_shard in omega arith;
    }

pub returns-clause-empty : goal.returns-clause-empty
returns-clause-empty g c =
    λ k other low.
    let segments : List Registered = map (λ s. s) c.args.segments.now.items in
    let shards : List ShardNodes = map (λ s. s) c.args.shards.now.items in
    let files : List FileView = c.args.files.now.items in
    let new : List Registered = c.learn_segments.new.segments.items in
    let same : new ≡ segments = sym (map-id new) ∙ c.learn_segments.ensures.same in
    let old : new ≡ c.args.segments.now.items = same ∙ map-id c.args.segments.now.items in
    let empty : (h : Copied → ℕ) → weigh h c.args.audit.now.copies ≡ 0 = λ h. ap (λ (v : CensusView). weigh h v.copies) c.requires.audit in
    let no_shards = weigh_nothing shards in
    let no_files = weigh_nothing files in
    let lodged = weigh_none (λ (v : FileView). weigh (λ (m : Mark). 1) v.tickets) files (λ i v got. ap (weigh (λ (m : Mark). 1)) (c.requires.files i v got).no_tickets) in
    let owned = weigh_none (λ (v : FileView). weigh (λ (e : TakenNumber). 1) v.tokens) files (λ i v got. ap (weigh (λ (e : TakenNumber). 1)) (c.requires.files i v got).no_tokens) in
    let taken : weigh (λ (s : ShardNodes). weigh (λ (e : TakenNumber). 1) s.taken) shards ≡ 0 =
    let a = c.learn_segments.ensures.audit.others (taken_copied (λ e. 1)) (λ n marks. refl) in
    let b = c.learn_shards.ensures.audit.copies (taken_copied (λ e. 1)) in
    let d = c.learn_files.ensures.copies (taken_copied (λ e. 1)) in
    let e = empty (taken_copied (λ e. 1)) in
    let a' = c.learn_segments.ensures.audit.others (tokens_copied (λ e. 1)) (λ n marks. refl) in
    let b' = c.learn_shards.ensures.audit.copies (tokens_copied (λ e. 1)) in
    let d' = c.learn_files.ensures.copies (tokens_copied (λ e. 1)) in
    let e' = empty (tokens_copied (λ e. 1)) in
    let even = c.settle.ensures.balanced.tokens (λ e. 1) in omega arith in
    let valid : weigh (λ (r : Registered). weigh (λ (m : Mark). 1) (marks_of r.segment)) segments ≡ 0 =
    let a = c.learn_segments.ensures.audit.marks (λ m. 1) in
    let b = c.learn_shards.ensures.audit.copies (marks_copied (λ m. 1)) in
    let d = c.learn_files.ensures.copies (marks_copied (λ m. 1)) in
    let e = empty (marks_copied (λ m. 1)) in
    let a' = c.learn_segments.ensures.audit.others (tickets_copied (λ m. 1)) (λ n marks. refl) in
    let b' = c.learn_shards.ensures.audit.copies (tickets_copied (λ m. 1)) in
    let d' = c.learn_files.ensures.copies (tickets_copied (λ m. 1)) in
    let e' = empty (tickets_copied (λ m. 1)) in
    let few = lodged_few shards in
    let even = c.settle.ensures.balanced.tickets (λ m. 1) in omega arith in
    let s = get_or new k other in
    let was = subst (AreSegments g.V.Numbers.GeometryName.geometry g.V.Books.BooksName.books.book g.V.Words.WordsName.words) (sym old) c.requires.segments k other low in
    record {
      shape_is = was.shape;
      number_is = was.number_is;
      none =
          let here = weigh-at (λ (r : Registered). weigh (λ (m : Mark). 1) (marks_of r.segment)) new k other low in
          let all = ap (weigh (λ (r : Registered). weigh (λ (m : Mark). 1) (marks_of r.segment))) same in
          let count = marks_count (address_of s.segment.shape s.segment.number 0) s.segment.summaries in omega arith;
    }
