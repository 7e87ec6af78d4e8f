-- By the image's rules a log's segment has no valid block from the next place on, and the count tells whether any is
-- valid: so one of the three states fits, and it joins those before.
use Rattle.std.proofs.Common.{◌≡◌, ◌∷◌, ◌++◌, [], set, Some, sym, ap, subst, ◌∙◌, arith}
use Rattle.geometry.specs.declared.state.State.TheVariants.{Free, Open, Sealed}
use Rattle.image.specs.View.{image_view}
use Rattle.words.specs.Tokens.{Post}
use Rattle.sit.specs.Segment.{Segment}
use Rattle.mount_blocks.specs.States.{AreSegmentsFrom}
use Rattle.mount_blocks.proofs.Bits.{counted}
use Rattle.mount_blocks.proofs.States.{log_fits, state_open, state_free, state_sealed, segment_in, goes_on_open, goes_on_free, goes_on_sealed, few_slips, sealed_table, some_within}
use Rattle.mount_blocks.proofs.settling.LoadedSegments.settle.Goals as goal

pub into_open-state-requires-clause-next : goal.into_open-state-requires-clause-next
into_open-state-requires-clause-next g c =
    log_fits c.args.geometry.now (image_view c.args.image.now) c.requires.lawful c.args.number c.in-Some.log c.in-Some.place c.args.loading.summaries c.in-Some.ensures.0 c.in-Some.ensures.1 c.requires.owners

pub index_mut-requires : goal.index_mut-requires
index_mut-requires g c =
    let range = c.requires.lawful 1 (omega arith) (omega arith) in
    let many = range.logs in
    let low = some_within (image_view c.args.image.now).logs c.in-Some.log c.in-Some.place c.in-Some.ensures.0 in
    let six = c.requires.before.six in
    omega arith

pub push_reserved-requires-then-valid-eq0 : goal.push_reserved-requires-then-valid-eq0
push_reserved-requires-then-valid-eq0 g c =
    let few = few_slips c.args.self.now.states.items c.args.self.now.free.items c.requires.before.slips in
    let count = c.requires.before.count in
    let fit = c.requires.free in
    omega arith

pub into_free-requires-clause-none : goal.into_free-requires-clause-none
into_free-requires-clause-none g c =
    let valid = c.numbers_of-valid.ensures.count in
    counted c.args.geometry.now (image_view c.args.image.now) c.requires.lawful c.args.number c.args.loading.summaries c.requires.number c.requires.owners ∙ (sym valid ∙ omega arith)

pub into_sealed-state-requires-clause-some : goal.into_sealed-state-requires-clause-some
into_sealed-state-requires-clause-some g c =
    let valid = c.numbers_of-valid.ensures.count in
    let count = counted c.args.geometry.now (image_view c.args.image.now) c.requires.lawful c.args.number c.args.loading.summaries c.requires.number c.requires.owners in
    omega arith

pub returns-in-Some-clause-segments : goal.returns-in-Some-clause-segments
returns-in-Some-clause-segments g c =
    let geometry = c.args.geometry.now in
    let image = image_view c.args.image.now in
    let table = c.args.words.now.table in
    let self = c.args.self.now in
    let r = c.into_open-state.result.0 in
    let place = c.in-Some.place in
    let log = c.in-Some.log in
    let slip = c.store.result in
    let is = c.into_open-state.ensures.segment in
    let table_is : r.table ≡ table = c.into_open-state.ensures.life.3 ∙ ap (λ (p : Post). p.table) c.requires.standing in
    let in_state = state_open geometry image c.requires.lawful c.args.number log place c.in-Some.ensures.0 c.in-Some.ensures.1 in
    let here = segment_in geometry image c.args.books.now.book table c.args.loading r c.args.number Open place.next c.numbers_of-valid.result.1 c.requires.number c.requires.whose.0 c.requires.whose.1 c.requires.owners is c.numbers_of-valid.ensures.mtime in_state
    (c.into_open-state.ensures.book ∙ c.requires.whose.2) table_is in
    let slip_is : slip ≡ record { table = table; segment = c.args.number } = c.store.ensures ∙ (c.into_open-state.ensures.slip ∙ (λ k. record { table = table_is k; segment = here.number_is k })) in
    let next = goes_on_open geometry image c.args.books.now.book table c.args.number self.states.items self.free.items self.logs.items c.requires.before r here c.requires.lawful log place slip c.in-Some.ensures.0 c.in-Some.ensures.1
    (ap (λ (s : Segment). s.state) is) slip_is in
    subst (λ xs. AreSegmentsFrom geometry image c.args.books.now.book table c.args.number xs self.free.items (set self.logs.items log (Some slip))) (sym c.push_reserved.ensures.items) next

pub returns-then-valid-eq0-clause-segments : goal.returns-then-valid-eq0-clause-segments
returns-then-valid-eq0-clause-segments g c =
    let geometry = c.args.geometry.now in
    let image = image_view c.args.image.now in
    let table = c.args.words.now.table in
    let self = c.args.self.now in
    let r = c.into_free.result in
    let is = c.into_free.ensures.segment in
    let table_is : r.table ≡ table = ap (λ (p : Post). p.table) (c.into_free.ensures.standing ∙ c.requires.standing) in
    let valid = c.numbers_of-valid.ensures.count in
    let in_state = state_free image c.args.number c.in-None.ensures (sym valid ∙ omega arith) in
    let here = segment_in geometry image c.args.books.now.book table c.args.loading r c.args.number Free 0 c.numbers_of-valid.result.1 c.requires.number c.requires.whose.0 c.requires.whose.1 c.requires.owners is c.numbers_of-valid.ensures.mtime in_state
    (c.into_free.ensures.book ∙ c.requires.whose.2) table_is in
    let next = goes_on_free geometry image c.args.books.now.book table c.args.number self.states.items self.free.items self.logs.items c.requires.before r here c.in-None.ensures (ap (λ (s : Segment). s.state) is) in
    let slips = c.push_reserved-then-valid-eq0.ensures.items ∙ ap (λ s. self.free.items ++ s ∷ []) c.requires.slip in
    subst (λ xs. AreSegmentsFrom geometry image c.args.books.now.book table c.args.number xs c.push_reserved-then-valid-eq0.new.self.items self.logs.items) (sym c.push_reserved-then-valid-eq0-2.ensures.items)
    (subst (λ fs. AreSegmentsFrom geometry image c.args.books.now.book table c.args.number (self.states.items ++ r ∷ []) fs self.logs.items) (sym slips) next)

pub returns-else-valid-eq0-clause-segments : goal.returns-else-valid-eq0-clause-segments
returns-else-valid-eq0-clause-segments g c =
    let geometry = c.args.geometry.now in
    let image = image_view c.args.image.now in
    let table = c.args.words.now.table in
    let self = c.args.self.now in
    let r = c.into_sealed-state.result in
    let is = c.into_sealed-state.ensures.segment in
    let table_is : r.table ≡ table = sealed_table c.args.right.standing (record { table = r.table; life = r.life }) c.into_sealed-state.ensures.life ∙ ap (λ (p : Post). p.table) c.requires.standing in
    let valid = c.numbers_of-valid.ensures.count in
    let in_state = state_sealed image c.args.number c.in-None.ensures (λ e. absurd (omega arith)) in
    let here = segment_in geometry image c.args.books.now.book table c.args.loading r c.args.number Sealed 0 c.numbers_of-valid.result.1 c.requires.number c.requires.whose.0 c.requires.whose.1 c.requires.owners is c.numbers_of-valid.ensures.mtime in_state
    (c.into_sealed-state.ensures.book ∙ c.requires.whose.2) table_is in
    let next = goes_on_sealed geometry image c.args.books.now.book table c.args.number self.states.items self.free.items self.logs.items c.requires.before r here c.in-None.ensures (ap (λ (s : Segment). s.state) is) in
    subst (λ xs. AreSegmentsFrom geometry image c.args.books.now.book table c.args.number xs self.free.items self.logs.items) (sym c.push_reserved-else-valid-eq0.ensures.items) next
