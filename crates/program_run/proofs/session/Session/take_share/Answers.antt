-- The passes that the tasks name move to the share at their own places, and the others stay: so both lists have each
-- pass at the place of its file.
use Rattle.std.proofs.Common.{◌≡◌, ◌∙◌, subst, refl, arith, length}
use Rattle.std.specs.Vec.{with_items}
use Rattle.std.proofs.lemmas.List.{with_items_is}
use Rattle.program_run.specs.Files.{Files}
use Rattle.program_run.specs.Share.{IsShare, NamesFile, files_named, readers_named}
use Rattle.program_run.proofs.Sharing.{moved_whole, rest_placed, share_placed}
use Rattle.program_run.proofs.session.Session.take_share.Goals as goal

pub invariant_of-result : goal.invariant_of-result
invariant_of-result g c =
    let s = c.self.inside in
    let geometry = g.V.Numbers.GeometryName.geometry in
    let tasks = c.args.tasks.now in
    let share = c.move_items.new.to in
    let rest = c.move_items.new.from in
    let whole : length share ≡ c.in_ok-passes.passes.len = omega (arith, c.move_items.auto.to, c.deref_mut-2.ensures.len) in
    let moved = moved_whole c.as_slice.result.now (files_named tasks) c.deref_mut.result.now s.passes.items share (with_items c.in_ok-passes.passes share).items rest rest
    (c.as_slice.ensures.value ∙ c.in_ok-files.ensures.files) c.deref_mut.ensures.value (with_items_is c.in_ok-passes.passes share whole) refl c.move_items.ensures
    in (
      share_placed geometry.files (NamesFile tasks) s.passes.items (with_items c.in_ok-passes.passes share).items rest c.self.invariant.0 moved,
      omega (arith, c.in_ok-block.block.ok.0, c.in_ok-block.ensures.len, c.len.ensures, s.block.ok.0, c.self.invariant.1),
    )

pub invariant_of-self : goal.invariant_of-self
invariant_of-self g c =
    let s = c.self.inside in
    let geometry = g.V.Numbers.GeometryName.geometry in
    let tasks = c.args.tasks.now in
    let share = c.move_items.new.to in
    let rest = c.move_items.new.from in
    let whole : length rest ≡ s.passes.len = omega (arith, c.move_items.auto.from, c.deref_mut.ensures.len) in
    let moved = moved_whole c.as_slice.result.now (files_named tasks) c.deref_mut.result.now s.passes.items share share rest (with_items s.passes rest).items
    (c.as_slice.ensures.value ∙ c.in_ok-files.ensures.files) c.deref_mut.ensures.value refl (with_items_is s.passes rest whole) c.move_items.ensures
    in
    (rest_placed geometry.files (NamesFile tasks) s.passes.items share (with_items s.passes rest).items c.self.invariant.0 moved, c.self.invariant.1)

pub returns-clause-share : goal.returns-clause-share
returns-clause-share g c =
    let s = c.self.inside in
    let geometry = g.V.Numbers.GeometryName.geometry in
    let tasks = c.args.tasks.now in
    let passes = c.move_items.new.to in
    let passes_left = c.move_items.new.from in
    let readers = c.move_items-2.new.to in
    let readers_left = c.move_items-2.new.from in
    let count : length passes ≡ c.in_ok-passes.passes.len = omega (arith, c.move_items.auto.to, c.deref_mut-2.ensures.len) in
    let count_left : length passes_left ≡ s.passes.len = omega (arith, c.move_items.auto.from, c.deref_mut.ensures.len) in
    let shown : length readers ≡ c.in_ok-readers.readers.len = omega (arith, c.move_items-2.auto.to, c.deref_mut-4.ensures.len) in
    let shown_left : length readers_left ≡ s.readers.len = omega (arith, c.move_items-2.auto.from, c.deref_mut-3.ensures.len) in
    let old : Files = record { geometry = geometry; time = s.time; passes = s.passes.items; readers = s.readers.items } in
    let share : Files = record old { passes = (with_items c.in_ok-passes.passes passes).items; readers = (with_items c.in_ok-readers.readers readers).items } in
    let rest : Files = record old { passes = (with_items s.passes passes_left).items; readers = (with_items s.readers readers_left).items } in
    subst (λ f. IsShare tasks f share rest) c.self.view_is record {
      passes = moved_whole c.as_slice.result.now (files_named tasks) c.deref_mut.result.now s.passes.items passes share.passes passes_left rest.passes
          (c.as_slice.ensures.value ∙ c.in_ok-files.ensures.files) c.deref_mut.ensures.value
          (with_items_is c.in_ok-passes.passes passes count) (with_items_is s.passes passes_left count_left) c.move_items.ensures;
      readers = moved_whole c.as_slice-2.result.now (readers_named tasks) c.deref_mut-3.result.now s.readers.items readers share.readers readers_left rest.readers
          (c.as_slice-2.ensures.value ∙ c.in_ok-shown.ensures.readers) c.deref_mut-3.ensures.value
          (with_items_is c.in_ok-readers.readers readers shown) (with_items_is s.readers readers_left shown_left) c.move_items-2.ensures;
      share_numbers = refl;
      rest_numbers = refl;
      share_time = refl;
      rest_time = refl;
    }
