-- The passes that come back are placed as those that stayed: so both lists have each pass at the place of its file.
use Rattle.std.proofs.Common.{◌≡◌, ◌∙◌, ap, sym, subst, refl, arith, length}
use Rattle.std.specs.Vec.{with_items}
use Rattle.std.proofs.lemmas.List.{with_items_is}
use Rattle.geometry.specs.declared.geometry.Geometry.{Geometry}
use Rattle.program_run.specs.Files.{Files, StandInPlace}
use Rattle.program_run.specs.Share.{AreJoined, IsPutBack}
use Rattle.program_run.proofs.Sharing.{joined_placed}
use Rattle.program_run.proofs.session.Session.put_back.Goals as goal

pub invariant_of-self : goal.invariant_of-self
invariant_of-self g c =
    let s = c.self.inside in
    let files = g.V.Numbers.GeometryName.geometry.files in
    let back = c.in_ok-passes.passes.items in
    let new = c.join_items.new.to in
    let placed = subst (λ n. StandInPlace n back) (ap (λ (x : Geometry). x.files) c.geometry-files.ensures) c.in_ok-passes.ensures.placed in
    let joined = subst (λ rest. AreJoined rest back new) c.deref_mut.ensures.value c.join_items.ensures in
    let count : length new ≡ s.passes.len = omega (arith, joined.count, s.passes.ok.0) in (
      subst (StandInPlace files) (sym (with_items_is s.passes new count)) (joined_placed files s.passes.items back new c.self.invariant.0 placed joined),
      c.self.invariant.1,
    )

pub returns-clause-joined : goal.returns-clause-joined
returns-clause-joined g c =
    let s = c.self.inside in
    let geometry = g.V.Numbers.GeometryName.geometry in
    let back = c.in_ok-passes.passes.items in
    let shown = c.split-rights.result.1.items in
    let new = c.join_items.new.to in
    let new_shown = c.join_items-2.new.to in
    let joined = subst (λ rest. AreJoined rest back new) c.deref_mut.ensures.value c.join_items.ensures in
    let joined_shown = subst (λ rest. AreJoined rest shown new_shown) c.deref_mut-2.ensures.value c.join_items-2.ensures in
    let count : length new ≡ s.passes.len = omega (arith, joined.count, s.passes.ok.0) in
    let count_shown : length new_shown ≡ s.readers.len = omega (arith, joined_shown.count, s.readers.ok.0) in
    let old : Files = record { geometry = geometry; time = s.time; passes = s.passes.items; readers = s.readers.items } in
    let share : Files = record old { passes = back; readers = shown } in
    let next : Files = record old { passes = (with_items s.passes new).items; readers = (with_items s.readers new_shown).items } in
    subst (λ f. IsPutBack geometry f c.args.share next) c.self.view_is record {
      share = share;
      lends = record {
        numbers = refl;
        placed = subst (λ n. StandInPlace n back) (ap (λ (x : Geometry). x.files) c.geometry-files.ensures) c.in_ok-passes.ensures.placed;
        time_is = refl;
        passes_are = c.in_ok-passes.ensures.passes ∙ c.split-rights.ensures.passes;
        readers_are = c.split-rights.ensures.readers;
      };
      joined = record {
        passes = subst (AreJoined s.passes.items back) (sym (with_items_is s.passes new count)) joined;
        readers = subst (AreJoined s.readers.items shown) (sym (with_items_is s.readers new_shown count_shown)) joined_shown;
        numbers = refl;
        time = refl;
      };
    }
