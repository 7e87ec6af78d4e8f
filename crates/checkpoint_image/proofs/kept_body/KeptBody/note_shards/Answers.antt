-- One after another each is noted, and those before it stay noted.
use Rattle.std.proofs.Common.{rules, ◌≡◌, ◌∙◌, refl, sym, ap, subst, ⊎_elim, ℕ, ◌+◌, ◌<◌, length, map, arith}
use Rattle.std.specs.Prelude.{Some}
use Rattle.std.proofs.lemmas.List.{length-map}
use Rattle.atomic_table.specs.Seated.{TableId}
use Rattle.geometry.specs.declared.geometry.Geometry.{Geometry}
use Rattle.image.specs.Pack.{body_bytes}
use Rattle.nat.specs.Shard.{ShardNodes}
use Rattle.nat.specs.Noted.{shard_row}
use Rattle.checkpoint_image.specs.Cells.{IsShardAt}
use Rattle.checkpoint_image.specs.Kept.{row_at}
use Rattle.checkpoint_image.specs.Touched.{AreTouched}
use Rattle.checkpoint_image.proofs.Touching.{untouched, touched_on}
use Rattle.checkpoint_image.proofs.KeptRows.{part_of, got_below, noted_more}
use Rattle.checkpoint_image.proofs.Turning.{looked_at, set_shown}
use Rattle.checkpoint_image.proofs.kept_body.KeptBody.note_shards.Goals as goal

pub loop-number-init : goal.loop-number-init
loop-number-init g c = record {
  same = refl;
  there = c.requires.there;
  noted = λ k s below at. absurd (omega (arith, below));
  segments = λ k below. refl;
  touched = untouched _ c.args.self.now.body;
  numbers = (refl, refl);
}

pub note_shard-requires-clause-shard : goal.note_shard-requires-clause-shard
note_shard-requires-clause-shard g c =
    let shown = g.H.HoldsShard.shown in
    let x = c.index_mut.result.now in
    let here = looked_at shown c.loop-number.shards.items c.args.shards.now.items c.loop-number.number c.index_mut.result.now c.loop-number.invariant.same c.index_mut.ensures.value (search rules) in
    subst (λ (geometry : Geometry). IsShardAt geometry c.loop-number.number (shown x)) (sym c.loop-number.invariant.numbers.0) (c.requires.shards c.loop-number.number (shown x) here.there)

pub note_shard-requires-clause-part : goal.note_shard-requires-clause-part
note_shard-requires-clause-part g c =
    let shown = g.H.HoldsShard.shown in
    let x = c.index_mut.result.now in
    let here = looked_at shown c.loop-number.shards.items c.args.shards.now.items c.loop-number.number c.index_mut.result.now c.loop-number.invariant.same c.index_mut.ensures.value (search rules) in
    c.requires.parts c.loop-number.number (shown x) here.there
    ∙ ap (λ (book : TableId). Some (part_of book (c.args.self.now.geometry.segments + c.loop-number.number))) (sym c.loop-number.invariant.numbers.1)
    ∙ ap (λ (geometry : Geometry). Some (part_of c.loop-number.self.rows (geometry.segments + c.loop-number.number))) (sym c.loop-number.invariant.numbers.0)

pub loop-number-preserved : goal.loop-number-preserved
loop-number-preserved g c =
    let shown = g.H.HoldsShard.shown in
    let number = c.loop-number.number in
    let x = c.index_mut.result.now in
    let before = c.loop-number.invariant in
    let here = looked_at shown c.loop-number.shards.items c.args.shards.now.items c.loop-number.number c.index_mut.result.now c.loop-number.invariant.same c.index_mut.ensures.value (search rules) in
    let turn = c.note_shard.ensures in
    let old = c.args.self.now in
    let was = c.loop-number.self in
    let now = c.note_shard.new.self in
    record {
      same = set_shown shown c.loop-number.shards.items (map shown c.args.shards.now.items) number x c.note_shard.new.shard before.same c.index_mut.ensures.value turn.same;
      there = turn.there;
      noted = noted_more (λ (s : ShardNodes). shard_row s.taken) (λ k. old.geometry.segments + k) (map shown c.args.shards.now.items) was.twins.items now.twins.items number (shown x) here.there
          (subst (λ (geometry : Geometry). row_at now.twins.items (geometry.segments + number) ≡ shard_row (shown x).taken) before.numbers.0 turn.noted)
          (λ k apart. turn.others (old.geometry.segments + k) (λ same. apart (omega (arith, same, ap (λ (geometry : Geometry). geometry.segments) before.numbers.0))))
          before.noted;
      segments = λ k below. turn.others k (λ same. absurd (omega (arith, same, below, ap (λ (geometry : Geometry). geometry.segments) before.numbers.0))) ∙ before.segments k below;
      touched = touched_on (body_bytes old.geometry) old.body was.body now.body before.touched
          (subst (λ (geometry : Geometry). AreTouched (body_bytes geometry) was.body now.body) before.numbers.0 turn.touched);
      numbers = (turn.numbers.0 ∙ before.numbers.0, turn.numbers.1 ∙ before.numbers.1);
    }

pub returns-clause-noted : goal.returns-clause-noted
returns-clause-noted g c = λ k s at.
    let shown = g.H.HoldsShard.shown in
    let below = got_below (map shown c.args.shards.now.items) k s at in
    let long = length-map c.args.shards.now.items shown in
    c.loop-number.invariant.noted k s (omega (arith, below, long)) at
