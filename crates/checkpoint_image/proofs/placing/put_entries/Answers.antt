-- Round by round the numbers that leave the shard's own by 16 are put, the lower ones first.
use Rattle.std.proofs.Common.{◌≡◌, ◌≢◌, refl, sym, ◌∙◌, ap, subst, ⊎_elim, ℕ, ◌+◌, ◌*◌, ◌%◌, ◌<◌, ◌≤◌, List, length, arith}
use Rattle.std.proofs.lemmas.Bool.{cases_eq}
use Rattle.packs_journal.specs.Places.{IsBody}
use Rattle.packs.proofs.Sizes.{is_body}
use Rattle.image.specs.Pack.{body_bytes, entry_bytes}
use Rattle.image_law.specs.Parts.{found}
use Rattle.checkpoint_image.specs.Cells.{shard_part}
use Rattle.checkpoint_image.specs.Touched.{AreTouched}
use Rattle.checkpoint_image.proofs.Touching.{untouched, touched_on}
use Rattle.checkpoint_image.proofs.placing.put_entries.Goals as goal

pub loop-round-init : goal.loop-round-init
loop-round-init g c = record {
  own = λ k below is low. absurd (omega (arith, is, low));
  others = λ k below apart. refl;
  behind = λ p n le. refl;
  long = refl;
  touched = untouched _ c.args.body.now;
}

pub put_entry-requires-clause-body : goal.put_entry-requires-clause-body
put_entry-requires-clause-body g c = subst IsBody (sym (c.loop-round.invariant.long ∙ c.requires.long)) (is_body c.args.geometry.now)

pub put_entry-requires-clause-long : goal.put_entry-requires-clause-long
put_entry-requires-clause-long g c = omega (arith, c.loop-round.invariant.long, c.requires.long)

pub put_entry-requires-clause-home : goal.put_entry-requires-clause-home
put_entry-requires-clause-home g c = omega (arith, c.requires.number, c.requires.shard.number)

pub loop-round-preserved : goal.loop-round-preserved
loop-round-preserved g c =
    let before = c.loop-round.invariant in
    let put = c.put_entry.ensures in
    let round = c.loop-round.round in
    let geometry = c.args.geometry.now in
    record {
      own = λ k below is low.
          ⊎_elim
          (λ here. put.own k below here ∙ ap (λ (n : ℕ). entry_bytes (found n (shard_part c.args.shard.now))) (sym here))
          (λ apart. put.others k below apart ∙ before.own k below is (omega (arith, is, low, apart, c.requires.number)))
          (cases_eq (k + 1) (16 * round + c.args.number));
      others = λ k below apart. put.others k below (λ same. apart (omega (arith, same, c.requires.number))) ∙ before.others k below apart;
      behind = λ p n le. put.behind p n le ∙ before.behind p n le;
      long = put.long ∙ before.long;
      touched = touched_on _ c.args.body.now c.loop-round.body c.put_entry.new.body before.touched
          (subst (λ (len : ℕ). AreTouched len c.loop-round.body c.put_entry.new.body) (before.long ∙ c.requires.long) put.touched);
    }

pub returns-clause-own : goal.returns-clause-own
returns-clause-own g c = λ k below is. c.loop-round.invariant.own k below is (omega (arith, below, is, c.requires.number))
