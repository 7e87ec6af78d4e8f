use Rattle.std.proofs.Common.{refl, sym, ◌∙◌, ap, ℕ, List, add-one}
use Rattle.packs_journal.specs.Journal.{place_of as place_in, word_of, with_word, patched}
use Rattle.packs_journal.proofs.Rising.{patched_more}
use Rattle.packs_journal.proofs.changes.patch.Goals as goal

pub loop-n-init : goal.loop-n-init
unfolding patched
loop-n-init c = record { patched = refl }

pub loop-n-preserved : goal.loop-n-preserved
loop-n-preserved c =
    let n = c.loop-n.n in
    let changes = c.args.changes.now in
    record {
      patched = c.put_word.ensures
          ∙ ap (λ (p : ℕ). with_word p c.word_at.result.now c.loop-n.bytes) c.place_of.ensures
          ∙ ap (λ (w : List ℕ). with_word (place_in changes n) w c.loop-n.bytes) c.word_at.ensures.word
          ∙ ap (with_word (place_in changes n) (word_of changes n)) c.loop-n.invariant.patched
          ∙ sym (patched_more n changes changes c.args.bytes.now refl)
          ∙ ap (λ (m : ℕ). patched changes m c.args.bytes.now) (sym (add-one n));
    }
