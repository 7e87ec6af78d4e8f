-- A word that differs is noted behind those before it; one that is the same needs no change.
use Rattle.std.proofs.Common.{◌≡◌, refl, sym, ◌∙◌, ap, subst, inl, inr, ◌⊎◌, ⊎_elim, ℕ, suc, ◌+◌, ◌-◌, ◌*◌, ◌/◌, ◌<◌, ◌≤◌, List, length, take, drop, arith, length-drop}
use Rattle.packs_journal.specs.Places.{most_changes}
use Rattle.std.specs.Prelude.{min}
use Rattle.std.proofs.lemmas.Bool.{cases_lt}
use Rattle.std.proofs.lemmas.List.{length-take-le}
use Rattle.device.specs.Disk.{part}
use Rattle.packs_journal.specs.declared.changes.Changes.{Changes}
use Rattle.packs_journal.specs.Journal.{word_of, AreRising, IsPatchedTo, ArePages}
use Rattle.packs_journal.proofs.Patching.{same_word, noted_word}
use Rattle.packs_journal.proofs.Rising.{rises_more, rising_on}
use Rattle.packs_journal.proofs.difference.note_page.Goals as goal
use Rattle.packs_journal.proofs.difference.note_page.Goals.{else-not-are_same-via-then-not-are_same+else-not-note, else-not-are_same-via-else-not-are_same}

-- how long word w of a page of l bytes is
module _ (w l end : ℕ) (is : end ≡ min (8 * w + 8) l) (some : w < (l + 7) / 8) where
  within : 8 * w + (end - 8 * w) ≤ l
  within = omega (arith, is, some)

  positive : 0 < end - 8 * w
  positive = omega (arith, is, some)

  few : end - 8 * w ≤ 8
  few = omega (arith, is)

  last : (end - 8 * w ≡ 8) ⊎ (8 * w + (end - 8 * w) ≡ l)
  last = ⊎_elim (λ more. inl (omega (arith, is, more))) (λ less. inr (omega (arith, is, some, less))) (cases_lt (8 * w + 7) l)

  begins : min (8 * w) l ≡ 8 * w
  begins = omega (arith, some)

  ends : min (8 * (w + 1)) l ≡ 8 * w + (end - 8 * w)
  ends = omega (arith, is, some)

next_at : (k w n m : ℕ) → m ≡ 8 * w + n → 4096 * k + 8 * w + n ≡ 4096 * k + m
next_at k w n m is = omega (arith, is)

pub loop-w-preserved : goal.loop-w-preserved
loop-w-preserved c =
    let k = c.args.k in
    let w = c.loop-w.w in
    let inv = c.loop-w.invariant in
    let new = c.args.new.now in
    let l = length new in
    let end = c.min-end.result in
    let is = c.min-end.ensures in
    let some = c.loop-w-test.true in
    let n = end - 8 * w in
    let was = c.loop-w.changes in
    let at = next_at k w n (min (8 * (w + 1)) l) (ends w l end is some) in
    let start : (before after : List ℕ) → ArePages k c.args.old.now new before after → IsPatchedTo c.args.changes.now.bytes c.args.changes.now.count before after (4096 * k)
    → IsPatchedTo was.bytes was.count before after (4096 * k + 8 * w)
    = λ before after pages first. subst (λ (i : ℕ). IsPatchedTo was.bytes was.count before after (4096 * k + i)) (begins w l end is some) (inv.patched before after pages first) in
    elim c.else-not-are_same.branch [
      | else-not-are_same-via-then-not-are_same+else-not-note v ↦
          let now = v.note.new.self in
          let e = v.if-not-note.ensures in
          let count : now.count ≡ suc was.count = omega (arith, e.count refl) in
          let long : length (part (8 * w) n new) ≡ n = length-take-le n (drop (8 * w) new) (omega (arith, within w l end is some, length-drop (8 * w) new)) in
          let word : take n (word_of now.bytes was.count) ≡ part (8 * w) n new = ap (λ (i : ℕ). take i (word_of now.bytes was.count)) (sym long) ∙ e.word refl in
          record {
            patched = λ before after pages first.
                let more = noted_word k c.args.old.now new before after pages was.bytes now.bytes was.count w n (within w l end is some) (positive w l end is some) (few w l end is some) (last w l end is some) c.requires.long.1
                e.others (e.place refl) word (omega (arith, e.long, e.few, count)) (start before after pages first) in
                subst (λ (x : Changes). IsPatchedTo x.bytes x.count before after (4096 * k + min (8 * (w + 1)) l)) (sym v.changes-is)
                (subst (λ (m : ℕ). IsPatchedTo now.bytes m before after (4096 * k + min (8 * (w + 1)) l)) (sym count)
                (subst (λ (i : ℕ). IsPatchedTo now.bytes (suc was.count) before after i) at more));
            rises = λ words enough first.
                let more = rises_more words was.count (512 * k + w) was.bytes now.bytes (512 * k + w) e.others (e.place refl) (inv.rises words enough first) (omega arith) (omega (arith, enough, some)) in
                subst (λ (x : Changes). AreRising words x.bytes x.count (512 * k + (w + 1))) (sym v.changes-is)
                (subst (λ (m : ℕ). AreRising words now.bytes m (512 * k + (w + 1))) (sym count)
                (rising_on words now.bytes (suc was.count) (suc (512 * k + w)) (512 * k + (w + 1)) (omega arith) more));
            few = subst (λ (x : Changes). x.count ≤ most_changes) (sym v.changes-is) e.few;
            pages = ap (λ (x : Changes). x.pages) v.changes-is ∙ e.pages ∙ inv.pages;
          }
      | else-not-are_same-via-else-not-are_same v ↦
          let same = c.are_same.ensures v.if-not-are_same.false in
          record {
            patched = λ before after pages first.
                let more = same_word k c.args.old.now new before after pages was.bytes was.count (8 * w) n (within w l end is some) same (start before after pages first) in
                subst (λ (x : Changes). IsPatchedTo x.bytes x.count before after (4096 * k + min (8 * (w + 1)) l)) (sym v.changes-is)
                (subst (λ (i : ℕ). IsPatchedTo was.bytes was.count before after i) at more);
            rises = λ words enough first.
                subst (λ (x : Changes). AreRising words x.bytes x.count (512 * k + (w + 1))) (sym v.changes-is)
                (rising_on words was.bytes was.count (512 * k + w) (512 * k + (w + 1)) (omega arith) (inv.rises words enough first));
            few = subst (λ (x : Changes). x.count ≤ most_changes) (sym v.changes-is) inv.few;
            pages = ap (λ (x : Changes). x.pages) v.changes-is ∙ inv.pages;
          }
    ]
