use Rattle.std.proofs.Common.{◌≡◌, ◌∙◌, refl, sym, subst}
use Rattle.std.specs.Prelude.{All, count_by, sum_by}
use Rattle.std.proofs.lemmas.List.Elements.{All-map}
use Rattle.image.specs.declared.image.SegmentInfo.{SegmentInfo as SegmentValue}
use Rattle.image.specs.Image.{SegmentInfo}
use Rattle.image.specs.View.{info_view}
use Rattle.image_checker.proofs.RangeLemmas.{all_unmap}
use Rattle.image_checker.proofs.FaultLemmas.{sum_view}
use Rattle.image_checker.proofs.numbers.numbers_agree.Goals as goal

pub returns-then-not-counts_agree : goal.returns-then-not-counts_agree
returns-then-not-counts_agree c = (
  λ e. absurd cc,
  λ r.
      let yes = c.counts_agree.ensures.1 (subst (λ xs. All (λ (s : SegmentValue). s.count ≡ count_by (λ bit. bit) s.bits.items) xs) (sym c.deref.ensures.value)
      (all_unmap (λ (s : SegmentInfo). s.count ≡ count_by (λ bit. bit) s.bits) info_view c.args.image.now.sit.items r.counts)) in
      let no = c.if-not-counts_agree.true in cc,
)

pub returns-then-from-sum_of_counts : goal.returns-then-from-sum_of_counts
returns-then-from-sum_of_counts c = (
  λ e. absurd cc,
  λ r. absurd (c.if-from-sum_of_counts.true
      (c.from.ensures ∙ r.total ∙ sum_view c.args.image.now.sit.items
      ∙ sym (c.sum_of_counts.ensures ∙ (let v = c.deref-2.ensures.value in subst (λ xs. sum_by (λ (s : SegmentValue). s.count) c.deref-2.result.now ≡ sum_by (λ (s : SegmentValue). s.count) xs) v refl)))),
)

pub returns : goal.returns
returns c = (
  λ yes. record {
    counts = All-map (λ (s : SegmentInfo). s.count ≡ count_by (λ bit. bit) s.bits) info_view c.args.image.now.sit.items
        (subst (λ xs. All (λ (s : SegmentValue). s.count ≡ count_by (λ bit. bit) s.bits.items) xs) c.deref.ensures.value (c.counts_agree.ensures.0 c.if-not-counts_agree.false));
    total = sym c.from.ensures ∙ c.if-from-sum_of_counts.false ∙ c.sum_of_counts.ensures
        ∙ subst (λ xs. sum_by (λ (s : SegmentValue). s.count) c.deref-2.result.now ≡ sum_by (λ (s : SegmentValue). s.count) xs) c.deref-2.ensures.value refl
        ∙ sym (sum_view c.args.image.now.sit.items);
    logs = c.logs_are_ahead.ensures.0 c.if-not-logs_are_ahead.false;
    lengths = c.lengths_hold.ensures.0 yes;
  },
  λ r. c.lengths_hold.ensures.1 r.lengths,
)
