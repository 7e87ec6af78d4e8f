use Rattle.std.proofs.Common.{◌≡◌, ap, sym, ◌∙◌, map, length, replicate, true}
use Rattle.std.proofs.lemmas.List.{length-map}
use Rattle.sit.specs.Summaries.{is_clear, count_of}
use Rattle.sit.specs.Segment.{Segment}
use Rattle.sit.proofs.Lists.{all_clear}
use Rattle.sit.proofs.body.Body.empty_into.Goals as goal

pub empty_into-requires-clause-whole : goal.empty_into-requires-clause-whole
empty_into-requires-clause-whole g c =
    let s = c.self.inside in
    let present : s.blocks.present ≡ map is_clear s.valid = ap (λ h. h.present) c.self.invariant.home_is in
    let none : count_of s.valid ≡ 0 = ap (λ (x : Segment). count_of x.summaries) c.self.view_is ∙ c.requires.none in
    let long : length s.blocks.present ≡ length s.valid = ap length present ∙ length-map s.valid is_clear in
    present ∙ all_clear s.valid none ∙ ap (λ n. replicate n true) (sym long)
