-- A pass moves between lists at the same place only, so in the share, in the rest and once both are joined it stands at
-- the place of its file.
use Rattle.std.proofs.Common.{◌≡◌, ◌⊎◌, ◌∙◌, ℕ, ◌+◌, ◌<◌, sym, subst, arith, inl, inr, List, length, get_or, Option, Some, None}
use Rattle.std.specs.List.{Contains}
use Rattle.std.specs.Option.{option_or}
use Rattle.std.proofs.lemmas.Bool.{cases_eq, cases_lt}
use Rattle.std.proofs.lemmas.List.{get_or_past}
use Rattle.file_cells.specs.Pass.{Pass}
use Rattle.program_run.specs.Files.{StandInPlace}
use Rattle.program_run.specs.Share.{AreJoined, AreMoved}

-- what is one of two is the first or the second
either : (one other : Option Pass) (pass : Pass) → option_or one other ≡ Some pass → (one ≡ Some pass) ⊎ (other ≡ Some pass)
either None other pass is = inr is
either (Some first) other pass is = inl is

module _ (files : ℕ) (IsNamed : ℕ → Type 0) (old share rest : List (Option Pass)) (placed : StandInPlace files old) (moved : AreMoved IsNamed old share rest) where
  -- a place that neither list has
  none_past : (places : List (Option Pass)) (k : ℕ) (pass : Pass) → length places ≡ length old → get_or places k None ≡ Some pass → k < length old
  none_past places k pass count at = elim (cases_lt k (length old)) [
    | inl low ↦ low
    | inr past ↦ absurd (let none = get_or_past places k None (omega (arith, count)) in let no = sym none ∙ at in cc)
  ]

  pub share_placed : StandInPlace files share
  share_placed = record {
    count = moved.share_count ∙ placed.count;
    numbers = λ k pass at. elim (cases_eq pass.number (k + 1)) [
      | inl e ↦ e
      | inr ne ↦
          let low = none_past share k pass moved.share_count at in
          let unnamed : ¬ (IsNamed (k + 1)) = λ named. ne (placed.numbers k pass (sym (moved.moved k low named).0 ∙ at)) in
          absurd (let none = (moved.stayed k low unnamed).0 in let no = sym none ∙ at in cc)
    ];
  }

  pub rest_placed : StandInPlace files rest
  rest_placed = record {
    count = moved.rest_count ∙ placed.count;
    numbers = λ k pass at. elim (cases_eq pass.number (k + 1)) [
      | inl e ↦ e
      | inr ne ↦
          let low = none_past rest k pass moved.rest_count at in
          let named : ¬ (¬ (IsNamed (k + 1))) = λ unnamed. ne (placed.numbers k pass (sym (moved.stayed k low unnamed).1 ∙ at)) in
          absurd (named (λ is. let none = (moved.moved k low is).1 in let no = sym none ∙ at in cc))
    ];
  }

-- and once the share is back
pub joined_placed : (files : ℕ) (rest share new : List (Option Pass)) → StandInPlace files rest → StandInPlace files share → AreJoined rest share new → StandInPlace files new
joined_placed files rest share new placed_rest placed_share joined = record {
  count = joined.count ∙ placed_rest.count;
  numbers = λ k pass at. elim (cases_lt k (length rest)) [
    | inl low ↦ elim (either (get_or share k None) (get_or rest k None) pass (sym (joined.places k low) ∙ at)) [
      | inl of_share ↦ placed_share.numbers k pass of_share
      | inr of_rest ↦ placed_rest.numbers k pass of_rest
    ]
    | inr past ↦ absurd (let none = get_or_past new k None (omega (arith, joined.count)) in let no = sym none ∙ at in cc)
  ];
}

-- the same of lists that are equal to these
pub moved_whole : {T : Type 0} (numbers named : List ℕ) (from old share share' rest rest' : List (Option T)) → numbers ≡ named → from ≡ old → share' ≡ share → rest' ≡ rest
    → AreMoved (Contains numbers) from share rest → AreMoved (Contains named) old share' rest'
moved_whole numbers named from old share share' rest rest' names begun takes leaves moved =
    subst (λ ns. AreMoved (Contains ns) old share' rest') names
    (subst (λ o. AreMoved (Contains numbers) o share' rest') begun
    (subst (λ s. AreMoved (Contains numbers) from s rest') (sym takes)
    (subst (λ r. AreMoved (Contains numbers) from share r) (sym leaves) moved)))
