-- The program's words are plain enough that the first subcommand met is the one that was asked for, with its value: so
-- each answer is read off it, and a line with a fault never gets so far.
use Rattle.std.proofs.Common.{refl, sym, ◌∙◌, ap, List, codes, map, option_map}
use Rattle.std.specs.Prelude.{option_and_then}
use Rattle.clap.specs.Words.{App, Text, fault_of, found_of, is_simple, first_of, is_simple_and_free, subcommand_of, subcommand_rows_of}
use Rattle.clap.proofs.WalkLemmas.{first_value-rows}
use Rattle.program_script.proofs.CallLemmas.{first_met, name_met, program_is_free, program_is_simple}
use Rattle.program_script.proofs.words.parsed.Goals as goal

pub returns-in-Some-clause-faultless : goal.returns-in-Some-clause-faultless
returns-in-Some-clause-faultless g c =
    let is = c.in_ok-program.ensures in
    let words : List Text = map g.S.AsStr.text c.args.words.now in
    sym (ap (λ (a : App). fault_of a words) is) ∙ c.in_ok-matches.ensures.kinds (ap is_simple_and_free is ∙ program_is_free)

pub returns-in-Some-clause-asked : goal.returns-in-Some-clause-asked
returns-in-Some-clause-asked g c =
    let is = c.in_ok-program.ensures in
    let words : List Text = map g.S.AsStr.text c.args.words.now in
    let met = (c.in_ok-matches.ensures.matches (ap is_simple is ∙ program_is_simple)).1 ∙ ap (λ (a : App). subcommand_of a words) is in (
      ap (option_map (λ p. p.0)) (sym met) ∙ name_met c.in_ok-matches.matches ∙ c.in-Some.ensures.found.0 refl,
      ap (option_and_then (λ p. first_of (codes "save") p.1)) (sym met) ∙ first_met (subcommand_rows_of c.in_ok-matches.matches) (codes "save") _ c.in-Some.ensures.rows
          ∙ sym (c.get_str.ensures ∙ first_value-rows (found_of c.in-Some.run'.now) (codes "save")),
      ap (option_and_then (λ p. first_of (codes "threading") p.1)) (sym met) ∙ first_met (subcommand_rows_of c.in_ok-matches.matches) (codes "threading") _ c.in-Some.ensures.rows
          ∙ sym (c.get_str-in-Some.ensures ∙ first_value-rows (found_of c.in-Some.run'.now) (codes "threading")),
    )

pub returns-clause-asked : goal.returns-clause-asked
returns-clause-asked g c =
    let is = c.in_ok-program.ensures in
    let words : List Text = map g.S.AsStr.text c.args.words.now in
    let met = (c.in_ok-matches.ensures.matches (ap is_simple is ∙ program_is_simple)).1 ∙ ap (λ (a : App). subcommand_of a words) is in (
      ap (option_map (λ p. p.0)) (sym met) ∙ name_met c.in_ok-matches.matches ∙ c.in-Some-subcommand_matches.ensures.found.0 refl,
      ap (option_and_then (λ p. first_of (codes "image") p.1)) (sym met)
          ∙ first_met (subcommand_rows_of c.in_ok-matches.matches) (codes "image") _ c.in-Some-subcommand_matches.ensures.rows
          ∙ sym (c.in-Some-get_str.ensures ∙ first_value-rows (found_of c.in-Some-subcommand_matches.check.now) (codes "image")),
    )

pub returns-clause-faultless : goal.returns-clause-faultless
returns-clause-faultless g c =
    let is = c.in_ok-program.ensures in
    let words : List Text = map g.S.AsStr.text c.args.words.now in
    sym (ap (λ (a : App). fault_of a words) is) ∙ c.in_ok-matches.ensures.kinds (ap is_simple_and_free is ∙ program_is_free)

pub returns-2-clause-asked : goal.returns-2-clause-asked
returns-2-clause-asked g c =
    let is = c.in_ok-program.ensures in
    let words : List Text = map g.S.AsStr.text c.args.words.now in
    let met = (c.in_ok-matches.ensures.matches (ap is_simple is ∙ program_is_simple)).1 ∙ ap (λ (a : App). subcommand_of a words) is in (
      ap (option_map (λ p. p.0)) (sym met) ∙ name_met c.in_ok-matches.matches ∙ c.in-Some-subcommand_matches-2.ensures.found.0 refl,
      ap (option_and_then (λ p. first_of (codes "image") p.1)) (sym met)
          ∙ first_met (subcommand_rows_of c.in_ok-matches.matches) (codes "image") _ c.in-Some-subcommand_matches-2.ensures.rows
          ∙ sym (c.in-Some-get_str-2.ensures ∙ first_value-rows (found_of c.in-Some-subcommand_matches-2.files.now) (codes "image")),
    )

pub returns-2-clause-faultless : goal.returns-2-clause-faultless
returns-2-clause-faultless g c =
    let is = c.in_ok-program.ensures in
    let words : List Text = map g.S.AsStr.text c.args.words.now in
    sym (ap (λ (a : App). fault_of a words) is) ∙ c.in_ok-matches.ensures.kinds (ap is_simple_and_free is ∙ program_is_free)

pub returns-3-clause-faultless : goal.returns-3-clause-faultless
returns-3-clause-faultless g c =
    let is = c.in_ok-program.ensures in
    let words : List Text = map g.S.AsStr.text c.args.words.now in
    sym (ap (λ (a : App). fault_of a words) is) ∙ c.in_ok-matches.ensures.kinds (ap is_simple_and_free is ∙ program_is_free)
