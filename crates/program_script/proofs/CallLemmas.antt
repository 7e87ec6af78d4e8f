-- What a parse of the program's words found is what they ask for.
use Rattle.std.proofs.Common.{◌≡◌, refl, ap, List, true, Option, Some, None, option_map}
use Rattle.std.specs.Prelude.{option_and_then, Box}
use Rattle.std.specs.Box.{box_value}
use Rattle.clap.specs.Words.{Row, Text, first_of, is_simple, is_simple_and_free, subcommand_rows_of}
use Rattle.clap.specs.Matches.{subcommand_name_of}
use Rattle.clap.specs.Simple.{subcommand_rows}
use Rattle.clap.specs.declared.parser.matches.ArgMatches.{ArgMatches}
use Rattle.clap.specs.declared.parser.matches.ArgMatches.TheViews.{out-ArgMatches, out-SubCommand}
use Rattle.clap.specs.declared.parser.matches.SubCommand.{SubCommand}
use Rattle.clap.proofs.OnLiterals.{clap_on_literals}
use Rattle.program_script.specs.Call.{program}

pub program_is_simple : is_simple program ≡ true
unfolding clap_on_literals
program_is_simple = refl

pub program_is_free : is_simple_and_free program ≡ true
unfolding clap_on_literals
program_is_free = refl

pub first_met : (met : Option (Text × List Row)) (id : Text) (rows : List Row) → option_map (λ p. p.1) met ≡ Some rows
    → option_and_then (λ p. first_of id p.1) met ≡ first_of id rows
first_met None id rows is = absurd cc
first_met (Some p) id rows is = let same : p.1 ≡ rows = cc in ap (first_of id) same

module _ {Z : Type 0} where
  name_of : (o : Option (Box SubCommand Z)) → option_map (λ p. p.0) (subcommand_rows o) ≡ option_map (λ b. (out-SubCommand (box_value b)).name.now) o
  name_of None = refl
  name_of (Some b) = refl

pub name_met : (m : ArgMatches) → option_map (λ p. p.0) (subcommand_rows_of m) ≡ subcommand_name_of m
name_met m = name_of (out-ArgMatches m).subcommand
