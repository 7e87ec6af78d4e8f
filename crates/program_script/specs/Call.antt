-- The words of a call of the program, and what they ask for.
use Rattle.std.specs.Prelude.{◌≡◌, true, List, Option, Some, [], codes, option_map, option_and_then}
use Rattle.clap.specs.Words.{App, Row, Rule, Text, first_of, new_app, new_rule, with_rule, with_subcommand}
use Rattle.program_script.specs.declared.words.CommandLine.{CommandLine}
use Rattle.program_script.specs.declared.words.CommandLine.TheVariants.{Run, Check, Files}

abbrev pub save : Rule
save = record (new_rule (codes "save")) { long = Some (codes "save") }

abbrev pub hole_reuse : Rule
hole_reuse = record (new_rule (codes "threading")) { long = Some (codes "threading") }

abbrev pub image : Rule
image = record (new_rule (codes "image")) { required = true }

abbrev pub run : App
run = with_rule (with_rule (new_app (codes "run")) save) hole_reuse

-- a subcommand that works on an image file
abbrev pub of_image : Text → App
of_image name = with_rule (new_app name) image

abbrev pub bare : App
bare = record { top = record (new_app (codes "f2fsim")).top { subcommand_required = true }; subs = [] }

-- `run [--save PATH] [--hole_reuse RULE]`, `check IMAGE` or `files IMAGE`
abbrev pub program : App
program = with_subcommand (with_subcommand (with_subcommand bare run.top) (of_image (codes "check")).top) (of_image (codes "files")).top

-- the subcommand that was met has this name, and works on the image file at this path
abbrev pub AsksForImage : Text → Text → Option (Text × List Row) → Type 0
AsksForImage name path met = (option_map (λ p. p.0) met ≡ Some name) × (option_and_then (λ p. first_of (codes "image") p.1) met ≡ Some path)

-- the subcommand that was met asks for this
abbrev pub AsksFor : CommandLine → Option (Text × List Row) → Type 0
AsksFor (Run path rule) met =
    (option_map (λ p. p.0) met ≡ Some (codes "run")) × (option_and_then (λ p. first_of (codes "save") p.1) met ≡ option_map (λ s. s.now) path)
    × (option_and_then (λ p. first_of (codes "threading") p.1) met ≡ option_map (λ s. s.now) rule)
AsksFor (Check path) met = AsksForImage (codes "check") path.now met
AsksFor (Files path) met = AsksForImage (codes "files") path.now met
