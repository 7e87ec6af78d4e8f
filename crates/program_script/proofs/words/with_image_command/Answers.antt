use Rattle.std.proofs.Common.{rules, ap, ap₂, ◌≡◌, ◌∙◌}
use Rattle.std.proofs.lemmas.Result.{IfOk-weaker}
use Rattle.clap.specs.Words.{App, app_of, rule_of, with_rule, with_subcommand}
use Rattle.program_script.specs.Call.{image, of_image}
use Rattle.program_script.proofs.words.with_image_command.Goals as goal

pub returns : goal.returns
returns c =
    let image_is : rule_of c.required-image.result ≡ image = search rules in
    let made_is : app_of c.in_ok-arg.field-0 ≡ of_image c.args.name.now = c.in_ok-arg.ensures.shape (search rules) ∙ ap₂ with_rule c.new-2.ensures.app image_is in
    IfOk-weaker c.subcommand.result _ _
    (λ command added. added.shape (search rules) ∙ ap (with_subcommand (app_of c.args.command)) (ap (λ (a : App). a.top) made_is)) c.subcommand.ensures
