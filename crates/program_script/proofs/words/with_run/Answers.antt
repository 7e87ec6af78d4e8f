use Rattle.std.proofs.Common.{rules, ap, ap₂, true, ◌≡◌, ◌∙◌}
use Rattle.std.proofs.lemmas.Result.{IfOk-weaker}
use Rattle.clap.specs.Words.{App, app_of, rule_of, with_rule, with_subcommand}
use Rattle.clap.specs.Simple.{app_of_fields}
use Rattle.program_script.specs.Call.{bare, run, save, hole_reuse}
use Rattle.program_script.proofs.words.with_run.Goals as goal

pub returns : goal.returns
returns c =
    let save_is : rule_of c.long.result ≡ save = search rules in
    let rule_is : rule_of c.long-2.result ≡ hole_reuse = search rules in
    let saving_is = c.in_ok-run.ensures.shape (search rules) ∙ ap₂ with_rule c.new-run.ensures.app save_is in
    let run_is : app_of c.in_ok-run-2.run' ≡ run = c.in_ok-run-2.ensures.shape (search rules) ∙ ap₂ with_rule saving_is rule_is in
    let bare_is : app_of c.subcommand_required.result ≡ bare
    = ap app_of_fields c.subcommand_required.ensures ∙ ap (λ (a : App). record { top = record a.top { subcommand_required = true }; subs = a.subs }) c.new-3.ensures.app in
    IfOk-weaker c.subcommand.result _ _
    (λ command added. added.shape (search rules) ∙ ap₂ with_subcommand bare_is (ap (λ (a : App). a.top) run_is)) c.subcommand.ensures
