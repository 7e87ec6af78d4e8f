use Rattle.std.proofs.Common.{◌∙◌, ap, arith, subst, ◌∷◌, [], Some}
use Rattle.std.specs.Prelude.{OnOk, IfSome}
use Rattle.std.specs.Fmt.{◌++?◌, digits_output, styled_digits_output}
use Rattle.std.specs.Io.KnownBytes.{Appends}
use Rattle.program_run.proofs.Hex.{two_digits}
use Rattle.program_run.proofs.content.Content.tell.Goals as goal

pub returns-in-Equal : goal.returns-in-Equal
returns-in-Equal g c =
    let old = g.W.Write.contents c.args.out.now in
    let new = g.W.Write.contents c.write.new.self in
    let text = two_digits (digits_output c.in_radix.result) c.in-Equal.byte (omega arith) c.in_radix.ensures in
    let shown = ap (styled_digits_output c.in_radix.result) c.laid_out.ensures ∙ text in
    rw c.in-Equal.is (subst (λ digits. OnOk c.write.result (IfSome (Some (32 ∷ []) ++? digits) (Appends old new))) shown c.write.ensures.bytes)
