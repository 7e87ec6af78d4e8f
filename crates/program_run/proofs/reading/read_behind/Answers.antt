use Rattle.std.proofs.Common.{◌≡◌, ◌∙◌, ◌++◌, ℕ, List, IfSome, ap, arith, subst, sym}
use Rattle.program_run.specs.Reading.{IsEnoughOf}
use Rattle.program_run.proofs.Front.{behind_is_enough}
use Rattle.program_run.proofs.reading.read_behind.Goals as goal

pub returns : goal.returns
returns g c =
    let before = g.R.Read.remaining c.args.input.now in
    let after = g.R.Read.remaining c.read_up_to.new.input in
    let front = c.args.front.items in
    let behind = c.in_ok-behind.behind.items in
    let joined : c.extend_from_slice.new.self.items ≡ front ++ behind = c.in_ok-extend_from_slice.ensures.items ∙ ap (λ (bytes : List ℕ). front ++ bytes) c.as_slice.ensures.value in
    subst (λ read. IfSome before (λ rest. IsEnoughOf read (front ++ rest))) (sym joined)
    (behind_is_enough c.args.geometry.now before after front behind c.requires c.in_ok-behind.ensures.read
    (λ few. c.in_ok-behind.ensures.all (omega (arith, few, c.saturating_sub.ensures, c.file_bytes-size.ensures))))
