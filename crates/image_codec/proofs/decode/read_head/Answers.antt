use Rattle.std.proofs.Common.{ℕ, List, length, drop, get_or, ap, sym, ◌∙◌, arith}
use Rattle.image_codec.specs.Parts.{head_of}
use Rattle.image_codec.proofs.PartLemmas.{head_read, kind_of_head, zeros_of_head, zeros_there}
use Rattle.image_codec.proofs.decode.read_head.Goals as goal

pub returns-clause-head : goal.returns-clause-head
returns-clause-head c =
    head_read c.args.bytes.now c.in_ok-kind.kind (λ k. omega (arith, c.type_inv.bytes k)) c.requires c.in_ok-kind.ensures.kind
    (c.is_zero.ensures.0 c.if-not-is_zero.false) ∙ ap (λ (n : ℕ). head_of (length c.args.bytes.now) n c.in_ok-kind.kind) (sym c.read_u32.ensures)

pub returns-in_err-kind-clause-none : goal.returns-in_err-kind-clause-none
returns-in_err-kind-clause-none c =
    rw c.from_residual.ensures
    (λ size kind same. c.in_err-kind.ensures.none kind
    (sym (ap (λ (bytes : List ℕ). get_or bytes 4 0) same ∙ kind_of_head (length c.args.bytes.now) size kind)))

pub returns-then-not-is_zero-clause-none : goal.returns-then-not-is_zero-clause-none
returns-then-not-is_zero-clause-none c size kind same =
    let n = length c.args.bytes.now in
    let zeros = zeros_there 5 c.args.bytes.now (ap (drop 5) same ∙ zeros_of_head n size kind) in
    let clash = c.if-not-is_zero.ensures.1 zeros in
    cc
