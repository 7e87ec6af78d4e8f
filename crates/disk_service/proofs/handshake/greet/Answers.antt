-- What was read before this option, and then its head and its data.
use Rattle.std.proofs.Common.{◌∙◌, ◌++◌, ℕ, List, Option, ap, refl}
use Rattle.std.specs.Io.KnownBytes.{Consumes}
use Rattle.nbd_words.specs.Options.{head_bytes, head_of}
use Rattle.disk_service.specs.declared.handshake.Next.TheVariants.{End}
use Rattle.disk_service.proofs.Streams.{consumes_both, consumes_same}
use Rattle.disk_service.proofs.handshake.greet.Goals as goal

pub returns-in-End : goal.returns-in-End
returns-in-End g c =
    let before : Option (List ℕ) = g.I.Read.remaining c.args.input.now in
    let between : Option (List ℕ) = g.I.Read.remaining c.loop.input in
    let behind : Option (List ℕ) = g.I.Read.remaining c.read_exact-in-loop.new.self in
    let after : Option (List ℕ) = g.I.Read.remaining c.take_option.new.input in
    let front : List ℕ = c.loop.invariant.0 in
    let content : List ℕ = c.in_ok-next.ensures.read.0 in
    let head : List ℕ = head_bytes (head_of c.in-Some-parse_option.head) in
    let spelled : Consumes between behind head =
    consumes_same between behind c.read_exact-in-loop.new.buf head c.in-Some-parse_option.ensures.some c.in_ok-read_exact-2.ensures.bytes in
    let option : Consumes between after (head ++ content) = consumes_both between behind after head content spelled c.in_ok-next.ensures.read.1 in
    record {
      served = λ is_served. (
        front,
        head_of c.in-Some-parse_option.head,
        c.in-Some-parse_option.head.kind,
        content,
        refl,
        consumes_both before between after front (head ++ content) c.loop.invariant.1 option,
        c.in_ok-next.ensures.read.2 (c.in-End.is ∙ ap End is_served),
      );
    }

pub loop-preserved : goal.loop-preserved
loop-preserved g c =
    let before : Option (List ℕ) = g.I.Read.remaining c.args.input.now in
    let between : Option (List ℕ) = g.I.Read.remaining c.loop.input in
    let behind : Option (List ℕ) = g.I.Read.remaining c.read_exact-in-loop.new.self in
    let after : Option (List ℕ) = g.I.Read.remaining c.take_option.new.input in
    let head : List ℕ = c.read_exact-in-loop.new.buf in
    let content : List ℕ = c.in_ok-next.ensures.read.0 in
    let option : Consumes between after (head ++ content) =
    consumes_both between behind after head content c.in_ok-read_exact-2.ensures.bytes c.in_ok-next.ensures.read.1 in
    (c.loop.invariant.0 ++ (head ++ content), consumes_both before between after c.loop.invariant.0 (head ++ content) c.loop.invariant.1 option)
