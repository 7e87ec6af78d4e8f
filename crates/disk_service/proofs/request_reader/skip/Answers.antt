-- What was read so far, and then what was read now.
use Rattle.std.proofs.Common.{◌++◌}
use Rattle.disk_service.proofs.Streams.{consumes_both}
use Rattle.disk_service.proofs.request_reader.skip.Goals as goal

pub skipped-preserved : goal.skipped-preserved
skipped-preserved g c = (
  c.skipped.invariant.0 ++ c.read_exact.new.buf,
  consumes_both (g.I.Read.remaining c.args.input.now) (g.I.Read.remaining c.skipped.input) (g.I.Read.remaining c.read_exact.new.self)
      c.skipped.invariant.0 c.read_exact.new.buf c.skipped.invariant.1 c.in_ok-read_exact.ensures.bytes,
)
