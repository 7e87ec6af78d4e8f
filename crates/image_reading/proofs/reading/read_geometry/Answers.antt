use Rattle.std.proofs.Common.{◌∙◌, sym}
use Rattle.std.proofs.lemmas.Result.{err_from_is_err_and}
use Rattle.image_reading.proofs.Refusing.{no_super, other_size}
use Rattle.image_reading.proofs.Tables.{front_there}
use Rattle.image_reading.proofs.reading.read_geometry.Goals as goal

pub returns-clause-front : goal.returns-clause-front
returns-clause-front g c = λ bytes shown long.
    front_there c.in_ok-geometry.geometry c.read_at.new.out bytes (c.in_ok-read_at.ensures.read bytes shown) (long ∙ c.if-size-file_bytes.false ∙ c.file_bytes.ensures) c.in_ok-geometry.ensures.ok

pub returns-in_err-geometry-clause-refused : goal.returns-in_err-geometry-clause-refused
returns-in_err-geometry-clause-refused g c =
    let bad = c.in_err-geometry.ensures.err in
    let p = err_from_is_err_and c.from_residual-in_err-geometry.result c.from_residual-in_err-geometry.ensures.1 in
    rw (p.1, p.2, bad.0) (λ bytes shown long. no_super bytes c.read_at.new.out (c.in_ok-read_at.ensures.read bytes shown) bad.1)

pub returns-then-size-file_bytes-clause-refused : goal.returns-then-size-file_bytes-clause-refused
returns-then-size-file_bytes-clause-refused g c = λ bytes shown long.
    other_size bytes c.in_ok-geometry.geometry c.read_at.new.out (c.in_ok-read_at.ensures.read bytes shown) c.in_ok-geometry.ensures.ok
    (λ same. c.if-size-file_bytes.true (sym long ∙ same ∙ sym c.file_bytes.ensures))
