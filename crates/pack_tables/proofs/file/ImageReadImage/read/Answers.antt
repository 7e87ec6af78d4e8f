use Rattle.std.proofs.lemmas.Result.{err_from_is_err_and}
use Rattle.pack_tables.proofs.FileLemmas.{file_refused}
use Rattle.pack_tables.proofs.file.ImageReadImage.read.Goals as goal

pub returns-in_err-image-clause-refused : goal.returns-in_err-image-clause-refused
returns-in_err-image-clause-refused c =
    let p = err_from_is_err_and c.from_residual-in_err-image.result c.from_residual-in_err-image.ensures.1 in
    rw (p.1, p.2) (file_refused c.in_ok-geometry.geometry c.args.file.now c.in_err-image.field-0.0 c.in_ok-geometry.ensures.ok c.in_err-image.ensures.refused)
