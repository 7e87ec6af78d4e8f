use Rattle.std.proofs.Common.{◌∙◌, ℕ, List, take, ap, sym, subst}
use Rattle.geometry.specs.File.{File}
use Rattle.geometry.specs.Shape.{block_bytes}
use Rattle.byte_files.specs.Bytes.{HasBytes, written_at}
use Rattle.byte_files.specs.Calls.{IsAppended, IsWrittenAt}
use Rattle.byte_files.proofs.Lists.{written_at_end}
use Rattle.byte_files.proofs.Results.{on_ok, if_err}
use Rattle.byte_files.proofs.open.Open.append.Goals as goal

-- a write at the end is an append
behind : (size count : ℕ) (laid : List ℕ) (old new : File) → IsWrittenAt size count laid old new → IsAppended size count laid old new
behind size count laid old new is bytes long has = subst (λ xs. HasBytes size xs new) (ap (λ n. written_at bytes n laid) (sym long) ∙ written_at_end bytes laid) (is bytes has)

pub returns-clause-written : goal.returns-clause-written
returns-clause-written g c =
    on_ok c.write_at.result _ _ (behind (block_bytes g.V.Numbers.GeometryName.geometry.shape) c.args.count c.args.bytes.now c.args.pass.now.file c.write_at.new.pass.file)
    c.write_at.ensures.written

pub returns-clause-part : goal.returns-clause-part
returns-clause-part g c =
    if_err c.write_at.result _ _
    (λ fault. behind (block_bytes g.V.Numbers.GeometryName.geometry.shape) c.args.count (take fault.0 c.args.bytes.now) c.args.pass.now.file c.write_at.new.pass.file)
    c.write_at.ensures.part
