use Rattle.std.proofs.Common.{◌∙◌, ap, arith}
use Rattle.std.proofs.lemmas.List.{take_rest}
use Rattle.byteorder.specs.Endian.{little_from}
use Rattle.pack_tables.proofs.Bytes.{pair_back}
use Rattle.pack_tables.proofs.rows.pair_of.Goals as goal

pub returns-clause-bytes : goal.returns-clause-bytes
returns-clause-bytes c =
    pair_back c.args.row.now c.read_u32-first.result c.read_u32-second.result c.requires (λ k. omega (arith, c.type_inv.row k))
    c.read_u32-first.ensures (c.read_u32-second.ensures ∙ ap (little_from 0 4) (take_rest c.args.row.now 4))
