-- Each half of the row is put into its place; the two tables lie one behind the other.
use Rattle.std.proofs.Common.{◌≡◌, sym, ◌∙◌, ap, subst, ℕ, ◌+◌, ◌*◌, ◌/◌, List, length, take, drop, arith}
use Rattle.geometry.specs.Shape.{segment_blocks}
use Rattle.packs_journal.specs.Places.{IsBody}
use Rattle.packs.proofs.Sizes.{is_body}
use Rattle.image.specs.Pack.{body_bytes}
use Rattle.checkpoint_image.specs.Kept.{info_bytes, owners_bytes, infos_at, owners_at, row_in, IsRowPut}
use Rattle.checkpoint_image.specs.Touched.{AreTouched}
use Rattle.checkpoint_image.proofs.Touching.{touched_on}
use Rattle.checkpoint_image.proofs.RowPlaces.{row_ends}
use Rattle.checkpoint_image.proofs.placing.put_segment.Given as given
use Rattle.checkpoint_image.proofs.placing.put_segment.Goals as goal

-- a row that was put, by the size and the bytes that it has
named : (base size k : ℕ) (bytes other old new : List ℕ) → length bytes ≡ size → bytes ≡ other → IsRowPut base (length bytes) k bytes old new → IsRowPut base size k other old new
named base size k bytes other old new long are put =
    subst (λ (b : List ℕ). IsRowPut base size k b old new) are (subst (λ (n : ℕ). IsRowPut base n k bytes old new) long put)

-- both halves, where they were put
info_put : (c : goal.After-put_row-2) → IsRowPut (infos_at c.args.geometry.now) (info_bytes c.args.geometry.now.shape) c.args.number
    (take (info_bytes c.args.geometry.now.shape) c.args.row.now) c.args.body.now.bytes.items c.put_row.new.body.bytes.items
info_put c =
    let blocks = ap (λ (b : ℕ). 12 + b / 8) c.segment_blocks-blocks.ensures in
    named (infos_at c.args.geometry.now) (info_bytes c.args.geometry.now.shape) c.args.number c.split_at.result.0.now (take (info_bytes c.args.geometry.now.shape) c.args.row.now) _ _
    (omega (arith, c.split_at.ensures.front_len, blocks)) (c.split_at.ensures.front ∙ ap (λ (n : ℕ). take n c.args.row.now) blocks) c.put_row.ensures.put

pub returns-clause-info : goal.returns-clause-info
returns-clause-info c =
    let size = info_bytes c.args.geometry.now.shape in
    let ends = row_ends c.args.number c.args.geometry.now.segments size c.requires.number in
    let table = ap (λ (b : ℕ). c.args.geometry.now.segments * (12 + b / 8)) c.segment_blocks-blocks.ensures in
    c.put_row-2.ensures.put.before (infos_at c.args.geometry.now + c.args.number * size) size (omega (arith, ends, table)) ∙ (info_put c).own
