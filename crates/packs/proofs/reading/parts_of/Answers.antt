use Rattle.std.proofs.Common.{◌≡◌, ◌-◌, ◌+◌, ◌++◌, suc, ℕ, Bool, List, sym, ◌∙◌, ap, subst, arith, add-one}
use Rattle.device.specs.Disk.{part}
use Rattle.packs.specs.Parts.{place as place_of_part, body_bytes, slot_at, lies, side as side_of_part, gathered}
use Rattle.packs.proofs.Gathering.{gathered_none, gathered_more}
use Rattle.packs.proofs.reading.parts_of.Goals as goal

pub loop-k-init : goal.loop-k-init
loop-k-init c = c.in_ok-body.ensures.items ∙ sym (gathered_none c.args.geometry.now c.args.slot c.args.map.now.sides c.args.area.now)

pub loop-k-preserved : goal.loop-k-preserved
loop-k-preserved c =
    let geometry = c.args.geometry.now in
    let area = c.args.area.now in
    let k = c.loop-k.k in
    let all = gathered geometry c.args.slot c.args.map.now.sides in
    c.in_ok-extend_from_slice.ensures.items
    ∙ ap (λ (l : List ℕ). l ++ c.piece_of-piece.result.now) c.loop-k.invariant
    ∙ ap (λ (l : List ℕ). all k area ++ l) (c.piece_of-piece.ensures
    ∙ ap (λ (s : Bool). part (slot_at (body_bytes geometry) (lies c.args.slot s) + place_of_part geometry k) (place_of_part geometry (suc k) - place_of_part geometry k) area) c.side.ensures.side)
    ∙ sym (gathered_more geometry c.args.slot c.args.map.now.sides k area)
    ∙ ap (λ (n : ℕ). all n area) (sym (add-one k))
