-- A part begins where the one before it ends: so its bytes read behind those read so far make the pack's body one part
-- longer.
use Rattle.std.proofs.Common.{◌≡◌, ◌≤◌, ◌-◌, ◌+◌, ◌++◌, suc, List, ℕ, Bool, length, take, sym, ◌∙◌, ap, arith, add-one, append_assoc, length-append, length-drop}
use Rattle.std.proofs.lemmas.List.{take_at, length-take-le}
use Rattle.device.specs.Disk.{part}
use Rattle.image.specs.Slots.{slot_of}
use Rattle.packs.specs.Parts.{place as place_of_part, body_bytes, slot_at, lies, side as side_of_part, piece, gathered}
use Rattle.packs.proofs.Gathering.{gathered_more}
use Rattle.packs.proofs.Places.{place_next, place_within}
use Rattle.packs.proofs.packs.Packs.read_part.Goals as goal

pub split_at_mut-rest-requires : goal.split_at_mut-rest-requires
split_at_mut-rest-requires g c =
    let geometry = c.args.self.now.geometry in
    let within = place_within geometry c.args.k (omega (arith, c.requires.within)) in
    omega (arith, c.place-from.ensures, within, c.requires.len)

pub overflow_sub-end : goal.overflow_sub-end
overflow_sub-end g c =
    let geometry = c.args.self.now.geometry in
    let next = place_next geometry c.args.k in
    let end : c.place-end.result ≡ place_of_part geometry (suc c.args.k) = c.place-end.ensures ∙ ap (place_of_part geometry) (add-one c.args.k) in
    omega (arith, c.place-from.ensures, end, next)

pub split_at_mut-part-requires : goal.split_at_mut-part-requires
split_at_mut-part-requires g c =
    let geometry = c.args.self.now.geometry in
    let next = place_next geometry c.args.k in
    let within = place_within geometry (suc c.args.k) (omega (arith, c.requires.within)) in
    let end : c.place-end.result ≡ place_of_part geometry (suc c.args.k) = c.place-end.ensures ∙ ap (place_of_part geometry) (add-one c.args.k) in
    omega (arith, c.place-from.ensures, end, next, within, c.requires.len, c.split_at_mut-rest.ensures.back_len)

one_more : (p p' : ℕ) (front got rest : List ℕ) → p ≤ p' → length front ≡ p → length got ≡ p' - p → take p' (front ++ (got ++ rest)) ≡ front ++ got
one_more p p' front got rest le long longer =
    ap (take p') (sym (append_assoc front got rest)) ∙ take_at (front ++ got) rest p' (length-append front got ∙ omega (arith, le, long, longer))

pub returns-clause-read : goal.returns-clause-read
returns-clause-read g c = λ before.
    let geometry = c.args.self.now.geometry in
    let seen = g.M.Meta.seen c.args.self.now.meta in
    let slot = slot_of c.args.self.now.version in
    let k = c.args.k in
    let front = c.split_at_mut-rest.result.0.now in
    let next = place_next geometry k in
    let end : c.place-end.result ≡ place_of_part geometry (suc k) = c.place-end.ensures ∙ ap (place_of_part geometry) (add-one k) in
    let count : length c.split_at_mut-part.result.0.now ≡ place_of_part geometry (suc k) - place_of_part geometry k = omega (arith, c.split_at_mut-part.ensures.front_len, c.place-from.ensures, end) in
    let at : c.part_at-at.result ≡ slot_at (body_bytes geometry) (lies slot (side_of_part c.args.map.now.sides k)) + place_of_part geometry k
    = c.part_at-at.ensures.place ∙ ap (λ (s : Bool). slot_at (body_bytes geometry) (lies slot s) + place_of_part geometry k) c.side.ensures.side in
    let got : c.read.new.out ≡ piece geometry slot c.args.map.now.sides k seen
    = c.in_ok-read.ensures.bytes ∙ ap (λ (n : ℕ). part c.part_at-at.result n seen) count ∙ ap (λ (a : ℕ). part a (place_of_part geometry (suc k) - place_of_part geometry k) seen) at in
    let long : length c.read.new.out ≡ place_of_part geometry (suc k) - place_of_part geometry k
    = ap length c.in_ok-read.ensures.bytes ∙ length-take-le _ _ (omega (arith, length-drop c.part_at-at.result seen, c.part_at-at.ensures.within, count, c.requires.area.long)) ∙ count in
    let front_long : length front ≡ place_of_part geometry k = c.split_at_mut-rest.ensures.front_len ∙ c.place-from.ensures in
    let begins : front ≡ gathered geometry slot c.args.map.now.sides k seen
    = c.split_at_mut-rest.ensures.front ∙ ap (λ (n : ℕ). take n c.args.out.now) c.place-from.ensures ∙ before in
    one_more _ _ front c.read.new.out c.split_at_mut-part.result.1.now next front_long long
    ∙ ap (λ (l : List ℕ). l ++ c.read.new.out) begins ∙ ap (λ (l : List ℕ). gathered geometry slot c.args.map.now.sides k seen ++ l) got
    ∙ sym (gathered_more geometry slot c.args.map.now.sides k seen)
