use Rattle.std.proofs.Common.{◌≡◌, refl, ℕ, take, sym, ◌∙◌, ap, subst, arith}
use Rattle.std.proofs.lemmas.List.{take_all}
use Rattle.device.proofs.Moments.{elapses_same}
use Rattle.image.specs.Slots.{slot_of}
use Rattle.packs.specs.Parts.{place as place_of_part, gathered}
use Rattle.packs.proofs.Gathering.{gathered_none}
use Rattle.packs.proofs.Places.{place_zero, place_end}
use Rattle.packs.proofs.packs.Packs.read_parts.Goals as goal

pub loop-k-init : goal.loop-k-init
loop-k-init g c =
    let p = c.args.self.now in
    record {
      read = ap (λ (n : ℕ). take n c.args.out.now) (place_zero p.geometry) ∙ sym (gathered_none p.geometry (slot_of p.version) c.args.map.now.sides (g.M.Meta.seen p.meta));
      long = refl;
      quiet = record { same = refl; fewer = λ d left. left; time = elapses_same (g.M.Meta.moment p.meta) (g.M.Meta.left_since p.meta) (g.M.Meta.may_leave p.meta) };
      rest = refl;
      failed = omega arith;
    }

pub returns-clause-read : goal.returns-clause-read
returns-clause-read g c =
    let p = c.args.self.now in
    let inv = c.loop-k.invariant in
    let k : c.loop-k.k ≡ 66 = omega (arith, c.loop-k-test.false, c.loop-k.auto.k-end) in
    let end = place_end p.geometry in
    let read : take (place_of_part p.geometry 66) c.loop-k.out ≡ gathered p.geometry (slot_of p.version) c.args.map.now.sides 66 (g.M.Meta.seen p.meta)
    = subst (λ (n : ℕ). take (place_of_part p.geometry n) c.loop-k.out ≡ gathered p.geometry (slot_of p.version) c.args.map.now.sides n (g.M.Meta.seen p.meta)) k inv.read in
    sym (take_all (place_of_part p.geometry 66) c.loop-k.out (omega (arith, end, inv.long, c.requires.len))) ∙ read
