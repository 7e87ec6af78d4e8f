use Rattle.std.proofs.Common.{◌≡◌, ◌++◌, ◌∙◌, sym, ap, length, take, arith}
use Rattle.image.specs.Walk.{data_names}
use Rattle.image_checker.specs.declared.naming.NamesWithAddresses.{NamesWithAddresses}
use Rattle.image.proofs.NameLemmas.{names_more_none}
use Rattle.image_checker.proofs.NamedLemmas.{data_more, data_stop}
use Rattle.image_checker.proofs.UsedLemmas.{data_used}
use Rattle.image_checker.proofs.naming.NamesWithAddresses.push_data.Goals.{then-address-ne0+in_ok-fresh+else-not-fresh, else-address-ne0}
use Rattle.image_checker.proofs.naming.NamesWithAddresses.push_data.Goals as goal

pub returns-then-not-fresh-clause-added : goal.returns-then-not-fresh-clause-added
returns-then-not-fresh-clause-added c =
    data_stop c.args.nid c.loop-slot.slot c.args.addresses.now c.args.self.now.names.items c.loop-slot.self.names.items _ c.args.self.now.names.items c.in_ok-fresh.fresh
    c.if-address-ne0.true c.if-not-fresh.true c.loop-slot.invariant.so_far c.in_ok-fresh.ensures.added

pub loop-slot-preserved : goal.loop-slot-preserved
loop-slot-preserved c =
    elim c.if-address-ne0.branch [
      | then-address-ne0+in_ok-fresh+else-not-fresh w ↦ record {
        so_far = ap (λ (v : NamesWithAddresses). v.names.items) w.self-is
            ∙ data_more c.args.nid c.loop-slot.slot c.args.addresses.now c.args.self.now.names.items c.loop-slot.self.names.items _ w.in_ok-fresh.fresh
            w.if-address-ne0.true w.if-not-fresh.false c.loop-slot.invariant.so_far w.in_ok-fresh.ensures.added;
        sized = ap (λ (v : NamesWithAddresses). length v.map.items) w.self-is ∙ w.in_ok-fresh.ensures.sized ∙ c.loop-slot.invariant.sized;
      }
      | else-address-ne0 w ↦ record {
        so_far = ap (λ (v : NamesWithAddresses). v.names.items) w.self-is ∙ c.loop-slot.invariant.so_far
            ∙ ap (λ ns. c.args.self.now.names.items ++ ns) (sym (names_more_none c.args.nid 0 c.loop-slot.slot c.args.addresses.now w.if-address-ne0.false));
        sized = ap (λ (v : NamesWithAddresses). length v.map.items) w.self-is ∙ c.loop-slot.invariant.sized;
      }
    ]

pub returns-clause-added : goal.returns-clause-added
returns-clause-added c =
    let xs = c.args.addresses.now in
    let used = c.used_of-slot-end.result in
    let whole : c.loop-slot.slot ≡ used = omega arith in
    c.loop-slot.invariant.so_far
    ∙ ap (λ ns. c.args.self.now.names.items ++ ns) (ap (λ n. data_names c.args.nid 0 (take n xs)) whole ∙ data_used xs used c.used_of-slot-end.ensures.past c.args.nid)
