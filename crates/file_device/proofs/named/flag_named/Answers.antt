use Rattle.std.proofs.Common.{◌≡◌, ◌∙◌, ◌-◌, ◌++◌, ap, arith, drop, length, subst, sym, take}
use Rattle.image.specs.Image.{Image}
use Rattle.packs.specs.Area.{reading_of}
use Rattle.pack_tables.specs.Grammar.{SpellsTables}
use Rattle.file_device.specs.Named.{FlagAll, IsSet}
use Rattle.file_device.proofs.Flags.{of_slots, written_back}
use Rattle.file_device.proofs.named.flag_named.Goals as goal

pub returns-clause-named : goal.returns-clause-named
returns-clause-named c =
    let geometry = c.args.geometry.now in
    let area = c.args.area.now in
    let len = c.in_ok-flags.flags.len in
    let items = c.in_ok-flags.flags.items in
    let one = c.flag_slot.new.flags in
    let two = c.flag_slot-2.new.flags in
    let first = c.in_ok-flag_slot.ensures in
    let second = c.in_ok-flag_slot-2.ensures in
    let long : length one ≡ len = let l = first.length in let v = ap length c.as_mut_slice.ensures.value in let k = c.in_ok-flags.flags.ok.0 in omega arith in
    let between = take len (one ++ drop (length one) items) in
    let then : between ≡ one = written_back one items len long in
    let met = c.as_mut_slice-2.ensures.value ∙ then in
    let long_still : length two ≡ len = let l = second.length in let m = ap length met in omega (arith, long) in
    let last : take len (two ++ drop (length two) between) ≡ two = written_back two between len long_still in
    of_slots (λ slot. (tables : Image) → SpellsTables geometry ((reading_of geometry).body slot area) tables → FlagAll geometry tables (take len (two ++ drop (length two) between)))
    (λ tables spelled address some within named. subst (λ flags. IsSet flags address) (sym last)
    (second.stay (address - 1) (subst (λ flags. IsSet flags address) (sym met) (first.named tables spelled address some within named))))
    (λ tables spelled address some within named. subst (λ flags. IsSet flags address) (sym last) (second.named tables spelled address some within named))
