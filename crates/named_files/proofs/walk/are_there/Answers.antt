use Rattle.std.proofs.Common.{◌≡◌, ◌<◌, ◌≤◌, length, get_or, false, rules}
use Rattle.std.specs.Option.{is_none}
use Rattle.named_files.proofs.Rows.{there_from_begins, there_from_more, there_from_all}
use Rattle.named_files.proofs.walk.are_there.Goals as goal

pub loop-entry-init : goal.loop-entry-init
loop-entry-init g c = there_from_begins c.args.passes.now c.args.entries.now

pub loop-entry-preserved : goal.loop-entry-preserved
loop-entry-preserved g c =
    let entries = c.args.entries.now in
    let i = c.loop-entry.entry-index in
    let entry = c.entry-item.result in
    let low : i < length entries = search rules in
    let is : entry ≡ get_or entries i entry = search rules in
    let found : is_none c.place_of.result ≡ false = search rules in
    there_from_more c.args.passes.now entries i entry c.place_of.result low is found c.place_of.ensures.some c.loop-entry.invariant

pub returns : goal.returns
returns g c =
    let entries = c.args.entries.now in
    let i = c.loop-entry.entry-index in
    let all : length entries ≤ i = search rules in
    λ _. there_from_all c.args.passes.now entries i all c.loop-entry.invariant
