-- A mount of what the format left finds a volume of the same numbers and without files, and is refused for want of memory or by a
-- failing device alone.
use Rattle.std.proofs.Common.{inl, inr}
use Rattle.flash_volume.proofs.Results.{err_both, err_then, ok_then}
use Rattle.flash_volume.proofs.Same.{size_back}
use Rattle.flash_volume.proofs.Working.{so_on_new, worked_on_new}
use Rattle.flash_volume.proofs.new.work_on_new.Goals as goal

pub returns-clause-done : goal.returns-clause-done
returns-clause-done g c =
    let parts = c.in_ok-parts.parts in
    let made = c.in_ok-parts.ensures.mountable in
    let found = c.mount_law.ensures.at_once c.args.geometry _ parts made in
    ok_then c.work_on.result _ _
    (λ done on. worked_on_new g.M.Meta.seen g.M.Meta.may_leave g.B.Block.address_of g.B.Block.content_of (λ geometry before after. g.W.Work.post c.args.work geometry before done.output after)
    c.args.geometry parts c.args.leave done.parts on
    (c.format_law.ensures.numbers c.args.geometry on.geometry on.image parts parts made found on.held.held.front (record { tables = on.held.held.tables; nodes = on.held.held.nodes })).0
    (c.format_law.ensures.no_file c.args.geometry on.geometry on.image parts parts made found on.held.held.front (record { tables = on.held.held.tables; nodes = on.held.held.nodes })))
    c.work_on.ensures.done

pub returns-clause-early : goal.returns-clause-early
returns-clause-early g c =
    let parts = c.in_ok-parts.parts in
    let made = c.in_ok-parts.ensures.mountable in
    let found = c.mount_law.ensures.at_once c.args.geometry _ parts made in
    err_both c.work_on.result _ _ _
    (λ fault not_format handed. elim [
      | inl at_format ↦ absurd (not_format at_format)
      | inr at_mount ↦ c.mount_law.ensures.refused c.args.geometry _ parts parts fault.error made found (handed at_mount).refused
    ]) c.work_on.ensures.stage c.work_on.ensures.handed_back

pub returns-clause-failed : goal.returns-clause-failed
returns-clause-failed g c =
    let parts = c.in_ok-parts.parts in
    let made = c.in_ok-parts.ensures.mountable in
    let found = c.mount_law.ensures.at_once c.args.geometry _ parts made in
    err_then c.work_on.result _ _
    (λ fault failed at_work.
    let on = failed at_work in
    so_on_new g.M.Meta.seen g.B.Block.address_of g.B.Block.content_of (λ geometry before. g.W.Work.failed c.args.work geometry before fault.error) c.args.geometry parts on
    (c.format_law.ensures.numbers c.args.geometry on.geometry on.image parts parts made found on.held.held.front (record { tables = on.held.held.tables; nodes = on.held.held.nodes })).0
    (c.format_law.ensures.no_file c.args.geometry on.geometry on.image parts parts made found on.held.held.front (record { tables = on.held.held.tables; nodes = on.held.held.nodes })))
    c.work_on.ensures.failed

pub returns-clause-size_back : goal.returns-clause-size_back
returns-clause-size_back g c =
    let made = c.in_ok-parts.ensures.mountable in
    let found = c.mount_law.ensures.at_once c.args.geometry _ c.in_ok-parts.parts made in
    err_both c.work_on.result _ _ _
    (λ fault handed given_up. size_back g.M.Meta.seen g.M.Meta.may_leave g.B.Block.address_of g.B.Block.content_of c.args.geometry c.in_ok-parts.parts fault.parts fault.stage (made.front (g.M.Meta.seen c.in_ok-parts.parts.meta) found.area) made.size (λ at_mount. (handed at_mount).same) given_up)
    c.work_on.ensures.handed_back c.work_on.ensures.given_up
