use Rattle.std.proofs.Common.{◌≡◌, ◌∙◌, ◌+◌, ◌∷◌, [], List, ap, map, sym, subst, take, IfOk}
use Rattle.std.proofs.lemmas.List.{map-append}
use Rattle.flash_volume.specs.Rounds.{Lot}
use Rattle.program_run.specs.Files.{Lends}
use Rattle.program_run.specs.Share.{IsShare}
use Rattle.program_run.specs.PartJobs.{AreGiven, Hand, IsGiven}
use Rattle.program_run.proofs.Giving.{given_next, hand_is}
use Rattle.program_run.proofs.part.give_shares.Goals as goal

pub loop-number-preserved : goal.loop-number-preserved
loop-number-preserved g c =
    let geometry = g.V.Numbers.GeometryName.geometry in
    let workers = c.args.workers.now in
    let number = c.loop-number.number in
    let worker = c.index-workers-number.result in
    let session = c.loop-number.session in
    let rest = c.take_share.new.self in
    let share = c.in_ok-share.share in
    let lent = c.in_ok-lent.lent in
    let tasks = c.as_slice-tasks.ensures.value in
    let taken : IsShare worker.tasks.items session share rest =
    subst (λ ts. IsShare ts session share rest) tasks (subst (λ made. IfOk made (λ s. IsShare c.as_slice-tasks.result.now session s rest)) c.in_ok-share.ensures c.take_share.ensures.share) in
    let lends : Lends geometry share.time share lent = subst (λ made. IfOk made (Lends geometry share.time share)) c.in_ok-lent.ensures c.end.ensures.lends in
    let time : c.time.result ≡ share.time = c.time.ensures ∙ taken.rest_time ∙ sym taken.share_time in
    let hand : c.new-part.result ≡ record { number = number; tasks = worker.tasks.items; time = share.time } =
    hand_is geometry number c.as_slice-tasks.result.now worker.tasks.items c.time.result share.time c.new-part.result c.new-part.ensures tasks time in
    let part_job : Lot Hand = record { what = c.new-part.result; held = lent } in
    let one : IsGiven geometry number worker session part_job rest = record { share = share; hand_is = hand; lent_is = lends; taken = taken } in
    subst (λ (part_jobs : List (Lot Hand)). AreGiven geometry 0 (take (number + 1) workers) c.args.session.now part_jobs rest)
    (sym (ap (map _) c.in_ok-push.ensures.items ∙ map-append _ c.loop-number.part_jobs.items _))
    (given_next geometry workers number worker c.args.session.now session rest _ part_job c.loop-number-test.true c.index-workers-number.is c.loop-number.invariant one)
