use Rattle.std.proofs.Common.{arith}
use Rattle.flash_volume.proofs.Together.{zip_answers}
use Rattle.flash_volume.proofs.rounds.do_side_by_side.Goals as goal

pub returns : goal.returns
returns g c =
    let all = c.in_ok-all.all in
    let jobs = c.args.jobs in
    zip_answers g.J.Job.did jobs.items all.items
    (let len = c.in_ok-all.ensures.len in let own = all.ok.0 in let theirs = jobs.ok.0 in omega arith)
    (λ place other within. let gives = (c.in_ok-all.ensures.each place other within).1 in record { job = gives.job; is = gives.job_is; did = gives.call.met })
