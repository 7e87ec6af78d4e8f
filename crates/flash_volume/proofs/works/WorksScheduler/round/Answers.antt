-- The first round deals the works, and the second one takes back what they made: so each did what it promises.
use Rattle.std.proofs.Common.{◌≡◌, ◌∙◌, ◌++◌, List, Ok, IfOk, IfErr, ap, inl, inr, map, refl, subst}
use Rattle.std.specs.List.{AllZip, flat_map}
use Rattle.file_cells.specs.Pass.{Pass}
use Rattle.flash_volume.specs.Beside.{AreDealt}
use Rattle.flash_volume.specs.Rounds.{Held}
use Rattle.flash_volume.proofs.Dealing.{taken_back, zip_unmapped}
use Rattle.flash_volume.proofs.Together.{done_beside, one_failed}
use Rattle.flash_volume.proofs.works.WorksScheduler.round.Goals as goal

pub returns-in_ok-part_jobs-in-Fresh-clause-done : goal.returns-in_ok-part_jobs-in-Fresh-clause-done
returns-in_ok-part_jobs-in-Fresh-clause-done g c =
    let geometry = g.V.Numbers.GeometryName.geometry in
    let post = g.W.Work.post in
    let failed = g.W.Work.failed in
    let works = c.in-Fresh.works.items in
    let part_jobs = c.in_ok-part_jobs-in-Fresh.part_jobs.items in
    let rest = c.deal.new.rights.passes.items in
    let before = c.args.lent.now.passes in
    let mine : c.lent.inside.rights.passes.items ≡ before = ap (λ (v : Held). v.passes) c.lent.view_is in
    let dealt = subst (λ (ps : List Pass). AreDealt (map (λ beside. beside.files.items) works) ps (map (λ part_job. part_job.lent.passes) part_jobs) rest) mine
    c.in_ok-part_jobs-in-Fresh.ensures.passes in
    let zips = zip_unmapped (λ part end. IfOk end.what (λ output. post part.what.work geometry part.held.passes output end.held.passes)
    × IfErr end.what (λ error. failed part.what.work geometry part.held.passes error)) (λ part_job. record { what = part_job.part; held = part_job.lent }) part_jobs in
    record {
      may_run = λ k other within. tt;
      may_go_on = λ ended zip. tt;
      keeps = λ ended zip outputs leave after did.
          rw c.in-Fresh.is (
            did.0,
            done_beside post failed geometry (λ part_job. part_job.part.work) (λ part_job. part_job.lent.passes) (λ end. end.what) (λ end. end.held.passes) works before part_jobs rest ended outputs.items after
                c.in_ok-part_jobs-in-Fresh.ensures.works dealt
                (zips ended zip) did.1 did.2,
          );
      may_fail = λ ended zip error why.
          rw c.in-Fresh.is (elim why [
            | inl no_memory ↦ inl no_memory
            | inr lost ↦ inr (
              map (λ part_job. part_job.lent.passes) part_jobs,
              rest,
              dealt,
              one_failed post failed geometry (λ part_job. part_job.part.work) (λ part_job. part_job.lent.passes) works part_jobs ended error c.in_ok-part_jobs-in-Fresh.ensures.works (zips ended zip) lost,
            )
          ]);
    }

pub returns-in_ok-output-in-Dealt-clause-done : goal.returns-in_ok-output-in-Dealt-clause-done
returns-in_ok-output-in-Dealt-clause-done g c =
    let back = c.replace-back.result.items in
    let given = c.in_ok-output-in-Dealt.ensures in
    let same : back ≡ c.args.ended.now.items = ap (λ v. v.items) c.replace-back.ensures.value in
    let outputs = c.in_ok-output-in-Dealt.output.items in
    let held = c.args.lent.now.passes in
    let after = c.take_back.new.rights.passes.items in
    let mine : c.lent.inside.rights.passes.items ≡ held = ap (λ (v : Held). v.passes) c.lent.view_is in
    let taken = taken_back (λ end. record { what = end.done; held = end.lent }) (λ end. end.what) (λ end. end.held.passes) c.args.ended.now.items outputs held after
    (subst (λ es. AllZip (λ end output. end.done ≡ Ok output) es outputs) same given.outputs)
    (given.passes ∙ ap (λ (ps : List Pass). ps ++ flat_map (λ end. end.lent.passes) back) mine ∙ ap (λ es. held ++ flat_map (λ end. end.lent.passes) es) same) in
    rw c.in-Dealt.is (refl, taken.0, taken.1)
