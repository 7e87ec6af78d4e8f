-- Each log gets the slip that stands at its place, and takes one part of the account with it; the slips that are left stand as before.
use Rattle.std.proofs.Common.{suc, length, refl, ap, subst, ◌∙◌, arith, rules}
use Rattle.pool.specs.declared.law.Account.{Account}
use Rattle.mount.specs.Logs.{EachStands}
use Rattle.mount.proofs.mounted_area.lock_loaded_logs.Goals as goal

pub new-requires : goal.new-requires
new-requires g c =
    let table = g.V.Words.WordsName.words in
    let count = g.V.Numbers.GeometryName.geometry.segments in
    subst (EachStands table count) c.in-Some.ensures.steps.0 c.slips.invariant.2 0 c.in-Some.slip (omega arith)

pub slips-preserved : goal.slips-preserved
slips-preserved g c =
    let table = g.V.Words.WordsName.words in
    let count = g.V.Numbers.GeometryName.geometry.segments in
    let i = c.slips.invariant in
    let steps = c.in-Some.ensures.steps in
    let short = ap (λ l. length l) steps.0 in
    let gone = steps.1 in
    let more = c.push_reserved.ensures.len in
    let room = c.push_reserved.ensures.capacity in
    let parts = ap (λ (a : Account). a.ordinary.parts) c.share-part.ensures.rest in (
      omega arith,
      omega arith,
      λ k other low. subst (EachStands table count) steps.0 i.2 (suc k) other (omega arith),
      omega (arith, i.3),
      omega (arith, i.4),
      let shared = c.share-part.ensures.rest in
          record {
            put = (
              ap (λ (a : Account). a.ordinary.put) shared ∙ i.5.put.0,
              ap (λ (a : Account). a.reserve.put) shared ∙ i.5.put.1,
            );
            taken = (
              ap (λ (a : Account). a.ordinary.taken) shared ∙ i.5.taken.0,
              ap (λ (a : Account). a.reserve.taken) shared ∙ i.5.taken.1,
            );
          },
    )

pub slips-init : goal.slips-init
slips-init g c =
    let none = c.requires.none in (
      search rules,
      search rules,
      search rules,
      search rules,
      omega arith,
      record { put = (refl, refl); taken = (refl, refl) },
    )
