-- Until it is staged the old pack is settled, and while it is made to count the area lies between the two: so a crash
-- at any moment leaves the one or the other.
use Rattle.std.proofs.Common.{◌≡◌, ◌+◌, List, ℕ, sym, ◌∙◌, ap, subst, arith}
use Rattle.byteorder.specs.Endian.{little_number}
use Rattle.device.specs.Disk.{LeavesOnly}
use Rattle.device.proofs.Moments.{joined, weaker}
use Rattle.image.specs.Slots.{version_of}
use Rattle.packs.specs.Pack.{IsSettled, Between}
use Rattle.geometry.specs.declared.geometry.Geometry.{Geometry}
use Rattle.packs.specs.Area.{reading_of}
use Rattle.packs.specs.Device.{KeepsArea, IsSameArea, AreSettled, AreStaged, body_of, staged_in}
use Rattle.packs.specs.declared.packs.Known.{Known}
use Rattle.packs.specs.declared.packs.Packs.{Packs}
use Rattle.packs.proofs.Crash.{settled_between}
use Rattle.packs.proofs.Fronts.{kept_weaker, kept_from}
use Rattle.packs.proofs.Named.{old_named, new_named, settled_named, settled_self}
use Rattle.packs.proofs.packs.Packs.write.Goals as goal

read_version : (version : ℕ) (body : List ℕ) → version ≡ little_number 4 body → version ≡ version_of body
unfolding version_of
read_version version body is = is

pub commit-requires-clause-staged : goal.commit-requires-clause-staged
commit-requires-clause-staged g c =
    let s = c.stage.new.self in
    let seen = g.M.Meta.seen in
    let r = reading_of s.geometry in
    let old = body_of (reading_of c.args.self.now.geometry) seen c.args.self.now in
    let is = c.in_ok-known.ensures.staged in
    subst (λ (l : List ℕ). AreStaged r seen g.M.Meta.may_leave s l (staged_in r seen s) c.in_ok-known.known) (sym (old_named r seen g.M.Meta.may_leave g.met.M.Meta.seen_is_left s _ _ _ is))
    (subst (λ (l : List ℕ). AreStaged r seen g.M.Meta.may_leave s old l c.in_ok-known.known) (sym (new_named r seen g.M.Meta.may_leave g.met.M.Meta.seen_is_left s _ _ _ is)) is)

pub returns-clause-settled : goal.returns-clause-settled
returns-clause-settled g c =
    subst (AreSettled (reading_of c.commit.new.self.geometry) g.M.Meta.seen g.M.Meta.may_leave c.commit.new.self)
    (new_named (reading_of c.stage.new.self.geometry) g.M.Meta.seen g.M.Meta.may_leave g.met.M.Meta.seen_is_left c.stage.new.self _ _ _ c.in_ok-known.ensures.staged) c.in_ok-commit.ensures.settled

pub commit-requires-clause-version : goal.commit-requires-clause-version
commit-requires-clause-version g c =
    let named = new_named (reading_of c.stage.new.self.geometry) g.M.Meta.seen g.M.Meta.may_leave g.met.M.Meta.seen_is_left c.stage.new.self _ _ _ c.in_ok-known.ensures.staged in
    read_version _ _ c.read_u32-version.ensures ∙ ap version_of (sym named)

pub commit-requires-clause-next : goal.commit-requires-clause-next
commit-requires-clause-next g c =
    read_version _ _ c.read_u32-version.ensures ∙ c.requires.next ∙ ap (λ (v : ℕ). v + 1) (sym (ap (λ (p : Packs g.row.M.Denot). p.version) c.stage.ensures.rest))

-- a body is staged and then made to count: a crash at any moment leaves the old pack or the new one
both_moments : {D : Type 0} (moment : D → ℕ) (left_since : D → ℕ → List ℕ → Type 0) (seen : D → List ℕ) (may_leave : D → List ℕ → Type 0) → ((d : D) → may_leave d (seen d))
    → (packs mid : Packs D) (after : D) (body : List ℕ) (next : Known) → packs.version ≡ version_of (body_of (reading_of packs.geometry) seen packs) → version_of body ≡ packs.version + 1
    → AreStaged (reading_of mid.geometry) seen may_leave mid (body_of (reading_of packs.geometry) seen packs) body next → mid.geometry ≡ packs.geometry → IsSameArea (seen packs.meta) (seen mid.meta)
    → LeavesOnly moment left_since packs.meta mid.meta (KeepsArea (seen packs.meta) (IsSettled (reading_of packs.geometry) (body_of (reading_of packs.geometry) seen packs)))
    → LeavesOnly moment left_since mid.meta after (KeepsArea (seen mid.meta) (Between (reading_of mid.geometry) (body_of (reading_of mid.geometry) seen mid) (staged_in (reading_of mid.geometry) seen mid)))
    → LeavesOnly moment left_since packs.meta after (KeepsArea (seen packs.meta) (Between (reading_of packs.geometry) (body_of (reading_of packs.geometry) seen packs) body))
both_moments moment left_since seen may_leave seen_is_left packs mid after body next is is_next staged len same settling counting =
    let old = body_of (reading_of packs.geometry) seen packs in
    let follows : version_of body ≡ version_of old + 1 = omega arith in
    let area = seen packs.meta in
    let B = Between (reading_of packs.geometry) old body in
    let first = weaker moment left_since packs.meta mid.meta _ (KeepsArea area B)
    (λ d. kept_weaker (IsSettled (reading_of packs.geometry) old) B area d (settled_between (reading_of packs.geometry) old body d follows)) settling in
    let second = subst (λ (n : Geometry). LeavesOnly moment left_since mid.meta after (KeepsArea (seen mid.meta) (Between (reading_of n) old body))) len
    (subst (λ (l : List ℕ). LeavesOnly moment left_since mid.meta after (KeepsArea (seen mid.meta) (Between (reading_of mid.geometry) l body))) (old_named (reading_of mid.geometry) seen may_leave seen_is_left mid _ _ _ staged)
    (subst (λ (l : List ℕ). LeavesOnly moment left_since mid.meta after (KeepsArea (seen mid.meta) (Between (reading_of mid.geometry) (body_of (reading_of mid.geometry) seen mid) l))) (new_named (reading_of mid.geometry) seen may_leave seen_is_left mid _ _ _ staged)
    counting)) in
    joined moment left_since packs.meta mid.meta after (KeepsArea area B) first
    (weaker moment left_since mid.meta after (KeepsArea (seen mid.meta) B) (KeepsArea area B) (λ d. kept_from B area (seen mid.meta) d same) second)

pub returns-in_err-commit-clause-any_moment : goal.returns-in_err-commit-clause-any_moment
returns-in_err-commit-clause-any_moment g c =
    both_moments g.M.Meta.moment g.M.Meta.left_since g.M.Meta.seen g.M.Meta.may_leave g.met.M.Meta.seen_is_left c.args.self.now c.stage.new.self c.commit.new.self.meta c.args.body.now c.in_ok-known.known
    c.requires.settled.version c.requires.next c.in_ok-known.ensures.staged (ap (λ (p : Packs g.row.M.Denot). p.geometry) c.stage.ensures.rest) c.stage.ensures.same c.stage.ensures.any_moment c.commit.ensures.any_moment

pub returns-clause-any_moment : goal.returns-clause-any_moment
returns-clause-any_moment g c =
    both_moments g.M.Meta.moment g.M.Meta.left_since g.M.Meta.seen g.M.Meta.may_leave g.met.M.Meta.seen_is_left c.args.self.now c.stage.new.self c.commit.new.self.meta c.args.body.now c.in_ok-known.known
    c.requires.settled.version c.requires.next c.in_ok-known.ensures.staged (ap (λ (p : Packs g.row.M.Denot). p.geometry) c.stage.ensures.rest) c.stage.ensures.same c.stage.ensures.any_moment c.commit.ensures.any_moment

pub of-requires : goal.of-requires
of-requires g c = settled_self (reading_of c.commit.new.self.geometry) g.M.Meta.seen g.M.Meta.may_leave g.met.M.Meta.seen_is_left c.commit.new.self _ c.in_ok-commit.ensures.settled

pub returns-clause-body : goal.returns-clause-body
returns-clause-body g c =
    settled_named (reading_of c.commit.new.self.geometry) g.M.Meta.seen g.M.Meta.may_leave g.met.M.Meta.seen_is_left c.commit.new.self _ c.in_ok-commit.ensures.settled
    ∙ new_named (reading_of c.stage.new.self.geometry) g.M.Meta.seen g.M.Meta.may_leave g.met.M.Meta.seen_is_left c.stage.new.self _ _ _ c.in_ok-known.ensures.staged
