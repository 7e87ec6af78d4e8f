-- A head of zeros names the first copies, so what is staged beside it is the first pack.
use Rattle.std.proofs.Common.{◌≡◌, refl, sym, ◌∙◌, ap, subst, inl, inr, ℕ, zero, suc, ◌+◌, ◌-◌, ◌<◌, ◌≤◌, ◌⊎◌, true, List, [], ◌∷◌, length, take, drop, replicate, arith}
use Rattle.std.specs.Prelude.{Result, Ok, Err, OnErr, None}
use Rattle.byteorder.specs.Endian.{little_number}
use Rattle.device.specs.Disk.{part, Torn, Holds}
use Rattle.device.proofs.Ranges.{holds_part, torn_before, torn_after}
use Rattle.std.proofs.lemmas.List.{length-replicate, drop-replicate, take-replicate}
use Rattle.packs.specs.Parts.{body_bytes}
use Rattle.packs.specs.Device.{IsSameArea, IsKnown}
use Rattle.packs.proofs.Sizes.{is_paged}
use Rattle.packs.proofs.Keeping.{torn_area, area_joined}
use Rattle.packs.proofs.Paging.{beside_area}
use Rattle.packs.proofs.Knowing.{known_pages, none_out}
use Rattle.packs_journal.specs.Places.{IsArea, head_at, footer_at, page_count, head_bytes, map_bytes, map_pages}
use Rattle.packs_journal.specs.Journal.{map_of, names_pages, is_head}
use Rattle.packs_journal.specs.Reading.{head_in, footer_in, assembled}
use Rattle.packs_journal.specs.Pages.{DiffersIn}
use Rattle.packs_journal.proofs.Beside.{apart_same}
use Rattle.packs_journal.proofs.Maps.{zeros_named}
use Rattle.packs.proofs.packs.Packs.put_first_pages.Goals as goal

-- a head's write leaves the footers
feet_stay : (n : ℕ) (c d : List ℕ) → n ≤ head_bytes → Torn (head_at 0) n c d → (slot : ℕ) → slot < 2 → footer_in slot d ≡ footer_in slot c
feet_stay n c d few torn slot below = ap (little_number 4) (apart_same (head_at 0) n (footer_at slot) 4 c d (inr (omega (arith, few))) torn)

zeros_are : length (replicate {A = ℕ} head_bytes 0) ≡ head_bytes
zeros_are = length-replicate {A = ℕ} head_bytes 0

zeros_long : length (replicate {A = ℕ} head_bytes 0) ≤ head_bytes
zeros_long = omega (arith, zeros_are)

no_map : map_of (replicate head_bytes 0) ≡ replicate map_bytes 0
no_map = ap (take map_bytes) (drop-replicate 64 head_bytes 0) ∙ take-replicate map_bytes 3520 0 (omega arith)

head_torn : (n : ℕ) (at : ℕ) (c d : List ℕ) → at ≡ head_at 0 → Torn at n c d → Torn (head_at 0) n c d
head_torn n at c d is torn = subst (λ (a : ℕ). Torn a n c d) is torn

pub returns-in_err-write-clause-footers : goal.returns-in_err-write-clause-footers
returns-in_err-write-clause-footers g c = feet_stay _ (g.M.Meta.seen c.args.self.now.meta) (g.M.Meta.seen c.write.new.self) zeros_long (head_torn _ _ _ _ c.head_at.ensures c.write.ensures.others)

pub returns-in_err-write-clause-same : goal.returns-in_err-write-clause-same
returns-in_err-write-clause-same g c = torn_area _ _ _ _ (omega (arith, c.head_at.ensures)) c.write.ensures.others

pub returns-in_err-sync-clause-footers : goal.returns-in_err-sync-clause-footers
returns-in_err-sync-clause-footers g c = λ slot below.
    ap (footer_in slot) c.sync.ensures.quiet.same ∙ feet_stay _ (g.M.Meta.seen c.args.self.now.meta) (g.M.Meta.seen c.write.new.self) zeros_long (head_torn _ _ _ _ c.head_at.ensures c.write.ensures.others) slot below

pub returns-in_err-sync-clause-same : goal.returns-in_err-sync-clause-same
returns-in_err-sync-clause-same g c =
    subst (IsSameArea (g.M.Meta.seen c.args.self.now.meta)) (sym c.sync.ensures.quiet.same) (torn_area _ _ _ _ (omega (arith, c.head_at.ensures)) c.write.ensures.others)

pub stage-requires-clause-mapped : goal.stage-requires-clause-mapped
stage-requires-clause-mapped g c =
    let seen = g.M.Meta.seen in
    let p = c.args.self.now in
    let whole = is_paged p.geometry (seen p.meta) c.requires.pages c.requires.area in
    let was : IsArea (length c.args.body.now) (seen p.meta) = subst (λ (n : ℕ). IsArea n (seen p.meta)) (sym c.requires.len) whole in
    let holds = subst (λ (a : ℕ). Holds (seen p.meta) a (replicate head_bytes 0) (seen c.write.new.self)) c.head_at.ensures c.in_ok-write.ensures.written in
    let head : head_in 0 (seen c.write.new.self) ≡ replicate head_bytes 0
    = ap (λ (n : ℕ). part (head_at 0) n (seen c.write.new.self)) (sym zeros_are) ∙ holds_part (head_at 0) (replicate head_bytes 0) (seen p.meta) (seen c.write.new.self) (omega (arith, zeros_are, whole.long)) holds in
    record {
      area = record { body = was.body; long = ap length c.sync.ensures.quiet.same ∙ c.write.ensures.others.long ∙ was.long };
      one = omega arith;
      mapped = λ d left is. ap (λ (l : List ℕ). map_of (head_in 0 l)) (c.in_ok-sync.ensures.durable d left) ∙ ap map_of head ∙ no_map ∙ sym c.nothing-pages.ensures.map;
      named = ap (λ (m : List ℕ). names_pages (page_count (length c.args.body.now)) m map_pages) c.nothing-pages.ensures.map ∙ zeros_named (page_count (length c.args.body.now));
    }

pub stage-requires-clause-differs : goal.stage-requires-clause-differs
stage-requires-clause-differs g c = λ k below out _.
    absurd (none_out c.args.self.now.geometry c.all.result c.all.ensures k (subst (λ (n : ℕ). k < page_count n) c.requires.len below) out)

pub returns-in_err-stage-clause-footers : goal.returns-in_err-stage-clause-footers
returns-in_err-stage-clause-footers g c = λ slot below.
    c.stage.ensures.beside.footers slot below ∙ ap (footer_in slot) c.sync.ensures.quiet.same
    ∙ feet_stay _ (g.M.Meta.seen c.args.self.now.meta) (g.M.Meta.seen c.write.new.self) zeros_long (head_torn _ _ _ _ c.head_at.ensures c.write.ensures.others) slot below

pub returns-in_err-stage-clause-same : goal.returns-in_err-stage-clause-same
returns-in_err-stage-clause-same g c =
    area_joined _ _ _ (subst (IsSameArea (g.M.Meta.seen c.args.self.now.meta)) (sym c.sync.ensures.quiet.same) (torn_area _ _ _ _ (omega (arith, c.head_at.ensures)) c.write.ensures.others))
    (beside_area (length c.args.body.now) 0 _ _ c.stage.ensures.beside)

pub returns-clause-footers : goal.returns-clause-footers
returns-clause-footers g c = λ slot below.
    c.stage.ensures.beside.footers slot below ∙ ap (footer_in slot) c.sync.ensures.quiet.same
    ∙ feet_stay _ (g.M.Meta.seen c.args.self.now.meta) (g.M.Meta.seen c.write.new.self) zeros_long (head_torn _ _ _ _ c.head_at.ensures c.write.ensures.others) slot below

pub returns-clause-same : goal.returns-clause-same
returns-clause-same g c =
    area_joined _ _ _ (subst (IsSameArea (g.M.Meta.seen c.args.self.now.meta)) (sym c.sync.ensures.quiet.same) (torn_area _ _ _ _ (omega (arith, c.head_at.ensures)) c.write.ensures.others))
    (beside_area (length c.args.body.now) 0 _ _ c.stage.ensures.beside)

pub returns-clause-known : goal.returns-clause-known
returns-clause-known g c =
    let p = c.args.self.now in
    let len = c.requires.len in
    let e = c.in_ok-stage.ensures in
    let next = c.stage.new.pages in
    let now = g.M.Meta.seen c.stage.new.meta in
    let noted = subst (λ (b : List ℕ). DiffersIn next.noted (length c.args.body.now) next.map b now) (sym e.staged) e.noted in
    known_pages p.geometry 1 (record { map = None; pages = next }) now c.requires.pages (λ _. e.map) (subst (λ (n : ℕ). names_pages (page_count n) next.map map_pages ≡ true) len c.stage.ensures.named)
    (subst (λ (n : ℕ). DiffersIn next.noted n next.map (assembled n 1 now) now) len noted)

pub returns-clause-staged : goal.returns-clause-staged
returns-clause-staged g c = subst (λ (n : ℕ). assembled n 1 (g.M.Meta.seen c.stage.new.meta) ≡ c.args.body.now) c.requires.len c.in_ok-stage.ensures.staged

on_err : {T E P : Type 0} (r : Result T E) → P → OnErr r P
on_err (Ok x) p = tt
on_err (Err e) p = p

pub returns-in_err-stage-clause-cause : goal.returns-in_err-stage-clause-cause
returns-in_err-stage-clause-cause g c = record {
  later = omega (arith, c.write.ensures.cause.later, c.sync.ensures.cause.later, c.stage.ensures.cause.later);
  failed = on_err c.from_residual-in_err-stage.result (omega (arith, c.write.ensures.cause.later, c.sync.ensures.cause.later, c.in_err-stage.ensures.cause.failed));
}
