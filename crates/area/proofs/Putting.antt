-- What two runs of slips put, one after the other, is put by both together; a slip that isn't put is kept behind the
-- others, so none is lost.
use Rattle.std.proofs.Common.{◌≡◌, ℕ, zero, suc, ◌+◌, ◌<◌, ◌≤◌, Bool, true, false, if◌then◌else◌, List, [], ◌∷◌, ◌++◌, ◌⊎◌, inl, inr, length, get_or, refl, sym, ◌∙◌, ap, subst, arith}
use Rattle.std.specs.Prelude.{All, remove}
use Rattle.std.proofs.lemmas.List.{length-append}
use Rattle.atomic_table.specs.Seated.{TableId}
use Rattle.geometry.specs.Weights.{weigh}
use Rattle.geometry.proofs.Indexing.{each_push}
use Rattle.words.specs.Tokens.{FreeSegment}
use Rattle.pool.specs.declared.law.Account.{Account}
use Rattle.pool.specs.Law.{put_ordinary, put_reserve}
use Rattle.area.specs.Slips.{AreSlipsOf, HavePut, HaveFreed}

weigh_both : {A : Type 0} (h : A → ℕ) (xs ys : List A) → weigh h (xs ++ ys) ≡ weigh h xs + weigh h ys
weigh_both h [] ys = omega arith
weigh_both h (x ∷ xs) ys = let rest = weigh_both h xs ys in omega arith

pub none_left : (slips : List FreeSegment) → length slips ≡ 0 → slips ≡ []
none_left [] none = refl
none_left (s ∷ slips) none = absurd (omega arith)

pub put_none : (old : Account) (kept : List FreeSegment) → HavePut [] old old kept kept
put_none old kept = record { slips = λ h. omega arith; parts = (refl, refl); taken = (refl, refl) }

pub put_both : (a b : List ℕ) (first second third : Account) (x y z : List FreeSegment)
    → HavePut a first second x y → HavePut b second third y z → HavePut (a ++ b) first third x z
put_both a b first second third x y z one two = record {
  slips = λ h. let p = one.slips h in let q = two.slips h in let r = weigh_both h a b in omega arith;
  parts = (two.parts.0 ∙ one.parts.0, two.parts.1 ∙ one.parts.1);
  taken = (two.taken.0 ∙ one.taken.0, two.taken.1 ∙ one.taken.1);
}

pub put_into_reserve : (old new : Account) (n : ℕ) (kept : List FreeSegment) → new ≡ put_reserve old n → HavePut (n ∷ []) old new kept kept
put_into_reserve old new n kept is = subst (λ (a : Account). HavePut (n ∷ []) old a kept kept) (sym is) (record {
  slips = λ h. let more = weigh_both h old.reserve.put (n ∷ []) in omega arith;
  parts = (refl, refl);
  taken = (refl, refl);
})

pub put_into_ordinary : (old new : Account) (n : ℕ) (kept : List FreeSegment) → new ≡ put_ordinary old n → HavePut (n ∷ []) old new kept kept
put_into_ordinary old new n kept is = subst (λ (a : Account). HavePut (n ∷ []) old a kept kept) (sym is) (record {
  slips = λ h. let more = weigh_both h old.ordinary.put (n ∷ []) in omega arith;
  parts = (refl, refl);
  taken = (refl, refl);
})

pub keeps : (old new : Account) (slip back : FreeSegment) (before after : List FreeSegment) → new ≡ old → back ≡ slip → after ≡ before ++ back ∷ []
    → HavePut (slip.segment ∷ []) old new before after
keeps old new slip back before after same is more =
    subst (λ (a : Account). HavePut (slip.segment ∷ []) old a before after) (sym same)
    (subst (λ (l : List FreeSegment). HavePut (slip.segment ∷ []) old old before l) (sym (more ∙ ap (λ (s : FreeSegment). before ++ s ∷ []) is)) (record {
      slips = λ h. let sum = weigh_both (λ (s : FreeSegment). h s.segment) before (slip ∷ []) in omega arith;
      parts = (refl, refl);
      taken = (refl, refl);
    }))

pub more_slips : (table : TableId) (count : ℕ) (before after : List FreeSegment) (slip : FreeSegment) → AreSlipsOf table count before
    → slip.table ≡ table → slip.segment < count → (after ≡ before) ⊎ (after ≡ before ++ slip ∷ []) → AreSlipsOf table count after
more_slips table count before after slip are is within (inl same) = subst (AreSlipsOf table count) (sym same) are
more_slips table count before after slip are is within (inr more) =
    subst (AreSlipsOf table count) (sym more) (each_push (λ k (s : FreeSegment). (s.table ≡ table) × (s.segment < count)) before slip are (is, within))

-- the first slip, and the others
module _ (table : TableId) (count : ℕ) where
  pub first_slip : (slips : List FreeSegment) (slip : FreeSegment) → AreSlipsOf table count slips → 0 < length slips → slip ≡ get_or slips 0 slip
      → (slip.table ≡ table) × (slip.segment < count)
  first_slip slips slip are some is = subst (λ (s : FreeSegment). (s.table ≡ table) × (s.segment < count)) (sym is) (are 0 slip some)

  others_of : (slips : List FreeSegment) → AreSlipsOf table count slips → AreSlipsOf table count (remove slips 0)
  others_of [] are = are
  others_of (s ∷ slips) are = λ k d low. are (suc k) d (omega arith)

  pub other_slips : (slips rest : List FreeSegment) → rest ≡ remove slips 0 → AreSlipsOf table count slips → AreSlipsOf table count rest
  other_slips slips rest is are = subst (AreSlipsOf table count) (sym is) (others_of slips are)

pub taken_first : (slips rest : List FreeSegment) (slip : FreeSegment) → 0 < length slips → slip ≡ get_or slips 0 slip → rest ≡ remove slips 0
    → (h : ℕ → ℕ) → weigh (λ (s : FreeSegment). h s.segment) slips ≡ h slip.segment + weigh (λ (s : FreeSegment). h s.segment) rest
taken_first [] rest slip some is out h = absurd (omega arith)
taken_first (s ∷ slips) rest slip some is out h =
    let one = ap (λ (x : FreeSegment). h x.segment) is in
    let others = ap (weigh (λ (x : FreeSegment). h x.segment)) out in omega arith

-- the first slip comes out, and is put or kept again
pub put_again : (old new : Account) (slips rest after : List FreeSegment) (slip : FreeSegment) → 0 < length slips → slip ≡ get_or slips 0 slip
    → rest ≡ remove slips 0 → HavePut (slip.segment ∷ []) old new rest after → HavePut [] old new slips after
put_again old new slips rest after slip some is out put = record {
  slips = λ h. let p = put.slips h in let t = taken_first slips rest slip some is out h in omega arith;
  parts = put.parts;
  taken = put.taken;
}

-- the last slip comes out, and is put
pub put_last : (old new : Account) (slips rest : List FreeSegment) (slip : FreeSegment) → slips ≡ rest ++ slip ∷ []
    → HavePut (slip.segment ∷ []) old new rest rest → HavePut [] old new slips rest
put_last old new slips rest slip is put = record {
  slips = λ h.
      let p = put.slips h in
      let all = ap (weigh (λ (s : FreeSegment). h s.segment)) is in
      let both = weigh_both (λ (s : FreeSegment). h s.segment) rest (slip ∷ []) in omega arith;
  parts = put.parts;
  taken = put.taken;
}

-- two turns in which segments were freed
all_first : (segments n : ℕ) (ns : List ℕ) → n < segments → All (λ m. m < segments) ns → All (λ m. m < segments) (n ∷ ns)
all_first segments n ns low others zero d less = low
all_first segments n ns low others (suc k) d less = others k d (omega arith)

within_both : (segments : ℕ) (a b : List ℕ) → All (λ n. n < segments) a → All (λ n. n < segments) b → All (λ n. n < segments) (a ++ b)
within_both segments [] b x y = y
within_both segments (n ∷ a) b x y = all_first segments n (a ++ b) (x 0 n (omega arith)) (within_both segments a b (λ j e less. x (suc j) e (omega arith)) y)

pub freed_both : (segments m n : ℕ) (first second third : Account) (x y z : List FreeSegment)
    → HaveFreed segments m first second x y → HaveFreed segments n second third y z → HaveFreed segments (m + n) first third x z
freed_both segments m n first second third x y z one two = record {
  freed = one.freed ++ two.freed;
  count_is = (let long = length-append one.freed two.freed in let c = one.count_is in let d = two.count_is in omega arith);
  within = within_both segments one.freed two.freed one.within two.within;
  put = put_both one.freed two.freed first second third x y z one.put two.put;
}

-- a turn in which a segment was freed, or was not
pub freed_turn : (segments count more : ℕ) (one : Bool) (first second third : Account) (x y z : List FreeSegment) → more ≡ count + (if one then 1 else 0)
    → HaveFreed segments count first second x y → HaveFreed segments (if one then 1 else 0) second third y z → HaveFreed segments more first third x z
freed_turn segments count more one first second third x y z sum before now =
    subst (λ (n : ℕ). HaveFreed segments n first third x z) (sym sum) (freed_both segments count (if one then 1 else 0) first second third x y z before now)

-- where what comes out is put or kept again, as many are left
pub as_many : (old rest after : List FreeSegment) (slip : FreeSegment) → length rest + 1 ≡ length old → (after ≡ rest) ⊎ (after ≡ rest ++ slip ∷ []) → length old ≤ length after + 1
as_many old rest after slip less (inl same) = let e = ap length same in omega arith
as_many old rest after slip less (inr more) = let e = ap length more in let long = length-append rest (slip ∷ []) in omega arith

pub one_added : (n m : ℕ) (b : Bool) → b ≡ true → m ≡ n + 1 → m ≡ n + (if b then 1 else 0)
one_added n m b is more = subst (λ (x : Bool). m ≡ n + (if x then 1 else 0)) (sym is) more

pub none_added : (n m : ℕ) (b : Bool) → b ≡ false → m ≡ n → m ≡ n + (if b then 1 else 0)
none_added n m b is same = subst (λ (x : Bool). m ≡ n + (if x then 1 else 0)) (sym is) (let even : m ≡ n + 0 = omega arith in even)
