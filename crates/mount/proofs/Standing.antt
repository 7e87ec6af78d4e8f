-- Places are filled or left empty in rising order of inodes, so those up to the present one are done and those past it
-- empty: after the last one the whole table stands.
use Rattle.std.proofs.Common.{◌≡◌, ℕ, zero, suc, ◌+◌, ◌<◌, ◌≤◌, true, false, List, [], ◌∷◌, ◌++◌, length, get_or, set, Option, Some, None, inl, inr, refl, sym, ap, subst, ◌∙◌, arith}
use Rattle.std.proofs.lemmas.Bool.{cases_eq, cases_lt}
use Rattle.std.proofs.lemmas.List.{length-set, get_or-set_same, get_or-set_other}
use Rattle.geometry.specs.declared.geometry.Geometry.{Geometry}
use Rattle.image.specs.Image.{Image}
use Rattle.image.specs.Walk.{is_taken}
use Rattle.mount_blocks.proofs.States.{same_some}
use Rattle.mount.specs.MountFiles.{HasFile, StandsFor}

-- the last of a list, and what stands before it
pub get_last : {A : Type 0} (xs : List A) (x d : A) → get_or (xs ++ x ∷ []) (length xs) d ≡ x
get_last [] x d = refl
get_last (y ∷ xs) x d = get_last xs x d

pub get_front : {A : Type 0} (xs : List (Option A)) (x : Option A) (k : ℕ) (y : A) → get_or xs k None ≡ Some y → get_or (xs ++ x ∷ []) k None ≡ Some y
get_front [] x k y e = cc
get_front (z ∷ xs) x zero y e = e
get_front (z ∷ xs) x (suc k) y e = get_front xs x k y e

module _ {A : Type 0} (geometry : Geometry) (image : Image) (Right : ℕ → A → Type 0) where
  -- those up to an inode stand there, and no others
  pub record AreUpTo (table : List (Option A)) (before : ℕ) : Type 0 where
    pub places : length table ≡ geometry.files + 1
    pub done : (inode : ℕ) → inode ≤ before → StandsFor geometry image Right inode (get_or table inode None)
    pub empty : (inode : ℕ) → before < inode → get_or table inode None ≡ None

  stands_none : (inode : ℕ) (found : Option A) → found ≡ None → (HasFile geometry image inode → ⊥) → StandsFor geometry image Right inode found
  stands_none inode found none no_file = record {
    file = λ has. absurd (no_file has);
    right = λ x e. absurd (let off = sym none ∙ e in cc);
  }

  pub up_to_begins : (table : List (Option A)) → length table ≡ geometry.files + 1 → ((k : ℕ) → get_or table k None ≡ None) → AreUpTo table 0
  up_to_begins table long none = record {
    places = long;
    done = λ inode low. stands_none inode (get_or table inode None) (none inode) (λ has. (let some = has.low in absurd (omega arith)));
    empty = λ inode past. none inode;
  }

  pub up_to_same : (table : List (Option A)) (before : ℕ) → is_taken image (before + 1) ≡ false → AreUpTo table before → AreUpTo table (before + 1)
  up_to_same table before free are = record {
    places = are.places;
    done = λ inode low. elim (cases_eq inode (before + 1)) [
      | inl e ↦ stands_none inode (get_or table inode None) (are.empty inode (omega arith)) (λ has. (let off = sym has.taken ∙ (ap (is_taken image) e ∙ free) in cc))
      | inr apart ↦ are.done inode (omega arith)
    ];
    empty = λ inode past. are.empty inode (omega arith);
  }

  pub up_to_more : (table : List (Option A)) (before : ℕ) (x : A) → before < geometry.files → is_taken image (before + 1) ≡ true → Right (before + 1) x → AreUpTo table before → AreUpTo (set table (before + 1) (Some x)) (before + 1)
  up_to_more table before x low taken right are =
      let long = are.places in
      let here : get_or (set table (before + 1) (Some x)) (before + 1) None ≡ Some x = get_or-set_same table (before + 1) (Some x) None (omega arith) in
      record {
        places = length-set table (before + 1) (Some x) ∙ are.places;
        done = λ inode within. elim (cases_eq inode (before + 1)) [
          | inl e ↦ subst (λ i. StandsFor geometry image Right i (get_or (set table (before + 1) (Some x)) i None)) (sym e) (record {
            file = λ has. (x, here);
            right = λ y at. (record { low = omega arith; high = omega arith; taken = taken }, subst (Right (before + 1)) (same_some (get_or (set table (before + 1) (Some x)) (before + 1) None) x y here at) right);
          })
          | inr apart ↦ subst (StandsFor geometry image Right inode) (sym (get_or-set_other table (before + 1) inode (Some x) None apart)) (are.done inode (omega arith))
        ];
        empty = λ inode past. get_or-set_other table (before + 1) inode (Some x) None (λ e. absurd (omega arith)) ∙ are.empty inode (omega arith);
      }

  pub up_to_all : (table : List (Option A)) → AreUpTo table geometry.files → (inode : ℕ) → StandsFor geometry image Right inode (get_or table inode None)
  up_to_all table are inode = elim (cases_lt geometry.files inode) [
    | inl past ↦ stands_none inode (get_or table inode None) (are.empty inode past) (λ has. (let high = has.high in absurd (omega arith)))
    | inr within ↦ are.done inode within
  ]
