-- What a segment's home shows is read off its places one by one: so a block that leaves or comes changes just its
-- place, and takes or brings its own failures.
use Rattle.std.proofs.Common.{◌≡◌, ℕ, zero, suc, ◌+◌, ◌<◌, List, Option, Some, None, Bool, length, get_or, map, set, replicate, ap, sym, ◌∙◌, refl}
use Rattle.std.proofs.lemmas.List.{map-set, get_or-map}
use Rattle.std.specs.Prelude.{is_some, false}
use Rattle.geometry.proofs.Weighing.{weigh-set, weigh-replicate}
use Rattle.sit.specs.Home.{Home, AreAtHome, failed_at, failures_of}

abbrev pub home_of : ℕ → ℕ → List Bool → List (List ℕ) → ℕ → Home
home_of first block_bytes present contents failed = record { first = first; block_bytes = block_bytes; present = present; contents = contents; failed = failed }

abbrev pub home_set : Home → ℕ → Bool → List ℕ → ℕ → Home
home_set h o b bytes failed = record { first = h.first; block_bytes = h.block_bytes; present = set h.present o b; contents = set h.contents o bytes; failed = failed }

-- one place changes, and how often the blocks have failed
pub home-set : {A : Type 0} (first block_bytes : ℕ) (f : A → Bool) (content : A → List ℕ) (xs : List A) (o : ℕ) (x : A) (failed failed' : ℕ) (h : Home)
    → home_of first block_bytes (map f xs) (map content xs) failed ≡ h
    → home_of first block_bytes (map f (set xs o x)) (map content (set xs o x)) failed' ≡ home_set h o (f x) (content x) failed'
home-set first block_bytes f content xs o x failed failed' h e =
    (λ i. home_of first block_bytes (map-set f xs o x i) (map-set content xs o x i) failed') ∙ ap (λ z. home_set z o (f x) (content x) failed') e

-- a block leaves or comes with its failures
pub failures-set : {B : Type 0} (failed : B → ℕ) (blocks : List (Option B)) (o : ℕ) (x : Option B) → o < length blocks
    → failures_of failed (set blocks o x) + failed_at failed (get_or blocks o None) ≡ failures_of failed blocks + failed_at failed x
failures-set failed blocks o x within = weigh-set (failed_at failed) blocks o x None within

pub failures-none : {B : Type 0} (failed : B → ℕ) (n : ℕ) → failures_of failed (replicate {A = Option B} n None) ≡ 0
failures-none {B} failed n = weigh-replicate (failed_at failed) n None refl

-- where no block is there, each that is there is at its place
pub nobody-home : {B : Type 0} (address_of : B → ℕ) (content_of : B → List ℕ) (first bytes n : ℕ) → AreAtHome address_of content_of first bytes (replicate n None)
nobody-home {B} address_of content_of first bytes n = record {
  addresses = λ o block is. absurd (let no : ◌≡◌ {A = Option B} None (Some block) = sym (away n o) ∙ is in cc);
  lengths = λ o block is. absurd (let no : ◌≡◌ {A = Option B} None (Some block) = sym (away n o) ∙ is in cc);
}
  where
    away : (n o : ℕ) → get_or (replicate {A = Option B} n None) o None ≡ None
    away zero o = refl
    away (suc n) zero = refl
    away (suc n) (suc o) = away n o

-- where no block is there, none has failed
pub failed-away : {B : Type 0} (failed : B → ℕ) (blocks : List (Option B)) (o : ℕ) → o < length blocks → get_or (map is_some blocks) o false ≡ false
    → failed_at failed (get_or blocks o None) ≡ 0
failed-away {B} failed blocks o within away = go (get_or blocks o None) (sym (get_or-map is_some blocks o None false within) ∙ away)
  where
    go : (x : Option B) → is_some x ≡ false → failed_at failed x ≡ 0
    go None e = refl
    go (Some b) e = absurd (let no = e in cc)
