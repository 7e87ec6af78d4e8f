-- Items are gone through one after the other: what is to come stands behind what came, and when nothing is left that is all. So a list
-- is filtered, works are given passes, and the passes of works that have ended are put together.
use Rattle.std.proofs.Common.{◌≡◌, ◌∙◌, ◌<◌, ◌+◌, ℕ, All, Bool, true, false, List, [], ◌∷◌, ◌++◌, arith, append-nil, append_assoc, ap, cond, filter, map, refl, subst, sym, Result, Ok}
use Rattle.std.proofs.Math.ListN.{get_or-map}
use Rattle.std.proofs.lemmas.List.{length-map, map-append}
use Rattle.std.specs.List.{AllZip, flat_map}
use Rattle.file_cells.specs.Pass.{Pass}
use Rattle.flash_volume.specs.Beside.{AreDealt, passes_named, passes_unnamed}
use Rattle.geometry.proofs.Weighing.{weigh-append}
use Rattle.geometry.specs.Weights.{weigh}

module _ {X : Type 0} (test : X → Bool) (taken : List X) (x : X) (rest : List X) where
  pub filtered_in : test x ≡ true → taken ++ filter test (x ∷ rest) ≡ (taken ++ x ∷ []) ++ filter test rest
  filtered_in is = ap (λ (b : Bool). taken ++ cond b (x ∷ filter test rest) (filter test rest)) is ∙ sym (append_assoc taken (x ∷ []) (filter test rest))

  pub filtered_out : test x ≡ false → taken ++ filter test (x ∷ rest) ≡ taken ++ filter test rest
  filtered_out is = ap (λ (b : Bool). taken ++ cond b (x ∷ filter test rest) (filter test rest)) is

-- works were given passes up to here, and these are left for the others
abbrev pub DealtSo : List (List ℕ) → List Pass → List (List Pass) → List (List ℕ) → List Pass → Type 0
DealtSo works before all others passes = (more : List (List Pass)) (rest : List Pass) → AreDealt others passes more rest → AreDealt works before (all ++ more) rest

pub dealt_none : (works : List (List ℕ)) (before : List Pass) → DealtSo works before [] works before
dealt_none works before more rest dealt = dealt

pub dealt_more : (works others new : List (List ℕ)) (files : List ℕ) (before passes left given : List Pass) (all : List (List Pass)) → others ≡ files ∷ new
    → given ≡ passes_named files passes → left ≡ passes_unnamed files passes → DealtSo works before all others passes → DealtSo works before (all ++ given ∷ []) new left
dealt_more works others new files before passes left given all next is left_is so_far more rest dealt =
    subst (λ (given_all : List (List Pass)). AreDealt works before given_all rest) (sym (append_assoc all (given ∷ []) more))
    (so_far (given ∷ more) rest (subst (λ (ws : List (List ℕ)). AreDealt ws passes (given ∷ more) rest) (sym next)
    (is, subst (λ (ps : List Pass). AreDealt new ps more rest) left_is dealt)))

-- a work more has its passes
pub dealt_push : {D : Type 0} (passes_of : D → List Pass) (works others new : List (List ℕ)) (files slice : List ℕ) (before passes left given : List Pass) (xs ys : List D) (x : D)
    → others ≡ files ∷ new → slice ≡ files → given ≡ passes_named slice passes → left ≡ passes_unnamed slice passes → ys ≡ xs ++ x ∷ [] → passes_of x ≡ given
    → DealtSo works before (map passes_of xs) others passes → DealtSo works before (map passes_of ys) new left
dealt_push passes_of works others new files slice before passes left given xs ys x next same is left_is pushed mine so_far =
    subst (λ (all : List (List Pass)). DealtSo works before all new left) (sym (ap (map passes_of) pushed ∙ map-append passes_of xs (x ∷ [])))
    (dealt_more works others new files before passes left (passes_of x) (map passes_of xs) next (mine ∙ is ∙ ap (λ (fs : List ℕ). passes_named fs passes) same)
    (left_is ∙ ap (λ (fs : List ℕ). passes_unnamed fs passes) same) so_far)

pub dealt_all : (works others : List (List ℕ)) (before passes : List Pass) (all : List (List Pass)) → others ≡ [] → DealtSo works before all others passes → AreDealt works before all passes
dealt_all works others before passes all none so_far =
    subst (λ (given_all : List (List Pass)). AreDealt works before given_all passes) (append-nil all)
    (so_far [] passes (subst (λ (ws : List (List ℕ)). AreDealt ws passes [] passes) (sym none) refl))

module _ {X Y : Type 0} (R : X → Y → Type 0) where
  -- the front is related, and the rest is still to come
  abbrev pub ZippedSo : List X → List Y → List X → Type 0
  ZippedSo all front others = (more : List Y) → AllZip R others more → AllZip R all (front ++ more)

  pub zipped_more : (all others new : List X) (front after : List Y) (x : X) (y : Y) → others ≡ x ∷ new → after ≡ front ++ y ∷ [] → R x y → ZippedSo all front others
      → ZippedSo all after new
  zipped_more all others new front after x y next is one so_far more zip =
      subst (λ (ys : List Y). AllZip R all ys) (sym (ap (λ (ys : List Y). ys ++ more) is ∙ append_assoc front (y ∷ []) more))
      (so_far (y ∷ more) (subst (λ (xs : List X). AllZip R xs (y ∷ more)) (sym next) (one, zip)))

  pub zipped_all : (all others : List X) (front : List Y) → others ≡ [] → ZippedSo all front others → AllZip R all front
  zipped_all all others front none so_far =
      subst (λ (ys : List Y). AllZip R all ys) (append-nil front) (so_far [] (subst (λ (xs : List X). AllZip R xs []) (sym none) tt))

module _ {X Y : Type 0} (f : X → List Y) where
  pub flat_more : (whole front now : List Y) (others new : List X) (x : X) → others ≡ x ∷ new → now ≡ front ++ f x → whole ≡ front ++ flat_map f others
      → whole ≡ now ++ flat_map f new
  flat_more whole front now others new x next is so_far =
      so_far ∙ ap (λ (xs : List X). front ++ flat_map f xs) next ∙ sym (append_assoc front (f x) (flat_map f new)) ∙ ap (λ (ys : List Y). ys ++ flat_map f new) (sym is)

module _ {J D A P E : Type 0} (R : J → A → Type 0) (S : P → E → Type 0) (part_job_of : J → D) (lot_of : D → P) (end_of : A → E)
    (same : (job : J) (answer : A) → R job answer → S (lot_of (part_job_of job)) (end_of answer)) where
  ended : (jobs : List J) (answers : List A) → AllZip R jobs answers → AllZip S (map lot_of (map part_job_of jobs)) (map end_of answers)
  ended [] [] zip = tt
  ended [] (answer ∷ answers) zip = absurd zip
  ended (job ∷ jobs) [] zip = absurd zip
  ended (job ∷ jobs) (answer ∷ answers) zip = (same job answer zip.0, ended jobs answers zip.1)

  -- the jobs ended so, where each was sent on an job
  pub part_jobs_ended : (part_jobs : List D) (jobs : List J) (answers : List A) → map part_job_of jobs ≡ part_jobs → AllZip R jobs answers → AllZip S (map lot_of part_jobs) (map end_of answers)
  part_jobs_ended part_jobs jobs answers sent zip = subst (λ (ds : List D). AllZip S (map lot_of ds) (map end_of answers)) sent (ended jobs answers zip)

module _ {X Y : Type 0} (P : Y → Type 0) (f : X → Y) where
  -- what holds of all images holds of what they are images of
  pub all_mapped : (xs : List X) → All P (map f xs) → All (λ x. P (f x)) xs
  all_mapped xs all k other within = subst P (get_or-map f xs k other) (all k (f other) (subst (λ n. k < n) (sym (length-map xs f)) within))

module _ {X Y : Type 0} (f : Y → X) where
  -- all were sent, since none is left
  pub sent_all : (all others : List X) (sent : List Y) → others ≡ [] → all ≡ map f sent ++ others → map f sent ≡ all
  sent_all all others sent none so_far = sym (so_far ∙ ap (λ (xs : List X). map f sent ++ xs) none ∙ append-nil (map f sent))

module _ {X Y Z : Type 0} (R : X → Z → Type 0) (f : Y → X) where
  -- the same of what is zipped
  pub zip_unmapped : (ys : List Y) (zs : List Z) → AllZip R (map f ys) zs → AllZip (λ y z. R (f y) z) ys zs
  zip_unmapped [] [] zip = tt
  zip_unmapped [] (z ∷ zs) zip = absurd zip
  zip_unmapped (y ∷ ys) [] zip = absurd zip
  zip_unmapped (y ∷ ys) (z ∷ zs) zip = (zip.0, zip_unmapped ys zs zip.1)

  pub zip_mapped : (ys : List Y) (zs : List Z) → AllZip (λ y z. R (f y) z) ys zs → AllZip R (map f ys) zs
  zip_mapped [] [] zip = tt
  zip_mapped [] (z ∷ zs) zip = absurd zip
  zip_mapped (y ∷ ys) [] zip = absurd zip
  zip_mapped (y ∷ ys) (z ∷ zs) zip = (zip.0, zip_mapped ys zs zip.1)

pub flat_mapped : {X Y Z : Type 0} (f : X → Y) (g : Y → List Z) (xs : List X) → flat_map g (map f xs) ≡ flat_map (λ x. g (f x)) xs
flat_mapped f g [] = refl
flat_mapped f g (x ∷ xs) = ap (λ zs. g (f x) ++ zs) (flat_mapped f g xs)

module _ {E L O F : Type 0} (end_of : E → L) (what_of : L → Result O F) (back_of : L → List Pass) where
  -- what was taken back of all that ended
  pub taken_back : (ended : List E) (outputs : List O) (held after : List Pass) → AllZip (λ end output. what_of (end_of end) ≡ Ok output) ended outputs
      → after ≡ held ++ flat_map (λ end. back_of (end_of end)) ended
      → AllZip (λ end output. what_of end ≡ Ok output) (map end_of ended) outputs × (after ≡ held ++ flat_map back_of (map end_of ended))
  taken_back ended outputs held after told joined =
      (zip_mapped (λ end output. what_of end ≡ Ok output) end_of ended outputs told, joined ∙ ap (λ (ps : List Pass). held ++ ps) (sym (flat_mapped end_of back_of ended)))

module _ {X : Type 0} (seats_of : X → ℕ) where
  -- seats go out with one more
  pub seats_dealt : (all left now taken : ℕ) (xs ys : List X) (x : X) → all ≡ left + weigh seats_of xs → left ≡ now + taken → ys ≡ xs ++ x ∷ [] → seats_of x ≡ taken
      → all ≡ now + weigh seats_of ys
  seats_dealt all left now taken xs ys x was took is mine =
      let total : weigh seats_of ys ≡ weigh seats_of xs + weigh seats_of (x ∷ []) = ap (weigh seats_of) is ∙ weigh-append seats_of xs (x ∷ []) in
      omega (arith, was, took, mine, total)

  -- seats come back with one more
  pub seats_back : (whole had now back : ℕ) (others rest : List X) (x : X) → others ≡ x ∷ rest → now ≡ had + back → back ≡ seats_of x → had + weigh seats_of others ≡ whole
      → now + weigh seats_of rest ≡ whole
  seats_back whole had now back others rest x next more mine was =
      let total : weigh seats_of others ≡ seats_of x + weigh seats_of rest = ap (weigh seats_of) next in
      omega (arith, was, more, mine, total)

  pub seats_all : (whole had : ℕ) (others : List X) → others ≡ [] → had + weigh seats_of others ≡ whole → had ≡ whole
  seats_all whole had others none was =
      let nothing : weigh seats_of others ≡ 0 = ap (weigh seats_of) none in
      omega (arith, was, nothing)

module _ {X Y Z : Type 0} (f : X → Z) (g : Y → Z) where
  -- one more has an image in front, and one less behind
  pub mapped_more : (whole : List Z) (xs new : List X) (ys rest : List Y) (x : X) (y : Y) → ys ≡ y ∷ rest → new ≡ xs ++ x ∷ [] → f x ≡ g y → whole ≡ map f xs ++ map g ys
      → whole ≡ map f new ++ map g rest
  mapped_more whole xs new ys rest x y next is same so_far =
      so_far ∙ ap (λ (zs : List Y). map f xs ++ map g zs) next ∙ ap (λ (z : Z). map f xs ++ z ∷ map g rest) (sym same) ∙ sym (append_assoc (map f xs) (f x ∷ []) (map g rest))
      ∙ ap (λ (zs : List Z). zs ++ map g rest) (sym (map-append f xs (x ∷ []))) ∙ ap (λ (zs : List X). map f zs ++ map g rest) (sym is)
