-- An audit changes nothing that is shown: so what was learned of the accounts are copies of the cells as they were and
-- as they are, and all parts of them balance.
use Rattle.std.proofs.Common.{◌≡◌, refl, sym, ◌∙◌, ap, ℕ, List, [], ◌∷◌, map, length, Option, arith}
use Rattle.std.specs.Prelude.{Result, Ok, Err, IfOk}
use Rattle.std.proofs.lemmas.List.{length-map}
use Rattle.geometry.specs.declared.geometry.Geometry.{Geometry}
use Rattle.geometry.specs.Weights.{weigh}
use Rattle.rights_books.specs.declared.claim.Copied.{Copied}
use Rattle.rights_books.specs.Accounts.{FileView}
use Rattle.rights_books.specs.Rules.{Balanced as AreSettled}
use Rattle.sit.specs.Registered.{Registered}
use Rattle.sit.specs.Segment.{Segment, marks_of}
use Rattle.nat.specs.Shard.{ShardNodes}
use Rattle.image_law.proofs.Weighing.{weigh-map}
use Rattle.checkpoint_image.specs.Cells.{CellsLaw, Filed}
use Rattle.checkpoint_image.specs.Audited.{AreCopies}
use Rattle.checkpoint_image.specs.PartsLaw.{ArePartsOf}
use Rattle.checkpoint_image.proofs.Laws.{audit_holds}
use Rattle.checkpoint_image.specs.Held.{segment_in, cells_in}
use Rattle.checkpoint_image.proofs.Taking.{map_twice}
use Rattle.checkpoint_image.specs.Learning.{AreLearned}

weigh_same : {A : Type 0} (f g : A → ℕ) (xs : List A) → ((x : A) → f x ≡ g x) → weigh f xs ≡ weigh g xs
weigh_same f g [] same = refl
weigh_same f g (x ∷ xs) same = let here = same x in let there = weigh_same f g xs same in omega arith

module _ {S H L F : Type 0} (segment : S → Registered) (shard : H → ShardNodes) (log : L → Option ℕ) (file : F → Filed) (account : F → FileView)
    (lodged : (f : F) → ((file f).tickets ≡ (account f).tickets) × ((file f).tokens ≡ (account f).tokens)) where
  -- cells that show the same are the same
  pub cells_same : (segments segments' : List S) (shards shards' : List H) (logs logs' : List L) (files files' : List F)
      → map segment segments' ≡ map segment segments → map shard shards' ≡ map shard shards → logs' ≡ logs → map file files' ≡ map file files
      → cells_in segment shard log file segments' shards' logs' files' ≡ cells_in segment shard log file segments shards logs files
  cells_same segments segments' shards shards' logs logs' files files' s h l f =
      let one = map_twice segment (λ (r : Registered). r.segment) segments' in
      let two = map_twice segment (λ (r : Registered). r.segment) segments in
      let same = one ∙ ap (map (λ (r : Registered). r.segment)) s ∙ sym two in
      λ i. record { segments = same i; shards = h i; logs = map log (l i); files = f i }

  -- the same, where slices show what was learned, and what was learned shows the cells
  pub slices_same : (segments : List S) (learned_segments segments' : List S) (shards learned_shards shards' : List H) (logs logs' : List L) (files learned_files files' : List F)
      → segments' ≡ learned_segments → map segment learned_segments ≡ map segment segments → shards' ≡ learned_shards → map shard learned_shards ≡ map shard shards
      → logs' ≡ logs → files' ≡ learned_files → map file learned_files ≡ map file files
      → cells_in segment shard log file segments' shards' logs' files' ≡ cells_in segment shard log file segments shards logs files
  slices_same segments learned_segments segments' shards learned_shards shards' logs logs' files learned_files files' s s' h h' l f f' =
      cells_same segments segments' shards shards' logs logs' files files' (ap (map segment) s ∙ s') (ap (map shard) h ∙ h') l (ap (map file) f ∙ f')

  pub are_copies : (segments : List S) (shards : List H) (logs : List L) (files : List F) (copies : List Copied)
      → AreLearned (map segment segments) (map shard shards) (map account files) copies → AreCopies (cells_in segment shard log file segments shards logs files) copies
  are_copies segments shards logs files copies are = record {
    marks = λ h.
        let a = are.marks h in
        let b = weigh-map (λ (r : Registered). weigh h (marks_of r.segment)) segment segments in
        let c = weigh-map (λ (s : Segment). weigh h (marks_of s)) (segment_in segment) segments in omega arith;
    taken = λ h. are.taken h;
    tickets = λ h.
        let a = are.tickets h in
        let b = weigh-map (λ (f : FileView). weigh h f.tickets) account files in
        let c = weigh-map (λ (f : Filed). weigh h f.tickets) file files in
        let d = weigh_same (λ (f : F). weigh h (file f).tickets) (λ (f : F). weigh h (account f).tickets) files (λ f. ap (weigh h) (lodged f).0) in omega arith;
    tokens = λ h.
        let a = are.tokens h in
        let b = weigh-map (λ (f : FileView). weigh h f.tokens) account files in
        let c = weigh-map (λ (f : Filed). weigh h f.tokens) file files in
        let d = weigh_same (λ (f : F). weigh h (file f).tokens) (λ (f : F). weigh h (account f).tokens) files (λ f. ap (weigh h) (lodged f).1) in omega arith;
  }

  pub are_parts : (geometry : Geometry) (segments : List S) (shards : List H) (logs : List L) (files : List F) (copies : List Copied)
      → CellsLaw geometry (cells_in segment shard log file segments shards logs files)
      → AreLearned (map segment segments) (map shard shards) (map account files) copies → AreSettled copies
      → ArePartsOf geometry (cells_in segment shard log file segments shards logs files)
  are_parts geometry segments shards logs files copies law are settled =
      audit_holds geometry (cells_in segment shard log file segments shards logs files) copies law (are_copies segments shards logs files copies are) settled

  -- as many as the books have accounts
  pub every_segment : (geometry : Geometry) (segments : List S) (shards : List H) (logs : List L) (files : List F)
      → CellsLaw geometry (cells_in segment shard log file segments shards logs files)
      → (length segments ≡ geometry.segments) × (length shards ≡ 16) × (length files ≡ geometry.files)
  every_segment geometry segments shards logs files law = (
    sym (length-map segments (segment_in segment)) ∙ law.all_segments,
    sym (length-map shards shard) ∙ law.all_shards,
    sym (length-map files file) ∙ law.all_files,
  )

-- what an Ok holds
pub if_ok : {T E : Type 0} {P Q : T → Type 0} (r : Result T E) → ((x : T) → P x → Q x) → IfOk r P → IfOk r Q
if_ok (Ok x) f p = f x p
if_ok (Err e) f p = p
