-- What is spelled of rows is spelled of what shows them, and what holds of each item holds with one more.
use Rattle.std.proofs.Common.{◌≡◌, ◌∙◌, sym, ap, subst, ℕ, List, Option, [], ◌∷◌, ◌++◌, get_or, count_by, arith}
use Rattle.std.specs.Prelude.{All}
use Rattle.std.proofs.lemmas.List.Elements.{All-append}
use Rattle.geometry.specs.declared.geometry.Geometry.{Geometry}
use Rattle.geometry.specs.declared.shape.Shape.{Shape}
use Rattle.image.specs.declared.image.LogHead.{LogHead}
use Rattle.image.specs.Files.{below}
use Rattle.image.specs.Free.{is_free, free_count}
use Rattle.image.specs.Image.{Image}
use Rattle.image.specs.Pack.{pack_body}
use Rattle.pack_tables.specs.Grammar.{HasSmallNumbers}
use Rattle.checkpoint_image.specs.Rows.{Rows}

pub all_push : {A : Type 0} (P : A → Type 0) (xs : List A) (x : A) → All P xs → P x → All P (xs ++ x ∷ [])
all_push P xs x all here = All-append P xs (x ∷ []) all (λ k d low. (let first : 0 ≡ k = omega arith in subst (λ n. P (get_or (x ∷ []) n d)) first here))

abbrev image_of : ℕ → ℕ → List (Option LogHead) → Rows → Image
image_of version total logs rows =
    record { version = version; total = total; logs = logs; node_table = rows.entries; segments = rows.segments; summaries = rows.summaries; nodes = rows.nodes }

module _ (version total : ℕ) (logs : List (Option LogHead)) (shown held : Rows) (same : shown ≡ held) where
  pub spelled_by : (shape : Shape) (body : List ℕ) → body ≡ pack_body shape (image_of version total logs held) → body ≡ pack_body shape (image_of version total logs shown)
  spelled_by shape body spelled = spelled ∙ ap (λ r. pack_body shape (image_of version total logs r)) (sym same)

  pub small_by : HasSmallNumbers (image_of version total logs held) → HasSmallNumbers (image_of version total logs shown)
  small_by small = subst (λ r. HasSmallNumbers (image_of version total logs r)) (sym same) small

  pub counted_by : (geometry : Geometry) (free : ℕ) (given : List (Option LogHead)) → given ≡ logs
      → ((image : Image) → image.segments ≡ held.segments → image.logs ≡ given → free ≡ count_by (is_free image) (below geometry.segments))
      → free ≡ free_count geometry (image_of version total logs shown)
  counted_by geometry free given are counted = counted (image_of version total logs shown) (ap (λ (r : Rows). r.segments) same) (sym are)
