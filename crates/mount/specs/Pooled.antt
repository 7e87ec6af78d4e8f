-- What a mount puts into the pool.
use Rattle.std.specs.Prelude.{◌≡◌, ℕ, ◌+◌, [], if◌then◌else◌}
use Rattle.geometry.specs.Weights.{weigh}
use Rattle.geometry.specs.declared.geometry.Geometry.{Geometry}
use Rattle.image.specs.Image.{Image}
use Rattle.image.specs.Files.{below}
use Rattle.image.specs.Free.{is_free}
use Rattle.pool.specs.declared.law.Account.{Account}

-- The pass has put the slip of each segment that is free in the image, once, and no other, and has taken none.
pub record HasPutFree (geometry : Geometry) (image : Image) (pass : Account) : Type 0 where
  pub put : (h : ℕ → ℕ) → weigh h pass.ordinary.put + weigh h pass.reserve.put
      ≡ weigh (λ segment. if is_free image segment then h segment else 0) (below geometry.segments)
  pub taken : (pass.ordinary.taken ≡ []) × (pass.reserve.taken ≡ [])

-- the pass lists the same slips
pub record HasSameLists (old new : Account) : Type 0 where
  pub put : (new.ordinary.put ≡ old.ordinary.put) × (new.reserve.put ≡ old.reserve.put)
  pub taken : (new.ordinary.taken ≡ old.ordinary.taken) × (new.reserve.taken ≡ old.reserve.taken)
