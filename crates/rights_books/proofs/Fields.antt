-- The data field of a `RestingSeat`. Assumes `Logic`.
use Rattle.std.proofs.Common.{[], ◌∷◌, refl}
use seplogic.Ra.Ura.{Ura}
use mir.Val.{Val, vstruct, vcons, vnil}
use base.Logic.{ent, emp}
use types.Logic.{Logic, sem}
use denote.RattleType.{RattleType}
use denote.Shadow.{makes_shadow}
use denote.Struct.Struct.{Struct}
use denote.Struct.Owning.{shape}
use Rattle.rights_books.specs.contracts.shown.RestingSeat as shown

abbrev pub token_val : Val
token_val = vstruct (vcons (vstruct vnil) vnil)

module _ (U : RattleType) where
  abbrev pub Pin : RattleType
  Pin = Struct (shape (shown.the_type U))

  pub pin_made : {M : Type 1} {𝓤 : Ura M} (𝓛 : Logic 𝓤) → ent 𝓤 (emp 𝓤) (sem 𝓛 (Pin.own_val (tt, tt) (token_val ∷ [])))
  pin_made 𝓛 = makes_shadow 𝓛 (Pin.own_val (tt, tt) (token_val ∷ [])) (λ vss. (tt, ((λ uss. (tt, tt)), tt))) ((vstruct vnil ∷ [], tt), (refl, ((tt, (refl, tt)), tt)))
