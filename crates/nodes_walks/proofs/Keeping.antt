-- A file stays what it was where one range keeps what it names, where its inode alone is written, and where nothing is.
use Rattle.std.proofs.Common.{◌≡◌, ℕ, Bool, false, Option, refl, ap, subst, sym, ◌∙◌}
use Rattle.geometry.specs.Path.{node_entries}
use Rattle.rights_books.specs.declared.claim.TakenNumber.{TakenNumber}
use Rattle.nodes.specs.declared.entries.Entries.{Entries}
use Rattle.nodes.specs.declared.file.FileState.{FileState}
use Rattle.nodes.specs.File.{IsFile}
use Rattle.nodes.specs.Owners.{namer_at}
use Rattle.nodes.specs.declared.branch.Branch.{Branch}
use Rattle.tickets.specs.Placed.{Placed}
use Rattle.nodes.specs.Places.{OfDirect, OfIndirect, OfDouble}
use Rattle.nodes.proofs.Walking.{StaysIn, Stays, stays}
use Rattle.nodes_walks.specs.Kept.{KeepsFile}
use Rattle.nodes_walks.specs.Unmarked.{unmarked}

module _ {B L : Type 0} (f : FileState B L) where
  -- below the three ranges
  kept_below : (x : Entries (Branch Placed)) (y : Entries (Branch (Branch Placed))) (z : Entries (Branch (Branch (Branch Placed))))
      → Stays f (record f { direct = x; indirect = y; double = z }) → KeepsFile f (record f { direct = x; indirect = y; double = z })
  kept_below x y z stays = record {
    same = stays.same;
    namer = stays.namer;
    useful = stays.useful;
    number = refl;
    length_is = refl;
    shape_is = refl;
    kind_is = refl;
    file = stays.file;
  }

  module _ (is : IsFile f) where
    module _ (e : ℕ) (entries : e ≡ node_entries f.shape) where
      pub kept_direct : (x : Entries (Branch Placed)) → StaysIn OfDirect e 2 f.direct x → KeepsFile f (record f { direct = x })
      kept_direct x walk = kept_below x f.indirect f.double (stays f is OfDirect e entries x walk)

      pub kept_indirect : (x : Entries (Branch (Branch Placed))) → StaysIn OfIndirect e 2 f.indirect x → KeepsFile f (record f { indirect = x })
      kept_indirect x walk = kept_below f.direct x f.double (stays f is OfIndirect e entries x walk)

      pub kept_double : (x : Entries (Branch (Branch (Branch Placed)))) → StaysIn OfDouble e 1 f.double x → KeepsFile f (record f { double = x })
      kept_double x walk = kept_below f.direct f.indirect x (stays f is OfDouble e entries x walk)

    -- above them, whatever is marked
    kept_above : (token : TakenNumber) (resized tickets direct indirect double : Bool) → token.number ≡ f.token.number
        → KeepsFile f (record f {
          token = token;
          resized = resized;
          tickets = record f.tickets { dirty = tickets };
          direct = record f.direct { dirty = direct };
          indirect = record f.indirect { dirty = indirect };
          double = record f.double { dirty = double };
        })
    kept_above token resized tickets direct indirect double number = record {
      same = λ j. refl;
      namer = λ j. (let at : ℕ → Option ℕ = λ n. namer_at (record f { token = record f.token { number = n } }) j in ap at number);
      useful = λ asked ok. record { direct = ok.direct; indirect = ok.indirect; double = ok.double };
      number = number;
      length_is = refl;
      shape_is = refl;
      kind_is = refl;
      file = record { tickets = is.tickets; direct = is.direct; indirect = is.indirect; double = is.double; within = is.within };
    }

    pub kept_token : (token : TakenNumber) → token.number ≡ f.token.number → KeepsFile f (record f { token = token })
    kept_token token = kept_above token f.resized f.tickets.dirty f.direct.dirty f.indirect.dirty f.double.dirty

    pub kept_unmarked : (token : TakenNumber) → token.number ≡ f.token.number → KeepsFile f (unmarked (record f { token = token }))
    kept_unmarked token = kept_above token false false false false false

    pub kept_same : (new : FileState B L) → new ≡ f → KeepsFile f new
    kept_same new e = subst (λ (x : FileState B L). KeepsFile f x) (sym e) (kept_token f.token refl)

-- one after another
pub kept_both : {B L : Type 0} (f g h : FileState B L) → KeepsFile f g → KeepsFile g h → KeepsFile f h
kept_both f g h one two = record {
  same = λ j. two.same j ∙ one.same j;
  namer = λ j. two.namer j ∙ one.namer j;
  useful = λ asked ok. two.useful asked (one.useful asked ok);
  number = two.number ∙ one.number;
  length_is = two.length_is ∙ one.length_is;
  shape_is = two.shape_is ∙ one.shape_is;
  kind_is = two.kind_is ∙ one.kind_is;
  file = two.file;
}
