-- A walk below one range that moves no ticket, as the writing of a node or the swap of its token, moves none of the file.
use Rattle.std.proofs.Common.{◌≡◌, ℕ, Bool, ◌∙◌}
use Rattle.nodes.specs.declared.entries.Entries.{Entries}
use Rattle.nodes.specs.Tree.{Same, ShapedIn}
use Rattle.nodes.specs.declared.file.FileState.{FileState}
use Rattle.nodes.specs.File.{IsFile, ticket_at}
use Rattle.geometry.specs.Path.{node_entries}
use Rattle.nodes.specs.Owners.{namer_at}
use Rattle.nodes.specs.Places.{Range, Named, first_of, width_of, shaped_of, entries_of}
use Rattle.nodes.specs.Useful.{IsUseful}
use Rattle.nodes.proofs.Placing.{with_entries, find_of, namer_of, useful_of, same, same_namers, useful, is_file}

-- what it keeps of the range, whose nodes have so many entries
pub record StaysIn (r : Range) (e count : ℕ) (old new : Entries (Named r)) : Type 0 where
  pub same : Same (find_of r e old) (find_of r e new)
  pub namer : Same (namer_of r e old) (namer_of r e new)
  pub useful : (asked : ℕ → ℕ → Bool) (first : ℕ) → useful_of r e asked first old → useful_of r e asked first new
  pub shaped : ShapedIn (shaped_of r e) count new.slots.items

-- and of the file
pub record Stays {B L : Type 0} (old new : FileState B L) : Type 0 where
  pub same : Same (ticket_at old) (ticket_at new)
  pub namer : Same (namer_at old) (namer_at new)
  pub useful : (asked : ℕ → ℕ → Bool) → IsUseful asked old → IsUseful asked new
  pub file : IsFile new

pub stays : {B L : Type 0} (f : FileState B L) → IsFile f → (r : Range) (e : ℕ) → e ≡ node_entries f.shape → (x : Entries (Named r))
    → StaysIn r e (width_of r f.shape) (entries_of r f) x → Stays f (with_entries r f x)
stays f ok r e is x walk =
    let done = rw is at walk in
    let kept = same f r x done.same in
    record {
      same = kept;
      namer = same_namers f r x done.namer;
      useful = λ asked. useful f r x asked (done.useful asked (first_of r f.shape));
      file = is_file f r x ok done.shaped (λ j h. kept j ∙ ok.within j h);
    }
