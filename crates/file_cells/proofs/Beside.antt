-- The hand has the tokens of the file and of the nodes beside it: one that is planted goes from the one to the other,
-- so the hand stays, and those left over are given back from it.
use Rattle.std.proofs.Common.{◌≡◌, ℕ, ◌+◌, ◌<◌, ◌≤◌, refl, sym, ap, subst, ◌∙◌, arith}
use Rattle.geometry.specs.Weights.{weigh}
use Rattle.geometry.specs.Path.{node_entries, largest_length}
use Rattle.rights_books.specs.Accounts.{HandView}
use Rattle.rights_books.specs.declared.claim.TakenNumber.{TakenNumber}
use Rattle.nodes.specs.Tree.{Same}
use Rattle.nodes.specs.Spares.{KeepsNames}
use Rattle.nodes.specs.Owners.{namer_at}
use Rattle.nodes_law.proofs.Names.{named_planted}
use Rattle.nodes.specs.Change.{TreeNode, nothing, unnumbered}
use Rattle.nodes.specs.declared.file.FileState.{FileState}
use Rattle.nodes.specs.declared.spare_path.SparePath.{SparePath}
use Rattle.nodes.specs.File.{IsFile, ticket_at}
use Rattle.nodes.specs.Lacking.{spare_tokens, AreEmptyNodes}
use Rattle.nodes.specs.Marks.{MarksNode, unchanged}
use Rattle.nodes.specs.Held.{Others, with_spares, AreHeldBeside}
use Rattle.nodes.proofs.Beside.{held_none, held_all, held_made, held_planted}
use Rattle.nodes.proofs.Held.{weigh_tickets, weigh_tokens}
use Rattle.nodes_law.specs.Contents.{IsStored, InHand, Serves}
use Rattle.file_cells.specs.Beside.{IsSpareFor, ServesBeside}
use Rattle.nodes_law.proofs.Serving.{with_token, has_number, stored_same}

module _ {B L : Type 0} where
  pub beside_not : (f : FileState B L) (s : SparePath B L) (x : HandView) → IsStored f → IsSpareFor f s → ServesBeside f f s s x x
  beside_not f s x is spare = record {
    stored = is;
    spare = spare;
    shape = refl;
    number = refl;
    others = λ others was. was;
    book = refl;
  }

  pub beside_both : (f g h : FileState B L) (s t u : SparePath B L) (x y z : HandView) → ServesBeside f g s t x y → ServesBeside g h t u y z → ServesBeside f h s u x z
  beside_both f g h s t u x y z one two = record {
    stored = two.stored;
    spare = two.spare;
    shape = two.shape ∙ one.shape;
    number = two.number ∙ one.number;
    others = λ others was. two.others others (one.others others was);
    book = two.book ∙ one.book;
  }

  pub spare_of : (f g : FileState B L) (s : SparePath B L) → g.shape ≡ f.shape → IsSpareFor f s → IsSpareFor g s
  spare_of f g s shape spare = record { empty = subst (λ n. AreEmptyNodes n s) (ap node_entries (sym shape)) spare.empty; numbered = spare.numbered }

  -- a call that does nothing to the spare nodes
  pub beside_serves : (f g : FileState B L) (s : SparePath B L) (x y : HandView) → IsSpareFor f s → Serves f g x y → ServesBeside f g s s x y
  beside_serves f g s x y spare serves = record {
    stored = serves.stored;
    spare = spare_of f g s serves.shape spare;
    shape = serves.shape;
    number = serves.number;
    others = λ others was. serves.others (with_spares s others) was;
    book = serves.book;
  }

-- a spare node is made
module _ {B L : Type 0} (f : FileState B L) (s t : SparePath B L) (x y : HandView) (k : TakenNumber) (is : IsStored f) (spare : IsSpareFor f s) where
  pub beside_made : y ≡ with_token k x → 0 < k.number → AreEmptyNodes (node_entries f.shape) t → ((h : TakenNumber → ℕ) → spare_tokens h t ≡ spare_tokens h s + h k)
      → ServesBeside f f s t x y
  beside_made hand some empty tokens = record {
    stored = is;
    spare = record {
      empty = empty;
      numbered = let all = tokens unnumbered in let was = spare.numbered in let none = has_number k some in omega arith;
    };
    shape = refl;
    number = refl;
    others = λ others was. subst (λ (h : HandView). AreHeldBeside (with_spares t others) f h.tickets h.tokens) (sym hand)
        (held_made others f s x.tickets x.tokens was t k tokens);
    book = ap (λ (h : HandView). h.book) hand;
  }

-- a spare node comes into the file
module _ {B L : Type 0} (old new : FileState B L) (s t : SparePath B L) where
  pub spare_planted : IsSpareFor old s → new.shape ≡ old.shape → AreEmptyNodes (node_entries old.shape) t → (n : TreeNode)
      → ((h : TakenNumber → ℕ) → spare_tokens h t + h n.token ≡ spare_tokens h s) → IsSpareFor new t
  spare_planted spare shape empty n tokens = record {
    empty = subst (λ e. AreEmptyNodes e t) (ap node_entries (sym shape)) empty;
    numbered = let more = tokens unnumbered in let none = spare.numbered in omega arith;
  }

  pub stored_planted : IsStored old → IsSpareFor old s → IsFile new → new.shape ≡ old.shape → new.kind ≡ old.kind → new.length ≡ old.length → Same (ticket_at old) (ticket_at new) → KeepsNames (namer_at old) (namer_at new)
      → (n : TreeNode) → MarksNode unchanged old new nothing (λ w. w.node n) → ((h : TakenNumber → ℕ) → spare_tokens h t + h n.token ≡ spare_tokens h s) → IsStored new
  stored_planted is spare now shape kind length same keeps n change tokens = stored_same old new is now shape kind length same
      (named_planted old new is.named now (let s = is.short in let top = ap largest_length shape in omega arith) shape same keeps)
      (let all = weigh_tickets unchanged old new nothing (λ w. w.node n) change (λ m. 1) in omega arith)
      (let all = weigh_tokens unchanged old new nothing (λ w. w.node n) change unnumbered in
      let was = is.numbered in
      let more = tokens unnumbered in
      let none = spare.numbered in omega arith)

  pub beside_planted : (x : HandView) → IsStored old → IsSpareFor old s → IsFile new → new.shape ≡ old.shape → new.kind ≡ old.kind → new.length ≡ old.length
      → Same (ticket_at old) (ticket_at new) → KeepsNames (namer_at old) (namer_at new) → AreEmptyNodes (node_entries old.shape) t → (n : TreeNode) → MarksNode unchanged old new nothing (λ w. w.node n)
      → ((h : TakenNumber → ℕ) → spare_tokens h t + h n.token ≡ spare_tokens h s) → ServesBeside old new s t x x
  beside_planted x is spare now shape kind length same keeps empty n change tokens = record {
    stored = stored_planted is spare now shape kind length same keeps n change tokens;
    spare = spare_planted spare shape empty n tokens;
    shape = shape;
    number = ap (λ (e : TakenNumber). e.number) change.token;
    others = λ others was. held_planted others old s x.tickets x.tokens was new t n change tokens;
    book = refl;
  }

-- what is left of the spare nodes is given back
module _ {B L : Type 0} (old new : FileState B L) (s t : SparePath B L) (x y : HandView) (none : (h : TakenNumber → ℕ) → spare_tokens h s ≡ 0) (serves : ServesBeside old new s t x y) where
  with_none : (others : Others) → InHand others old x → InHand (with_spares s others) old x
  with_none others was = held_none others old s x.tickets x.tokens none was

  pub spares_there : (others : Others) → InHand others old x → (h : TakenNumber → ℕ) → spare_tokens h t ≤ weigh h y.tokens
  spares_there others was = held_all others new t y.tickets y.tokens (serves.others others (with_none others was))

  pub serves_beside : (z : HandView) → ((h : TakenNumber → ℕ) → weigh h z.tokens + spare_tokens h t ≡ weigh h y.tokens) → z.tickets ≡ y.tickets → z.book ≡ y.book → Serves old new x z
  serves_beside z tokens tickets book = record {
    stored = serves.stored;
    shape = serves.shape;
    number = serves.number;
    others = λ others was. (let held = serves.others others (with_none others was) in record {
      tickets = λ h. (let all = held.tickets h in let same = ap (weigh h) tickets in omega arith);
      tokens = λ h. (let all = held.tokens h in let less = tokens h in omega arith);
    });
    book = book ∙ serves.book;
  }
