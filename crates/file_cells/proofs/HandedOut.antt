-- A file hands out a ticket or a token, which is given back: what is left of it and of the hand serves the file that it was at first.
use Rattle.std.proofs.Common.{◌≡◌, ◌<◌, ℕ, min, length, ap, sym, subst, ◌∙◌}
use Rattle.geometry.specs.declared.shape.Shape.{Shape}
use Rattle.geometry.specs.Mark.{same_mark}
use Rattle.geometry.specs.Shape.{block_bytes}
use Rattle.rights_books.specs.Accounts.{HandView}
use Rattle.rights_books.specs.declared.claim.TakenNumber.{TakenNumber}
use Rattle.rights_books.specs.Lists.{times}
use Rattle.rights_books.specs.Sameness.{same_entry}
use Rattle.tickets.specs.Placed.{Placed}
use Rattle.nodes.specs.declared.file.FileState.{FileState}
use Rattle.nodes.specs.declared.spare.Spare.{Spare}
use Rattle.nodes.specs.declared.spare.Spare.TheVariants.{Ticket, Token}
use Rattle.nodes.specs.Change.{Weighing, WeighsAs, nothing}
use Rattle.nodes.specs.File.{IsFile, ticket_at, below_weight}
use Rattle.nodes.specs.Held.{Others}
use Rattle.nodes.specs.Marks.{MarksNode, unchanged}
use Rattle.nodes.specs.Owners.{namer_at}
use Rattle.nodes.specs.Tree.{HandsOut, KeepsNamers, Same}
use Rattle.nodes_law.specs.Contents.{InHand, Serves}
use Rattle.nodes_law.specs.Law.{FileStateLaw, ragged}
use Rattle.nodes_law.proofs.Lasting.{law_cut}
use Rattle.nodes_law.proofs.Serving.{less_ticket, less_token, serves_both, whole_out, out_there, serves_out, node_there, node_whole, serves_node, serves_cut}

module _ {B L : Type 0} (first old new : FileState B L) (start x : HandView) (n : ℕ) (was : Serves first old start x) (now : IsFile new) (shape : new.shape ≡ old.shape)
    (kind : new.kind ≡ old.kind) (long : new.length ≡ old.length) (spare : Spare Placed) (change : (out : Weighing Placed → ℕ) × WeighsAs spare out × MarksNode unchanged old new out nothing) where
  law_after : {files : ℕ} → FileStateLaw files old → FileStateLaw files new
  law_after {files} law = law_cut files old new law shape spare change.0 change.1 change.2

  module _ (t : Placed) (is : spare ≡ Ticket t) (hands : HandsOut (ticket_at old) (ticket_at new) n (Ticket t)) where
    weighs_ticket : WeighsAs (Ticket t) change.0
    weighs_ticket = subst (λ (s : Spare Placed). WeighsAs s change.0) is change.1

    pub ticket_held : {others : Others} → InHand others first start → 0 < times same_mark t.mark x.tickets
    ticket_held {others} held = out_there old new x x n was.stored now shape kind long t hands change.0 weighs_ticket change.2 (was.others others held)

    pub ticket_whole : {s : Shape} → first.shape ≡ s → length t.content ≡ block_bytes s
    ticket_whole volume = whole_out old new x x n was.stored now shape kind long t hands change.0 weighs_ticket change.2 ∙ ap block_bytes (was.shape ∙ volume)

    pub ticket_given : {files : ℕ} (y : HandView) → FileStateLaw files old → KeepsNamers (ticket_at new) (namer_at old) (namer_at new) → y ≡ less_ticket t.mark x
        → FileStateLaw files new × Serves first new start y
    ticket_given y law keeps hand =
        (law_after law, serves_both first old new start x y was (serves_out old new x y n was.stored now shape kind long t hands change.0 weighs_ticket change.2 keeps hand))

  module _ (k : TakenNumber) (is : spare ≡ Token k) (same : Same (ticket_at old) (ticket_at new)) where
    weighs_token : WeighsAs (Token k) change.0
    weighs_token = subst (λ (s : Spare Placed). WeighsAs s change.0) is change.1

    pub token_held : {others : Others} → InHand others first start → 0 < times same_entry k x.tokens
    token_held {others} held = node_there old new x x n was.stored now shape kind long k same change.0 weighs_token change.2 (was.others others held)

    pub token_whole : {files : ℕ} {s : Shape} → FileStateLaw files old → first.shape ≡ s → ragged (block_bytes s) k ≡ 0
    token_whole law volume =
        ap (λ s. ragged (block_bytes s) k) (sym (was.shape ∙ volume)) ∙ node_whole old new x x n was.stored now shape kind long k same change.0 weighs_token change.2 law

    pub token_given : {files : ℕ} (y : HandView) → FileStateLaw files old → KeepsNamers (ticket_at new) (namer_at old) (namer_at new) → y ≡ less_token k x
        → FileStateLaw files new × Serves first new start y
    token_given y law keeps hand =
        (law_after law, serves_both first old new start x y was (serves_node old new x y n was.stored now shape kind long k same change.0 weighs_token change.2 keeps hand))

-- nothing is handed out any more, and the file is cut
pub cut_served : {B L : Type 0} (first old new : FileState B L) (start x : HandView) (n : ℕ) → Serves first old start x → IsFile new → new.shape ≡ old.shape
    → new.length ≡ min old.length n → Same (ticket_at old) (ticket_at new) → ((w : Weighing Placed) → below_weight new w ≡ below_weight old w) → new.token ≡ old.token
    → KeepsNamers (ticket_at new) (namer_at old) (namer_at new) → Serves first new start x
cut_served first old new start x n was now shape long same below token keeps =
    serves_both first old new start x x was (serves_cut old new x n was.stored now shape long same below token keeps)
