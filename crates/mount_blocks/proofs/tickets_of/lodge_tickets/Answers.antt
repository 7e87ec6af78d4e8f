-- Each ticket is taken out, lodged and put back, so the table stays; what is lodged so far is of the first places, and
-- the hand has the tickets of the others still.
use Rattle.std.proofs.Common.{◌≡◌, ℕ, ◌+◌, ◌<◌, length, get_or, set, take, if◌then◌else◌, Some, None, refl, sym, ap, subst, ◌∙◌, arith}
use Rattle.geometry.specs.Weights.{weigh}
use Rattle.geometry.proofs.Weighing.{weigh-take}
use Rattle.rights_books.specs.Accounts.{HandView}
use Rattle.geometry.specs.declared.owner.Mark.{Mark}
use Rattle.geometry.specs.Mark.{same_mark}
use Rattle.geometry.proofs.MarkTests.{mark_self}
use Rattle.image.specs.View.{image_view}
use Rattle.mount_blocks.specs.TreeGoods.{in_place}
use Rattle.tickets.specs.Placed.{Placed}
use Rattle.mount_blocks.specs.Lodging.{AreOfBook, Lodges, file_of, of_file, of_some}
use Rattle.mount_blocks.proofs.Lodgings.{some_most, place_most, take_most, lodges_nothing, lodges_both, back_again, left_none, there_within}
use Rattle.mount_blocks.proofs.tickets_of.lodge_tickets.Goals as goal
use Rattle.mount_blocks.proofs.tickets_of.lodge_tickets.Goals.{in-Some, in-None}

pub lodge_ticket-ticket-requires-clause-held : goal.lodge_ticket-ticket-requires-clause-held
lodge_ticket-ticket-requires-clause-held g c =
    let image = image_view c.args.image.now in
    let all = c.args.tickets.now.items in
    let at = c.loop-place in
    let t = c.in-Some.ticket in
    let files = length c.args.accounts.now.items in
    let there : get_or all at.place None ≡ Some t = sym (ap (λ ts. get_or ts at.place None) at.invariant.same) ∙ (sym c.take_out.ensures.right ∙ c.in-Some.is) in
    let h : Mark → ℕ = λ y. if same_mark t.mark y then 1 else 0 in
    let one : h t.mark ≡ 1 = rw (mark_self t.mark) refl in
    let next = weigh-take (in_place (λ (p : Placed). h p.mark)) all at.place None (there_within all at.place t there) in
    let here : in_place (λ (p : Placed). h p.mark) (get_or all at.place None) ≡ h t.mark = ap (in_place (λ (p : Placed). h p.mark)) there in
    let most = take_most (in_place (λ (p : Placed). h p.mark)) all (at.place + 1) in
    let few = place_most (λ (p : Placed). of_some files (file_of image p.mark.owner) (h p.mark)) (λ (p : Placed). h p.mark) (λ p. some_most files (file_of image p.mark.owner) (h p.mark)) (take at.place all) in
    let so_far = at.invariant.hand h in
    let enough = c.requires.held h in
    omega arith

pub loop-place-preserved : goal.loop-place-preserved
loop-place-preserved g c =
    let image = image_view c.args.image.now in
    let all = c.args.tickets.now.items in
    let at = c.loop-place in
    let before = at.invariant in
    let place = at.place in
    let book = c.args.books.now.book in
    let old = c.args.accounts.now.items in
    let files = length old in
    let taken : c.take_out.new.table.items ≡ set at.tickets.items place None = c.take_out.ensures.table in
    let long = c.args.tickets.now.ok.0 in
    let count = c.len-place-end.ensures in
    let within : place < length all = omega arith in
    elim c.match-take_out.branch [
      | in-Some w ↦
          let t = w.in-Some.ticket in
          let stood : get_or at.tickets.items place None ≡ Some t = sym c.take_out.ensures.right ∙ w.in-Some.is in
          let there : get_or all place None ≡ Some t = sym (ap (λ ts. get_or ts place None) before.same) ∙ stood in
          let inode_is : w.file_of-inode.result ≡ file_of image t.mark.owner = w.file_of-inode.ensures ∙ ap (file_of image) w.owner.ensures in
          let accounts = ap (λ v. v.items) w.accounts-is in
          let hand = w.hand-is in
          let back : c.match-take_out.tickets.items ≡ all = ap (λ v. v.items) w.tickets-is ∙ (w.put_back.ensures ∙ (ap (λ ts. set ts place (Some w.lodge_ticket-ticket.result)) taken
          ∙ (ap (λ p. set (set at.tickets.items place None) place (Some p)) w.lodge_ticket-ticket.ensures.ticket ∙ (back_again at.tickets.items place t stood ∙ before.same)))) in
          let same_count = before.lodged.count in
          record {
            same = back;
            of_book = subst (AreOfBook book) (sym accounts) w.lodge_ticket-ticket.ensures.accounts;
            lodged = subst (λ xs. Lodges old xs (λ k h. weigh (in_place (λ (p : Placed). of_file (k + 1) (file_of image p.mark.owner) (h p.mark))) (take (place + 1) all)) (λ _ _. 0)) (sym accounts)
                (lodges_both old at.accounts.items w.lodge_ticket-ticket.new.accounts.items
                (λ k h. weigh (in_place (λ (p : Placed). of_file (k + 1) (file_of image p.mark.owner) (h p.mark))) (take place all)) (λ k h. of_file (k + 1) w.file_of-inode.result (h t.mark)) (λ _ _. 0) (λ _ _. 0)
                before.lodged w.lodge_ticket-ticket.ensures.lodged
                (λ k h. weigh (in_place (λ (p : Placed). of_file (k + 1) (file_of image p.mark.owner) (h p.mark))) (take (place + 1) all)) (λ _ _. 0) (λ k h. (let next = weigh-take (in_place (λ (p : Placed). of_file (k + 1) (file_of image p.mark.owner) (h p.mark))) all place None within in
                next ∙ ap (λ x. weigh (in_place (λ (p : Placed). of_file (k + 1) (file_of image p.mark.owner) (h p.mark))) (take place all) + x)
                (ap (in_place (λ (p : Placed). of_file (k + 1) (file_of image p.mark.owner) (h p.mark))) there ∙ ap (λ i. of_file (k + 1) i (h t.mark)) (sym inode_is)))) (λ k h. refl));
            hand = λ h. (let so_far = before.hand h in
                let less = ap (λ (v : HandView). weigh h v.tickets) hand in
                let went = w.lodge_ticket-ticket.ensures.hand h in
                let next = weigh-take (in_place (λ (p : Placed). of_some files (file_of image p.mark.owner) (h p.mark))) all place None within in
                let here : in_place (λ (p : Placed). of_some files (file_of image p.mark.owner) (h p.mark)) (get_or all place None) ≡ of_some files (file_of image t.mark.owner) (h t.mark) = ap (in_place (λ (p : Placed). of_some files (file_of image p.mark.owner) (h p.mark))) there in
                let its : of_some (length at.accounts.items) w.file_of-inode.result (h t.mark) ≡ of_some files (file_of image t.mark.owner) (h t.mark) = ap (λ n. of_some n w.file_of-inode.result (h t.mark)) same_count ∙ ap (λ i. of_some files i (h t.mark)) inode_is in
                omega arith);
            tokens = ap (λ (v : HandView). v.tokens) hand ∙ (w.lodge_ticket-ticket.ensures.tokens ∙ before.tokens);
            book = ap (λ (v : HandView). v.book) hand ∙ (w.lodge_ticket-ticket.ensures.book ∙ before.book);
          }
      | in-None w ↦
          let stood : get_or at.tickets.items place None ≡ None = sym c.take_out.ensures.right ∙ w.in-None.is in
          let there : get_or all place None ≡ None = sym (ap (λ ts. get_or ts place None) before.same) ∙ stood in
          let accounts = ap (λ v. v.items) w.accounts-is in
          let hand = w.hand-is in
          record {
            same = ap (λ v. v.items) w.tickets-is ∙ (taken ∙ (left_none at.tickets.items place stood ∙ before.same));
            of_book = subst (AreOfBook book) (sym accounts) before.of_book;
            lodged = subst (λ xs. Lodges old xs (λ k h. weigh (in_place (λ (p : Placed). of_file (k + 1) (file_of image p.mark.owner) (h p.mark))) (take (place + 1) all)) (λ _ _. 0)) (sym accounts)
                (lodges_both old at.accounts.items at.accounts.items
                (λ k h. weigh (in_place (λ (p : Placed). of_file (k + 1) (file_of image p.mark.owner) (h p.mark))) (take place all)) (λ _ _. 0) (λ _ _. 0) (λ _ _. 0)
                before.lodged (lodges_nothing at.accounts.items at.accounts.items (λ _ _. 0) (λ _ _. 0) refl (λ k h low. refl) (λ k h low. refl))
                (λ k h. weigh (in_place (λ (p : Placed). of_file (k + 1) (file_of image p.mark.owner) (h p.mark))) (take (place + 1) all)) (λ _ _. 0)
                (λ k h. weigh-take (in_place (λ (p : Placed). of_file (k + 1) (file_of image p.mark.owner) (h p.mark))) all place None within
                ∙ ap (λ x. weigh (in_place (λ (p : Placed). of_file (k + 1) (file_of image p.mark.owner) (h p.mark))) (take place all) + x) (ap (in_place (λ (p : Placed). of_file (k + 1) (file_of image p.mark.owner) (h p.mark))) there)) (λ k h. refl));
            hand = λ h. (let so_far = before.hand h in
                let same = ap (λ (v : HandView). weigh h v.tickets) hand in
                let next = weigh-take (in_place (λ (p : Placed). of_some files (file_of image p.mark.owner) (h p.mark))) all place None within in
                let here : in_place (λ (p : Placed). of_some files (file_of image p.mark.owner) (h p.mark)) (get_or all place None) ≡ 0 = ap (in_place (λ (p : Placed). of_some files (file_of image p.mark.owner) (h p.mark))) there in
                omega arith);
            tokens = ap (λ (v : HandView). v.tokens) hand ∙ before.tokens;
            book = ap (λ (v : HandView). v.book) hand ∙ before.book;
          }
    ]
