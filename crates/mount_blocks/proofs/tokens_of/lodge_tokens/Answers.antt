-- A turn lodges the token at the next place with the file of its inode: what is lodged so far is of the first places,
-- and the hand has the tokens of the others still.
use Rattle.std.proofs.Common.{◌≡◌, ℕ, ◌+◌, ◌<◌, length, get_or, take, if◌then◌else◌, Some, None, refl, sym, ap, subst, ◌∙◌, arith}
use Rattle.geometry.specs.Weights.{weigh}
use Rattle.geometry.proofs.Weighing.{weigh-take}
use Rattle.rights_books.specs.Accounts.{HandView}
use Rattle.rights_books.specs.declared.claim.TakenNumber.{TakenNumber}
use Rattle.rights_books.specs.Sameness.{same_entry}
use Rattle.rights_books.proofs.Sameness.{entry_self}
use Rattle.mount_blocks.specs.TreeGoods.{in_place}
use Rattle.mount_blocks.specs.Lodging.{AreOfBook, Lodges, of_file, of_some}
use Rattle.mount_blocks.proofs.Lodgings.{some_most, place_most, take_most, lodges_nothing, lodges_both, there_within, any_default}
use Rattle.mount_blocks.proofs.tokens_of.lodge_tokens.Goals as goal
use Rattle.mount_blocks.proofs.tokens_of.lodge_tokens.Goals.{in-Some, in-None}

pub lodge_token-requires-clause-held : goal.lodge_token-requires-clause-held
lodge_token-requires-clause-held c =
    let all = c.args.tokens.now in
    let at = c.loop-place in
    let t = c.in-Some.token in
    let files = length c.args.accounts.now.items in
    let there : get_or all at.place None ≡ Some t = any_default all at.place None c.index-tokens-place.result c.loop-place-test.true ∙ (sym c.index-tokens-place.is ∙ c.in-Some.is) in
    let h : TakenNumber → ℕ = λ y. if same_entry t y then 1 else 0 in
    let one : h t ≡ 1 = rw (entry_self t) refl in
    let next = weigh-take (in_place h) all at.place None (there_within all at.place t there) in
    let here : in_place h (get_or all at.place None) ≡ h t = ap (in_place h) there in
    let most = take_most (in_place h) all (at.place + 1) in
    let few = place_most (λ (e : TakenNumber). of_some files e.inode (h e)) h (λ e. some_most files e.inode (h e)) (take at.place all) in
    let so_far = at.invariant.hand h in
    let enough = c.requires.held h in
    omega arith

pub loop-place-preserved : goal.loop-place-preserved
loop-place-preserved c =
    let all = c.args.tokens.now in
    let at = c.loop-place in
    let before = at.invariant in
    let place = at.place in
    let old = c.args.accounts.now.items in
    let files = length old in
    let within : place < length all = omega arith in
    let same_count = before.lodged.count in
    elim c.match-tokens-place.branch [
      | in-Some w ↦
          let t = w.in-Some.token in
          let there : get_or all place None ≡ Some t = any_default all place None c.index-tokens-place.result within ∙ (sym c.index-tokens-place.is ∙ w.in-Some.is) in
          let accounts = ap (λ v. v.items) w.accounts-is in
          let hand = w.hand-is in
          record {
            of_book = subst (AreOfBook c.args.books.now.book) (sym accounts) w.lodge_token.ensures.accounts;
            lodged = subst (λ xs. Lodges old xs (λ _ _. 0) (λ k h. weigh (in_place (λ (e : TakenNumber). of_file (k + 1) e.inode (h e))) (take (place + 1) all))) (sym accounts)
                (lodges_both old at.accounts.items w.lodge_token.new.accounts.items (λ _ _. 0) (λ _ _. 0)
                (λ k h. weigh (in_place (λ (e : TakenNumber). of_file (k + 1) e.inode (h e))) (take place all)) (λ k h. of_file (k + 1) t.inode (h t))
                before.lodged w.lodge_token.ensures.lodged (λ _ _. 0)
                (λ k h. weigh (in_place (λ (e : TakenNumber). of_file (k + 1) e.inode (h e))) (take (place + 1) all)) (λ k h. refl)
                (λ k h. weigh-take (in_place (λ (e : TakenNumber). of_file (k + 1) e.inode (h e))) all place None within
                ∙ ap (λ x. weigh (in_place (λ (e : TakenNumber). of_file (k + 1) e.inode (h e))) (take place all) + x) (ap (in_place (λ (e : TakenNumber). of_file (k + 1) e.inode (h e))) there)));
            hand = λ h. (let so_far = before.hand h in
                let less = ap (λ (v : HandView). weigh h v.tokens) hand in
                let went = w.lodge_token.ensures.hand h in
                let next = weigh-take (in_place (λ (e : TakenNumber). of_some files e.inode (h e))) all place None within in
                let here : in_place (λ (e : TakenNumber). of_some files e.inode (h e)) (get_or all place None) ≡ of_some files t.inode (h t) = ap (in_place (λ (e : TakenNumber). of_some files e.inode (h e))) there in
                let its : of_some (length at.accounts.items) t.inode (h t) ≡ of_some files t.inode (h t) = ap (λ n. of_some n t.inode (h t)) same_count in
                omega arith);
            tickets = ap (λ (v : HandView). v.tickets) hand ∙ (w.lodge_token.ensures.tickets ∙ before.tickets);
            book = ap (λ (v : HandView). v.book) hand ∙ (w.lodge_token.ensures.book ∙ before.book);
          }
      | in-None w ↦
          let there : get_or all place None ≡ None = any_default all place None c.index-tokens-place.result within ∙ (sym c.index-tokens-place.is ∙ w.in-None.is) in
          let accounts = ap (λ v. v.items) w.accounts-is in
          let hand = w.hand-is in
          record {
            of_book = subst (AreOfBook c.args.books.now.book) (sym accounts) before.of_book;
            lodged = subst (λ xs. Lodges old xs (λ _ _. 0) (λ k h. weigh (in_place (λ (e : TakenNumber). of_file (k + 1) e.inode (h e))) (take (place + 1) all))) (sym accounts)
                (lodges_both old at.accounts.items at.accounts.items (λ _ _. 0) (λ _ _. 0)
                (λ k h. weigh (in_place (λ (e : TakenNumber). of_file (k + 1) e.inode (h e))) (take place all)) (λ _ _. 0)
                before.lodged (lodges_nothing at.accounts.items at.accounts.items (λ _ _. 0) (λ _ _. 0) refl (λ k h low. refl) (λ k h low. refl)) (λ _ _. 0)
                (λ k h. weigh (in_place (λ (e : TakenNumber). of_file (k + 1) e.inode (h e))) (take (place + 1) all)) (λ k h. refl)
                (λ k h. weigh-take (in_place (λ (e : TakenNumber). of_file (k + 1) e.inode (h e))) all place None within
                ∙ ap (λ x. weigh (in_place (λ (e : TakenNumber). of_file (k + 1) e.inode (h e))) (take place all) + x) (ap (in_place (λ (e : TakenNumber). of_file (k + 1) e.inode (h e))) there)));
            hand = λ h. (let so_far = before.hand h in
                let same = ap (λ (v : HandView). weigh h v.tokens) hand in
                let next = weigh-take (in_place (λ (e : TakenNumber). of_some files e.inode (h e))) all place None within in
                let here : in_place (λ (e : TakenNumber). of_some files e.inode (h e)) (get_or all place None) ≡ 0 = ap (in_place (λ (e : TakenNumber). of_some files e.inode (h e))) there in
                omega arith);
            tickets = ap (λ (v : HandView). v.tickets) hand ∙ before.tickets;
            book = ap (λ (v : HandView). v.book) hand ∙ before.book;
          }
    ]
