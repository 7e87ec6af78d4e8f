-- The block that is popped has the last address of the run and the last place still to come: where the image marks it
-- its ticket goes to that address, which is empty yet.
use Rattle.std.proofs.Common.{◌≡◌, ℕ, suc, ◌+◌, ◌≤◌, List, ◌∷◌, [], length, get_or, set, Some, None, sym, ap, subst, ◌∙◌, arith}
use Rattle.std.proofs.lemmas.List.{length-append, length-set, get_or-set_other}
use Rattle.device.specs.Parts.{IsBlockRun}
use Rattle.geometry.specs.declared.owner.Mark.{Mark}
use Rattle.geometry.specs.Address.{address_of}
use Rattle.geometry.specs.Area.{block_count}
use Rattle.geometry.specs.Shape.{block_bytes}
use Rattle.image.specs.View.{image_view}
use Rattle.mount_blocks.specs.TreeGoods.{in_place}
use Rattle.tickets.specs.Placed.{Placed}
use Rattle.geometry.specs.Weights.{weigh}
use Rattle.mount_blocks.specs.Marked.{marked_owner}
use Rattle.mount_blocks.specs.Table.{AreTicketsPast, HaveBytes}
use Rattle.mount_blocks.specs.States.{HasOwners}
use Rattle.mount_blocks.proofs.Tables.{comes}
use Rattle.mount_blocks.proofs.Comings.{run_front, run_last, bytes_front, comes_named, comes_unnamed, owners_next, place_of}
use Rattle.mount_blocks.proofs.blocks.load_blocks.Goals as goal
use Rattle.mount_blocks.proofs.blocks.load_blocks.Goals.{in-Some-put, in-None-put}

pub loop-done-preserved : goal.loop-done-preserved
loop-done-preserved g c =
    let B = g.B.Block in
    let before = c.loop-done.invariant in
    let geometry = c.args.geometry.now in
    let image = image_view c.args.image.now in
    let tickets = c.loop-done.tickets.items in
    let front = c.pop.new.self.items in
    let x = c.in-Some.block in
    let owner = c.owner_at-owner.result in
    let popped = c.in-Some.ensures.items in
    let longer = ap length popped ∙ length-append front (x ∷ []) in
    let run = subst (IsBlockRun B.address_of B.content_of (block_bytes geometry.shape) 1) popped before.run in
    let last = run_last B.address_of B.content_of (block_bytes geometry.shape) front x run in
    let left = c.put.new.self.left in
    let was = c.loop-done.loading in
    let a = c.address-address.result in
    let place : B.address_of x ≡ 1 + length front = last.0 in
    let named = c.address-address.ensures in
    let at : a ≡ suc (length front) = omega arith in
    let at_place : a ≡ 1 + length front = omega arith in
    let lefts = c.put.ensures.left in
    let so_many = before.so_many in
    let lefts_before = before.left in
    let whole = c.requires.last in
    let home : address_of geometry.shape c.args.loading.now.number left ≡ 1 + length front = omega arith in
    let here : address_of geometry.shape was.number left ≡ 1 + length front = ap (λ k. address_of geometry.shape k left) before.number ∙ home in
    let most = place_of geometry c.args.loading.now.number left (length front) c.requires.number (omega arith) home in
    let summaries = ap (λ s. s.summaries) c.put.ensures.segment in
    let number_is = ap (λ s. s.number) c.put.ensures.segment in
    let owner_is : owner ≡ marked_owner geometry image (address_of geometry.shape was.number left) = c.owner_at-owner.ensures ∙ ap (marked_owner geometry image) (at_place ∙ sym here) in
    let owners = subst (λ ss. HasOwners geometry image c.put.new.self.number left ss) (sym summaries)
    (subst (λ k. HasOwners geometry image k left (set was.summaries left owner)) (sym number_is)
    (owners_next geometry image was.number was.left left was.summaries owner (omega arith) (omega arith) before.owners owner_is)) in
    let came : (length c.match-put.tickets.items ≡ block_count geometry + 1)
    × ((k : ℕ) → k ≤ length front → get_or c.match-put.tickets.items k None ≡ None)
    × ((bytes : ℕ → List ℕ) → HaveBytes B.content_of bytes c.args.blocks.now.items → AreTicketsPast geometry image bytes (length c.args.blocks.now.items) c.args.tickets.now.items
    → AreTicketsPast geometry image bytes (length front) c.match-put.tickets.items)
    × ((h : Mark → ℕ) → weigh h c.put.new.hand.tickets + weigh (in_place (λ (p : Placed). h p.mark)) c.args.tickets.now.items
    ≡ weigh h c.args.hand.now.tickets + weigh (in_place (λ (p : Placed). h p.mark)) c.match-put.tickets.items)
    × (c.put.new.hand.tokens ≡ c.args.hand.now.tokens) × (c.put.new.hand.book ≡ c.args.hand.now.book) =
    elim c.match-put.branch [
      | in-Some-put w ↦
          let t = w.in-Some-put.ticket in
          let items = ap (λ v. v.items) w.tickets-is ∙ w.put_at.ensures in (
            ap length items ∙ (length-set tickets a (Some t) ∙ before.places),
            λ k low. ap (λ ts. get_or ts k None) items ∙ (get_or-set_other tickets a k (Some t) None (λ e. absurd (omega arith)) ∙ before.none k (omega arith)),
            λ bytes have are. subst (λ ts. AreTicketsPast geometry image bytes (length front) ts) (sym items)
                (comes_named B.address_of B.content_of (block_bytes geometry.shape) front x geometry image bytes tickets (subst (HaveBytes B.content_of bytes) popped (before.bytes bytes have)) a at
                (subst (λ xs. AreTicketsPast geometry image bytes (length xs) tickets) popped (before.tickets bytes have are)) t (omega arith)
                (sym c.owner_at-owner.ensures ∙ w.in-Some-put.ensures.ticket) (w.in-Some-put.ensures.block.0 ∙ sym named) w.in-Some-put.ensures.block.1),
            λ h.
                (let so_far = before.hand h in
                let more = ap (λ p. weigh h p.tickets) w.in-Some-put.ensures.hand in
                let came = ap (weigh (in_place (λ (p : Placed). h p.mark))) items ∙ comes (λ (p : Placed). h p.mark) tickets a t (let long_before = before.places in omega arith) (before.none a (omega arith)) in
                omega arith),
            ap (λ p. p.tokens) w.in-Some-put.ensures.hand ∙ before.tokens,
            ap (λ p. p.book) w.in-Some-put.ensures.hand ∙ before.account,
          )
      | in-None-put w ↦
          let items = ap (λ v. v.items) w.tickets-is in (
            ap length items ∙ before.places,
            λ k low. ap (λ ts. get_or ts k None) items ∙ before.none k (omega arith),
            λ bytes have are. subst (λ ts. AreTicketsPast geometry image bytes (length front) ts) (sym items)
                (comes_unnamed B.address_of B.content_of (block_bytes geometry.shape) front x geometry image bytes tickets (subst (HaveBytes B.content_of bytes) popped (before.bytes bytes have)) a at
                (subst (λ xs. AreTicketsPast geometry image bytes (length xs) tickets) popped (before.tickets bytes have are))
                (sym c.owner_at-owner.ensures ∙ w.in-None-put.ensures.ticket)),
            λ h.
                (let so_far = before.hand h in
                let same = ap (λ p. weigh h p.tickets) w.in-None-put.ensures.hand in
                let still = ap (weigh (in_place (λ (p : Placed). h p.mark))) items in
                omega arith),
            ap (λ p. p.tokens) w.in-None-put.ensures.hand ∙ before.tokens,
            ap (λ p. p.book) w.in-None-put.ensures.hand ∙ before.account,
          )
    ] in
    record {
      run = run_front B.address_of B.content_of (block_bytes geometry.shape) front x run;
      so_many = omega arith;
      capacity = c.pop.ensures.capacity ∙ before.capacity;
      shape = ap (λ s. s.shape) c.put.ensures.segment ∙ before.shape;
      number = number_is ∙ before.number;
      book = ap (λ s. s.book) c.put.ensures.segment ∙ before.book;
      left = omega arith;
      owners = owners;
      places = came.0;
      none = came.1;
      bytes = λ bytes have. bytes_front B.address_of B.content_of (block_bytes geometry.shape) front x bytes (subst (HaveBytes B.content_of bytes) popped (before.bytes bytes have));
      tickets = came.2;
      hand = came.3;
      tokens = came.4;
      account = came.5;
    }
