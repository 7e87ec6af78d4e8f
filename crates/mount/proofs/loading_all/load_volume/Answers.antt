-- Each step takes what the one before put into hand and tables: segments give tickets, shards give tokens for them,
-- files take both, and lodging leaves the hand as empty as it came.
use Rattle.std.proofs.Common.{◌≡◌, ℕ, ◌+◌, ◌<◌, None, length, get_or, sym, ap, subst, ◌∙◌, arith}
use Rattle.rights_books.specs.Accounts.{FileView, HandView}
use Rattle.rights_books.specs.declared.claim.TakenNumber.{TakenNumber}
use Rattle.geometry.specs.declared.owner.Mark.{Mark}
use Rattle.image.specs.View.{image_view}
use Rattle.mount_blocks.specs.TreeGoods.{ArePlaced, Shelves, in_place}
use Rattle.geometry.specs.Weights.{weigh}
use Rattle.tickets.specs.Placed.{Placed}
use Rattle.mount_blocks.proofs.Rights.{bytes_of, have_own}
use Rattle.mount_blocks.specs.Goods.{AreGoods}
use Rattle.mount_blocks.specs.Lodging.{file_of, of_file, of_some}
use Rattle.mount.proofs.NothingLeft.{has_nothing}
use Rattle.mount.proofs.loading_all.load_volume.Goals as goal

pub load_nodes-requires-clause-tickets : goal.load_nodes-requires-clause-tickets
load_nodes-requires-clause-tickets g c =
    let geometry = c.args.geometry.now in
    let image = image_view c.args.image.now in
    let content = g.B.Block.content_of in
    let all = c.args.blocks.now.items in
    (bytes_of content all, c.load_segments-segments.ensures.tickets (bytes_of content all) (have_own content all))

pub load_nodes-requires-clause-held : goal.load_nodes-requires-clause-held
load_nodes-requires-clause-held g c =
    λ h. (let named = c.load_segments-segments.ensures.named h in let hand = c.load_segments-segments.ensures.hand h in omega arith)

pub lodge_tickets-requires-clause-accounts : goal.lodge_tickets-requires-clause-accounts
lodge_tickets-requires-clause-accounts g c =
    λ k other low. ap (λ (a : FileView). a.book) (c.requires.accounts k other low)

pub lodge_tickets-requires-clause-held : goal.lodge_tickets-requires-clause-held
lodge_tickets-requires-clause-held g c =
    λ h. (let named = c.load_segments-segments.ensures.named h in
    let hand = c.load_segments-segments.ensures.hand h in
    let trade = c.load_nodes.ensures.hand h in
    omega arith)

pub lodge_tokens-requires-clause-held : goal.lodge_tokens-requires-clause-held
lodge_tokens-requires-clause-held g c =
    λ h. (let tokens = ap (weigh (in_place h)) c.deref.ensures.value in
    let hand = c.load_nodes.ensures.hand_tokens h in
    let same = ap (weigh h) c.lodge_tickets.ensures.tokens in
    omega arith)

pub load_all_files-stock-requires-clause-goods : goal.load_all_files-stock-requires-clause-goods
load_all_files-stock-requires-clause-goods g c =
    let geometry = c.args.geometry.now in
    let image = image_view c.args.image.now in
    let content = g.B.Block.content_of in
    let all = c.args.blocks.now.items in
    let goods = c.load_nodes.ensures.goods (bytes_of content all) (c.load_segments-segments.ensures.tickets (bytes_of content all) (have_own content all)) in
    (bytes_of content all, subst (λ ts. AreGoods geometry image (bytes_of content all) ts c.load_nodes.new.tokens.items) (sym c.lodge_tickets.ensures.same) goods)

pub load_all_files-stock-requires-clause-placed : goal.load_all_files-stock-requires-clause-placed
load_all_files-stock-requires-clause-placed g c =
    subst (λ ts. ArePlaced (λ (t : Placed). t.mark) (record { tickets = ts; tokens = c.load_nodes.new.tokens.items })) (sym c.lodge_tickets.ensures.same) c.load_nodes.ensures.placed

pub load_all_files-stock-requires-clause-marks : goal.load_all_files-stock-requires-clause-marks
load_all_files-stock-requires-clause-marks g c =
    λ h. (let tickets = ap (weigh (in_place (λ (p : Placed). h p.mark))) c.lodge_tickets.ensures.same in
    let marks = c.load_nodes.ensures.marks h in
    let named = c.load_segments-segments.ensures.named h in
    omega arith)

pub returns-clause-goods : goal.returns-clause-goods
returns-clause-goods g c =
    let geometry = c.args.geometry.now in
    let image = image_view c.args.image.now in
    let content = g.B.Block.content_of in
    let all = c.args.blocks.now.items in
    let shelves : c.load_all_files-stock.result.all ≡ record { tickets = c.load_nodes.new.tickets.items; tokens = c.load_nodes.new.tokens.items } = c.load_all_files-stock.ensures.shelves ∙ (λ i. record { tickets = c.lodge_tickets.ensures.same i; tokens = c.load_nodes.new.tokens.items }) in
    λ bytes have. (subst (λ (s : Shelves Placed). AreGoods geometry image bytes s.tickets s.tokens) (sym shelves) (c.load_nodes.ensures.goods bytes (c.load_segments-segments.ensures.tickets bytes have)))

pub returns-clause-accounts : goal.returns-clause-accounts
returns-clause-accounts g c =
    λ k other low. (let one = c.lodge_tickets.ensures.lodged in
    let two = c.lodge_tokens.ensures.lodged in
    let here : k < length c.args.memory.accounts.items = let first = one.count in let second = two.count in omega arith in
    let next : k < length c.lodge_tickets.new.accounts.items = let second = two.count in omega arith in
    let was = c.requires.accounts k other here in
    let a = get_or c.lodge_tokens.new.accounts.items k other in
    let book : a.book ≡ c.args.books.now.book = two.book k other next ∙ (one.book k other here ∙ ap (λ (v : FileView). v.book) was) in
    let inode : a.inode ≡ k + 1 = two.inode k other next ∙ (one.inode k other here ∙ ap (λ (v : FileView). v.inode) was) in
    let content : a.content ≡ None = two.content k other next ∙ (one.content k other here ∙ ap (λ (v : FileView). v.content) was) in
    (λ i. record { book = book i; inode = inode i; tickets = a.tickets; tokens = a.tokens; content = content i }))

pub returns-clause-lodged_tickets : goal.returns-clause-lodged_tickets
returns-clause-lodged_tickets g c =
    let image = image_view c.args.image.now in
    let shelves : c.load_all_files-stock.result.all ≡ record { tickets = c.load_nodes.new.tickets.items; tokens = c.load_nodes.new.tokens.items } = c.load_all_files-stock.ensures.shelves ∙ (λ i. record { tickets = c.lodge_tickets.ensures.same i; tokens = c.load_nodes.new.tokens.items }) in
    λ k other low h. (let here : k < length c.args.memory.accounts.items = omega (arith, c.lodge_tickets.ensures.lodged.count, c.lodge_tokens.ensures.lodged.count) in
    let next : k < length c.lodge_tickets.new.accounts.items = omega (arith, c.lodge_tokens.ensures.lodged.count) in
    let was = c.requires.accounts k other here in
    let none = ap (λ (v : FileView). weigh h v.tickets) was in
    let x = c.lodge_tickets.ensures.lodged.tickets_more k other here h in
    let y = c.lodge_tokens.ensures.lodged.tickets_more k other next h in
    let z = ap (weigh (in_place (λ (t : Placed). of_file (k + 1) (file_of image t.mark.owner) (h t.mark)))) (ap (λ (s : Shelves Placed). s.tickets) shelves) in
    omega arith)

pub returns-clause-lodged_tokens : goal.returns-clause-lodged_tokens
returns-clause-lodged_tokens g c =
    let shelves : c.load_all_files-stock.result.all ≡ record { tickets = c.load_nodes.new.tickets.items; tokens = c.load_nodes.new.tokens.items } = c.load_all_files-stock.ensures.shelves ∙ (λ i. record { tickets = c.lodge_tickets.ensures.same i; tokens = c.load_nodes.new.tokens.items }) in
    λ k other low h. (let here : k < length c.args.memory.accounts.items = omega (arith, c.lodge_tickets.ensures.lodged.count, c.lodge_tokens.ensures.lodged.count) in
    let next : k < length c.lodge_tickets.new.accounts.items = omega (arith, c.lodge_tokens.ensures.lodged.count) in
    let was = c.requires.accounts k other here in
    let none = ap (λ (v : FileView). weigh h v.tokens) was in
    let x = c.lodge_tickets.ensures.lodged.tokens_more k other here h in
    let y = c.lodge_tokens.ensures.lodged.tokens_more k other next h in
    let z = ap (weigh (in_place (λ (e : TakenNumber). of_file (k + 1) e.inode (h e)))) (ap (λ (s : Shelves Placed). s.tokens) shelves) in
    let v = ap (weigh (in_place (λ (e : TakenNumber). of_file (k + 1) e.inode (h e)))) c.deref.ensures.value in
    omega arith)

pub returns-clause-hand : goal.returns-clause-hand
returns-clause-hand g c =
    let geometry = c.args.geometry.now in
    let image = image_view c.args.image.now in
    let content = g.B.Block.content_of in
    let all = c.args.blocks.now.items in
    let shelves : c.load_all_files-stock.result.all ≡ record { tickets = c.load_nodes.new.tickets.items; tokens = c.load_nodes.new.tokens.items } = c.load_all_files-stock.ensures.shelves ∙ (λ i. record { tickets = c.lodge_tickets.ensures.same i; tokens = c.load_nodes.new.tokens.items }) in
    let one : Mark → ℕ = λ _. 1 in
    let each : TakenNumber → ℕ = λ _. 1 in
    let named = c.load_segments-segments.ensures.named one in
    let hand = c.load_segments-segments.ensures.hand one in
    let trade = c.load_nodes.ensures.hand one in
    let lodged = c.lodge_tickets.ensures.hand one in
    let none = ap (λ (p : HandView). weigh one p.tickets) c.requires.hand in
    let files = ap (λ n. weigh (in_place (λ (t : Placed). of_some n (file_of image t.mark.owner) 1)) c.load_nodes.new.tickets.items) c.requires.every_file in
    let whole = c.load_all_files-stock.ensures.of_files one in
    let of_all = ap (λ (s : Shelves Placed). weigh (in_place (λ (t : Placed). of_some geometry.files (file_of image t.mark.owner) 1)) s.tickets) shelves in
    let plain = ap (λ (s : Shelves Placed). weigh (in_place (λ (t : Placed). 1)) s.tickets) shelves in
    let no_tickets : weigh one c.lodge_tickets.new.hand.tickets ≡ 0 = omega arith in
    let tickets = c.lodge_tokens.ensures.tickets ∙ has_nothing c.lodge_tickets.new.hand.tickets no_tickets in
    let came = c.load_nodes.ensures.hand_tokens each in
    let was = ap (weigh each) (c.load_segments-segments.ensures.tokens ∙ ap (λ (p : HandView). p.tokens) c.requires.hand) in
    let same = ap (weigh each) c.lodge_tickets.ensures.tokens in
    let went = c.lodge_tokens.ensures.hand each in
    let value = ap (weigh (in_place (λ (e : TakenNumber). of_some (length c.lodge_tickets.new.accounts.items) e.inode 1))) c.deref.ensures.value in
    let count = ap (λ n. weigh (in_place (λ (e : TakenNumber). of_some n e.inode 1)) c.load_nodes.new.tokens.items) (c.lodge_tickets.ensures.lodged.count ∙ c.requires.every_file) in
    let whole_tokens = c.load_all_files-stock.ensures.tokens_of_files each in
    let some_tokens = ap (λ (s : Shelves Placed). weigh (in_place (λ (e : TakenNumber). of_some geometry.files e.inode 1)) s.tokens) shelves in
    let plain_tokens = ap (λ (s : Shelves Placed). weigh (in_place (λ (e : TakenNumber). 1)) s.tokens) shelves in
    let no_tokens : weigh each c.lodge_tokens.new.hand.tokens ≡ 0 = omega arith in
    let tokens = has_nothing c.lodge_tokens.new.hand.tokens no_tokens in
    let book = c.lodge_tokens.ensures.book ∙ (c.lodge_tickets.ensures.book ∙ (c.load_nodes.ensures.book ∙ (c.load_segments-segments.ensures.book ∙ ap (λ (p : HandView). p.book) c.requires.hand))) in
    (λ i. record { book = book i; tickets = tickets i; tokens = tokens i }) ∙ sym c.requires.hand
