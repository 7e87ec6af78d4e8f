-- The block of the next number's node is its own, so its ticket is there and goes, its number is free, and the token
-- comes to an empty place: the sums move with it.
use Rattle.std.proofs.Common.{◌≡◌, ◌≢◌, ℕ, ◌+◌, ◌%◌, ◌<◌, ◌∷◌, List, Option, None, Some, length, get_or, set, if◌then◌else◌, refl, sym, ap, subst, ◌∙◌, arith}
use Rattle.rights_books.specs.Lists.{times}
use Rattle.rights_books.specs.Weights.{mark_of}
use Rattle.rights_books.specs.declared.claim.TakenNumber.{TakenNumber}
use Rattle.rights_books.specs.Accounts.{HandView}
use Rattle.rights_books.proofs.Steps.{without_mark}
use Rattle.geometry.specs.declared.geometry.Geometry.{Geometry}
use Rattle.geometry.specs.declared.owner.Mark.{Mark}
use Rattle.geometry.specs.declared.owner.Owner.TheVariants.{Node}
use Rattle.geometry.specs.Mark.{same_mark}
use Rattle.geometry.proofs.MarkTests.{mark_self}
use Rattle.image.specs.declared.image.NodeEntry.{NodeEntry}
use Rattle.image.specs.Image.{Image, entry_of}
use Rattle.image.specs.Rules.{IsLawful}
use Rattle.image.specs.View.{image_view}
use Rattle.mount_blocks.specs.TreeGoods.{in_place}
use Rattle.mount_blocks.proofs.Stocks.{goes, is_there, token_mark}
use Rattle.nat.specs.Shard.{ShardNodes}
use Rattle.nat.specs.Table.{IsShardAt, all_taken}
use Rattle.nat.specs.Taken.{entries_of}
use Rattle.geometry.specs.Weights.{weigh}
use Rattle.tickets.specs.Placed.{Placed}
use Rattle.mount_blocks.proofs.States.{same_some}
use Rattle.mount_blocks.proofs.Tables.{comes, nothing_weighs}
use Rattle.mount_blocks.specs.Goods.{AreShards}
use Rattle.mount_blocks.proofs.Passing.{ArePassed, passing_begins, passing_ends, passes_none, passes_one, ticket_stands, token_misses, token_within, goods_placed}
use Rattle.mount_blocks.proofs.Shards.{shards_next, taken_next, free_next, home_of, none_taken}
use Rattle.mount_blocks.proofs.numbers.load_nodes.Goals as goal
use Rattle.mount_blocks.proofs.numbers.load_nodes.Goals.{then-entry-ne0, else-entry-ne0}

-- the ticket of the block of a node that has one
ticket_there : (geometry : Geometry) (image : Image) → IsLawful geometry image → (bytes : ℕ → List ℕ) (next : ℕ) (tickets : List (Option Placed)) (tokens : List (Option TakenNumber))
    → (address : ℕ) → address ≡ (entry_of image next).address → (entry_of image next).address ≢ 0 → ArePassed geometry image bytes next tickets tokens
    → get_or tickets address None ≡ Some (record { mark = record { address = (entry_of image next).address; owner = Node next }; content = bytes (entry_of image next).address })
ticket_there geometry image lawful bytes next tickets tokens address is some passed =
    ap (λ k. get_or tickets k None) is ∙ ticket_stands geometry image lawful bytes next tickets tokens some passed

-- a node of the image has a block where the entry that was read tells an address
has_block : (image : Image) (next : ℕ) (entry : NodeEntry) → entry ≡ entry_of image next → entry.address ≢ 0 → (entry_of image next).address ≢ 0
has_block image next entry is some none = some (ap (λ (e : NodeEntry). e.address) is ∙ none)

pub loop-before-init : goal.loop-before-init
loop-before-init g c =
    let geometry = c.args.geometry.now in
    let image = image_view c.args.image.now in
    let none = c.requires.tokens in
    let no_tokens : (h : TakenNumber → ℕ) → weigh (in_place h) c.args.tokens.now.items ≡ 0 = λ h. ap (weigh (in_place h)) none ∙ nothing_weighs h (geometry.nodes + 1) in
    record {
      shards = c.requires.shards;
      free = λ k other low number past. ap (entries_of number) (c.requires.free k other low);
      taken = λ h. none_taken h c.args.shards.now.items c.requires.free ∙ sym (no_tokens h);
      goods = λ bytes are. passing_begins geometry image c.requires.lawful bytes c.args.tickets.now.items c.args.tokens.now.items are none;
      marks = λ h. (let nothing = no_tokens (λ e. h (mark_of e)) in omega arith);
      hand = λ h. refl;
      hand_tokens = λ h. (let nothing = no_tokens h in omega arith);
      book = refl;
    }

pub take_at-ticket-requires : goal.take_at-ticket-requires
take_at-ticket-requires g c =
    let at = c.loop-before in
    let next : ℕ = at.before + 1 in
    let same = ap (λ (e : NodeEntry). e.address) c.entry-entry.ensures in
    let some = has_block (image_view c.args.image.now) next c.entry-entry.result c.entry-entry.ensures (λ z. absurd (omega arith)) in
    is_there (get_or at.tickets.items c.entry-entry.result.address None) _
    (ticket_there c.args.geometry.now (image_view c.args.image.now) c.requires.lawful c.requires.tickets.0 next at.tickets.items at.tokens.items c.entry-entry.result.address same some (at.invariant.goods c.requires.tickets.0 c.requires.tickets.1))

pub load_node-token-requires-clause-held : goal.load_node-token-requires-clause-held
load_node-token-requires-clause-held g c =
    let t = c.take_at-ticket.result in
    let h : Mark → ℕ = λ y. if same_mark t.mark y then 1 else 0 in
    let one : h t.mark ≡ 1 = rw (mark_self t.mark) refl in
    let went = goes (λ (p : Placed). h p.mark) c.loop-before.tickets.items c.entry-entry.result.address t c.take_at-ticket.ensures.right in
    let so_far = c.loop-before.invariant.hand h in
    let enough = c.requires.held h in
    omega arith

pub load_node-token-requires-clause-owner : goal.load_node-token-requires-clause-owner
load_node-token-requires-clause-owner g c =
    let image = image_view c.args.image.now in
    let next : ℕ = c.loop-before.before + 1 in
    let some = has_block image next c.entry-entry.result c.entry-entry.ensures (λ z. absurd (omega arith)) in
    ap (λ (p : Placed). p.mark.owner) (same_some (get_or c.loop-before.tickets.items c.entry-entry.result.address None) c.take_at-ticket.result _ c.take_at-ticket.ensures.right
    (ticket_there c.args.geometry.now image c.requires.lawful c.requires.tickets.0 next c.loop-before.tickets.items c.loop-before.tokens.items c.entry-entry.result.address (ap (λ (e : NodeEntry). e.address) c.entry-entry.ensures) some (c.loop-before.invariant.goods c.requires.tickets.0 c.requires.tickets.1)))

pub put_at-requires-clause-within : goal.put_at-requires-clause-within
put_at-requires-clause-within g c =
    let at = c.loop-before in
    let next : ℕ = at.before + 1 in
    let some = has_block (image_view c.args.image.now) next c.entry-entry.result c.entry-entry.ensures (λ z. absurd (omega arith)) in
    token_within c.args.geometry.now (image_view c.args.image.now) c.requires.lawful c.requires.tickets.0 next at.tickets.items at.tokens.items some (at.invariant.goods c.requires.tickets.0 c.requires.tickets.1)

pub put_at-requires-clause-none : goal.put_at-requires-clause-none
put_at-requires-clause-none g c =
    let at = c.loop-before in
    let next : ℕ = at.before + 1 in
    let some = has_block (image_view c.args.image.now) next c.entry-entry.result c.entry-entry.ensures (λ z. absurd (omega arith)) in
    token_misses c.args.geometry.now (image_view c.args.image.now) c.requires.lawful c.requires.tickets.0 next at.tickets.items at.tokens.items some (at.invariant.goods c.requires.tickets.0 c.requires.tickets.1)

pub loop-before-preserved : goal.loop-before-preserved
loop-before-preserved g c =
    let geometry = c.args.geometry.now in
    let image = image_view c.args.image.now in
    let at = c.loop-before in
    let before = at.invariant in
    let next : ℕ = at.before + 1 in
    let entry = c.entry-entry.result in
    let same : entry.address ≡ (entry_of image next).address = ap (λ (e : NodeEntry). e.address) c.entry-entry.ensures in
    elim c.if-entry-ne0.branch [
      | then-entry-ne0 w ↦
          let some : (entry_of image next).address ≢ 0 = λ z. (let none = same ∙ z in absurd (omega arith)) in
          let bytes = c.requires.tickets.0 in
          let passed = before.goods bytes c.requires.tickets.1 in
          let there : get_or at.tickets.items entry.address None ≡ Some (record { mark = record { address = (entry_of image next).address; owner = Node next }; content = bytes (entry_of image next).address }) = ap (λ k. get_or at.tickets.items k None) same ∙ ticket_stands geometry image c.requires.lawful bytes next at.tickets.items at.tokens.items some passed in
          let t = w.take_at-ticket.result in
          let ticket_is = same_some (get_or at.tickets.items entry.address None) t _ w.take_at-ticket.ensures.right there in
          let owner_is : t.mark.owner ≡ Node next = ap (λ (p : Placed). p.mark.owner) ticket_is in
          let h : Mark → ℕ = λ y. if same_mark t.mark y then 1 else 0 in
          let one : h t.mark ≡ 1 = rw (mark_self t.mark) refl in
          let went = goes (λ (p : Placed). h p.mark) at.tickets.items entry.address t w.take_at-ticket.ensures.right in
          let so_far = before.hand h in
          let enough = c.requires.held h in
          let token = w.load_node-token.result in
          let k = w.index_mut-shard.result.now in
          let shard = w.load_node-token.new.shard in
          let place : ℕ = next % 16 in
          let low : place < length at.shards.items = let few = home_of next in let many = before.shards.sixteen in omega arith in
          let value : k ≡ get_or at.shards.items place k = w.index_mut-shard.ensures.value in
          let was : IsShardAt c.args.books.now.book geometry.nodes place k = subst (λ x. IsShardAt c.args.books.now.book geometry.nodes place x) (sym value) (before.shards.each place k low) in
          let changed = w.load_node-token.ensures.shard in
          let is : IsShardAt c.args.books.now.book geometry.nodes place shard = record {
            book_is = ap (λ (x : ShardNodes). x.book) changed ∙ was.book_is;
            number = ap (λ (x : ShardNodes). x.shard) changed ∙ was.number;
            nodes_are = ap (λ (x : ShardNodes). x.nodes) changed ∙ was.nodes_are;
            own = w.load_node-token.ensures.own;
          } in
          let more : shard.taken ≡ token ∷ (get_or at.shards.items place k).taken = ap (λ (x : ShardNodes). x.taken) changed ∙ ap (λ (x : ShardNodes). token ∷ x.taken) value in
          let token_number : token.number ≡ next = ap (λ (e : TakenNumber). e.number) w.load_node-token.ensures.token in
          let token_address : token.address ≡ t.mark.address = ap (λ (e : TakenNumber). e.address) w.load_node-token.ensures.token in
          let shards_are : c.if-entry-ne0.shards.items ≡ set at.shards.items place shard = ap (λ v. v.items) w.shards-is in
          let tickets_are : c.if-entry-ne0.tickets.items ≡ set at.tickets.items entry.address None = ap (λ v. v.items) w.tickets-is ∙ w.take_at-ticket.ensures.table in
          let tokens_are : c.if-entry-ne0.tokens.items ≡ set at.tokens.items next (Some token) = ap (λ v. v.items) w.tokens-is ∙ w.put_at.ensures in
          let permit_is = w.hand-is ∙ w.load_node-token.ensures.hand in
          let within = token_within geometry image c.requires.lawful bytes next at.tickets.items at.tokens.items some passed in
          let empty = token_misses geometry image c.requires.lawful bytes next at.tickets.items at.tokens.items some passed in
          let some_held : 0 < times same_mark t.mark at.hand.tickets = omega arith in
          record {
            shards = subst (AreShards c.args.books.now.book geometry.nodes) (sym shards_are) (shards_next c.args.books.now.book geometry.nodes at.shards.items place shard low before.shards is);
            free = subst (λ ss. (j : ℕ) (other : ShardNodes) → j < length ss → (number : ℕ) → next < number → entries_of number (get_or ss j other).taken ≡ 0) (sym shards_are)
                (free_next at.shards.items place at.before k shard token low token_number more before.free);
            taken = λ f. (let all = ap (λ ss. weigh f (all_taken ss)) shards_are ∙ taken_next f at.shards.items place k token low shard more in
                let came = ap (weigh (in_place f)) tokens_are ∙ comes f at.tokens.items next token within empty in
                let so = before.taken f in
                omega arith);
            goods = λ bs are. (let there' = ap (λ j. get_or at.tickets.items j None) same ∙ ticket_stands geometry image c.requires.lawful bs next at.tickets.items at.tokens.items some (before.goods bs are) in
                let its = same_some (get_or at.tickets.items entry.address None) t _ w.take_at-ticket.ensures.right there' in
                let token_is : token ≡ record { number = next; inode = (entry_of image next).inode; address = (entry_of image next).address; bytes = bs (entry_of image next).address } = w.load_node-token.ensures.token
                ∙ (λ i. record { number = next; inode = (c.entry-entry.ensures i).inode; address = (its i).mark.address; bytes = (its i).content }) in
                let tickets_as : c.if-entry-ne0.tickets.items ≡ set at.tickets.items (entry_of image next).address None = tickets_are ∙ ap (λ j. set at.tickets.items j None) same in
                subst (λ ts. ArePassed geometry image bs (next + 1) ts c.if-entry-ne0.tokens.items) (sym tickets_as)
                (subst (λ ts. ArePassed geometry image bs (next + 1) (set at.tickets.items (entry_of image next).address None) ts) (sym tokens_are)
                (passes_one geometry image c.requires.lawful bs next at.tickets.items at.tokens.items some (before.goods bs are) token token_is)));
            marks = λ f. (let out = ap (weigh (in_place (λ (p : Placed). f p.mark))) tickets_are in
                let gone = goes (λ (p : Placed). f p.mark) at.tickets.items entry.address t w.take_at-ticket.ensures.right in
                let came = ap (weigh (in_place (λ e. f (mark_of e)))) tokens_are ∙ comes (λ e. f (mark_of e)) at.tokens.items next token within empty in
                let its = ap f (token_mark token t.mark next token_number token_address owner_is) in
                let so = before.marks f in
                omega arith);
            hand = λ f. (let out = ap (weigh (in_place (λ (p : Placed). f p.mark))) tickets_are in
                let gone = goes (λ (p : Placed). f p.mark) at.tickets.items entry.address t w.take_at-ticket.ensures.right in
                let less = ap (λ (v : HandView). weigh f v.tickets) permit_is in
                let spent = without_mark f t.mark at.hand.tickets some_held in
                let so = before.hand f in
                omega arith);
            hand_tokens = λ f. (let came = ap (weigh (in_place f)) tokens_are ∙ comes f at.tokens.items next token within empty in
                let held = ap (λ (v : HandView). weigh f v.tokens) permit_is in
                let so = before.hand_tokens f in
                omega arith);
            book = ap (λ (v : HandView). v.book) permit_is ∙ before.book;
          }
      | else-entry-ne0 w ↦
          let none : (entry_of image next).address ≡ 0 = sym same ∙ omega arith in
          let shards_are : c.if-entry-ne0.shards.items ≡ at.shards.items = ap (λ v. v.items) w.shards-is in
          let tickets_are : c.if-entry-ne0.tickets.items ≡ at.tickets.items = ap (λ v. v.items) w.tickets-is in
          let tokens_are : c.if-entry-ne0.tokens.items ≡ at.tokens.items = ap (λ v. v.items) w.tokens-is in
          record {
            shards = subst (AreShards c.args.books.now.book geometry.nodes) (sym shards_are) before.shards;
            free = subst (λ ss. (j : ℕ) (other : ShardNodes) → j < length ss → (number : ℕ) → next < number → entries_of number (get_or ss j other).taken ≡ 0) (sym shards_are)
                (λ j other low number past. before.free j other low number (omega arith));
            taken = λ f. ap (λ ss. weigh f (all_taken ss)) shards_are ∙ (before.taken f ∙ sym (ap (weigh (in_place f)) tokens_are));
            goods = λ bs are. subst (λ ts. ArePassed geometry image bs (next + 1) ts c.if-entry-ne0.tokens.items) (sym tickets_are)
                (subst (λ ts. ArePassed geometry image bs (next + 1) at.tickets.items ts) (sym tokens_are)
                (passes_none geometry image c.requires.lawful bs next at.tickets.items at.tokens.items none (before.goods bs are)));
            marks = λ f. (let one = ap (weigh (in_place (λ (p : Placed). f p.mark))) tickets_are in
                let two = ap (weigh (in_place (λ e. f (mark_of e)))) tokens_are in
                let so = before.marks f in
                omega arith);
            hand = λ f. (let one = ap (weigh (in_place (λ (p : Placed). f p.mark))) tickets_are in
                let held = ap (λ (v : HandView). weigh f v.tickets) w.hand-is in
                let so = before.hand f in
                omega arith);
            hand_tokens = λ f. (let one = ap (weigh (in_place f)) tokens_are in
                let held = ap (λ (v : HandView). weigh f v.tokens) w.hand-is in
                let so = before.hand_tokens f in
                omega arith);
            book = ap (λ (v : HandView). v.book) w.hand-is ∙ before.book;
          }
    ]

pub returns-clause-goods : goal.returns-clause-goods
returns-clause-goods g c = λ bytes are.
    let at = c.loop-before in
    let last : at.before ≡ c.args.geometry.now.nodes = omega arith in
    passing_ends c.args.geometry.now (image_view c.args.image.now) c.requires.lawful bytes at.tickets.items at.tokens.items
    (subst (λ n. ArePassed c.args.geometry.now (image_view c.args.image.now) bytes (n + 1) at.tickets.items at.tokens.items) last (at.invariant.goods bytes are))

pub returns-clause-placed : goal.returns-clause-placed
returns-clause-placed g c =
    goods_placed c.args.geometry.now (image_view c.args.image.now) c.requires.lawful c.requires.tickets.0 c.loop-before.tickets.items c.loop-before.tokens.items (returns-clause-goods g c c.requires.tickets.0 c.requires.tickets.1)
