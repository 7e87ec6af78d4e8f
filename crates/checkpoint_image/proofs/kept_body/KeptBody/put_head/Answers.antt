-- Six logs make a head of 56 bytes, and what lies behind it stays.
use Rattle.std.proofs.Common.{◌≡◌, ◌∙◌, refl, sym, ap, subst, ℕ, ◌+◌, ◌*◌, ◌<◌, ◌≤◌, List, [], ◌∷◌, ◌++◌, length, take, drop, length-append, length-drop, arith}
use Rattle.std.proofs.lemmas.List.{take_at, drop_at}
use Rattle.std.specs.List.{flat_map}
use Rattle.device.proofs.Ranges.{holds_torn}
use Rattle.image.specs.Node.{numbers}
use Rattle.image.specs.Pack.{body_bytes, log_bytes}
use Rattle.packs.proofs.Sizes.{is_more}
use Rattle.pack_tables.proofs.Widths.{rows_long, log_long}
use Rattle.checkpoint_image.proofs.KeptRows.{head_kept, head_touched}
use Rattle.checkpoint_image.proofs.kept_body.KeptBody.put_head.Goals as goal

-- the head's bytes, and how many
head_is : (c : goal.After-as_slice) → c.as_slice.result.now ≡ numbers (c.args.version ∷ c.args.total ∷ []) ++ flat_map log_bytes c.args.logs.now
head_is c = c.as_slice.ensures.value ∙ c.in_ok-spell_head.ensures.added
    ∙ ap (λ (l : List ℕ). (l ++ numbers (c.args.version ∷ c.args.total ∷ [])) ++ flat_map log_bytes c.args.logs.now) c.new-head.ensures.items

head_long : (c : goal.After-as_slice) → length c.as_slice.result.now ≡ 56
head_long c =
    ap length (head_is c) ∙ length-append (numbers (c.args.version ∷ c.args.total ∷ [])) (flat_map log_bytes c.args.logs.now)
    ∙ ap (λ (n : ℕ). 8 + n) (rows_long log_bytes 8 log_long c.args.logs.now) ∙ ap (λ (n : ℕ). 8 + 8 * n) c.requires.six

body_long : (c : goal.After-as_slice) → length c.args.self.now.body.bytes.items ≡ body_bytes c.args.self.now.geometry
body_long c = (c.args.self.now.spelled c.requires.there).long

pub put_bytes-requires : goal.put_bytes-requires
put_bytes-requires c = omega (arith, head_long c, body_long c, is_more c.args.self.now.geometry)

-- what was put in front has 56 bytes
module _ (c : goal.After-as_slice) (new : List ℕ) (put : new ≡ c.as_slice.result.now ++ drop (0 + length c.as_slice.result.now) c.args.self.now.body.bytes.items) where
  front_is : take 56 new ≡ c.as_slice.result.now
  front_is = ap (take {A = ℕ} 56) put ∙ take_at c.as_slice.result.now _ 56 (head_long c)

  rest_same : drop 56 new ≡ drop 56 c.args.self.now.body.bytes.items
  rest_same = ap (drop {A = ℕ} 56) put ∙ drop_at c.as_slice.result.now _ 56 (head_long c) ∙ ap (λ (n : ℕ). drop {A = ℕ} (0 + n) c.args.self.now.body.bytes.items) (head_long c)

  long_same : length new ≡ length c.args.self.now.body.bytes.items
  long_same =
      let whole = ap length put in
      let all = length-append c.as_slice.result.now (drop (0 + length c.as_slice.result.now) c.args.self.now.body.bytes.items) in
      let rest = length-drop (0 + length c.as_slice.result.now) c.args.self.now.body.bytes.items in
      let fits = put_bytes-requires c in
      omega (arith, whole, all, rest, fits)

pub invariant_of-self : goal.invariant_of-self
invariant_of-self c =
    let self = c.args.self.now in
    let new = c.put_bytes.new.all.items in
    let long : length new ≡ length self.body.bytes.items = long_same c.before new c.put_bytes.ensures in
    record {
      every_twin = self.every_twin;
      in_order = self.in_order;
      spelled = λ _. head_kept self.geometry self.twins.items self.body.bytes.items new long (rest_same c.before new c.put_bytes.ensures) (self.spelled c.requires.there);
      unspelled = λ none. absurd (omega (arith, none, long, c.requires.there));
      fresh = λ none. absurd (omega (arith, none, long, c.requires.there));
    }

pub returns-clause-front : goal.returns-clause-front
returns-clause-front c = front_is c.before.before.before c.put_bytes.new.all.items c.put_bytes.ensures ∙ head_is c.before.before.before

pub returns-clause-rest : goal.returns-clause-rest
returns-clause-rest c = rest_same c.before.before.before c.put_bytes.new.all.items c.put_bytes.ensures

pub returns-clause-there : goal.returns-clause-there
returns-clause-there c = long_same c.before.before.before c.put_bytes.new.all.items c.put_bytes.ensures

pub returns-clause-touched : goal.returns-clause-touched
returns-clause-touched c =
    head_touched (body_bytes c.args.self.now.geometry) c.args.self.now.body (record { bytes = c.put_bytes.new.all; touched = c.args.self.now.body.touched })
    refl (rest_same c.before.before.before c.put_bytes.new.all.items c.put_bytes.ensures)
