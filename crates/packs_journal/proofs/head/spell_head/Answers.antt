-- Each of the pieces is put behind the one before, so none reaches another.
use Rattle.std.proofs.Common.{◌≡◌, sym, ◌∙◌, ap, ℕ, ◌+◌, ◌≤◌, List, length, take, replicate, arith}
use Rattle.packs_journal.specs.Places.{changes_at, head_bytes, map_bytes}
use Rattle.byteorder.specs.Endian.{little_bytes}
use Rattle.byteorder.specs.Numbers.{length-bytes_low_first}
use Rattle.device.specs.Disk.{part}
use Rattle.device.proofs.Ranges.{holds_part}
use Rattle.std.proofs.lemmas.List.{length-take-le}
use Rattle.packs_journal.proofs.Pieces.{number_by_part, number_put, put_front, put_before, put_after}
use Rattle.packs_journal.proofs.head.spell_head.Goals as goal

module _ (c : goal.After-head-8-1) where
  abbrev one : List ℕ
  one = c.put_bytes.new.all

  abbrev two : List ℕ
  two = c.put_number.new.all

  abbrev three : List ℕ
  three = c.put_bytes-2.new.all

  abbrev four : List ℕ
  four = c.put_bytes-3.new.all

  -- the front that ends where the map begins
  fronts : (p k : ℕ) → p + k ≤ 64 → part p k four ≡ part p k two
  fronts p k le =
      put_before changes_at c.bytes.result.now three four c.put_bytes-3.ensures.within c.put_bytes-3.ensures.put p k (omega (arith, le))
      ∙ put_before 64 c.args.map.now two three c.put_bytes-2.ensures.within c.put_bytes-2.ensures.put p k le

  number_within : 56 + length (little_bytes 4 c.args.changes.now.count) ≤ length one
  number_within = omega (arith, c.put_number.ensures.within, length-bytes_low_first 0 4 c.args.changes.now.count)

pub returns-clause-front : goal.returns-clause-front
returns-clause-front c =
    let body = take 56 c.args.body.now in
    let long : length body ≡ 56 = length-take-le 56 c.args.body.now c.requires.body in
    put_front changes_at c.bytes.result.now (three c) (four c) c.put_bytes-3.ensures.within c.put_bytes-3.ensures.put 56 (omega arith)
    ∙ put_front 64 c.args.map.now (two c) (three c) c.put_bytes-2.ensures.within c.put_bytes-2.ensures.put 56 (omega arith)
    ∙ put_front 56 (little_bytes 4 c.args.changes.now.count) (one c) (two c) (number_within c) c.put_number.ensures.put 56 (omega arith)
    ∙ ap (λ (n : ℕ). take n (one c)) (sym long) ∙ holds_part 0 body (replicate head_bytes 0) (one c) c.put_bytes.ensures.within c.put_bytes.ensures.put

pub returns-clause-count : goal.returns-clause-count
returns-clause-count c = number_by_part 56 (four c) (two c) (fronts c 56 4 (omega arith))
    ∙ number_put 56 c.args.changes.now.count (one c) (two c) c.put_number.ensures.within (omega (arith, c.requires.few)) c.put_number.ensures.put

pub returns-clause-zeros : goal.returns-clause-zeros
returns-clause-zeros c =
    number_by_part 60 (four c) (replicate head_bytes 0)
    (fronts c 60 4 (omega arith)
    ∙ put_after 56 (little_bytes 4 c.args.changes.now.count) (one c) (two c) (number_within c) c.put_number.ensures.put 60 4 (omega (arith, length-bytes_low_first 0 4 c.args.changes.now.count))
    ∙ put_after 0 (take 56 c.args.body.now) (replicate head_bytes 0) (one c) c.put_bytes.ensures.within c.put_bytes.ensures.put 60 4 (omega (arith, length-take-le 56 c.args.body.now c.requires.body)))

pub returns-clause-map : goal.returns-clause-map
returns-clause-map c =
    put_before changes_at c.bytes.result.now (three c) (four c) c.put_bytes-3.ensures.within c.put_bytes-3.ensures.put 64 map_bytes (omega arith)
    ∙ ap (λ (n : ℕ). part 64 n (three c)) (sym c.told-map) ∙ holds_part 64 c.args.map.now (two c) (three c) c.put_bytes-2.ensures.within c.put_bytes-2.ensures.put

pub returns-clause-changes : goal.returns-clause-changes
returns-clause-changes c =
    ap (λ (n : ℕ). part changes_at n (four c)) (sym c.bytes.ensures.long) ∙ holds_part changes_at c.bytes.result.now (three c) (four c) c.put_bytes-3.ensures.within c.put_bytes-3.ensures.put ∙ c.bytes.ensures.bytes
