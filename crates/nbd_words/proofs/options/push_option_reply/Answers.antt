-- The five pieces are put behind the bytes one after the other.
use Rattle.std.proofs.Common.{◌≡◌, ◌++◌, List, ℕ, length, rules}
use Rattle.std.specs.Int.{w32, w64, to_be_bytes}
use Rattle.nbd_words.specs.Options.{option_number, reply_number}
use Rattle.nbd_words.proofs.Pieces.{in_turn_5}
use Rattle.nbd_words.proofs.options.push_option_reply.Goals as goal

pub returns : goal.returns
returns c =
    let old : List ℕ = c.args.out.now.items in
    let option : List ℕ = to_be_bytes w32 (option_number c.args.option) in
    let reply : List ℕ = to_be_bytes w32 (reply_number c.args.reply) in
    let long : List ℕ = to_be_bytes w32 (length c.args.content.now) in
    let first : c.extend_from_slice.new.self.items ≡ old ++ to_be_bytes w64 1100100111001001 = search rules in
    let second : c.extend_from_slice-2.new.self.items ≡ c.extend_from_slice.new.self.items ++ option = search rules in
    let third : c.extend_from_slice-3.new.self.items ≡ c.extend_from_slice-2.new.self.items ++ reply = search rules in
    let fourth : c.extend_from_slice-4.new.self.items ≡ c.extend_from_slice-3.new.self.items ++ long = search rules in
    let fifth : c.extend_from_slice-5.new.self.items ≡ c.extend_from_slice-4.new.self.items ++ c.args.content.now = search rules in
    record {
      bytes = in_turn_5 old (to_be_bytes w64 1100100111001001) option reply long c.args.content.now
          c.extend_from_slice.new.self.items c.extend_from_slice-2.new.self.items c.extend_from_slice-3.new.self.items c.extend_from_slice-4.new.self.items c.extend_from_slice-5.new.self.items
          first second third fourth fifth;
    }
