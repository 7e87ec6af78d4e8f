use Rattle.std.proofs.Common.{◌≡◌, ℕ, ◌-◌, List, [], ◌∷◌, ◌++◌, length, replicate, set, ◌∙◌, ap, rules}
use Rattle.std.proofs.lemmas.List.{length-set}
use Rattle.byteorder.specs.Endian.{little_bytes}
use Rattle.image.specs.Node.{kind_code}
use Rattle.image_codec.specs.Parts.{head_of}
use Rattle.image_codec.proofs.WritingLemmas.{put_mid-last, written_head, length-rest}
use Rattle.image_codec.proofs.encode.write_head.Goals as goal

pub returns : goal.returns
unfolding head_of
returns c =
    let xs = set c.write_u32.new.buf 4 c.kind_code.result in
    let zeros = c.fill.ensures.after (λ y e. search rules) in
    let same : length xs ≡ length c.args.out.now = length-set c.write_u32.new.buf 4 c.kind_code.result ∙ c.write_u32.auto.buf in
    put_mid-last 5 xs c.fill.new.self (little_bytes 4 c.args.node.now.length ++ c.kind_code.result ∷ [])
    (written_head c.args.out.now c.write_u32.new.buf c.args.node.now.length c.kind_code.result c.requires c.write_u32.ensures)
    ∙ ap (λ (code : ℕ). (little_bytes 4 c.args.node.now.length ++ code ∷ []) ++ c.fill.new.self) c.kind_code.ensures
    ∙ ap (λ (r : List ℕ). (little_bytes 4 c.args.node.now.length ++ kind_code c.args.node.now.kind ∷ []) ++ r)
    (zeros ∙ ap (λ (k : ℕ). replicate k 0) (length-rest 5 xs ∙ ap (λ (k : ℕ). k - 5) same))
