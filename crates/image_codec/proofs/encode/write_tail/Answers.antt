use Rattle.std.proofs.Common.{◌≡◌, ℕ, ◌-◌, List, [], ◌∷◌, ◌++◌, length, drop, replicate, ◌∙◌, ap, arith, rules, length-append}
use Rattle.std.proofs.lemmas.List.{length-drop, take_at}
use Rattle.image.specs.Node.{numbers}
use Rattle.geometry.specs.Class.{class_code}
use Rattle.image_codec.specs.Parts.{tail_of}
use Rattle.image_codec.proofs.WritingLemmas.{put_mid-last, length-rest}
use Rattle.image_codec.proofs.encode.write_tail.Goals as goal

pub returns : goal.returns
unfolding tail_of
returns c =
    let first = c.write_u32_into.new.dst in
    let xs = first ++ drop 12 c.args.out.now in
    let zeros = c.fill.ensures.after (λ y e. search rules) in
    let three : first ≡ numbers (c.args.node.now.nid ∷ c.args.node.now.inode ∷ class_code c.args.node.now.class ∷ [])
    = c.write_u32_into.ensures ∙ ap (λ (k : ℕ). numbers (c.args.node.now.nid ∷ c.args.node.now.inode ∷ k ∷ [])) c.class_code.ensures in
    let twelve : length first ≡ 12 = ap length three in
    let long : length xs ≡ 24 = length-append first (drop 12 c.args.out.now) ∙ omega (arith, length-drop 12 c.args.out.now, c.requires) in
    put_mid-last 12 xs c.fill.new.self first (take_at first (drop 12 c.args.out.now) 12 twelve)
    ∙ ap (λ (f : List ℕ). f ++ c.fill.new.self) three
    ∙ ap (λ (r : List ℕ). numbers (c.args.node.now.nid ∷ c.args.node.now.inode ∷ class_code c.args.node.now.class ∷ []) ++ r)
    (zeros ∙ ap (λ (k : ℕ). replicate k 0) (length-rest 12 xs ∙ ap (λ (k : ℕ). k - 12) long))
