-- Only the place of the block that comes changes, and its address and length are those of that place: so the home's law
-- holds, with the block's bytes and failures added.
use Rattle.std.proofs.Common.{◌≡◌, ◌+◌, [], Some, None, length, get_or, set, false, arith, ap, sym, ◌∙◌}
use Rattle.std.proofs.lemmas.List.{length-set, get_or-map, get_or-set_same}
use Rattle.std.specs.Prelude.{is_some}
use Rattle.sit.proofs.Lists.{each-set, within_present, some-injective}
use Rattle.sit.specs.Home.{content_at, failures_of}
use Rattle.sit.proofs.Homes.{home-set, failures-set, failed-away}
use Rattle.sit.proofs.blocks.Blocks.put.Goals as goal

pub invariant_of-self : goal.invariant_of-self
invariant_of-self g c =
    let s = c.self.inside in
    let xs = s.blocks.items in
    let within = within_present xs _ c.args.offset (ap (λ h. h.present) c.self.view_is) c.requires.within in
    record {
      addresses = each-set (λ o b. g.B.Block.address_of b ≡ s.first + o) xs c.args.offset (Some c.args.block) within c.self.invariant.addresses
          (λ b e. ap g.B.Block.address_of (sym (some-injective c.args.block b e)) ∙ (c.requires.address ∙ ap (λ h. h.first + c.args.offset) (sym c.self.view_is)));
      lengths = each-set (λ o b. length (g.B.Block.content_of b) ≡ s.block_bytes) xs c.args.offset (Some c.args.block) within c.self.invariant.lengths
          (λ b e. ap (λ x. length (g.B.Block.content_of x)) (sym (some-injective c.args.block b e)) ∙ (c.requires.length ∙ ap (λ h. h.block_bytes) (sym c.self.view_is)));
    }

pub returns-clause-home : goal.returns-clause-home
returns-clause-home g c =
    let s = c.self.inside in
    home-set s.first s.block_bytes is_some (content_at g.B.Block.content_of) s.blocks.items c.args.offset (Some c.args.block) (failures_of g.B.Block.failed s.blocks.items)
    (failures_of g.B.Block.failed (set s.blocks.items c.args.offset (Some c.args.block))) c.args.self.now c.self.view_is

pub returns-clause-failures : goal.returns-clause-failures
returns-clause-failures g c away =
    let s = c.self.inside in
    let xs = s.blocks.items in
    let within = within_present xs _ c.args.offset (ap (λ h. h.present) c.self.view_is) c.requires.within in
    let none = failed-away g.B.Block.failed xs c.args.offset within (ap (λ h. get_or h.present c.args.offset false) c.self.view_is ∙ away) in
    let change = failures-set g.B.Block.failed xs c.args.offset (Some c.args.block) within in
    let before : failures_of g.B.Block.failed xs ≡ c.args.self.now.failed = ap (λ h. h.failed) c.self.view_is in
    omega arith

pub returns-clause-content : goal.returns-clause-content
returns-clause-content g c =
    let s = c.self.inside in
    let xs = s.blocks.items in
    let within = within_present xs _ c.args.offset (ap (λ h. h.present) c.self.view_is) c.requires.within in
    get_or-map (content_at g.B.Block.content_of) (set xs c.args.offset (Some c.args.block)) c.args.offset None [] (let long = length-set xs c.args.offset (Some c.args.block) in omega arith)
    ∙ ap (content_at g.B.Block.content_of) (get_or-set_same xs c.args.offset (Some c.args.block) None within)
