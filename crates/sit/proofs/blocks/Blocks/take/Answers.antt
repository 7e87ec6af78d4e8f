-- Only the place of the block that leaves changes, and its address, length and bytes were those of that place: so the
-- home's law holds, less the block's failures.
use Rattle.std.proofs.Common.{◌≡◌, ◌+◌, [], Some, None, length, get_or, set, arith, ap, sym, ◌∙◌}
use Rattle.std.proofs.lemmas.List.{get_or-map}
use Rattle.std.specs.Prelude.{is_some}
use Rattle.sit.proofs.Lists.{each-without, within_present, get_or-default}
use Rattle.sit.specs.Home.{content_at, failed_at, failures_of}
use Rattle.sit.proofs.Homes.{home-set, failures-set}
use Rattle.sit.proofs.blocks.Blocks.take.Goals as goal

pub invariant_of-self : goal.invariant_of-self
invariant_of-self g c =
    let xs = c.self.inside.blocks.items in
    let within = within_present xs _ c.args.offset (ap (λ h. h.present) c.self.view_is) c.requires.within in
    record {
      addresses = each-without (λ o b. g.B.Block.address_of b ≡ c.self.inside.first + o) xs c.args.offset c.take.new.self c.take.ensures.after within c.self.invariant.addresses;
      lengths = each-without (λ o b. length (g.B.Block.content_of b) ≡ c.self.inside.block_bytes) xs c.args.offset c.take.new.self c.take.ensures.after within c.self.invariant.lengths;
    }

pub returns-clause-home : goal.returns-clause-home
returns-clause-home g c =
    let s = c.self.inside in
    let after = set s.blocks.items c.args.offset c.take.new.self in
    home-set s.first s.block_bytes is_some (content_at g.B.Block.content_of) s.blocks.items c.args.offset c.take.new.self (failures_of g.B.Block.failed s.blocks.items) (failures_of g.B.Block.failed after) c.args.self.now c.self.view_is
    ∙ ap (λ x. record { first = c.args.self.now.first; block_bytes = c.args.self.now.block_bytes; present = set c.args.self.now.present c.args.offset (is_some x); contents = set c.args.self.now.contents c.args.offset (content_at g.B.Block.content_of x); failed = failures_of g.B.Block.failed after }) c.take.ensures.after

pub returns-clause-failures : goal.returns-clause-failures
returns-clause-failures g c =
    let s = c.self.inside in
    let within = within_present s.blocks.items _ c.args.offset (ap (λ h. h.present) c.self.view_is) c.requires.within in
    let is : get_or s.blocks.items c.args.offset None ≡ Some c.in-Some.block = get_or-default s.blocks.items c.args.offset None _ within ∙ (sym c.index_mut.ensures.value ∙ (sym c.take.ensures.value ∙ c.in-Some.is)) in
    let change = failures-set g.B.Block.failed s.blocks.items c.args.offset c.take.new.self within in
    let here = ap (failed_at g.B.Block.failed) is in
    let away = ap (failed_at g.B.Block.failed) c.take.ensures.after in
    let before : failures_of g.B.Block.failed s.blocks.items ≡ c.args.self.now.failed = ap (λ h. h.failed) c.self.view_is in
    omega arith

pub returns-clause-address : goal.returns-clause-address
returns-clause-address g c =
    let s = c.self.inside in
    let within = within_present s.blocks.items _ c.args.offset (ap (λ h. h.present) c.self.view_is) c.requires.within in
    let is : get_or s.blocks.items c.args.offset None ≡ Some c.in-Some.block = get_or-default s.blocks.items c.args.offset None _ within ∙ (sym c.index_mut.ensures.value ∙ (sym c.take.ensures.value ∙ c.in-Some.is)) in
    c.self.invariant.addresses c.args.offset c.in-Some.block is ∙ ap (λ h. h.first + c.args.offset) c.self.view_is

pub returns-clause-length : goal.returns-clause-length
returns-clause-length g c =
    let s = c.self.inside in
    let within = within_present s.blocks.items _ c.args.offset (ap (λ h. h.present) c.self.view_is) c.requires.within in
    let is : get_or s.blocks.items c.args.offset None ≡ Some c.in-Some.block = get_or-default s.blocks.items c.args.offset None _ within ∙ (sym c.index_mut.ensures.value ∙ (sym c.take.ensures.value ∙ c.in-Some.is)) in
    c.self.invariant.lengths c.args.offset c.in-Some.block is ∙ ap (λ h. h.block_bytes) c.self.view_is

pub returns-clause-content : goal.returns-clause-content
returns-clause-content g c =
    let s = c.self.inside in
    let within = within_present s.blocks.items _ c.args.offset (ap (λ h. h.present) c.self.view_is) c.requires.within in
    let is : get_or s.blocks.items c.args.offset None ≡ Some c.in-Some.block = get_or-default s.blocks.items c.args.offset None _ within ∙ (sym c.index_mut.ensures.value ∙ (sym c.take.ensures.value ∙ c.in-Some.is)) in
    sym (ap (λ h. get_or h.contents c.args.offset []) (sym c.self.view_is) ∙ get_or-map (content_at g.B.Block.content_of) s.blocks.items c.args.offset None [] within ∙ ap (content_at g.B.Block.content_of) is)
