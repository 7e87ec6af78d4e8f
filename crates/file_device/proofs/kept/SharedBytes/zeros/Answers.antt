-- Zeros that the block of an address has to itself.
use Rattle.std.proofs.Common.{◌≡◌, ◌∙◌, ◌-◌, ◌*◌, ℕ, List, Result, Ok, Err, IfOk, ap, arith, drop, replicate, take, zero-mul}
use Rattle.std.proofs.lemmas.List.{take-replicate}
use Rattle.std.specs.Arc.{arc_value}
use Rattle.geometry.specs.declared.geometry.Geometry.{Geometry}
use Rattle.geometry.specs.Shape.{block_bytes}
use Rattle.file_device.specs.declared.held.Held.TheVariants.{From}
use Rattle.file_device.specs.declared.kept.SharedBytes.{SharedBytes}
use Rattle.file_device.specs.Held.{content_in, geometry_of, held_at, lent_at, lent_in, part_of, size_of}
use Rattle.file_device.proofs.kept.SharedBytes.zeros.Goals as goal

-- a block's part of its own zeros is all of them
own_part : (size address : ℕ) → part_of size address address (replicate size 0) ≡ replicate size 0
own_part size address =
    let none : (address - address) * size ≡ 0 = ap (λ k. k * size) (omega arith) ∙ zero-mul size in
    ap (λ n. take size (drop n (replicate size 0))) none ∙ take-replicate size size 0 (omega arith)

part_in : {S : Type 0} (kept : SharedBytes S) (geometry : Geometry) (address : ℕ) → geometry_of kept ≡ geometry → kept.bytes.items ≡ replicate (block_bytes geometry.shape) 0
    → part_of (size_of kept) address address kept.bytes.items ≡ replicate (block_bytes geometry.shape) 0
part_in kept geometry address numbers zeros =
    ap (λ (g : Geometry). part_of (block_bytes g.shape) address address kept.bytes.items) numbers
    ∙ ap (λ bytes. part_of (block_bytes geometry.shape) address address bytes) zeros
    ∙ own_part (block_bytes geometry.shape) address

content_of : {X E S : Type 0} (f : X → SharedBytes S) (geometry : Geometry) (address : ℕ) (bytes : List ℕ) (result : Result X E)
    → IfOk result (λ x. geometry_of (f x) ≡ geometry) → IfOk result (λ x. (f x).held ≡ From address) → IfOk result (λ x. (f x).bytes.items ≡ bytes)
    → bytes ≡ replicate (block_bytes geometry.shape) 0 → IfOk result (λ x. content_in (f x) address ≡ replicate (block_bytes geometry.shape) 0)
content_of f geometry address bytes (Ok x) numbers held same zeros =
    ap (λ h. held_at (size_of (f x)) address (f x).bytes.items h) held ∙ part_in (f x) geometry address numbers (same ∙ zeros)
content_of f geometry address bytes (Err e) numbers held same zeros = tt

lent_of : {X E S : Type 0} (f : X → SharedBytes S) (geometry : Geometry) (address : ℕ) (bytes : List ℕ) (result : Result X E)
    → IfOk result (λ x. geometry_of (f x) ≡ geometry) → IfOk result (λ x. (f x).held ≡ From address) → IfOk result (λ x. (f x).bytes.items ≡ bytes)
    → bytes ≡ replicate (block_bytes geometry.shape) 0 → IfOk result (λ x. lent_in (f x) address ≡ replicate (block_bytes geometry.shape) 0)
lent_of f geometry address bytes (Ok x) numbers held same zeros =
    ap (λ h. lent_at (size_of (f x)) address (f x).bytes.items h) held ∙ part_in (f x) geometry address numbers (same ∙ zeros)
lent_of f geometry address bytes (Err e) numbers held same zeros = tt

pub returns-clause-content : goal.returns-clause-content
returns-clause-content g c =
    let zeros = c.in_ok-zeros.ensures ∙ ap (λ n. replicate n 0) c.size.ensures in
    content_of (λ arc. arc_value arc) (geometry_of c.args.self.now) c.args.address c.in_ok-zeros.zeros.items c.new.result c.new.ensures.numbers c.new.ensures.held c.new.ensures.bytes zeros

pub returns-clause-lent : goal.returns-clause-lent
returns-clause-lent g c =
    let zeros = c.in_ok-zeros.ensures ∙ ap (λ n. replicate n 0) c.size.ensures in
    lent_of (λ arc. arc_value arc) (geometry_of c.args.self.now) c.args.address c.in_ok-zeros.zeros.items c.new.result c.new.ensures.numbers c.new.ensures.held c.new.ensures.bytes zeros
