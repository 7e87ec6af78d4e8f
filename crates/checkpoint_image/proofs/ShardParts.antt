-- Each token of the part is that of a number taken in the shard, so what the shard's law says of taken numbers holds of
-- the part.
use Rattle.std.proofs.Common.{◌≡◌, refl, ◌∙◌, ap, subst, ℕ, ◌<◌, ◌==◌, List, [], if◌then◌else◌, eq-eqb, arith}
use Rattle.geometry.specs.declared.geometry.Geometry.{Geometry}
use Rattle.rights_books.specs.declared.claim.TakenNumber.{TakenNumber}
use Rattle.nat.specs.Taken.{entries_of}
use Rattle.nat.specs.Shard.{ShardNodes}
use Rattle.image_law.specs.Items.{Among}
use Rattle.image_law.specs.Parts.{Token, ShardLaw}
use Rattle.image_law.proofs.Weighing.{weigh_among, weigh-map, of_among-map}
use Rattle.checkpoint_image.specs.Cells.{token_of, shard_part, IsShardAt}

-- an entry that is there is counted
counted : (x : TakenNumber) (taken : List TakenNumber) → Among x taken → 0 < entries_of x.number taken
counted x taken m =
    let a = weigh_among (λ (e : TakenNumber). if e.number == x.number then 1 else 0) x taken m in
    let b : ◌≡◌ {A = ℕ} (if x.number == x.number then 1 else 0) 1 = rw (eq-eqb x.number x.number refl) refl in
    omega arith

module _ (geometry : Geometry) (k : ℕ) (s : ShardNodes) (is : IsShardAt geometry k s) where
  entry_there : (e : Token) → Among e (shard_part s) → 0 < entries_of e.nid s.taken
  entry_there e m =
      let x = of_among-map token_of e s.taken m in
      subst (λ (n : ℕ). 0 < entries_of n s.taken) (ap (λ (t : Token). t.nid) x.2) (counted x.0 s.taken x.1)

  pub shard_law : ShardLaw geometry k (shard_part s)
  shard_law = record {
    home = λ e m. is.own.home e.nid (entry_there e m) ∙ is.number;
    range = λ e m.
        let n = is.nodes in
        let most = is.own.nodes.within e.nid (entry_there e m) in
        (is.own.nodes.some e.nid (entry_there e m), omega arith);
    single = λ nid.
        let same = weigh-map (λ (e : Token). if e.nid == nid then 1 else 0) token_of s.taken in
        let once = is.own.nodes.once nid in omega arith;
  }

pub empty_law : (geometry : Geometry) (k : ℕ) → ShardLaw geometry k []
empty_law geometry k = record {
  home = λ e m. absurd m;
  range = λ e m. absurd m;
  single = λ nid. omega arith;
}
