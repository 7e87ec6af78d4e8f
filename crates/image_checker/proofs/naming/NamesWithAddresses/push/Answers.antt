use Rattle.std.proofs.Common.{sym, subst}
use Rattle.image_checker.specs.Named.{AreNamed}
use Rattle.image_checker.proofs.NamedLemmas.{named_clash, named_push}
use Rattle.std.specs.Prelude.{slice_set, true}
use Rattle.image_checker.proofs.naming.NamesWithAddresses.push.Goals as goal

pub returns-then-index-clause-added : goal.returns-then-index-clause-added
returns-then-index-clause-added c =
    named_clash c.args.self.now.names.items c.args.self.now.map.items c.args.name c.index.result.now c.args.self.now.named c.requires.low c.index.ensures c.if-index.true

pub invariant_of-self-2 : goal.invariant_of-self-2
invariant_of-self-2 c = record {
  named = subst (λ ns. AreNamed ns (slice_set c.args.self.now.map.items c.args.name.address true)) (sym c.in_ok-push.ensures.items)
      (named_push c.args.self.now.names.items c.args.self.now.map.items c.args.name c.index.result.now c.args.self.now.named c.requires.low c.index.ensures c.if-index.false);
}
