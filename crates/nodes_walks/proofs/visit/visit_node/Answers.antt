use Rattle.std.proofs.Common.{sym, ap, ◌∙◌, arith}
use Rattle.nodes.specs.File.{inode_of, weight_of}
use Rattle.nodes_walks.proofs.Keeping.{kept_token, kept_same}
use Rattle.nodes_walks.proofs.visit.visit_node.Goals as goal

pub visit_inode-requires : goal.visit_inode-requires
visit_inode-requires g c =
    let f = c.args.file.now in
    record { ready = c.requires.ready (inode_of f) (sym c.number.ensures ∙ c.if-number-nid.false) (λ w. omega arith) }

pub returns-in-Ok-clause-visited : goal.returns-in-Ok-clause-visited
returns-in-Ok-clause-visited g c = λ _.
    (let f = c.args.file.now in
    let done = c.in-Ok.ensures in (
      inode_of f,
      c.visit_inode.new.file.token,
      record {
        among = λ w. omega arith;
        number = done.number;
        trades = λ w. (let all = ap (λ x. weight_of x w) done.file in omega arith);
      },
      done.visited,
    ))

pub returns-in-Err-clause-refused : goal.returns-in-Err-clause-refused
returns-in-Err-clause-refused g c =
    let done = c.in-Err.ensures in (done.same, inode_of c.args.file.now, λ w. omega arith, done.refused)

pub returns-in-Ok-clause-kept : goal.returns-in-Ok-clause-kept
returns-in-Ok-clause-kept g c =
    let done = c.in-Ok.ensures in rw done.file (kept_token c.args.file.now c.requires.file c.visit_inode.new.file.token done.number)

pub returns-in-Err-clause-kept : goal.returns-in-Err-clause-kept
returns-in-Err-clause-kept g c = kept_same c.args.file.now c.requires.file c.visit_inode.new.file c.in-Err.ensures.same
