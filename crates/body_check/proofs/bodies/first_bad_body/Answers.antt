use Rattle.std.proofs.Common.{sym, ◌∙◌}
use Rattle.std.specs.List.{flat_map}
use Rattle.hpf_base.specs.FirstBreach.{earlier}
use Rattle.hpf_base.proofs.FirstBreaches.{least_append}
use Rattle.syntax_tree.specs.Statement.{block_of}
use Rattle.statement_walk.specs.Heads.{all_heads}
use Rattle.statement_walk.specs.Nests.{nests}
use Rattle.body_check.specs.ForallRules.{forall_breaches_at}
use Rattle.body_check.specs.NestRules.{nest_breaches}
use Rattle.body_check.proofs.bodies.first_bad_body.Goals as goal

pub returns : goal.returns
returns c =
    c.earlier.ensures ∙ (λ i. earlier (c.in_ok-first.ensures i) (c.in_ok-last.ensures i))
    ∙ sym (least_append (flat_map (forall_breaches_at c.args.names.now) (all_heads (block_of c.args.stmts.now)))
    (flat_map (nest_breaches c.args.names.now) (nests (block_of c.args.stmts.now))))
