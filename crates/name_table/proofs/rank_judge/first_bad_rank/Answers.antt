use Rattle.std.proofs.Common.{ap, ◌∙◌}
use Rattle.std.specs.List.{flat_map}
use Rattle.hpf_base.specs.FirstBreach.{least}
use Rattle.syntax_tree.specs.Statement.{block_of}
use Rattle.statement_walk.specs.Heads.{all_heads}
use Rattle.name_table.specs.RankRules.{rank_breaches_at}
use Rattle.name_table.proofs.rank_judge.first_bad_rank.Goals as goal

pub returns : goal.returns
returns c = c.in_ok-first.ensures ∙ ap (λ t. least (flat_map (rank_breaches_at t) (all_heads (block_of c.args.stmts.now)))) c.new-scope.ensures
