-- Of the claim.
-- The rules of bodies over all statements of a program.
use Rattle.std.specs.Prelude.{List, ◌++◌}
use Rattle.std.specs.List.{flat_map}
use Rattle.hpf_base.specs.declared.refusal.Refusal.{Refusal}
use Rattle.syntax_tree.specs.Statement.{Block}
use Rattle.statement_walk.specs.Heads.{all_heads}
use Rattle.statement_walk.specs.Nests.{nests}
use Rattle.name_table.specs.declared.names.Entry.{Entry}
use Rattle.body_check.specs.ForallRules.{forall_breaches_at}
use Rattle.nest_check.specs.NestRules.{nest_breaches}

-- all that the statements of a program with these declared names break of them
abbrev pub body_breaches : List Entry → Block → List Refusal
body_breaches es b = flat_map (forall_breaches_at es) (all_heads b) ++ flat_map (nest_breaches es) (nests b)
