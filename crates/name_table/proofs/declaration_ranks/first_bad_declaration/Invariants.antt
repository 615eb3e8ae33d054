use Rattle.std.proofs.Common.{◌≡◌, drop, map}
use Rattle.std.specs.List.{flat_map}
use Rattle.hpf_base.specs.FirstBreach.{earlier, least}
use Rattle.syntax_tree.specs.MainProgram.{declaration}
use Rattle.name_table.specs.RankRules.{declaration_breaches_at}
use Rattle.name_table.proofs.declaration_ranks.first_bad_declaration.Given as goal

abbrev pub invariant-loop-decl : goal.invariant-loop-decl
invariant-loop-decl l =
    earlier l.first (least (flat_map (declaration_breaches_at l.table) (map declaration (drop l.decl-index l.decls))))
    ≡ least (flat_map (declaration_breaches_at l.table) (map declaration l.decls))
