use Rattle.std.proofs.Common.{◌≡◌, drop, map}
use Rattle.hpf_base.specs.FirstBreach.{earlier, least}
use Rattle.syntax_tree.specs.MainProgram.{declaration}
use Rattle.directive_check.specs.MappingRules.{declared_breaches}
use Rattle.directive_check.proofs.declared_rules.first_bad_directive.Given as goal

abbrev pub invariant-loop-decl : goal.invariant-loop-decl
invariant-loop-decl l =
    earlier l.first (least (declared_breaches l.setting (map declaration (drop l.decl-index l.decls)))) ≡ least (declared_breaches l.setting (map declaration l.decls))
