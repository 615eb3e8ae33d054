use Rattle.std.proofs.Common.{◌≡◌, ◌++◌, drop, map}
use Rattle.syntax_tree.specs.MainProgram.{declaration}
use Rattle.directive_check.specs.MappedObjects.{dynamic_names}
use Rattle.directive_check.specs.MappedSteps.{dynamic}
use Rattle.directive_check.proofs.dynamic_names.dynamic_names.Given as goal

abbrev pub invariant-loop-decl : goal.invariant-loop-decl
invariant-loop-decl l = dynamic l.names.items ++ dynamic_names (map declaration (drop l.decl-index l.decls)) ≡ dynamic_names (map declaration l.decls)
