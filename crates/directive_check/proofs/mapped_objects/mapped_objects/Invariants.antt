use Rattle.std.proofs.Common.{◌≡◌, ◌++◌, drop, map}
use Rattle.syntax_tree.specs.MainProgram.{declaration}
use Rattle.directive_check.specs.MappedObjects.{mapped_objects}
use Rattle.directive_check.specs.MappedSteps.{mapped}
use Rattle.directive_check.proofs.mapped_objects.mapped_objects.Given as goal

abbrev pub invariant-loop-decl : goal.invariant-loop-decl
invariant-loop-decl l = mapped l.objects.items ++ mapped_objects (map declaration (drop l.decl-index l.decls)) ≡ mapped_objects (map declaration l.decls)
