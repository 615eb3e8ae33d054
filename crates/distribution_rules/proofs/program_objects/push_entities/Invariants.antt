use Rattle.std.proofs.Common.{◌≡◌, ◌++◌, drop, map}
use Rattle.syntax_tree.specs.Directive.{arrangement}
use Rattle.distribution_rules.specs.Setting.{space}
use Rattle.distribution_rules.proofs.program_objects.push_entities.Given as goal

abbrev pub invariant-loop-entity : goal.invariant-loop-entity
invariant-loop-entity l =
    l.objects.items ++ map (space l.grid l.table l.kind) (map arrangement (drop l.entity-index l.entities))
    ≡ l.fn.objects.items ++ map (space l.grid l.table l.kind) (map arrangement l.entities)
