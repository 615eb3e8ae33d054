use Rattle.std.proofs.Common.{◌≡◌, ◌++◌, drop, map}
use Rattle.std.specs.List.{flat_map}
use Rattle.syntax_tree.specs.MainProgram.{declaration}
use Rattle.distribution_rules.specs.Setting.{spaces_of}
use Rattle.distribution_rules.proofs.program_objects.push_spaces.Given as goal

abbrev pub invariant-loop-decl : goal.invariant-loop-decl
invariant-loop-decl l =
    l.objects.items ++ flat_map (λ d. spaces_of l.grid l.table d.what) (map declaration (drop l.decl-index l.decls))
    ≡ l.fn.objects.items ++ flat_map (λ d. spaces_of l.grid l.table d.what) (map declaration l.decls)
