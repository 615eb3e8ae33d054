use Rattle.std.proofs.Common.{◌≡◌, ◌++◌, bytes_eq, map}
use Rattle.std.specs.List.{IsDistinct}
use Rattle.name_table.specs.Entries.{entry}
use Rattle.name_table.proofs.names.entries_of.Given as goal

abbrev pub invariant-loop-name : goal.invariant-loop-name
invariant-loop-name l = record {
  steps : (goal.iterator-loop-name).can_next l.name-iterator × (goal.iterator-loop-name).is_finite l.name-iterator;
  made : l.names ++ map entry l.name-iterator ≡ map entry l.table;
  distinct : IsDistinct bytes_eq (map (λ e. e.name) l.names ++ map (λ e. e.0) l.name-iterator);
}
