use Rattle.distribution_rules.specs.Setting.{setting}
use Rattle.name_table.specs.Entries.{entries}
use Rattle.directive_check.specs.MappedObjects.{mapped_objects}
use Rattle.directive_check.proofs.MapTurns.{starts_many, starts_named}
use Rattle.directive_check.proofs.promises.starts_of_arrays.Goals as goal

pub returns-clause-many : goal.returns-clause-many
returns-clause-many c = λ grid p. starts_many (setting grid p) (mapped_objects p.declarations) (entries p)

pub returns-clause-names : goal.returns-clause-names
returns-clause-names c = λ grid p. starts_named (setting grid p) (mapped_objects p.declarations) (entries p)
