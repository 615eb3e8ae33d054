use Rattle.std.proofs.Common.{◌≡◌}
use Rattle.storage.specs.Storage.{read}
use Rattle.machine_steps.specs.Machine.{element_values}
use Rattle.machine_steps.specs.Message.{first_read}
use Rattle.tuple_values.specs.Statements.{tuple_reads}
use Rattle.tuple_values.specs.Views.{statement as statement_of}
use Rattle.whole_machine.proofs.sections.section_values.Given as goal

-- those of the first tuples
abbrev pub invariant-loop-tuple : goal.invariant-loop-tuple
invariant-loop-tuple l = l.values.items ≡ element_values (read l.rows) (λ t. first_read (tuple_reads (statement_of l.statement) t)) l.tuple
