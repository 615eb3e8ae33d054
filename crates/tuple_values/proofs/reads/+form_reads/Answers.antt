use Rattle.std.proofs.Common.{◌≡◌, ◌++◌, subst}
use Rattle.std.specs.Prelude.{OnOk}
use Rattle.tuple_values.specs.Here.{reads_here}
use Rattle.tuple_values.specs.Spots.{reads_of}
use Rattle.tuple_values.proofs.Operands.{operation_is}
use Rattle.tuple_values.proofs.reads.+form_reads.Goals as goal

pub form_reads-returns-in-Operation : goal.form_reads-returns-in-Operation
form_reads-returns-in-Operation t c =
    subst (λ f. OnOk c.all_form_reads.result (reads_of c.all_form_reads.new.reads.items ≡ reads_of c.args.reads.now.items ++ reads_here c.args.here.now f))
    (operation_is c.args.f.now c.in-Operation.field-0 c.in-Operation.fs c.in-Operation.is) c.all_form_reads.ensures
