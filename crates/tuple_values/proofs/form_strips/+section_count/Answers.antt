use Rattle.std.proofs.Common.{◌≡◌, IfSome, subst}
use Rattle.tuple_values.specs.FormStrips.{section_count}
use Rattle.tuple_values.proofs.Operands.{operation_is}
use Rattle.tuple_values.proofs.form_strips.+section_count.Goals as goal

pub section_count-returns-in-Operation : goal.section_count-returns-in-Operation
section_count-returns-in-Operation t c =
    subst (λ f. IfSome c.all_section_counts.result (λ n. n ≡ section_count f))
    (operation_is c.args.f.now c.in-Operation.field-0 c.in-Operation.fs c.in-Operation.is) c.all_section_counts.ensures
