use Rattle.std.proofs.Common.{subst}
use Rattle.std.proofs.lemmas.Result.{on_ok_weaker}
use Rattle.code_meaning.specs.Parallel.{evaluation_size}
use Rattle.node_code.specs.Texts.{evaluation}
use Rattle.slot_values.specs.Controls.{control_of}
use Rattle.slot_values.specs.Tested.{IsTest}
use Rattle.slot_values.proofs.Tested.{tested_as}
use Rattle.slot_values.proofs.space_tests.own_limits.Goals as goal

pub returns-clause-done : goal.returns-clause-done
returns-clause-done c =
    on_ok_weaker c.go_on_if.result
    (tested_as c.args.p.now.line (control_of c.args.c.now) (control_of c.go_on_if.new.c) (evaluation_size (evaluation c.args.p.now) c.args.c.now.slots.items) c.has_evaluation_size-test.result
    (subst (λ slots. IsTest (evaluation_size (evaluation c.args.p.now) slots) c.has_evaluation_size-test.result) c.deref.ensures.value c.has_evaluation_size-test.ensures))
    c.go_on_if.ensures.done
