use Rattle.std.proofs.Common.{None, Some}
use Rattle.body_check.proofs.BodyBreaches.{first_in_bodies}
use Rattle.body_check.proofs.bodies.check_bodies.Goals as goal

pub returns-in-Some-clause-refused : goal.returns-in-Some-clause-refused
returns-in-Some-clause-refused c =
    first_in_bodies c.args.program.now.names c.deref.result.now c.args.program.now.tree.body.items c.in_ok-refusal.field-0 (Some c.in-Some.refusal)
    c.in_ok-refusal.ensures c.deref.ensures.value c.in-Some.is

pub returns-in-None-clause-fine : goal.returns-in-None-clause-fine
returns-in-None-clause-fine c =
    first_in_bodies c.args.program.now.names c.deref.result.now c.args.program.now.tree.body.items c.in_ok-refusal.field-0 None
    c.in_ok-refusal.ensures c.deref.ensures.value c.in-None.is
