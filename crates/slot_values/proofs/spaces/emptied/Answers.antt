use Rattle.std.proofs.Common.{◌∙◌}
use Rattle.slot_values.proofs.CopyExtents.{copy-each, copy-size, extents-none}
use Rattle.slot_values.proofs.spaces.emptied.Goals as goal

pub returns-clause-value : goal.returns-clause-value
returns-clause-value c = c.in_ok-zeros.ensures ∙ extents-none c.args.ns.now c.requires

pub returns-clause-each : goal.returns-clause-each
returns-clause-each c = copy-each c.args.ns.now c.in_ok-zeros.zeros.items (c.in_ok-zeros.ensures ∙ extents-none c.args.ns.now c.requires)

pub returns-clause-size : goal.returns-clause-size
returns-clause-size c = copy-size c.args.ns.now c.in_ok-zeros.zeros.items (c.in_ok-zeros.ensures ∙ extents-none c.args.ns.now c.requires)
