use Rattle.std.proofs.Common.{◌<◌, sym, ◌∙◌, ap, subst}
use Rattle.hpf_base.specs.Grid.{node_coordinates}
use Rattle.local_address.specs.Runs.{own_on, procs_on}
use Rattle.local_address.proofs.SpanLaws.{own-below}
use Rattle.local_address.proofs.axes.own_on.Goals as goal

pub returns-in-Some-clause-below : goal.returns-in-Some-clause-below
returns-in-Some-clause-below c =
    subst (λ n. n < procs_on c.args.axis.now)
    (sym (c.node_coordinate.ensures ∙ ap (own_on (node_coordinates c.args.grid.now c.args.node.0)) (sym c.in-Some.is)))
    (own-below c.args.grid.now c.args.node.0 c.args.axis.now c.requires.axis c.requires.node)
