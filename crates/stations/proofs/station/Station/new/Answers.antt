use Rattle.std.proofs.Common.{sym, subst}
use Rattle.std.specs.Prelude.{None}
use Rattle.stations.specs.Stations.{Stands}
use Rattle.stations.proofs.Keeps.{begins}
use Rattle.stations.proofs.station.Station.new.Goals as goal

pub invariant_of-result : goal.invariant_of-result
invariant_of-result g c =
    subst (λ o. Stands g.N.PhasedNode.steps c.args.id o c.args.node c.args.outs.items c.args.ins.items None) (sym c.of.ensures)
    (begins g.N.PhasedNode.steps c.requires.lettered c.requires.as_many c.requires.outs c.requires.ins)
