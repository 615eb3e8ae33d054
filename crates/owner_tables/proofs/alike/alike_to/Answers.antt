use Rattle.owner_tables.specs.Alike.{is_alike}
use Rattle.owner_tables.proofs.Ranges.{filter-range_push}
use Rattle.owner_tables.proofs.alike.alike_to.Goals as goal

pub loop-other-preserved : goal.loop-other-preserved
loop-other-preserved c =
    filter-range_push (is_alike c.args.mapping.now c.args.node) c.loop-other.alike.items c.push_alike.new.alike.items c.loop-other.other
    c.in_ok-push_alike.ensures c.loop-other.invariant
