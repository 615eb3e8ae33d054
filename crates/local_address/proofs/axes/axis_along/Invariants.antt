use Rattle.std.proofs.Common.{◌≡◌, drop}
use Rattle.local_address.specs.Runs.{axis_along}
use Rattle.local_address.proofs.axes.axis_along.Given as goal

-- what is left of the entries decides
abbrev pub invariant-loop-entry : goal.invariant-loop-entry
invariant-loop-entry l = axis_along l.dim l.map.dims ≡ axis_along l.dim (drop l.entry-index l.map.dims)
