use Rattle.std.proofs.Common.{◌≡◌, ◌<◌, ◌^◌, drop}
use Rattle.std.specs.Prelude.{IfSome, option_map}
use Rattle.interference.specs.Clashes.{clash}
use Rattle.interference.specs.Scans.{in_places}
use Rattle.interference.proofs.clashes.first_in_row.Given as goal

-- what is left leads to the whole
abbrev pub invariant-loop-place : goal.invariant-loop-place
invariant-loop-place l = record {
  left : in_places l.name l.place (drop l.place l.row) (option_map clash l.first) ≡ in_places l.name 0 l.row (option_map clash l.fn.best);
  small : IfSome l.first (λ c. c.place < 2 ^ 62);
}
