use Rattle.std.proofs.Common.{◌≡◌, ◌<◌, ◌^◌, None, drop}
use Rattle.std.specs.Prelude.{IfSome, option_map}
use Rattle.interference.specs.Clashes.{clash}
use Rattle.interference.specs.Scans.{in_rows}
use Rattle.interference.proofs.clashes.first_met.Given as goal

-- what is left leads to the whole
abbrev pub invariant-loop-name : goal.invariant-loop-name
invariant-loop-name l = record {
  left : in_rows l.name (drop l.name l.rows) (option_map clash l.best) ≡ in_rows 0 l.rows None;
  small : IfSome l.best (λ c. c.place < 2 ^ 62);
}
