use Rattle.std.proofs.Common.{◌≡◌, drop}
use Rattle.construct_rules.specs.Found.{declared_length, declared_after}
use Rattle.construct_rules.proofs.breaches.declared_length.Given as goal

abbrev pub invariant-loop-i : goal.invariant-loop-i
invariant-loop-i l = declared_length l.roles ≡ declared_after l.i l.declared (declared_length (drop l.i l.roles))
