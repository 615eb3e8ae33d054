use Rattle.std.proofs.Common.{◌≤◌, ◌<◌, ℕ, ◌*◌}
use Rattle.std.specs.Int.{IsGcd}
use Rattle.congruences.specs.Naturals.{AreCongruentNaturals}
use Rattle.congruences.proofs.inverse.inverse_of.Given as goal

abbrev pub invariant-loop-rest : goal.invariant-loop-rest
invariant-loop-rest l = record {
  last : AreCongruentNaturals l.modulus (l.factor * l.number) l.last;
  rest : AreCongruentNaturals l.modulus (l.factor * l.next) l.rest;
  numbers : (l.number < l.modulus) × (l.next < l.modulus);
  falls : (l.rest < l.last) × (l.last ≤ l.modulus);
  divisor : (g : ℕ) → IsGcd l.last l.rest g → IsGcd l.modulus l.factor g;
}

abbrev pub decreases-loop-rest : goal.decreases-loop-rest
decreases-loop-rest l = l.rest
