use Rattle.std.proofs.Common.{◌≡◌, ◌+◌, ◌-◌, ◌*◌, ◌/◌, ◌%◌, arith}
use Rattle.std.proofs.Math.Nat.{mul-div_cancel', div-le_self}
use Rattle.std.proofs.lemmas.Nat.{mod_below}
use Rattle.std.proofs.lemmas.Nat.Gcd.{IsGcd-from_mod, IsGcd-from_zero}
use Rattle.congruences.proofs.Euclid.{turn}
use Rattle.congruences.proofs.Solutions.{pos_of_product}
use Rattle.congruences.proofs.inverse.inverse_of.Goals as goal

pub loop-rest-preserved : goal.loop-rest-preserved
loop-rest-preserved c = record {
  last = c.loop-rest.invariant.rest;
  rest = turn c.args.modulus c.args.factor c.loop-rest.number c.loop-rest.next c.loop-rest.last c.loop-rest.rest (omega arith)
      c.loop-rest.invariant.last c.loop-rest.invariant.rest;
  numbers = (
    c.loop-rest.invariant.numbers.1,
    mod_below (c.loop-rest.number + (c.args.modulus - c.loop-rest.next * (c.loop-rest.last / c.loop-rest.rest) % c.args.modulus)) c.args.modulus (omega arith),
  );
  falls = (mod_below c.loop-rest.last c.loop-rest.rest (omega arith), omega arith);
  divisor = λ g h. c.loop-rest.invariant.divisor g (IsGcd-from_mod c.loop-rest.last c.loop-rest.rest g h);
}

pub returns-clause-inverse : goal.returns-clause-inverse
returns-clause-inverse c =
    let e : c.loop-rest.rest ≡ 0 = omega arith in
    let gcd = c.loop-rest.invariant.divisor c.loop-rest.last (IsGcd-from_zero c.loop-rest.last c.loop-rest.rest e) in
    record {
      some = omega arith;
      period = mul-div_cancel' c.loop-rest.last gcd.0;
      factor = (c.args.factor / c.loop-rest.last, mul-div_cancel' c.loop-rest.last gcd.1);
      inverse = c.loop-rest.invariant.last;
    }

pub returns-clause-some : goal.returns-clause-some
returns-clause-some c =
    let e : c.loop-rest.rest ≡ 0 = omega arith in
    let gcd = c.loop-rest.invariant.divisor c.loop-rest.last (IsGcd-from_zero c.loop-rest.last c.loop-rest.rest e) in
    pos_of_product c.loop-rest.last (c.args.modulus / c.loop-rest.last) c.args.modulus (mul-div_cancel' c.loop-rest.last gcd.0) (omega arith)

pub returns-clause-within : goal.returns-clause-within
returns-clause-within c = div-le_self c.args.modulus c.loop-rest.last
