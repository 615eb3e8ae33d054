use Rattle.std.proofs.Common.{◌≡◌, ◌∙◌, ◌-ℤ◌, ◌*ℤ◌, ◌<◌, ◌≤◌, ap, pos, unsigned_abs, int_div, of_z, to_z, subst, sym, rules, arith}
use Rattle.std.proofs.Math.Facts.{to_z-of_z}
use Rattle.std.specs.Int.{w128}
use Rattle.congruences.specs.Bezout.{IsBezout}
use Rattle.congruences.specs.Congruences.{residue_of}
use Rattle.congruences.proofs.Coefficients.{bezout_in_code, first_in_code, second_in_code}
use Rattle.congruences.proofs.bezout.gcd_ext.Goals as goal

pub returns-then-b-eq0-clause-value : goal.returns-then-b-eq0-clause-value
returns-then-b-eq0-clause-value c =
    let none : c.args.b ≡ pos 0 = search rules in
    subst (λ z. IsBezout c.args.a z c.alone.result) (sym none) (subst (λ z. IsBezout z (pos 0) c.alone.result) (to_z-of_z c.ranges.a) c.alone.ensures.value)

pub returns-clause-value : goal.returns-clause-value
returns-clause-value c =
    let inverse = c.inverse_of-divisor.result in
    let modulus = c.unsigned_abs-modulus.result in
    let same : modulus ≡ unsigned_abs c.args.b = c.unsigned_abs-modulus.ensures.value ∙ ap unsigned_abs (to_z-of_z c.ranges.b) in
    let some : 0 < modulus = search rules in
    let small : modulus ≤ 4611686018427387904 = omega (arith, same, c.requires.small_second) in
    let y : to_z w128 (of_z w128 c.quotient.result) ≡ int_div (to_z w128 inverse.divisor -ℤ (c.args.a *ℤ to_z w128 inverse.number)) c.args.b = search rules in
    let factor : c.residue_of.result ≡ residue_of c.args.a modulus = c.residue_of.ensures.value ∙ ap (λ z. residue_of z modulus) (to_z-of_z c.ranges.a) in
    bezout_in_code c.args.a c.args.b (to_z w128 (of_z w128 c.quotient.result)) modulus c.residue_of.result inverse.divisor inverse.period inverse.number
    same some small factor c.inverse_of-divisor.ensures.inverse c.inverse_of-divisor.ensures.divisor c.inverse_of-divisor.ensures.below y

pub returns-clause-first : goal.returns-clause-first
returns-clause-first c =
    let inverse = c.inverse_of-divisor.result in
    let modulus = c.unsigned_abs-modulus.result in
    let same : modulus ≡ unsigned_abs c.args.b = c.unsigned_abs-modulus.ensures.value ∙ ap unsigned_abs (to_z-of_z c.ranges.b) in
    let some : 0 < modulus = search rules in
    let small : modulus ≤ 4611686018427387904 = omega (arith, same, c.requires.small_second) in
    first_in_code c.args.a c.args.b (to_z w128 (of_z w128 c.quotient.result)) modulus c.residue_of.result inverse.divisor inverse.period inverse.number
    same some small c.inverse_of-divisor.ensures.below

pub returns-clause-second : goal.returns-clause-second
returns-clause-second c =
    let inverse = c.inverse_of-divisor.result in
    let modulus = c.unsigned_abs-modulus.result in
    let same : modulus ≡ unsigned_abs c.args.b = c.unsigned_abs-modulus.ensures.value ∙ ap unsigned_abs (to_z-of_z c.ranges.b) in
    let some : 0 < modulus = search rules in
    let small : modulus ≤ 4611686018427387904 = omega (arith, same, c.requires.small_second) in
    let y : to_z w128 (of_z w128 c.quotient.result) ≡ int_div (to_z w128 inverse.divisor -ℤ (c.args.a *ℤ to_z w128 inverse.number)) c.args.b = search rules in
    let factor : c.residue_of.result ≡ residue_of c.args.a modulus = c.residue_of.ensures.value ∙ ap (λ z. residue_of z modulus) (to_z-of_z c.ranges.a) in
    second_in_code c.args.a c.args.b (to_z w128 (of_z w128 c.quotient.result)) modulus c.residue_of.result inverse.divisor inverse.period inverse.number
    same some small c.inverse_of-divisor.ensures.below c.requires.small_first factor c.inverse_of-divisor.ensures.inverse
    c.inverse_of-divisor.ensures.divisor y
