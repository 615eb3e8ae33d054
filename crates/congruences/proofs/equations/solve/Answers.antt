use Rattle.std.proofs.Common.{◌≡◌, ◌∙◌, ℕ, ◌<◌, ◌≤◌, ◌*◌, ◌/◌, ◌%◌, pos, unsigned_abs, to_z, sym, ap, subst, arith}
use Rattle.std.proofs.Math.Facts.{to_z-of_z, to_z_pos}
use Rattle.std.proofs.lemmas.Nat.{mod_below}
use Rattle.std.specs.Int.{w128}
use Rattle.std.specs.Prelude.{Some}
use Rattle.congruences.specs.Congruences.{IsSolved, residue_of}
use Rattle.congruences.proofs.Divisors.{side_divided, side_not_divided}
use Rattle.congruences.proofs.Remainders.{at_most, found_in_code, missed_in_code, some_modulus}
use Rattle.congruences.proofs.equations.solve.Goals as goal

pub returns-then-side-divisor-ne0-clause-value : goal.returns-then-side-divisor-ne0-clause-value
returns-then-side-divisor-ne0-clause-value c =
    let inverse = c.inverse_of-divisor in
    let modulus = c.unsigned_abs-modulus.result in
    let same : modulus ≡ unsigned_abs c.args.m = c.unsigned_abs-modulus.ensures.value ∙ ap unsigned_abs (to_z-of_z c.ranges.m) in
    let factor : c.residue_of.result ≡ residue_of c.args.a modulus = c.residue_of.ensures.value ∙ ap (λ z. residue_of z modulus) (to_z-of_z c.ranges.a) in
    let side : c.residue_of-side.result ≡ residue_of c.args.b modulus = c.residue_of-side.ensures.value ∙ ap (λ z. residue_of z modulus) (to_z-of_z c.ranges.b) in
    missed_in_code c.args.a c.args.b (unsigned_abs c.args.m) modulus c.residue_of.result c.residue_of-side.result inverse.result.divisor inverse.result.period
    inverse.result.number same (some_modulus c.args.m c.requires.modulus) factor side inverse.ensures.some inverse.ensures.inverse
    c.if-side-divisor-ne0.true

pub returns-then-side-divisor-ne0-clause-none : goal.returns-then-side-divisor-ne0-clause-none
returns-then-side-divisor-ne0-clause-none c =
    let inverse = c.inverse_of-divisor in
    let modulus = c.unsigned_abs-modulus.result in
    let same : modulus ≡ unsigned_abs c.args.m = c.unsigned_abs-modulus.ensures.value ∙ ap unsigned_abs (to_z-of_z c.ranges.m) in
    let factor : c.residue_of.result ≡ residue_of c.args.a modulus = c.residue_of.ensures.value ∙ ap (λ z. residue_of z modulus) (to_z-of_z c.ranges.a) in
    let side : c.residue_of-side.result ≡ residue_of c.args.b modulus = c.residue_of-side.ensures.value ∙ ap (λ z. residue_of z modulus) (to_z-of_z c.ranges.b) in
    let some : 0 < modulus = subst (λ n. 0 < n) (sym same) (some_modulus c.args.m c.requires.modulus) in
    side_not_divided c.args.a c.args.b c.args.m modulus c.residue_of.result c.residue_of-side.result inverse.result.divisor inverse.result.period
    inverse.result.number same some factor side inverse.ensures.inverse
    c.if-side-divisor-ne0.true

pub returns-clause-some : goal.returns-clause-some
returns-clause-some c =
    let inverse = c.inverse_of-divisor in
    let modulus = c.unsigned_abs-modulus.result in
    let same : modulus ≡ unsigned_abs c.args.m = c.unsigned_abs-modulus.ensures.value ∙ ap unsigned_abs (to_z-of_z c.ranges.m) in
    let factor : c.residue_of.result ≡ residue_of c.args.a modulus = c.residue_of.ensures.value ∙ ap (λ z. residue_of z modulus) (to_z-of_z c.ranges.a) in
    let side : c.residue_of-side.result ≡ residue_of c.args.b modulus = c.residue_of-side.ensures.value ∙ ap (λ z. residue_of z modulus) (to_z-of_z c.ranges.b) in
    let some : 0 < modulus = subst (λ n. 0 < n) (sym same) (some_modulus c.args.m c.requires.modulus) in
    let none : c.residue_of-side.result % inverse.result.divisor ≡ 0 = omega (arith, c.if-side-divisor-ne0.false) in
    side_divided c.args.a c.args.b c.args.m modulus c.residue_of.result c.residue_of-side.result inverse.result.divisor inverse.result.period
    inverse.result.number same some factor side inverse.ensures.inverse none

pub returns-clause-value : goal.returns-clause-value
returns-clause-value c =
    let inverse = c.inverse_of-divisor in
    let modulus = c.unsigned_abs-modulus.result in
    let same : modulus ≡ unsigned_abs c.args.m = c.unsigned_abs-modulus.ensures.value ∙ ap unsigned_abs (to_z-of_z c.ranges.m) in
    let factor : c.residue_of.result ≡ residue_of c.args.a modulus = c.residue_of.ensures.value ∙ ap (λ z. residue_of z modulus) (to_z-of_z c.ranges.a) in
    let side : c.residue_of-side.result ≡ residue_of c.args.b modulus = c.residue_of-side.ensures.value ∙ ap (λ z. residue_of z modulus) (to_z-of_z c.ranges.b) in
    let none : c.residue_of-side.result % inverse.result.divisor ≡ 0 = omega (arith, c.if-side-divisor-ne0.false) in
    let t = inverse.result.period in
    let turns : ℕ = c.residue_of-side.result / inverse.result.divisor % t * inverse.result.number in
    let low : turns % t < t = mod_below turns t inverse.ensures.some in
    let small : unsigned_abs c.args.m ≤ 4611686018427387904 = at_most c.args.m c.requires.modulus c.requires.small_modulus in
    let there : to_z w128 (turns % t) ≡ pos (turns % t) = to_z_pos w128 (omega (arith, low, inverse.ensures.within, same, small)) in
    subst (λ z. IsSolved c.args.a c.args.b (unsigned_abs c.args.m) (Some z)) (sym there)
    (found_in_code c.args.a c.args.b (unsigned_abs c.args.m) modulus c.residue_of.result c.residue_of-side.result inverse.result.divisor inverse.result.period
    inverse.result.number same (some_modulus c.args.m c.requires.modulus) factor side inverse.ensures.some inverse.ensures.inverse none)
