use Rattle.std.proofs.Common.{◌≡◌, Ok, ap, sym, ◌∙◌, rules, w64, to_z, of_z, FitsSigned, int_div, if◌then◌else◌, Some, None, false}
use Rattle.std.proofs.lemmas.Int.{to_z-of_z}
use Rattle.op_tables.specs.Operators.{is_zero, wrapped}
use Rattle.op_tables.proofs.Wrapping.{wrapping_div_is}
use Rattle.array_meaning.specs.Elementals.{unless_zero}
use Rattle.strip_operators.proofs.kernels.quotient.Goals as goal

pub returns : goal.returns
returns c =
    let a = c.args.a.now in
    let b = c.args.b.now in
    let fits_a : FitsSigned w64 c.args.a.now = search rules in
    let fits_b : FitsSigned w64 c.args.b.now = search rules in
    let fits : FitsSigned w64 c.wrapping_div.result = search rules in
    let value : to_z w64 (of_z w64 c.wrapping_div.result) ≡ wrapped (int_div c.args.a.now c.args.b.now) =
    to_z-of_z w64 c.wrapping_div.result fits ∙ simp (to_z-of_z w64 a fits_a, to_z-of_z w64 b fits_b) at c.wrapping_div.ensures ∙ wrapping_div_is a b fits_a in
    let some : is_zero c.args.b.now ≡ false = search rules in
    ap (λ t. unless_zero (if t then None else Some (wrapped (int_div c.args.a.now c.args.b.now)))) some ∙ ap Ok (sym value)
