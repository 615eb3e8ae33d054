-- The first subscript of the source of a circular shift.
use Rattle.std.proofs.Common.{◌≡◌, ℕ, true, ◌&&◌, if◌then◌else◌, List, ◌∷◌, ℤ, pos, ◌+ℤ◌, ◌-ℤ◌, Some, None, refl}
use Rattle.std.proofs.lemmas.Bool.Decides.{Decides-eqb, Decides-int_eq}
use Rattle.std.specs.Ordering.{int_eq}
use Rattle.op_tables.specs.Operators.{wrapped}
use Rattle.expression_rules.specs.declared.dims.Dim.{Dim}
use Rattle.expression_rules.specs.Dims.{extent}
use Rattle.array_meaning.specs.Terms.{Scalar}
use Rattle.statement_trail.specs.TransformedElements.{shifted_subscripts}
use Rattle.code_meaning.specs.Flat.{slot}
use Rattle.program_code.specs.ExpressionCode.{index_subs}
use Rattle.courses.specs.StraightForms.{Straight, Sloped}
use Rattle.courses.specs.TurnedForms.{is_same_form, turned_by}
use Rattle.turned_courses.specs.FirstTurned.{first_turned}

itself : (v : ℤ) → int_eq v v ≡ true
itself v = (Decides-int_eq v v).1 refl

by-itself : (lower n : ℤ) (x : Straight) → is_same_form x x ≡ true
    → turned_by lower n n (Some x) (Some x) ≡ Some (record { lower = lower; count = n; above = x })
by-itself lower n x same = λ i. if same i && itself n i then Some (record { lower = lower; count = n; above = x }) else None

sloped-itself : (k : ℕ) (f o : ℤ) → is_same_form (Sloped k f o) (Sloped k f o) ≡ true
sloped-itself k f o =
    let index = (Decides-eqb k k).1 refl in
    λ i. index i && (itself f i && itself o i)

pub shift : (slots : List ℤ) (s : ℕ) (d e : Dim) (ds es : List Dim)
    → first_turned slots (index_subs (shifted_subscripts (Scalar s) (d ∷ ds) (e ∷ es))) ≡ Some (record {
      lower = e.lower;
      count = pos (extent d);
      above = Sloped 0 (pos 1) (wrapped (wrapped (pos 0 -ℤ d.lower) +ℤ slot slots s));
    })
shift slots s d e ds es =
    let o = wrapped (wrapped (pos 0 -ℤ d.lower) +ℤ slot slots s) in
    by-itself e.lower (pos (extent d)) (Sloped 0 (pos 1) o) (sloped-itself 0 (pos 1) o)
