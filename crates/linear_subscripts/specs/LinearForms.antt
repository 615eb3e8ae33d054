-- Of the claim.
-- Subscripts of an align target that are linear in one align dummy (HPF 2.0, 3.4).
use Rattle.std.specs.Prelude.{Bool, true, false, ◌&&◌, ◌||◌, not, bytes_eq, neg_ℤ, filter, List, [], ◌∷◌, ℤ, pos, ◌+ℤ◌, ◌-ℤ◌, ◌*ℤ◌, Option, Some, None, option_map, if◌then◌else◌}
use Rattle.std.specs.List.{list_any, list_all}
use Rattle.op_tables.specs.Operators.{wrapped}
use Rattle.op_tables.specs.declared.op.Op.{Op}
use Rattle.op_tables.specs.declared.op.Op.TheVariants as op
use Rattle.syntax_tree.specs.Expression.{Expression, Name as Alone, Unary, Binary, Closed}
use Rattle.expression_rules.specs.Operands.{names_in}
use Rattle.expression_rules.specs.Symbols.{Name, is_among}
use Rattle.expression_rules.specs.declared.evaluated.Evaluated.{Evaluated}
use Rattle.expression_rules.specs.declared.evaluated.Evaluated.TheVariants.{Known}
use Rattle.declarations.specs.DeclarationRules.{is_invalid}
use Rattle.distribution_rules.specs.Setting.{Setting, value_in}
use Rattle.linear_subscripts.specs.declared.form.LinearForm.{LinearForm}

-- the dummies that an expression names, in order
abbrev pub dummies_in : List Name → Expression → List Name
dummies_in ds e = filter (λ x. is_among x ds) (names_in e)

-- two lists have a name in common
abbrev pub have_common : List Name → List Name → Bool
have_common xs ys = list_any (λ x. is_among x ys) xs

-- it names no dummy
abbrev pub is_free : List Name → Expression → Bool
is_free ds e = not (have_common (names_in e) ds)

abbrev pub are_same : List Name → Bool
are_same [] = true
are_same (x ∷ xs) = list_all (bytes_eq x) xs

abbrev pub is_sign : Op → Bool
is_sign op.Neg = true
is_sign op.Plus = true
is_sign o = false

abbrev pub is_sum : Op → Bool
is_sum op.Add = true
is_sum op.Sub = true
is_sum o = false

abbrev pub is_product : Op → Bool
is_product op.Mul = true
is_product o = false

-- built from dummies and from parts without any by signs, sums, parentheses, and products with a side without dummies
abbrev pub is_linear : List Name → Expression → Bool
is_linear ds (Alone x) = true
is_linear ds (Closed a) = is_linear ds a
is_linear ds (Unary o a) = is_free ds a || (is_sign o && is_linear ds a)
is_linear ds (Binary o a b) =
    (is_free ds a && is_free ds b)
    || ((is_sum o || (is_product o && (is_free ds a || is_free ds b))) && is_linear ds a && is_linear ds b)
is_linear ds e = is_free ds e

-- a part without dummies isn't constant or divides by zero
abbrev pub has_invalid_part : Setting → List Name → Expression → Bool
has_invalid_part s ds (Closed a) = has_invalid_part s ds a
has_invalid_part s ds (Unary o a) = if is_free ds a then is_invalid (value_in s (Unary o a)) else has_invalid_part s ds a
has_invalid_part s ds (Binary o a b) =
    if is_free ds a && is_free ds b then is_invalid (value_in s (Binary o a b)) else has_invalid_part s ds a || has_invalid_part s ds b
has_invalid_part s ds e = is_free ds e && is_invalid (value_in s e)

abbrev pub form : ℤ → ℤ → LinearForm
form a b = record { a = a; b = b }

-- a part without dummies
abbrev pub constant_form : Evaluated ℤ → Option LinearForm
constant_form (Known n) = Some (form (pos 0) n)
constant_form v = None

abbrev pub signed_form : Op → LinearForm → LinearForm
signed_form op.Neg l = form (wrapped (neg_ℤ l.a)) (wrapped (neg_ℤ l.b))
signed_form o l = l

-- a sum, a difference or a product, in arithmetic that wraps, as that of expressions does
abbrev pub combined_form : Op → LinearForm → LinearForm → LinearForm
combined_form op.Add l m = form (wrapped (l.a +ℤ m.a)) (wrapped (l.b +ℤ m.b))
combined_form op.Sub l m = form (wrapped (l.a -ℤ m.a)) (wrapped (l.b -ℤ m.b))
combined_form o l m = form (wrapped ((l.a *ℤ m.b) +ℤ (l.b *ℤ m.a))) (wrapped (l.b *ℤ m.b))

abbrev pub with_both : {A B C : Type 0} → (A → B → C) → Option A → Option B → Option C
with_both f (Some a) (Some b) = Some (f a b)
with_both f a b = None

-- a and b of `a * I + b`, where they are known
abbrev pub linear_form : Setting → List Name → Expression → Option LinearForm
linear_form s ds (Alone x) = if is_among x ds then Some (form (pos 1) (pos 0)) else constant_form (value_in s (Alone x))
linear_form s ds (Closed a) = linear_form s ds a
linear_form s ds (Unary o a) = if is_free ds a then constant_form (value_in s (Unary o a)) else option_map (signed_form o) (linear_form s ds a)
linear_form s ds (Binary o a b) =
    if is_free ds a && is_free ds b then constant_form (value_in s (Binary o a b))
    else with_both (combined_form o) (linear_form s ds a) (linear_form s ds b)
linear_form s ds e = constant_form (value_in s e)
