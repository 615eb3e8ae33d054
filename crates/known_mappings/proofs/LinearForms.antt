-- A subscript of an align target that breaks no rule has a linear form.
use Rattle.std.proofs.Common.{◌≡◌, Bool, true, false, true≢false, List, [], ◌∷◌, Option, Some, None, refl}
use Rattle.std.specs.Prelude.{ℤ, ◌&&◌, ◌||◌, not, option_map, if◌then◌else◌}
use Rattle.syntax_tree.specs.Expression.{Expression, Number, Truth, Name as Alone, Element, Call, Unary, Binary, Closed}
use Rattle.expression_rules.specs.Symbols.{Name, SymbolTable, find, is_among}
use Rattle.expression_rules.specs.Types.{type_and_rank}
use Rattle.expression_rules.specs.declared.evaluated.Evaluated.{Evaluated}
use Rattle.expression_rules.specs.declared.evaluated.Evaluated.TheVariants.{Invalid, Unknown, Known}
use Rattle.expression_rules.specs.declared.symbols.Symbol.{Symbol}
use Rattle.expression_rules.specs.declared.types.Context.TheVariants.{Directive}
use Rattle.declarations.specs.Declarations.{if_known}
use Rattle.declarations.specs.DeclarationRules.{is_invalid}
use Rattle.name_table.specs.KnownSymbols.{is_known}
use Rattle.distribution_rules.specs.Setting.{Setting, value_in}
use Rattle.linear_subscripts.specs.declared.form.LinearForm.{LinearForm}
use Rattle.linear_subscripts.specs.LinearForms.{combined_form, constant_form, has_invalid_part, is_free, is_linear, is_product, is_sign, is_sum, linear_form, signed_form, with_both}
use Rattle.name_table.proofs.Tests.{HasValue, both, neither, no_value}
use Rattle.name_table.proofs.TypedOperands.{elemental_values}
use Rattle.known_mappings.proofs.DirectiveValues.{has_value}
use Rattle.known_mappings.proofs.Objects.{IsTyped}

form_known : (v : Evaluated ℤ) → HasValue (if_known v) → HasValue (constant_form v)
form_known Invalid h = absurd (no_value h)
form_known Unknown h = absurd (no_value h)
form_known (Known n) h = refl

both_known : (f : LinearForm → LinearForm → LinearForm) (a b : Option LinearForm) → HasValue a → HasValue b → HasValue (with_both f a b)
both_known f None b h g = absurd (no_value h)
both_known f (Some l) None h g = absurd (no_value g)
both_known f (Some l) (Some m) h g = refl

mapped_known : (f : LinearForm → LinearForm) (a : Option LinearForm) → HasValue a → HasValue (option_map f a)
mapped_known f None h = absurd (no_value h)
mapped_known f (Some l) h = refl

either : (b : Bool) (x y : Option LinearForm) → (b ≡ true → HasValue x) → (b ≡ false → HasValue y) → HasValue (if b then x else y)
either true x y f g = f refl
either false x y f g = g refl

if_of : {A : Type 0} (b : Bool) (x y z : A) → (if b then x else y) ≡ z → b ≡ true → x ≡ z
if_of true x y z h is = h
if_of false x y z h is = absurd (no_value is)

else_of : {A : Type 0} (b : Bool) (x y z : A) → (if b then x else y) ≡ z → b ≡ false → y ≡ z
else_of true x y z h is = absurd (true≢false is)
else_of false x y z h is = h

rest_of : (a b : Bool) → (a || b) ≡ true → a ≡ false → b ≡ true
rest_of true b h is = absurd (true≢false is)
rest_of false b h is = h

after : (a b : Bool) → (a && b) ≡ false → a ≡ true → b ≡ false
after true b h is = h
after false b h is = absurd (no_value is)

not_among : (b : Bool) → b ≡ false → not (b || false) ≡ true
not_among true h = absurd (true≢false h)
not_among false h = refl

module _ (s : Setting) (known : (x : Name) (a : Symbol) → find x s.names ≡ Some a → is_known a ≡ true) (u : SymbolTable) (ds : List Name) where
  -- a part without dummies
  constant_known : (e : Expression) → IsTyped u e → is_invalid (value_in s e) ≡ false → HasValue (constant_form (value_in s e))
  constant_known e typed valid = form_known (value_in s e) (has_value s.grid s.names u known e valid typed)

  plain_known : (e : Expression) → IsTyped u e → is_free ds e ≡ true → (is_free ds e && is_invalid (value_in s e)) ≡ false → HasValue (constant_form (value_in s e))
  plain_known e typed free valid = constant_known e typed (after (is_free ds e) (is_invalid (value_in s e)) valid free)

  pub linear_known : (e : Expression) → IsTyped u e → is_linear ds e ≡ true → has_invalid_part s ds e ≡ false → HasValue (linear_form s ds e)
  linear_known (Alone x) typed linear valid =
      either (is_among x ds) (Some _) (constant_form (value_in s (Alone x))) (λ i. refl)
      (λ i. plain_known (Alone x) typed (not_among (is_among x ds) i) valid)
  linear_known (Closed a) typed linear valid = linear_known a typed linear valid
  linear_known (Unary o a) typed linear valid =
      let own = elemental_values o (type_and_rank Directive u a ∷ []) typed in
      either (is_free ds a) (constant_form (value_in s (Unary o a))) (option_map (signed_form o) (linear_form s ds a))
      (λ i. constant_known (Unary o a) typed (if_of (is_free ds a) _ _ false valid i))
      (λ i. mapped_known (signed_form o) (linear_form s ds a)
      (linear_known a own.0 (both (is_sign o) (is_linear ds a) (rest_of (is_free ds a) _ linear i)).1 (else_of (is_free ds a) _ _ false valid i)))
  linear_known (Binary o a b) typed linear valid =
      let own = elemental_values o (type_and_rank Directive u a ∷ type_and_rank Directive u b ∷ []) typed in
      let free = is_free ds a && is_free ds b in
      either free (constant_form (value_in s (Binary o a b))) (with_both (combined_form o) (linear_form s ds a) (linear_form s ds b))
      (λ i. constant_known (Binary o a b) typed (if_of free _ _ false valid i))
      (λ i. let two = both ((is_sum o || (is_product o && (is_free ds a || is_free ds b))) && is_linear ds a) (is_linear ds b) (rest_of free _ linear i) in
      let none = neither (has_invalid_part s ds a) (has_invalid_part s ds b) (else_of free _ _ false valid i) in
      both_known (combined_form o) (linear_form s ds a) (linear_form s ds b)
      (linear_known a own.0 (both (is_sum o || (is_product o && (is_free ds a || is_free ds b))) (is_linear ds a) two.0).1 none.0) (linear_known b own.1.0 two.1 none.1))
  linear_known (Number n) typed linear valid = plain_known (Number n) typed linear valid
  linear_known (Truth b) typed linear valid = plain_known (Truth b) typed linear valid
  linear_known (Element x ps) typed linear valid = plain_known (Element x ps) typed linear valid
  linear_known (Call o ps) typed linear valid = plain_known (Call o ps) typed linear valid
