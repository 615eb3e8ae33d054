-- Expressions that must be constant, in lists that are put together.
use Rattle.std.proofs.Common.{◌≡◌, Bool, true, false, List, [], ◌∷◌, ◌++◌, Option, None, refl, sym, ap, ◌∙◌}
use Rattle.std.specs.Prelude.{◌&&◌, ◌||◌, not}
use Rattle.std.specs.List.{list_all, list_any}
use Rattle.hpf_base.specs.declared.refusal.Reason.{Reason}
use Rattle.hpf_base.specs.declared.refusal.Reason.TheVariants as reason
use Rattle.syntax_tree.specs.Expression.{Expression}
use Rattle.expression_rules.specs.Symbols.{SymbolTable}
use Rattle.expression_rules.specs.Constants.{value}
use Rattle.expression_rules.specs.Operands.{are_operands}
use Rattle.expression_rules.proofs.Folds.{all_append}
use Rattle.declarations.specs.Declaring.{constant_reason, lesser, reason_if}
use Rattle.declarations.specs.DeclarationRules.{is_invalid}

or_assoc : (a b c : Bool) → (a || b || c) ≡ (a || (b || c))
or_assoc true b c = refl
or_assoc false b c = refl

pub any_append : {X : Type 0} (test : X → Bool) (xs ys : List X) → list_any test (xs ++ ys) ≡ (list_any test xs || list_any test ys)
any_append test [] ys = refl
any_append test (x ∷ xs) ys = ap (λ b. test x || b) (any_append test xs ys) ∙ sym (or_assoc (test x) (list_any test xs) (list_any test ys))

abbrev by_tests : Bool → Bool → Option Reason
by_tests named invalid = lesser (reason_if (not named) reason.BadName) (reason_if invalid reason.BadConstant)

by_tests_both : (a b c d : Bool) → by_tests (a && b) (c || d) ≡ lesser (by_tests a c) (by_tests b d)
by_tests_both true true true true = refl
by_tests_both true true true false = refl
by_tests_both true true false d = refl
by_tests_both true false true true = refl
by_tests_both true false true false = refl
by_tests_both true false false d = refl
by_tests_both false true true true = refl
by_tests_both false true true false = refl
by_tests_both false true false true = refl
by_tests_both false true false false = refl
by_tests_both false false true true = refl
by_tests_both false false true false = refl
by_tests_both false false false true = refl
by_tests_both false false false false = refl

-- of two lists together
pub constant_append : (t : SymbolTable) (es fs : List Expression) → constant_reason t (es ++ fs) ≡ lesser (constant_reason t es) (constant_reason t fs)
constant_append t es fs =
    (λ i. by_tests (all_append (are_operands t) es fs i) (any_append (λ e. is_invalid (value None t e)) es fs i))
    ∙ by_tests_both (list_all (are_operands t) es) (list_all (are_operands t) fs) (list_any (λ e. is_invalid (value None t e)) es) (list_any (λ e. is_invalid (value None t e)) fs)

and_true : (a : Bool) → (a && true) ≡ a
and_true true = refl
and_true false = refl

or_false : (a : Bool) → (a || false) ≡ a
or_false true = refl
or_false false = refl

-- of one expression
pub constant_one : (t : SymbolTable) (e : Expression) → constant_reason t (e ∷ []) ≡ by_tests (are_operands t e) (is_invalid (value None t e))
constant_one t e = λ i. by_tests (and_true (are_operands t e) i) (or_false (is_invalid (value None t e)) i)
