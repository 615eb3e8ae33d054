-- Names with and without subscripts, as a tree has them.
use Rattle.std.proofs.Common.{◌≡◌, List, refl}
use Rattle.std.specs.Prelude.{◌&&◌}
use Rattle.syntax_tree.specs.declared.expr.Expr.TheBlock.{Held-Ref-subs, Ref-subs-None', Ref-subs-Some'}
use Rattle.syntax_tree.specs.Expression.{reference}
use Rattle.expression_rules.specs.Symbols.{Name}
use Rattle.declarations.specs.DeclarationRules.{is_invalid}
use Rattle.distribution_rules.specs.Setting.{Setting, value_in}
use Rattle.linear_subscripts.specs.LinearForms.{has_invalid_part, is_free}

pub invalid_reference : (s : Setting) (ds : List Name) (x : Name) (h : Held-Ref-subs) →
    has_invalid_part s ds (reference x h) ≡ (is_free ds (reference x h) && is_invalid (value_in s (reference x h)))
invalid_reference s ds x Ref-subs-None' = refl
invalid_reference s ds x (Ref-subs-Some' shape row) = refl
