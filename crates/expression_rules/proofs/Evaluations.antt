-- Values that are put together one after the other.
use Rattle.std.proofs.Common.{◌≡◌, ℕ, List, [], ◌∷◌, drop, length, get_or, ◌+◌, ◌<◌, ℤ, refl, sym, ap, ◌∙◌, append_assoc}
use Rattle.syntax_tree.specs.declared.expr.Expr.{Expr}
use Rattle.std.specs.Prelude.{Vec}
use Rattle.std.proofs.Common.{Global}
use Rattle.syntax_tree.specs.Op.{Op}
use Rattle.syntax_tree.specs.declared.expr.Expr as Expr
use Rattle.syntax_tree.specs.Expression.{Call, expression}
use Rattle.expression_rules.specs.Constants.{called_value, named_first}
use Rattle.syntax_tree.proofs.Rows.{call_vec}
use Rattle.expression_rules.specs.declared.evaluated.Evaluated.{Evaluated}
use Rattle.expression_rules.specs.declared.evaluated.Evaluated.TheVariants.{Invalid, Unknown, Known}
use Rattle.expression_rules.specs.Constants.{Site, with_more, value, values, values_after}
use Rattle.expression_rules.specs.Partial.{and_one, and_all}
use Rattle.syntax_tree.specs.Expression.{arguments_of}
use Rattle.expression_rules.specs.Symbols.{SymbolTable}
use Rattle.expression_rules.proofs.Lists.{drop_item}

-- one value more, and the others after it
pub and_one-with_more : (found : Evaluated (List ℤ)) (f : Evaluated ℤ) (rest : Evaluated (List ℤ)) → and_all (and_one found f) rest ≡ and_all found (with_more f rest)
and_one-with_more Invalid f rest = refl
and_one-with_more Unknown Invalid rest = refl
and_one-with_more Unknown Unknown Invalid = refl
and_one-with_more Unknown Unknown Unknown = refl
and_one-with_more Unknown Unknown (Known ns) = refl
and_one-with_more Unknown (Known n) Invalid = refl
and_one-with_more Unknown (Known n) Unknown = refl
and_one-with_more Unknown (Known n) (Known ns) = refl
and_one-with_more (Known ms) Invalid rest = refl
and_one-with_more (Known ms) Unknown Invalid = refl
and_one-with_more (Known ms) Unknown Unknown = refl
and_one-with_more (Known ms) Unknown (Known ns) = refl
and_one-with_more (Known ms) (Known n) Invalid = refl
and_one-with_more (Known ms) (Known n) Unknown = refl
and_one-with_more (Known ms) (Known n) (Known ns) = ap Known (append_assoc ms (n ∷ []) ns)

pub none_and : (f : Evaluated (List ℤ)) → and_all (Known []) f ≡ f
none_and Invalid = refl
none_and Unknown = refl
none_and (Known ns) = refl

-- a turn of the loop over expressions
pub values_next : (p : Site) (t : SymbolTable) (es : List Expr) (n : ℕ) (e : Expr) (found after : Evaluated (List ℤ)) (f : Evaluated ℤ) →
    n < length es → e ≡ get_or es n e → f ≡ value p t (expression e) → after ≡ and_one found f →
    and_all found (values p t (arguments_of (drop n es))) ≡ values p t (arguments_of es) →
    and_all after (values p t (arguments_of (drop (n + 1) es))) ≡ values p t (arguments_of es)
values_next p t es n e found after f within at is more so_far =
    ap (λ a. and_all a (values p t (arguments_of (drop (n + 1) es)))) (more ∙ ap (and_one found) is)
    ∙ and_one-with_more found (value p t (expression e)) (values p t (arguments_of (drop (n + 1) es)))
    ∙ ap (λ l. and_all found (values p t (arguments_of l))) (sym (drop_item es n e within at))
    ∙ so_far

-- a call, as it lies in memory
pub value_call : (p : Site) (t : SymbolTable) (e : Expr) (o : Op) (v : Vec Expr Global) (es : List Expr) → e ≡ Expr.Call o v → es ≡ v.items →
    value p t (expression e) ≡ called_value p o (named_first t (arguments_of es)) (values p t (arguments_of es)) (values_after p t (arguments_of es))
value_call p t e o v es is items =
    ap (λ e. value p t (expression e)) is
    ∙ ap (λ ps. value p t (Call o ps)) (call_vec v ∙ ap arguments_of (sym items))
