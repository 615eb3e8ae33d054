-- An expression and all that is inside it, as it lies in memory.
use Rattle.std.proofs.Common.{◌≡◌, ℕ, Bool, true, List, ◌∷◌, Option, Some, Global, refl, sym, ap, ◌∙◌}
use Rattle.std.specs.Prelude.{Vec, ◌&&◌}
use Rattle.std.specs.List.{list_all}
use Rattle.op_tables.specs.declared.op.Op.{Op}
use Rattle.syntax_tree.specs.declared.expr.Expr as Expr
use Rattle.syntax_tree.specs.declared.expr.Subscript.{Subscript}
use Rattle.syntax_tree.specs.declared.expr.Expr.TheBlock.{back-Ref-subs}
use Rattle.syntax_tree.specs.Expression.{Expression, Call, Element, arguments_of, expression, parts_of, reference}
use Rattle.syntax_tree.specs.Statement.{subscripts_of}
use Rattle.syntax_tree.proofs.Rows.{call_vec, reference_vec, subscripts_vec}
use Rattle.body_forms.specs.Subexpressions.{subexpressions, subexpressions_in_parts}

-- an expression passes, and so does what is inside it
whole_passes : (passes : Expression → Bool) (e f : Expression) (inside : List Expression) (rest : Bool) → e ≡ f → subexpressions f ≡ f ∷ inside → true ≡ passes e →
    rest ≡ list_all passes inside → rest ≡ list_all passes (subexpressions e)
whole_passes passes e f inside rest same shape good is =
    is ∙ ap (λ b. b && list_all passes inside) (good ∙ ap passes same) ∙ sym (ap (list_all passes) (ap subexpressions same ∙ shape))

-- a call of a procedure
pub call_is : (e : Expr.Expr) (o : Op) (v : Vec Expr.Expr Global) (es : List Expr.Expr) → e ≡ Expr.Call o v → es ≡ v.items → expression e ≡ Call o (arguments_of es)
call_is e o v es is items = ap expression is ∙ ap (Call o) (call_vec v ∙ ap arguments_of (sym items))

pub call_passes : (passes : Expression → Bool) (e : Expr.Expr) (o : Op) (v : Vec Expr.Expr Global) (es : List Expr.Expr) (rest : Bool) → e ≡ Expr.Call o v → es ≡ v.items →
    true ≡ passes (expression e) → rest ≡ list_all passes (subexpressions_in_parts (arguments_of es)) → rest ≡ list_all passes (subexpressions (expression e))
call_passes passes e o v es rest is items good inside =
    whole_passes passes (expression e) (Call o (arguments_of es)) (subexpressions_in_parts (arguments_of es)) rest
    (call_is e o v es is items) refl good inside

-- a name with subscripts after it
pub element_is : (x : List ℕ) (subs : Option (Vec Subscript Global)) (v : Vec Subscript Global) (ss : List Subscript) → subs ≡ Some v → ss ≡ v.items →
    reference x (back-Ref-subs subs) ≡ Element x (parts_of ss)
element_is x subs v ss is items = ap (λ s. reference x (back-Ref-subs s)) is ∙ reference_vec x v ∙ ap (λ l. Element x (parts_of l)) (sym items)

pub element_passes : (passes : Expression → Bool) (x : List ℕ) (subs : Option (Vec Subscript Global)) (v : Vec Subscript Global) (ss : List Subscript) (rest : Bool) →
    subs ≡ Some v → ss ≡ v.items → true ≡ passes (reference x (back-Ref-subs subs)) → rest ≡ list_all passes (subexpressions_in_parts (parts_of ss)) →
    rest ≡ list_all passes (subexpressions (reference x (back-Ref-subs subs)))
element_passes passes x subs v ss rest is items good inside =
    whole_passes passes (reference x (back-Ref-subs subs)) (Element x (parts_of ss)) (subexpressions_in_parts (parts_of ss)) rest
    (element_is x subs v ss is items) refl good inside

-- the subscripts of a variable
pub subscripts_are : (subs : Option (Vec Subscript Global)) (v : Vec Subscript Global) (ss : List Subscript) → subs ≡ Some v → ss ≡ v.items →
    subscripts_of (back-Ref-subs subs) ≡ Some (parts_of ss)
subscripts_are subs v ss is items = ap (λ s. subscripts_of (back-Ref-subs s)) is ∙ subscripts_vec v ∙ ap (λ l. Some (parts_of l)) (sym items)
