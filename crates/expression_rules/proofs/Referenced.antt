-- Names with subscripts, as they lie in memory.
use Rattle.std.proofs.Common.{◌≡◌, ℕ, Bool, true, List, Option, Some, Global, sym, ap, ◌∙◌}
use Rattle.std.specs.Prelude.{Vec, ◌&&◌}
use Rattle.std.specs.List.{list_all}
use Rattle.syntax_tree.specs.declared.expr.Subscript.{Subscript}
use Rattle.syntax_tree.specs.declared.expr.Expr.TheBlock.{back-Ref-subs}
use Rattle.syntax_tree.specs.Expression.{reference}
use Rattle.syntax_tree.specs.Expression.{parts_of}
use Rattle.expression_rules.specs.Symbols.{SymbolTable, find, is_operand, satisfies}
use Rattle.expression_rules.specs.Operands.{are_operands, names_in_parts}
use Rattle.syntax_tree.proofs.Rows.{reference_vec}

pub operand_parts : (t : SymbolTable) (x : List ℕ) (subs : Option (Vec Subscript Global)) (v : Vec Subscript Global) (ss : List Subscript) (b : Bool) →
    subs ≡ Some v → ss ≡ v.items → true ≡ satisfies is_operand (find x t) → b ≡ list_all (λ y. satisfies is_operand (find y t)) (names_in_parts (parts_of ss)) →
    b ≡ are_operands t (reference x (back-Ref-subs subs))
operand_parts t x subs v ss b is items good rest =
    rest
    ∙ ap (λ l. list_all (λ y. satisfies is_operand (find y t)) (names_in_parts (parts_of l))) items
    ∙ ap (λ g. g && list_all (λ y. satisfies is_operand (find y t)) (names_in_parts (parts_of v.items))) good
    ∙ sym (ap (λ s. are_operands t (reference x (back-Ref-subs s))) is ∙ ap (are_operands t) (reference_vec x v))
