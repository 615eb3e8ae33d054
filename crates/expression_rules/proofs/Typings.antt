-- Kinds and ranks, as trees lie in memory and as loops find them.
use Rattle.std.proofs.Common.{◌≡◌, ℕ, zero, suc, ◌+◌, ◌<◌, Bool, true, false, List, drop, length, get_or, Option, Some, None, Global, refl, sym, ap, ◌∙◌, arith}
use Rattle.std.specs.Prelude.{Vec, if◌then◌else◌, nat_eq}
use Rattle.std.proofs.lemmas.Bool.Decides.{nat_tests}
use Rattle.syntax_tree.specs.Op.{Op}
use Rattle.syntax_tree.specs.declared.expr.Expr as Expr
use Rattle.syntax_tree.specs.declared.expr.Subscript.{Subscript}
use Rattle.syntax_tree.specs.declared.expr.Expr.TheBlock.{back-Ref-subs}
use Rattle.syntax_tree.specs.Expression.{Call, expression, reference}
use Rattle.expression_rules.specs.declared.types.Context.{Context}
use Rattle.expression_rules.specs.declared.types.DataType.{DataType}
use Rattle.expression_rules.specs.declared.types.TypeAndRank.{TypeAndRank}
use Rattle.syntax_tree.specs.Expression.{arguments_of, parts_of}
use Rattle.expression_rules.specs.Symbols.{SymbolTable, find, rank_of}
use Rattle.expression_rules.specs.Types.{types_and_ranks, are_subscripts, called_type, conforming, count_of, common, rank_in, type_and_rank, subscripted, triplets}
use Rattle.expression_rules.proofs.Lists.{drop_item}
use Rattle.syntax_tree.proofs.Rows.{call_vec, reference_vec}

pub call_type : (d : Context) (t : SymbolTable) (e : Expr.Expr) (o : Op) (v : Vec Expr.Expr Global) (es : List Expr.Expr) → e ≡ Expr.Call o v → es ≡ v.items →
    type_and_rank d t (expression e) ≡ called_type d t o (arguments_of es) (types_and_ranks d t (arguments_of es))
call_type d t e o v es is items =
    ap (λ e. type_and_rank d t (expression e)) is ∙ ap (λ ps. type_and_rank d t (Call o ps)) (call_vec v ∙ ap arguments_of (sym items))

pub element_type : (d : Context) (t : SymbolTable) (x : List ℕ) (subs : Option (Vec Subscript Global)) (v : Vec Subscript Global) → subs ≡ Some v →
    type_and_rank d t (reference x (back-Ref-subs subs)) ≡ subscripted (rank_of (find x t)) (count_of (parts_of v.items)) (are_subscripts d t (parts_of v.items))
    (triplets (parts_of v.items))
element_type d t x subs v is = ap (λ s. type_and_rank d t (reference x (back-Ref-subs s))) is ∙ ap (type_and_rank d t) (reference_vec x v)

same_rank : (q r s : ℕ) → common (if nat_eq q r then Some (suc q) else None) (Some (suc s)) ≡ common (Some (suc q)) (if nat_eq r s then Some (suc r) else None)
same_rank q r s = by (nat_eq q r) refl (nat_eq r s) refl
  where
    by : (a : Bool) → nat_eq q r ≡ a → (b : Bool) → nat_eq r s ≡ b → common (if a then Some (suc q) else None) (Some (suc s))
        ≡ common (Some (suc q)) (if b then Some (suc r) else None)
    by true e true f = ap (λ t. if t then Some (suc q) else None) (let z : nat_eq q s ≡ true = grind (arith, nat_tests) in z) ∙ sym (ap (λ t. if t then Some (suc q) else None) e)
    by true e false f = ap (λ t. if t then Some (suc q) else None) (let z : nat_eq q s ≡ false = grind (arith, nat_tests) in z)
    by false e true f = sym (ap (λ t. if t then Some (suc q) else None) e)
    by false e false f = refl

common_zero : (a : Option ℕ) → common (Some 0) a ≡ a
common_zero None = refl
common_zero (Some r) = refl

common_assoc : (a b c : Option ℕ) → common (common a b) c ≡ common a (common b c)
common_assoc None b c = refl
common_assoc (Some q) None c = refl
common_assoc (Some zero) (Some r) c = sym (common_zero (common (Some r) c))
common_assoc (Some (suc q)) (Some zero) None = refl
common_assoc (Some (suc q)) (Some zero) (Some s) = refl
common_assoc (Some (suc q)) (Some (suc r)) None = by (nat_eq q r)
  where
    by : (a : Bool) → common (if a then Some (suc q) else None) None ≡ None
    by true = refl
    by false = refl
common_assoc (Some (suc q)) (Some (suc r)) (Some zero) = by (nat_eq q r)
  where
    by : (a : Bool) → common (if a then Some (suc q) else None) (Some zero) ≡ (if a then Some (suc q) else None)
    by true = refl
    by false = refl
common_assoc (Some (suc q)) (Some (suc r)) (Some (suc s)) = same_rank q r s

-- a turn of the loop over operands
pub conforming_next : (k : DataType) (d : Context) (t : SymbolTable) (es : List Expr.Expr) (n : ℕ) (e : Expr.Expr) (rank after one : Option ℕ) (s : Option TypeAndRank) →
    n < length es → e ≡ get_or es n e → s ≡ type_and_rank d t (expression e) → one ≡ rank_in k s → after ≡ common rank one →
    common rank (conforming k (types_and_ranks d t (arguments_of (drop n es)))) ≡ conforming k (types_and_ranks d t (arguments_of es)) →
    common after (conforming k (types_and_ranks d t (arguments_of (drop (n + 1) es)))) ≡ conforming k (types_and_ranks d t (arguments_of es))
conforming_next k d t es n e rank after one s within at is of_one more so_far =
    let rest = conforming k (types_and_ranks d t (arguments_of (drop (n + 1) es))) in
    ap (λ r. common r rest) (more ∙ ap (common rank) (of_one ∙ ap (rank_in k) is))
    ∙ common_assoc rank (rank_in k (type_and_rank d t (expression e))) rest
    ∙ ap (λ l. common rank (conforming k (types_and_ranks d t (arguments_of l)))) (sym (drop_item es n e within at))
    ∙ so_far
