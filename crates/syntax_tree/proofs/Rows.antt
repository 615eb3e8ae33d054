-- What a `Vec` of a tree is: the abstract syntax of its list.
use Rattle.std.proofs.Common.{◌≡◌, ℕ, List, ◌∷◌, Global, refl, ap, ◌∙◌, Some}
use Rattle.std.specs.Prelude.{Vec, option_map}
use Rattle.syntax_tree.specs.declared.expr.Expr.{Expr}
use Rattle.syntax_tree.specs.declared.expr.Subscript.{Subscript}
use Rattle.syntax_tree.specs.declared.expr.Expr.TheBlock.{Row_of-Subscript, end_of-Subscript, more_of-Subscript, items-the_row-Subscript, hidden-the_row-Subscript-0, items_hidden-the_row-Subscript-0, back-Ref-subs, Row_of-Expr, end_of-Expr, more_of-Expr, items-the_row-Expr, hidden-the_row-Expr-1, items_hidden-the_row-Expr-1}
use Rattle.syntax_tree.specs.declared.stmt.Stmt.{Stmt}
use Rattle.syntax_tree.specs.declared.stmt.Arm.{Arm as HeldArm}
use Rattle.syntax_tree.specs.declared.stmt.DoLoop.{DoLoop, out-DoLoop}
use Rattle.syntax_tree.specs.declared.stmt.StatementKind.TheViews.{is-struct-DoLoop}
use Rattle.syntax_tree.specs.declared.stmt.StatementKind.TheBlock.{Assign as Assign', struct-Arm, Row_of-Stmt, end_of-Stmt, more_of-Stmt, Row_of-Arm, end_of-Arm, more_of-Arm, items-the_row-Stmt, hidden-the_row-Stmt-1, items_hidden-the_row-Stmt-1, items-the_row-Arm, hidden-the_row-Arm-0, items_hidden-the_row-Arm-0}
use Rattle.syntax_tree.specs.Expression.{Element, More, One, expression, subscripts, arguments, reference, subscript, arguments_of, parts_of}
use Rattle.syntax_tree.specs.Statement.{Do, Then, Arm, arms, arms_of, assignments, assignments_of, block, block_of, do_construct, independent, statement, subscripts_of, variable}

subscript_items : {m : _} (row : Row_of-Subscript m) → subscripts row ≡ parts_of (items-the_row-Subscript m row)
subscript_items end_of-Subscript = refl
subscript_items (more_of-Subscript s row) = ap (More (subscript s)) (subscript_items row)

-- a name with subscripts after it
pub reference_vec : (x : List ℕ) (v : Vec Subscript Global) → reference x (back-Ref-subs (Some v)) ≡ Element x (parts_of v.items)
reference_vec x v = ap (Element x) (subscript_items (hidden-the_row-Subscript-0 v) ∙ ap parts_of (items_hidden-the_row-Subscript-0 v))

-- the subscripts of a variable
pub subscripts_vec : (v : Vec Subscript Global) → subscripts_of (back-Ref-subs (Some v)) ≡ Some (parts_of v.items)
subscripts_vec v = ap Some (subscript_items (hidden-the_row-Subscript-0 v) ∙ ap parts_of (items_hidden-the_row-Subscript-0 v))

argument_items : {m : _} (row : Row_of-Expr m) → arguments row ≡ arguments_of (items-the_row-Expr m row)
argument_items end_of-Expr = refl
argument_items (more_of-Expr e row) = ap (More (One (expression e))) (argument_items row)

-- the arguments of a call
pub call_vec : (v : Vec Expr Global) → arguments (hidden-the_row-Expr-1 v) ≡ arguments_of v.items
call_vec v = argument_items (hidden-the_row-Expr-1 v) ∙ ap arguments_of (items_hidden-the_row-Expr-1 v)

block_items : {m : _} (row : Row_of-Stmt m) → block row ≡ block_of (items-the_row-Stmt m row)
block_items end_of-Stmt = refl
block_items (more_of-Stmt n kind row) = ap (Then n (statement n kind)) (block_items row)

-- a block of statements
pub block_vec : (v : Vec Stmt Global) → block (hidden-the_row-Stmt-1 v) ≡ block_of v.items
block_vec v = block_items (hidden-the_row-Stmt-1 v) ∙ ap block_of (items_hidden-the_row-Stmt-1 v)

arms_items : {m : _} (row : Row_of-Arm m) → arms row ≡ arms_of (items-the_row-Arm m row)
arms_items end_of-Arm = refl
arms_items (more_of-Arm (struct-Arm n cond shape row glued) rest) = ap (Arm n (expression cond) (block row)) (arms_items rest)

-- IF and its ELSE IFs
pub arms_vec : (v : Vec HeldArm Global) → arms (hidden-the_row-Arm-0 v) ≡ arms_of v.items
arms_vec v = arms_items (hidden-the_row-Arm-0 v) ∙ ap arms_of (items_hidden-the_row-Arm-0 v)

assignment_items : {m : _} (row : Row_of-Stmt m) → assignments row ≡ assignments_of (items-the_row-Stmt m row)
assignment_items end_of-Stmt = refl
assignment_items (more_of-Stmt n (Assign' left right) row) = ap (λ rest. record { line = n; left = variable left; right = expression right } ∷ rest) (assignment_items row)
assignment_items (more_of-Stmt n kind row) = assignment_items row

-- the assignments of a WHERE or FORALL
pub assignments_vec : (v : Vec Stmt Global) → assignments (hidden-the_row-Stmt-1 v) ≡ assignments_of v.items
assignments_vec v = assignment_items (hidden-the_row-Stmt-1 v) ∙ ap assignments_of (items_hidden-the_row-Stmt-1 v)

-- a DO construct, by its fields
pub do_parts : (d : DoLoop) → do_construct d
    ≡ Do (option_map independent (out-DoLoop d).mark) (record {
      index = (out-DoLoop d).index;
      first = expression (out-DoLoop d).first;
      last = expression
          (out-DoLoop d).last;
      step = option_map expression (out-DoLoop d).step;
    }) (block_of (out-DoLoop d).body.items)
do_parts d =
    ap do_construct (is-struct-DoLoop d)
    ∙ ap (Do (option_map independent (out-DoLoop d).mark) (record {
      index = (out-DoLoop d).index;
      first = expression (out-DoLoop d).first;
      last = expression
          (out-DoLoop d).last;
      step = option_map expression (out-DoLoop d).step;
    })) (block_vec (out-DoLoop d).body)
