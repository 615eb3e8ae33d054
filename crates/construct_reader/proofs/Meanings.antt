-- The program that a tree's lines mean is the tree's abstract syntax.
use Rattle.std.proofs.Common.{◌≡◌, ℕ, Bool, true, false, not, if◌then◌else◌, List, [], ◌∷◌, map, Option, Some, None, option_map, refl, ap, sym, ◌∙◌, nat_eq, Global}
use Rattle.std.specs.Prelude.{Vec}
use Rattle.syntax_tree.specs.declared.stmt.Header.{Header}
use Rattle.construct_rules.specs.ProgramLine.{OfStatement}
use Rattle.statement_reader.specs.Forms as statements
use Rattle.std.proofs.lemmas.Bool.{eqb-true}
use Rattle.std.specs.Cmp.{first_so}
use Rattle.syntax_tree.specs.declared.decl.Bound.{Bound}
use Rattle.syntax_tree.specs.declared.decl.Decl.{Decl}
use Rattle.syntax_tree.specs.declared.decl.DeclKind.{DeclKind}
use Rattle.syntax_tree.specs.declared.decl.DeclKind.TheVariants as declared
use Rattle.syntax_tree.specs.declared.decl.Entity.{Entity}
use Rattle.syntax_tree.specs.declared.decl.Tree.{Tree}
use Rattle.syntax_tree.specs.declared.directive.Directive.{Directive}
use Rattle.syntax_tree.specs.declared.directive.Directive.TheVariants as held_directive
use Rattle.syntax_tree.specs.declared.directive.AlignSpec.{AlignSpec}
use Rattle.syntax_tree.specs.declared.directive.DistSpec.{DistSpec}
use Rattle.syntax_tree.specs.declared.directive.Format.{Format}
use Rattle.syntax_tree.specs.declared.directive.Format.TheVariants as held_format
use Rattle.syntax_tree.specs.declared.directive.Source.{Source}
use Rattle.syntax_tree.specs.declared.directive.Source.TheVariants as held_source
use Rattle.syntax_tree.specs.declared.directive.Target.{Target}
use Rattle.syntax_tree.specs.declared.directive.Target.TheVariants as held_target
use Rattle.syntax_tree.specs.declared.expr.Expr.{Expr}
use Rattle.syntax_tree.specs.declared.expr.Ref.{Ref}
use Rattle.syntax_tree.specs.declared.stmt.Item.{Item}
use Rattle.syntax_tree.specs.declared.stmt.Item.TheVariants as held_item
use Rattle.syntax_tree.specs.declared.stmt.Mark.{Mark as HeldMark}
use Rattle.syntax_tree.specs.declared.stmt.Stmt.{Stmt}
use Rattle.syntax_tree.specs.declared.stmt.StatementKind.{StatementKind as HeldKind}
use Rattle.syntax_tree.specs.declared.stmt.StatementKind.TheBlock.{Assign, IfOne', If', Do, Where', Forall', Print, Stop, Exit, Cycle, Continue, Redistribute, struct-Arm, struct-DoLoop, Row_of-Stmt, end_of-Stmt, more_of-Stmt, Row_of-Arm, end_of-Arm, more_of-Arm, Held-StatementKind-If-1, None', Some'}
use Rattle.syntax_tree.specs.declared.decl.IntegerDecl.{IntegerDecl}
use Rattle.syntax_tree.specs.declared.expr.Subscript.{Subscript}
use Rattle.syntax_tree.specs.Expression.{More, expression, parts_of, subscript}
use Rattle.syntax_tree.proofs.Rows.{subscripts_vec}
use Rattle.syntax_tree.specs.Directive as directive
use Rattle.syntax_tree.specs.Statement as syntax
use Rattle.syntax_tree.specs.MainProgram as main
use Rattle.line_forms.specs.Parts as parts
use Rattle.statement_reader.specs.Views as statement_views
use Rattle.directive_reader.specs.Views as directive_views
use Rattle.construct_reader.specs.SpelledProgram as nest
use Rattle.construct_reader.specs.Views as views
use Rattle.construct_reader.specs.Views.{spelled_kind, spelled_do, spelled_row, spelled_else, spelled_arms, action_in, assignment_in, assignment_at, begins, spelled_program}
use Rattle.construct_reader.specs.Formed.{IsBlock, IsStatement, AreArms, AreMore, IsOtherwise, IsProgram}
use Rattle.construct_reader.specs.Meant as meant
use Rattle.construct_reader.specs.Said.{IsSaid, AreSaid}
use Rattle.construct_reader.proofs.Said.{HasList, HasBounds, Each, SomeEach, Shaped, said_shaped}

-- ---- lists

twice : {A B C : Type 0} (f : A → B) (g : B → C) (h : A → C) → ((a : A) → g (f a) ≡ h a) → (xs : List A) → map g (map f xs) ≡ map h xs
twice f g h e [] = refl
twice f g h e (x ∷ xs) = λ i. e x i ∷ twice f g h e xs i

-- ---- parts of lines

parts_are : (ss : List Subscript) → meant.parts (map subscript ss) ≡ parts_of ss
parts_are [] = refl
parts_are (s ∷ ss) = ap (More (subscript s)) (parts_are ss)

pub variable_is : (r : Ref) → meant.variable (parts.variable_of r) ≡ syntax.variable r
variable_is r = cases r.subs where
  cases : (subs : Option (Vec Subscript Global)) → meant.variable (parts.variable_of record r { subs = subs }) ≡ syntax.variable (record r { subs = subs })
  cases None = refl
  cases (Some v) = ap (λ x. record { name = r.name; subscripts = x }) (ap Some (parts_are v.items) ∙ sym (subscripts_vec v))

item_is : (i : Item) → meant.item (statement_views.item_of i) ≡ syntax.item_of i
item_is (held_item.Value e) = refl
item_is (held_item.Text bytes) = refl

pub items_are : (is : List Item) → meant.items (statement_views.items_of is) ≡ map syntax.item_of is
items_are [] = refl
items_are (i ∷ is) = twice statement_views.item_of meant.item syntax.item_of item_is (i ∷ is)

axes_are : (axes : List Header) → map meant.axis_of (map statement_views.axis_of axes) ≡ map syntax.axis axes
axes_are axes = twice statement_views.axis_of meant.axis_of syntax.axis (λ x. refl) axes

mark_is : (m : Option HeldMark) → option_map meant.independent_of (option_map views.spelled_independent m) ≡ option_map syntax.independent m
mark_is None = refl
mark_is (Some m) = refl

format_is : (f : Format) → meant.format_of (directive_views.format_of f) ≡ directive.format_of f
format_is held_format.Star = refl
format_is (held_format.Block m) = refl
format_is (held_format.Cyclic k) = refl
format_is (held_format.GenBlock sizes) = refl

distribution_is : (d : DistSpec) → meant.distribution d.colons (directive_views.distribution_of d.colons d) ≡ directive.distribution d
distribution_is d = cases d.colons where
  cases : (many : Bool)
      → meant.distribution many (directive_views.distribution_of many d)
      ≡ record { names = directive.names_of many d.names; formats = map directive.format_of d.formats.items; onto = d.onto }
  cases true = ap (λ fs. record { names = d.names; formats = fs; onto = d.onto }) (twice directive_views.format_of meant.format_of directive.format_of format_is d.formats.items)
  cases false =
      ap (λ fs. record { names = directive.first_of d.names ∷ []; formats = fs; onto = d.onto })
      (twice directive_views.format_of meant.format_of directive.format_of format_is d.formats.items)

-- ---- statements of one line

abbrev AssignmentMeans : {m : _} → ℕ → Row_of-Stmt m → Option (Rattle.line_forms.specs.Grammar.Value Rattle.statement_reader.specs.Forms.assignment) → Type 0
AssignmentMeans n row None = Unit {0}
AssignmentMeans n row (Some a) = meant.assigned n a ∷ [] ≡ syntax.assignments row

one_is : {m : _} (n : ℕ) (row : Row_of-Stmt m) → AssignmentMeans n row (assignment_in n row)
one_is n end_of-Stmt = tt {0}
one_is n (more_of-Stmt m (Assign left right) end_of-Stmt) = cases (nat_eq m n) refl where
  cases : (b : Bool) → nat_eq m n ≡ b → AssignmentMeans n (more_of-Stmt m (Assign left right) end_of-Stmt) (if b then Some (parts.variable_of left, expression right) else None)
  cases true e = λ i. record { line = sym (eqb-true m n e) i; left = variable_is left i; right = expression right } ∷ []
  cases false e = tt {0}
one_is n (more_of-Stmt m (IfOne' cond box l k) end_of-Stmt) = tt {0}
one_is n (more_of-Stmt m (If' shape arms rest glued) end_of-Stmt) = tt {0}
one_is n (more_of-Stmt m (Do d) end_of-Stmt) = tt {0}
one_is n (more_of-Stmt m (Where' mask shape row rest one glued) end_of-Stmt) = tt {0}
one_is n (more_of-Stmt m (Forall' axes mask shape row one glued marked) end_of-Stmt) = tt {0}
one_is n (more_of-Stmt m (Print items) end_of-Stmt) = tt {0}
one_is n (more_of-Stmt m Stop end_of-Stmt) = tt {0}
one_is n (more_of-Stmt m Exit end_of-Stmt) = tt {0}
one_is n (more_of-Stmt m Cycle end_of-Stmt) = tt {0}
one_is n (more_of-Stmt m Continue end_of-Stmt) = tt {0}
one_is n (more_of-Stmt m (Redistribute d) end_of-Stmt) = tt {0}
one_is n (more_of-Stmt m k (more_of-Stmt l j row)) = tt {0}

abbrev ActionMeans : ℕ → HeldKind → Option statement_views.IsOfKind → Type 0
ActionMeans n k None = Unit {0}
ActionMeans n k (Some v) = meant.plain n v.0 v.1 ≡ syntax.statement n k

action_is : (n : ℕ) (k : HeldKind) → ActionMeans n k (action_in n k)
action_is n (Assign left right) = ap (λ x. syntax.Assign x (expression right)) (variable_is left)
action_is n (IfOne' cond box m k) = tt {0}
action_is n (If' shape arms rest glued) = tt {0}
action_is n (Do d) = tt {0}
action_is n (Where' mask shape row None' true false) = cases (assignment_in n row) (one_is n row) where
  cases : (a : Option _) → AssignmentMeans n row a → ActionMeans n (Where' mask shape row None' true false) (option_map (views.where_one (expression mask)) a)
  cases None h = tt {0}
  cases (Some a) h = ap (λ x. syntax.Where (expression mask) x []) h
action_is n (Where' mask shape row None' true true) = tt {0}
action_is n (Where' mask shape row None' false glued) = tt {0}
action_is n (Where' mask shape row (Some' s r) one glued) = tt {0}
action_is n (Forall' axes mask shape row true false false) = cases (assignment_in n row) (one_is n row) where
  cases : (a : Option _) → AssignmentMeans n row a
      → ActionMeans n (Forall' axes mask shape row true false false)
      (option_map (views.forall_one (map statement_views.axis_of axes.items, option_map expression mask)) a)
  cases None h = tt {0}
  cases (Some a) h = λ i. syntax.Forall (axes_are axes.items i) (option_map expression mask) (h i)
action_is n (Forall' axes mask shape row true false true) = tt {0}
action_is n (Forall' axes mask shape row true true marked) = tt {0}
action_is n (Forall' axes mask shape row false glued marked) = tt {0}
action_is n (Print items) = ap syntax.Print (items_are items.items)
action_is n Stop = refl
action_is n Exit = refl
action_is n Cycle = refl
action_is n Continue = refl
action_is n (Redistribute d) = tt {0}

-- a statement and its line are those of a kind
abbrev StatementMeans : ℕ → HeldKind → nest.SpelledStatement → Type 0
StatementMeans n k s = (meant.line_of s ≡ n) × (meant.statement s ≡ syntax.statement n k)

single_is : (n : ℕ) (k : HeldKind) (a : Option statement_views.IsOfKind) → ActionMeans n k a → IsStatement (views.single n a) → StatementMeans n k (views.single n a)
single_is n k None f h = absurd h.0
single_is n k (Some v) f h = (refl, f)

if_one_is : (n m : ℕ) (cond : Expr) (box : _) (k : HeldKind) (a : Option statement_views.IsOfKind) → ActionMeans n k a → IsStatement (views.if_one n (expression cond) m a) →
    StatementMeans n (IfOne' cond box m k) (views.if_one n (expression cond) m a)
if_one_is n m cond box k None f h = absurd h.0
if_one_is n m cond box k (Some v) f h = cases (nat_eq m n) refl h where
  cases : (b : Bool) → nat_eq m n ≡ b
      → IsStatement
      (if b
      then nest.SimpleStatement record { number = n; what = OfStatement (statements.IfOne (expression cond) v.0 v.1) }
      else views.no_statement) →
      StatementMeans n (IfOne' cond box m k)
      (if b then nest.SimpleStatement record { number = n; what = OfStatement (statements.IfOne (expression cond) v.0 v.1) } else views.no_statement)
  cases true e h = (
    refl,
    ap (λ s. syntax.If (syntax.Arm n (expression cond) (syntax.Then n s syntax.Done) syntax.NoArm) syntax.Without) f
        ∙ ap (λ x. syntax.If (syntax.Arm n (expression cond) (syntax.Then x (syntax.statement x k) syntax.Done) syntax.NoArm) syntax.Without) (sym (eqb-true m n e)),
  )
  cases false e h = absurd h.0

marked_is : (n : ℕ) (axes : Vec Header Global) (mask : Option Expr) (shape : _) (row : Row_of-Stmt _)
    (a : Option (Rattle.line_forms.specs.Grammar.Value Rattle.statement_reader.specs.Forms.assignment)) → AssignmentMeans n row a →
    IsStatement (views.marked_one n (map statement_views.axis_of axes.items, option_map expression mask) a) →
    StatementMeans n (Forall' axes mask shape row true false true) (views.marked_one n (map statement_views.axis_of axes.items, option_map expression mask) a)
marked_is n axes mask shape row None f h = absurd h.0
marked_is n axes mask shape row (Some a) f h = (refl, λ i. syntax.Forall (axes_are axes.items i) (option_map expression mask) (f i))

-- ---- statements

taken_is : {m : _} (n : ℕ) (k : HeldKind) (row : Row_of-Stmt m) → meant.taken n (syntax.statement n k) (syntax.assignments row) ≡ syntax.assignments (more_of-Stmt n k row)
taken_is n (Assign left right) row = refl
taken_is n (IfOne' cond box m k) row = refl
taken_is n (If' shape arms rest glued) row = refl
taken_is n (Do (struct-DoLoop index first last step mark shape r glued)) row = refl
taken_is n (Where' mask shape r rest one glued) row = refl
taken_is n (Forall' axes mask shape r one glued marked) row = refl
taken_is n (Print items) row = refl
taken_is n Stop row = refl
taken_is n Exit row = refl
taken_is n Cycle row = refl
taken_is n Continue row = refl
taken_is n (Redistribute d) row = refl

false_true : {A : Type 0} → false ≡ true → A
false_true h = absurd cc

-- an IF construct begins in its own line, with a part that isn't ELSE IF
begun_line : {m : _} (n : ℕ) (arms : Row_of-Arm m) → begins n arms ≡ true → meant.first_line (spelled_arms arms) ≡ n
begun_line n end_of-Arm e = false_true e
begun_line n (more_of-Arm (struct-Arm m cond shape row glued) arms) e = eqb-true m n (first_so (nat_eq m n) (not glued) e)

abbrev IfMeans : {m : _} → ℕ → Row_of-Arm m → Held-StatementKind-If-1 → nest.SpelledStatement → Type 0
IfMeans n arms rest s = (meant.line_of s ≡ n) × (meant.statement s ≡ syntax.If (syntax.arms arms) (syntax.otherwise rest))

if_is : {m : _} (n : ℕ) (arms : Row_of-Arm m) (rest : Held-StatementKind-If-1) (glued : Bool) → (AreArms (spelled_arms arms) → meant.arms (spelled_arms arms) ≡ syntax.arms arms) →
    (IsOtherwise (spelled_else rest) → meant.otherwise (spelled_else rest) ≡ syntax.otherwise rest) → (b : Bool) → begins n arms ≡ b →
    IsStatement (if b then nest.IfConstruct (spelled_arms arms) (spelled_else rest) glued else views.no_statement) →
    IfMeans n arms rest (if b then nest.IfConstruct (spelled_arms arms) (spelled_else rest) glued else views.no_statement)
if_is n arms rest glued f g true e h = (begun_line n arms e, λ i. syntax.If (f h.0 i) (g h.1 i))
if_is n arms rest glued f g false e h = absurd h.0

mutual
  kind_is : (n : ℕ) (k : HeldKind) → IsStatement (spelled_kind n k) → StatementMeans n k (spelled_kind n k)
  kind_is n (Assign left right) h = single_is n (Assign left right) (action_in n (Assign left right)) (action_is n (Assign left right)) h
  kind_is n (IfOne' cond box m k) h = if_one_is n m cond box k (action_in n k) (action_is n k) h
  kind_is n (If' shape arms rest glued) h = if_is n arms rest glued (λ g. arms_are arms g) (λ g. rest_is rest g) (begins n arms) refl h
  kind_is n (Do (struct-DoLoop index first last step mark shape row glued)) h =
      (refl, λ i. syntax.Do (mark_is mark i) record { index = index; first = expression first; last = expression last; step = option_map expression step } (block_is row h i))
  kind_is n (Where' mask shape row rest false glued) h = (refl, λ i. syntax.Where (expression mask) (assignments_are row h.0 i) (others_are rest h.1 i))
  kind_is n (Where' mask shape row rest true glued) h =
      single_is n (Where' mask shape row rest true glued) (action_in n (Where' mask shape row rest true glued)) (action_is n (Where' mask shape row rest true glued)) h
  kind_is n (Forall' axes mask shape row false glued marked) h = (refl, λ i. syntax.Forall (axes_are axes.items i) (option_map expression mask) (assignments_are row h i))
  kind_is n (Forall' axes mask shape row true false true) h = marked_is n axes mask shape row (assignment_in n row) (one_is n row) h
  kind_is n (Forall' axes mask shape row true false false) h =
      single_is n (Forall' axes mask shape row true false false) (action_in n (Forall' axes mask shape row true false false))
      (action_is n (Forall' axes mask shape row true false false)) h
  kind_is n (Forall' axes mask shape row true true marked) h = absurd h.0
  kind_is n (Print items) h = single_is n (Print items) (action_in n (Print items)) (action_is n (Print items)) h
  kind_is n Stop h = (refl, refl)
  kind_is n Exit h = (refl, refl)
  kind_is n Cycle h = (refl, refl)
  kind_is n Continue h = (refl, refl)
  kind_is n (Redistribute d) h = (refl, ap syntax.Redistribute (distribution_is d))

  block_is : {m : _} (row : Row_of-Stmt m) → IsBlock (spelled_row row) → meant.block (spelled_row row) ≡ syntax.block row
  block_is end_of-Stmt h = refl
  block_is (more_of-Stmt n k row) h = λ i. syntax.Then ((kind_is n k h.0).0 i) ((kind_is n k h.0).1 i) (block_is row h.1 i)

  assignments_are : {m : _} (row : Row_of-Stmt m) → IsBlock (spelled_row row) → meant.assignments (spelled_row row) ≡ syntax.assignments row
  assignments_are end_of-Stmt h = refl
  assignments_are (more_of-Stmt n k row) h = (λ i. meant.taken ((kind_is n k h.0).0 i) ((kind_is n k h.0).1 i) (assignments_are row h.1 i)) ∙ taken_is n k row

  others_are : (rest : Held-StatementKind-If-1) → IsOtherwise (spelled_else rest) → meant.other_assignments (spelled_else rest) ≡ syntax.rest_assignments rest
  others_are None' h = refl
  others_are (Some' shape row) h = assignments_are row h

  rest_is : (rest : Held-StatementKind-If-1) → IsOtherwise (spelled_else rest) → meant.otherwise (spelled_else rest) ≡ syntax.otherwise rest
  rest_is None' h = refl
  rest_is (Some' shape row) h = ap syntax.With (block_is row h)

  arms_are : {m : _} (arms : Row_of-Arm m) → AreArms (spelled_arms arms) → meant.arms (spelled_arms arms) ≡ syntax.arms arms
  arms_are end_of-Arm h = refl
  arms_are (more_of-Arm (struct-Arm n cond shape row glued) rest) h = λ i. syntax.Arm n (expression cond) (block_is row h.1 i) (more_are rest h.2 i)

  more_are : {m : _} (arms : Row_of-Arm m) → AreMore (spelled_arms arms) → meant.arms (spelled_arms arms) ≡ syntax.arms arms
  more_are end_of-Arm h = refl
  more_are (more_of-Arm (struct-Arm n cond shape row glued) rest) h = λ i. syntax.Arm n (expression cond) (block_is row h.0 i) (more_are rest h.1 i)

pub body_is : (ss : List Stmt) → IsBlock (views.spelled_block ss) → meant.block (views.spelled_block ss) ≡ syntax.block_of ss
body_is [] h = refl
body_is (s ∷ ss) h = λ i. syntax.Then ((kind_is s.line s.what h.0).0 i) ((kind_is s.line s.what h.0).1 i) (body_is ss h.1 i)

-- ---- declarations

bound_is : (b : Bound) → meant.bound_of (parts.bound_of b) ≡ directive.bound b
bound_is b = cases b.lower where
  cases : (lower : Option Expr) → meant.bound_of (parts.bound_of record b { lower = lower }) ≡ directive.bound (record b { lower = lower })
  cases None = refl
  cases (Some e) = refl

entity_is : (e : Entity) → meant.entity_of (statement_views.entity_of e) ≡ directive.entity e
entity_is e = cases e.dims where
  cases : (dims : _) → meant.entity_of (statement_views.entity_of record e { dims = dims }) ≡ directive.entity (record e { dims = dims })
  cases None = refl
  cases (Some bs) =
      ap (λ x. record { name = e.name; bounds = Some x; start = option_map expression e.start })
      (twice parts.bound_of meant.bound_of directive.bound bound_is bs.items)

arranged_is : (e : Entity) → meant.arranged (directive_views.arrangement_of e) ≡ directive.arrangement e
arranged_is e = cases e.start e.dims where
  cases : (start : Option Expr) (dims : _)
      → meant.arranged (directive_views.arrangement_of record e { dims = dims; start = start })
      ≡ directive.arrangement (record e { dims = dims; start = start })
  cases None None = refl
  cases None (Some bs) = ap (λ x. record { name = e.name; bounds = Some x; start = None }) (twice parts.bound_of meant.bound_of directive.bound bound_is bs.items)
  cases (Some x) dims = refl

source_is : (s : Source) → meant.source_of (directive_views.source_of s) ≡ directive.source_of s
source_is (held_source.Dummy x) = refl
source_is held_source.Colon = refl
source_is held_source.Star = refl

target_is : (t : Target) → meant.target_of (directive_views.target_of t) ≡ directive.target_of t
target_is (held_target.Sub s) = refl
target_is held_target.Star = refl

sources_are : (v : Option (Vec Source Global))
    → option_map (map meant.source_of) (option_map (λ (v : Vec Source Global). map directive_views.source_of v.items) v)
    ≡ option_map (λ (v : Vec Source Global). map directive.source_of v.items) v
sources_are None = refl
sources_are (Some v) = ap Some (twice directive_views.source_of meant.source_of directive.source_of source_is v.items)

targets_are : (v : Option (Vec Target Global))
    → option_map (map meant.target_of) (option_map (λ (v : Vec Target Global). map directive_views.target_of v.items) v)
    ≡ option_map (λ (v : Vec Target Global). map directive.target_of v.items) v
targets_are None = refl
targets_are (Some v) = ap Some (twice directive_views.target_of meant.target_of directive.target_of target_is v.items)

alignment_is : (a : AlignSpec) → meant.alignment a.colons (directive_views.alignment_of a.colons a) ≡ directive.alignment a
alignment_is a = cases a.colons where
  cases : (many : Bool) → meant.alignment many (directive_views.alignment_of many a)
      ≡ record {
        names = directive.names_of many a.names;
        sources = option_map (λ v. map directive.source_of v.items) a.source;
        target = a.target;
        subscripts = option_map (λ v. map directive.target_of v.items) a.subs;
      }
  cases true = λ i. record { names = a.names; sources = sources_are a.source i; target = a.target; subscripts = targets_are a.subs i }
  cases false = λ i. record { names = directive.first_of a.names ∷ []; sources = sources_are a.source i; target = a.target; subscripts = targets_are a.subs i }

directive_is : (d : Directive) → meant.directive_of (directive_views.mapping_of d) ≡ directive.directive_of d
directive_is (held_directive.Processors es) = ap directive.Processors (twice directive_views.arrangement_of meant.arranged directive.arrangement arranged_is es.items)
directive_is (held_directive.Template es) = ap directive.Template (twice directive_views.arrangement_of meant.arranged directive.arrangement arranged_is es.items)
directive_is (held_directive.Dynamic names) = refl
directive_is (held_directive.Distribute d) = ap directive.Distribute (distribution_is d)
directive_is (held_directive.Align a) = ap directive.Align (alignment_is a)
directive_is held_directive.Passed = refl

dims_are : (dims : Option (Vec Bound Global))
    → option_map (map meant.bound_of) (option_map (λ (v : Vec Bound Global). map parts.bound_of v.items) dims)
    ≡ option_map (λ (bs : Vec Bound Global). map directive.bound bs.items) dims
dims_are None = refl
dims_are (Some bs) = ap Some (twice parts.bound_of meant.bound_of directive.bound bound_is bs.items)

constant_is : (e : Entity) → HasList (statement_views.constant_entity_of e).1.1 → meant.constant_entity_of (statement_views.constant_entity_of e) ≡ directive.entity e
constant_is e = cases e.start where
  cases : (start : Option Expr) → HasList (statement_views.constant_entity_of record e { start = start }).1.1
      → meant.constant_entity_of (statement_views.constant_entity_of record e { start = start }) ≡ directive.entity (record e { start = start })
  cases None h = absurd h
  cases (Some v) h = ap (λ x. record { name = e.name; bounds = x; start = Some (expression v) }) (dims_are e.dims)

plain_is : (e : Entity) → HasBounds (statement_views.plain_entity_of e).1 → meant.plain_entity_of (statement_views.plain_entity_of e) ≡ directive.entity e
plain_is e = cases e.start where
  cases : (start : Option Expr) → HasBounds (statement_views.plain_entity_of record e { start = start }).1
      → meant.plain_entity_of (statement_views.plain_entity_of record e { start = start }) ≡ directive.entity (record e { start = start })
  cases None h = ap (λ x. record { name = e.name; bounds = x; start = None }) (dims_are e.dims)
  cases (Some v) h = absurd h

-- two steps to a list and one, where something holds of each after the first
module _ {A B C : Type 0} (P : B → Type 0) (f : A → B) (g : B → C) (k : A → C) (e : (a : A) → P (f a) → g (f a) ≡ k a) where
  twice_each : (xs : List A) → Each P (map f xs) → map g (map f xs) ≡ map k xs
  twice_each [] h = refl
  twice_each (x ∷ xs) h = λ i. e x h.0 i ∷ twice_each xs h.1 i

  twice_some : (xs : List A) → SomeEach P (map f xs) → map g (map f xs) ≡ map k xs
  twice_some [] h = refl
  twice_some (x ∷ xs) h = λ i. e x h.0 i ∷ twice_each xs h.1 i

integer_is : (d : IntegerDecl) → Shaped (statement_views.declaration_of d) → meant.type_declaration (statement_views.declaration_of d) ≡ main.type_declaration d
integer_is d = cases d.constant d.colons d.dims where
  cases : (constant colons : Bool) (dims : Option (Vec Bound Global)) → Shaped (statement_views.declaration_of record d { constant = constant; colons = colons; dims = dims })
      → meant.type_declaration (statement_views.declaration_of record d { constant = constant; colons = colons; dims = dims })
      ≡ main.type_declaration (record d { constant = constant; colons = colons; dims = dims })
  cases true true dims h =
      λ i. record {
        constant = true;
        bounds = dims_are dims i;
        entities =
            twice_some (λ e. HasList e.1.1) statement_views.constant_entity_of meant.constant_entity_of directive.entity constant_is d.entities.items h
            i;
      }
  cases false true None h =
      ap (λ es. record { constant = false; bounds = None; entities = es }) (twice statement_views.entity_of meant.entity_of directive.entity entity_is d.entities.items)
  cases false true (Some bs) h =
      λ i. record { constant = false; bounds = dims_are (Some bs) i; entities = twice statement_views.entity_of meant.entity_of directive.entity entity_is d.entities.items i }
  cases false false None h =
      ap (λ es. record { constant = false; bounds = None; entities = es })
      (twice_some (λ e. HasBounds e.1) statement_views.plain_entity_of meant.plain_entity_of directive.entity plain_is d.entities.items h)
  cases false false (Some bs) h = absurd h
  cases true false dims h = absurd h

declared_is : (d : DeclKind) → IsSaid (views.declared_of d) → meant.declared_of (views.declared_of d) ≡ main.declared_of d
declared_is declared.ImplicitNone h = refl
declared_is (declared.Integer d) h = ap main.Integer (integer_is d (said_shaped (statement_views.declaration_of d) h))
declared_is (declared.Parameter cs) h = ap main.Parameter (twice statement_views.constant_of (λ c. record { name = c.0; value = c.1 }) main.named_constant (λ c. refl) cs.items)
declared_is (declared.Directive d) h = ap main.Directed (directive_is d)

declarations_are : (ds : List Decl) → AreSaid (map views.declaration_line ds) → map meant.declaration_of (map views.declaration_line ds) ≡ map main.declaration ds
declarations_are [] h = refl
declarations_are (d ∷ ds) h = λ i. record { line = d.line; what = declared_is d.what h.0 i } ∷ declarations_are ds h.1 i

end_is : (word : Bool) (name : Option (List ℕ)) → meant.end_name (statement_views.end_of word name) ≡ main.end_name_of word name
end_is true name = refl
end_is false None = refl
end_is false (Some x) = refl

-- the lines of a tree mean its abstract syntax
pub meant_is : (t : Tree) → IsProgram (spelled_program t) → AreSaid (spelled_program t).declarations → meant.meant (spelled_program t) ≡ main.main_program t
meant_is t h said = λ i. record {
  name = t.name;
  declarations = declarations_are t.decls.items said i;
  body = body_is t.body.items h.1 i;
  end_name = end_is t.end.word t.end.name i;
  end_line = t.end.line;
}
