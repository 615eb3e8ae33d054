-- The statements of a nest that breaks no rule.
use Rattle.std.proofs.Common.{◌≡◌, ℕ, Bool, true, false, true≢false, List, [], ◌∷◌, ◌++◌, map, bytes_eq, Option, Some, None, refl, sym, ap, ◌∙◌, subst, ℤ, pos}
use Rattle.std.specs.Prelude.{◌&&◌, ◌||◌, not, is_some, option_and_then, if◌then◌else◌}
use Rattle.std.specs.List.{AllByRecursion, list_all, list_any}
use Rattle.std.proofs.lemmas.List.Folds.{list_any-append}
use Rattle.op_tables.specs.declared.op.Op.{Op}
use Rattle.op_tables.specs.Operators.{operator_value}
use Rattle.syntax_tree.specs.Expression as e
use Rattle.syntax_tree.specs.Expression.{Expression, Parts}
use Rattle.syntax_tree.specs.Statement as syntax
use Rattle.syntax_tree.specs.Statement.{Axis}
use Rattle.expression_rules.specs.Inner.{axis_expressions, present}
use Rattle.expression_rules.specs.Symbols.{Name, is_among}
use Rattle.statement_walk.specs.Head as head
use Rattle.statement_walk.specs.Heads.{heads, statement_heads, arm_heads, else_heads, placed}
use Rattle.name_table.specs.Entries.{declared_as}
use Rattle.name_table.specs.Places.{IntegerScalar, place}
use Rattle.name_table.specs.declared.names.What.{What}
use Rattle.name_table.specs.declared.names.What.TheVariants as what
use Rattle.body_forms.specs.Names.{is_scalar}
use Rattle.body_forms.specs.Subexpressions.{subexpressions, subexpressions_in_parts}
use Rattle.body_forms.specs.Subscripts.{has_linear_subscripts, is_linear, items}
use Rattle.nest_check.specs.NestNames.{NestNames, inner_heads, heads_in, heads_in_arms, heads_in_rest, reduction_operator}
use Rattle.nest_check.specs.NestRules.{body_names, is_linear_inside, may_be_named, may_stand_in_nest, is_allowed_in_nest, is_own, is_bound, is_step, is_inner_axis, is_single, has_one_operator, own_variable}
use Rattle.nest_check.specs.Paths.{reached_heads, reached_in, reached_in_arms, reached_in_rest, assigned_by}
use Rattle.nest_check.specs.ReductionStatements.{operator_in}
use Rattle.op_tables.specs.declared.join.Join.{Join}
use Rattle.nest_syntax.specs.NestKinds.{Kind, Shared, New, Assigned, Reduced, has_copies}
use Rattle.array_meaning.specs.Terms.{Term, Number, Scalar, Element, Section, Apply, Reduce, Terms, NoTerm, More}
use Rattle.array_meaning.specs.Terms as term
use Rattle.array_meaning.specs.Statements.{Unmarked}
use Rattle.array_meaning.specs.Resolution.{control_of, place_of, dims_of, is_element, alone, assignment, left_of, loop_of, step_of, term_of, terms_of, section_subscripts, resolved, resolved_block, resolved_arms, resolved_otherwise}
use Rattle.fitting_states.specs.FittingStates.{TermFits, ControlFits, BlockFits, StatementFits, ArmsFit}
use Rattle.name_table.proofs.Tests.{all_split, both}
use Rattle.well_formed.proofs.Heads.{placed_all}
use Rattle.nest_items.specs.Naming.{IsNaming, AreNaming}
use Rattle.nest_items.specs.Standing.{IsFixed, IsFixedTerm, Stands, IsReductionStatement, RightKind, has_no_loop, have_no_loop}
use Rattle.nest_items.specs.Settled.{without}
use Rattle.nest_syntax.specs.ClosedTerms.{with_closed, closed_value, closed_values}
use Rattle.nest_items.specs.NestForm.{IsStep, IsKeptLoop, BlockKeeps, StatementKeeps, ArmsKeep}
use Rattle.nest_standing.specs.Named.{Declared, Names, names_arrays, IsNamed}
use Rattle.nest_standing.proofs.Ruled.{IsKept, IsReached, IsGathered, Tied, IsFree}
use Rattle.nest_standing.proofs.PlacesOf.{place_eq}
use Rattle.nest_standing.proofs.Exprs.{not_true, either_from, bound_names, exact_bound, fixed_parts}
use Rattle.nest_standing.proofs.Assignments.{plain_assignment}
use Rattle.nest_standing.proofs.Bodies.{not_both, two, no_arm_loop, no_else_loop, Right, right_stands, reduction_is}

reduced_same : (a b : Join) → Reduced a ≡ Reduced b → a ≡ b
reduced_same a b h = cc

-- without an own variable, so with one
module _ (n : NestNames) (xs : List Name) where
  some_own : (x : Name) (f : Expression) → may_stand_in_nest n xs None f ≡ true → may_stand_in_nest n xs (Some x) f ≡ true
  some_own x (e.Number v) h = refl
  some_own x (e.Truth b) h = refl
  some_own x (e.Name y) h = named (is_among y n.reduction_names) (bytes_eq y x) _ h
    where
      named : (r o i : Bool) → ((not r || false) && i) ≡ true → ((not r || o) && i) ≡ true
      named false o i h = h
      named true o i h = absurd (true≢false (sym h))
  some_own x (e.Element y ps) h = named (is_among y n.reduction_names) (bytes_eq y x) _ h
    where
      named : (r o i : Bool) → ((not r || false) && i) ≡ true → ((not r || o) && i) ≡ true
      named false o i h = h
      named true o i h = absurd (true≢false (sym h))
  some_own x (e.Call o ps) h = h
  some_own x (e.Unary o a) h = refl
  some_own x (e.Binary o a b) h = refl
  some_own x (e.Closed a) h = refl

  all_own : (x : Name) (fs : List Expression) → list_all (may_stand_in_nest n xs None) fs ≡ true → list_all (may_stand_in_nest n xs (Some x)) fs ≡ true
  all_own x [] h = refl
  all_own x (f ∷ fs) h =
      let a = both (may_stand_in_nest n xs None f) (list_all (may_stand_in_nest n xs None) fs) h in
      two (may_stand_in_nest n xs (Some x) f) (list_all (may_stand_in_nest n xs (Some x)) fs) (some_own x f a.0) (all_own x fs a.1)

all_single : (ps : Parts) → list_all is_single (items ps) ≡ true → is_element ps ≡ true
all_single e.End h = refl
all_single (e.More (e.One a) ps) h = all_single ps h
all_single (e.More (e.Range a b c) ps) h = absurd (true≢false (sym h))
all_single (e.More (e.Glued a c) ps) h = absurd (true≢false (sym h))

-- constants name no scalar
module _ (P Q : ℕ → Type 0) where
  closed_more : (a : Option ℤ) (b : Option (List ℤ)) → is_some (with_closed a b) ≡ true → (is_some a ≡ true) × (is_some b ≡ true)
  closed_more (Some v) (Some vs) h = (refl, refl)
  closed_more (Some v) None h = absurd (true≢false (sym h))
  closed_more None b h = absurd (true≢false (sym h))

  applied_some : (o : Op) (a : Option (List ℤ)) → is_some (option_and_then (operator_value o) a) ≡ true → is_some a ≡ true
  applied_some o (Some vs) h = refl
  applied_some o None h = absurd (true≢false (sym h))

  mutual
    closed_names : (t : Term) → is_some (closed_value t) ≡ true → IsNaming P Q t
    closed_names (Number v) h = tt
    closed_names (Apply o ts) h = closed_all ts (applied_some o (closed_values ts) h)
    closed_names (Scalar k) h = absurd (true≢false (sym h))
    closed_names (term.Index k) h = absurd (true≢false (sym h))
    closed_names (Element a ts) h = absurd (true≢false (sym h))
    closed_names (Section a subs) h = absurd (true≢false (sym h))
    closed_names (Reduce o t) h = absurd (true≢false (sym h))

    closed_all : (ts : Terms) → is_some (closed_values ts) ≡ true → AreNaming P Q ts
    closed_all NoTerm h = tt
    closed_all (More t ts) h = let m = closed_more (closed_value t) (closed_values ts) h in (closed_names t m.0, closed_all ts m.1)

unfree_index : (i r : Bool) → i ≡ true → r ≡ false → (i && not r) ≡ true
unfree_index true false f g = refl
unfree_index false r f g = absurd (true≢false (sym f))
unfree_index true true f g = absurd (true≢false g)

with_one : (f i l x y : Bool) → f ≡ (i && not (l || x)) → (f && not y) ≡ (i && not (l || (x || (y || false))))
with_one f false l x y h = ap (λ q. q && not y) h
with_one f true true x y h = ap (λ q. q && not y) h
with_one f true false true y h = ap (λ q. q && not y) h
with_one f true false false true h = ap (λ q. q && false) h
with_one f true false false false h = ap (λ q. q && true) h

module _ (n : NestNames) (kinds : ℕ → Kind) (tied : Tied n kinds)
    (step_is : (x : Expression) → is_step n x ≡ true → IsStep (term_of n.declared [] x)) where
  -- ---- assignments

  module _ (xs ys : List Name) (free : ℕ → Bool) (is_free : IsFree n xs free) where
    reduced_kind : (x : Name) (v : ℤ) (right : Expression) (by : Join) → declared_as n.declared x ≡ Some (what.Scalar v) → Declared n.declared x
        → is_among x n.assigned ≡ true → kinds (place_of n.declared x) ≡ Reduced by
        → ((o : Join) → reduction_operator n.reduction_names (record { name = x; subscripts = None }) right ≡ Some o → list_any (λ p. bytes_eq x p.variable) n.operators ≡ true)
        → may_be_named n xs (own_variable x (reduction_operator n.reduction_names (record { name = x; subscripts = None }) right)) x ≡ true
        → has_one_operator n x (reduction_operator n.reduction_names (record { name = x; subscripts = None }) right) ≡ true
        → Right n kinds tied xs free is_free (own_variable x (reduction_operator n.reduction_names (record { name = x; subscripts = None }) right)) right
        → IsReductionStatement kinds free by (place_of n.declared x) (term_of n.declared [] right)
    reduced_kind x v right by w d asg k listed left one g =
        let r = tied.unreduced x by d k in
        cases (operator_in x right) refl r (ap (λ b. if b then operator_in x right else None) r)
      where
        cases : (o : Option Join) → operator_in x right ≡ o → is_among x n.reduction_names ≡ true
            → reduction_operator n.reduction_names (record { name = x; subscripts = None }) right ≡ operator_in x right
            → IsReductionStatement kinds free by (place_of n.declared x) (term_of n.declared [] right)
        cases None f r e =
            let h = both (not (is_among x n.reduction_names) || is_own x None) _ (subst (λ o. may_be_named n xs (own_variable x o) x ≡ true) (e ∙ f) left) in
            absurd (true≢false (sym h.0 ∙ ap (λ b. not b || false) r))
        cases (Some u) f r e =
            let m = tied.reduced x u d asg r (subst (λ o. has_one_operator n x o ≡ true) (e ∙ f) one) (listed u (e ∙ f)) in
            subst (λ q. IsReductionStatement kinds free q (place_of n.declared x) (term_of n.declared [] right)) (reduced_same u by (sym m ∙ k))
            (reduction_is n kinds tied xs free is_free x v u right w f (subst (λ o. Right n kinds tied xs free is_free (own_variable x o) right) (e ∙ f) g))

    right_kind : (x : Name) (v : ℤ) (right : Expression) (kind : Kind) → kinds (place_of n.declared x) ≡ kind → declared_as n.declared x ≡ Some (what.Scalar v) → Declared n.declared x
        → is_among x n.assigned ≡ true
        → ((o : Join) → reduction_operator n.reduction_names (record { name = x; subscripts = None }) right ≡ Some o → list_any (λ p. bytes_eq x p.variable) n.operators ≡ true)
        → may_be_named n xs (own_variable x (reduction_operator n.reduction_names (record { name = x; subscripts = None }) right)) x ≡ true
        → has_one_operator n x (reduction_operator n.reduction_names (record { name = x; subscripts = None }) right) ≡ true
        → Right n kinds tied xs free is_free (own_variable x (reduction_operator n.reduction_names (record { name = x; subscripts = None }) right)) right
        → RightKind kinds free (place_of n.declared x) (term_of n.declared [] right) kind
    right_kind x v right Shared k w d asg listed left one g = absurd (true≢false (sym asg ∙ sym (tied.copies x d) ∙ ap has_copies k))
    right_kind x v right New k w d asg listed left one g = tt
    right_kind x v right Assigned k w d asg listed left one g = tt
    right_kind x v right (Reduced by) k w d asg listed left one g = reduced_kind x v right by w d asg k listed left one g

    own_stands : (x : Name) (o : Option Join) (right : Expression) → Right n kinds tied xs free is_free (own_variable x o) right
        → Stands kinds free (Some (place_of n.declared x)) (term_of n.declared [] right)
    own_stands x (Some u) right g = right_stands n kinds tied xs free is_free (Some x) right g
    own_stands x None right g =
        right_stands n kinds tied xs free is_free (Some x) right
        (record { names = g.names; allowed = all_own n xs x (subexpressions right) g.allowed; linear = g.linear; arrays = g.arrays; fit = g.fit })

    scalar_keeps : (x : Name) (w : Option What) (right : Expression) → declared_as n.declared x ≡ w → is_scalar w ≡ true → Declared n.declared x
        → is_among x n.assigned ≡ true
        → ((o : Join) → reduction_operator n.reduction_names (record { name = x; subscripts = None }) right ≡ Some o → list_any (λ p. bytes_eq x p.variable) n.operators ≡ true)
        → may_be_named n xs (own_variable x (reduction_operator n.reduction_names (record { name = x; subscripts = None }) right)) x ≡ true
        → has_one_operator n x (reduction_operator n.reduction_names (record { name = x; subscripts = None }) right) ≡ true
        → (TermFits (term_of n.declared [] right)
        → Right n kinds tied xs free is_free (own_variable x (reduction_operator n.reduction_names (record { name = x; subscripts = None }) right)) right)
        → StatementFits (assignment (alone None (place_of n.declared x) w) (term_of n.declared [] right))
        → StatementKeeps kinds free (assignment (alone None (place_of n.declared x) w) (term_of n.declared [] right))
    scalar_keeps x (Some (what.Scalar v)) right w s d asg listed left one g fit = (
      tied.copies x d ∙ asg,
      own_stands x (reduction_operator n.reduction_names (record { name = x; subscripts = None }) right) right (g fit),
      right_kind x v right (kinds (place_of n.declared x)) refl w d asg listed left one (g fit),
    )
    scalar_keeps x (Some (what.Constant v)) right w s d asg listed left one g fit = absurd (true≢false (sym s))
    scalar_keeps x (Some (what.Array ds v)) right w s d asg listed left one g fit = absurd (true≢false (sym s))
    scalar_keeps x (Some what.Template) right w s d asg listed left one g fit = absurd (true≢false (sym s))
    scalar_keeps x (Some what.Arrangement) right w s d asg listed left one g fit = absurd (true≢false (sym s))
    scalar_keeps x None right w s d asg listed left one g fit = absurd (true≢false (sym s))

    assign_keeps : (x : Name) (subs : Option Parts) (line : ℕ) (right : Expression)
        → IsNamed n.declared (placed ys line (head.Assignment (record { name = x; subscripts = subs }) right))
        → IsKept n (placed xs line (head.Assignment (record { name = x; subscripts = subs }) right))
        → IsGathered n (head.Assignment (record { name = x; subscripts = subs }) right)
        → StatementFits (assignment (left_of n.declared [] (record { name = x; subscripts = subs })) (term_of n.declared [] right))
        → StatementKeeps kinds free (assignment (left_of n.declared [] (record { name = x; subscripts = subs })) (term_of n.declared [] right))
    assign_keeps x None line right named kept gathered fit =
        let o : Option Join = reduction_operator n.reduction_names (record { name = x; subscripts = None }) right in
        let pair : Bool = is_allowed_in_nest n xs (own_variable x o) (e.Name x) && is_allowed_in_nest n xs (own_variable x o) right in
        let q = both (is_scalar (declared_as n.declared x) && pair) (has_one_operator n x o) kept.rules in
        let r = both (is_scalar (declared_as n.declared x)) pair q.0 in
        let p = both (is_allowed_in_nest n xs (own_variable x o) (e.Name x)) (is_allowed_in_nest n xs (own_variable x o) right) r.1 in
        let l = both (is_linear_inside n (e.Name x)) _ kept.linear in
        let a = both (names_arrays n.declared (e.Name x)) _ named.arrays in
        scalar_keeps x (declared_as n.declared x) right refl r.0 named.expressions.0.0 gathered.0.0 gathered.1 (both (may_be_named n xs (own_variable x o) x) true p.0).0 q.1
        (λ f. record {
          names = named.expressions.1.0;
          allowed = p.1;
          linear = (both (is_linear_inside n right) true l.1).0;
          arrays = (both (names_arrays n.declared right) true a.1).0;
          fit = f;
        }) fit
    assign_keeps x (Some ps) line right named kept gathered fit =
        let pair : Bool = is_allowed_in_nest n xs None (e.Element x ps) && is_allowed_in_nest n xs None right in
        let r = both (list_all is_single (items ps)) pair (both (list_all is_single (items ps) && pair) true kept.rules).0 in
        let p = both (is_allowed_in_nest n xs None (e.Element x ps)) (is_allowed_in_nest n xs None right) r.1 in
        let l = both (is_linear_inside n (e.Element x ps)) _ kept.linear in
        let a = both (names_arrays n.declared (e.Element x ps)) _ named.arrays in
        either_from (λ t. StatementFits (assignment t (term_of n.declared [] right))) (λ t. StatementKeeps kinds free (assignment t (term_of n.declared [] right)))
        (is_element ps) (Element (place_of n.declared x) (terms_of n.declared [] ps))
        (Section (place_of n.declared x) (section_subscripts n.declared [] (dims_of (declared_as n.declared x)) ps))
        (λ i f. (
          tied.copies x named.expressions.0.0 ∙ tied.arrays x (not_true (is_scalar (declared_as n.declared x)) (both (not (is_scalar (declared_as n.declared x))) _ a.0).0),
          fixed_parts n kinds tied xs None free is_free ps named.expressions.0.1
              (both (may_be_named n xs None x) (list_all (may_stand_in_nest n xs None) (subexpressions_in_parts ps)) p.0).1
              (both (list_all (is_linear (body_names n)) (items ps)) (list_all (has_linear_subscripts (body_names n)) (subexpressions_in_parts ps)) l.0).0,
          right_stands n kinds tied xs free is_free None right
              (record {
                names = named.expressions.1.0;
                allowed = p.1;
                linear = (both (is_linear_inside n right) true l.1).0;
                arrays = (both (names_arrays n.declared right) true a.1).0;
                fit = f.1;
              }),
        )) (λ i f. not_both (is_element ps) (all_single ps r.0) i) fit

    cond_stands : (line : ℕ) (cond : Expression) → IsNamed n.declared (placed ys line (head.Condition cond)) → IsKept n (placed xs line (head.Condition cond))
        → TermFits (term_of n.declared [] cond) → Stands kinds free None (term_of n.declared [] cond)
    cond_stands line cond named kept fit =
        right_stands n kinds tied xs free is_free None cond
        (record {
          names = named.expressions.0;
          allowed = kept.rules;
          linear = (both (is_linear_inside n cond) true kept.linear).0;
          arrays = (both (names_arrays n.declared cond) true named.arrays).0;
          fit = fit;
        })

  -- ---- loops

  -- each control names no index
  pub loop_keeps : (free : ℕ → Bool) → ((x : Name) → Declared n.declared x → is_among x n.indices ≡ false → free (place_of n.declared x) ≡ false) → (a : Axis)
      → AllByRecursion (Names n.declared) (axis_expressions a) → is_inner_axis n a ≡ true → Declared n.declared a.index → is_among a.index n.indices ≡ true
      → free (place_of n.declared a.index) ≡ true
      → ControlFits (control_of n.declared [] a) → IsKeptLoop kinds free Unmarked (loop_of n.declared a)
  loop_keeps free unseen a names rules d i is_unseen fit =
      let q = both (is_bound n a.first && is_bound n a.last) (list_all (is_step n) (present a.step)) rules in
      let r = both (is_bound n a.first) (is_bound n a.last) q.0 in
      let s = by_step a.step q.1 in
      record {
        unmarked = refl;
        index = tied.copies a.index d ∙ tied.quiet a.index d i;
        unseen = is_unseen;
        first = fixed a.first names.0 r.0;
        last = fixed a.last names.1.0 r.1;
        step = closed_names (IsFixed kinds free) (λ a. ⊥) (step_of n.declared [] a.step) (ap is_some s.is);
        first_exact = exact_bound n tied.scalars a.first r.0 fit.0;
        last_exact = exact_bound n tied.scalars a.last r.1 fit.1;
        step_exact = s;
      }
    where
      fixed : (x : Expression) → Names n.declared x → is_bound n x ≡ true → IsFixedTerm kinds free (term_of n.declared [] x)
      fixed x names h = bound_names n (IsFixed kinds free) (λ y e i' q. (unseen y e i', tied.copies y e ∙ q)) x names h

      by_step : (s : Option Expression) → list_all (is_step n) (present s) ≡ true → IsStep (step_of n.declared [] s)
      by_step None h = record { number = pos 1; is = refl; nonzero = refl }
      by_step (Some x) h = step_is x (both (is_step n x) true h).0

  pub placed_names : (es : List Expression) → AllByRecursion (Names n.declared) (map (λ p. p.expression) (map (place IntegerScalar) es)) → AllByRecursion (Names n.declared) es
  placed_names es h = placed_all (Names n.declared) IntegerScalar es h

  -- the indices round a statement are among those of all loops round it
  abbrev pub Round : List Name → List Name → Type 0
  Round xs ys = (x : Name) → is_among x ys ≡ false → (is_among x n.loops || is_among x xs) ≡ false

  false_both : (a b : Bool) → (a || (b || false)) ≡ false → (a ≡ false) × (b ≡ false)
  false_both false false h = (refl, refl)
  false_both false true h = absurd (true≢false h)
  false_both true b h = absurd (true≢false h)

  join_false : (l x y : Bool) → (l || x) ≡ false → y ≡ false → (l || (x || (y || false))) ≡ false
  join_false false false false f g = refl
  join_false false false true f g = absurd (true≢false g)
  join_false false true y f g = absurd (true≢false f)
  join_false true x y f g = absurd (true≢false f)

  round_more : (xs ys : List Name) (i : Name) → Round xs ys → Round (xs ++ i ∷ []) (ys ++ i ∷ [])
  round_more xs ys i round x h =
      let s = false_both (is_among x ys) (bytes_eq x i) (sym (list_any-append (bytes_eq x) ys (i ∷ [])) ∙ h) in
      ap (λ q. is_among x n.loops || q) (list_any-append (bytes_eq x) xs (i ∷ []))
      ∙ join_false (is_among x n.loops) (is_among x xs) (bytes_eq x i) (round x s.0) s.1

  free_more : (xs : List Name) (free : ℕ → Bool) (i : Name) → IsFree n xs free → Declared n.declared i → IsFree n (xs ++ i ∷ []) (without free (place_of n.declared i))
  free_more xs free i h d = record {
    is = λ x dx. ap (λ q. free (place_of n.declared x) && not q) (place_eq n.declared x i dx d)
        ∙ with_one (free (place_of n.declared x)) (is_among x n.indices) (is_among x n.loops) (is_among x xs) (bytes_eq x i) (h.is x dx)
        ∙ ap (λ q. is_among x n.indices && not (is_among x n.loops || q)) (sym (list_any-append (bytes_eq x) xs (i ∷ [])));
  }

  mutual
    pub block_keeps : (xs ys : List Name) (free : ℕ → Bool) (c : Bool) (zs : List Name) → IsFree n xs free → Round xs ys → (b : syntax.Block)
        → AllByRecursion (IsNamed n.declared) (heads ys b) → AllByRecursion (IsKept n) (heads xs b) → AllByRecursion (IsReached n) (reached_heads c zs b)
        → AllByRecursion (IsGathered n) (inner_heads b) → BlockFits (resolved_block n.declared b) → BlockKeeps kinds free (resolved_block n.declared b)
    block_keeps xs ys free c zs is_free round syntax.Done named kept reach gathered fit = tt
    block_keeps xs ys free c zs is_free round (syntax.Then line s b) named kept reach gathered fit =
        let m = all_split (IsNamed n.declared) (statement_heads ys line s) (heads ys b) named in
        let k = all_split (IsKept n) (statement_heads xs line s) (heads xs b) kept in
        let r = all_split (IsReached n) (reached_in c zs line s) (reached_heads c (assigned_by zs s) b) reach in
        let g = all_split (IsGathered n) (heads_in s) (inner_heads b) gathered in (
          statement_keeps xs ys free c zs is_free round line s m.0 k.0 r.0 g.0 fit.0,
          block_keeps xs ys free c (assigned_by zs s) is_free round b m.1 k.1 r.1 g.1 fit.1,
        )

    statement_keeps : (xs ys : List Name) (free : ℕ → Bool) (c : Bool) (zs : List Name) → IsFree n xs free → Round xs ys → (line : ℕ) (s : syntax.Statement)
        → AllByRecursion (IsNamed n.declared) (statement_heads ys line s) → AllByRecursion (IsKept n) (statement_heads xs line s) → AllByRecursion (IsReached n) (reached_in c zs line s)
        → AllByRecursion (IsGathered n) (heads_in s) → StatementFits (resolved n.declared s) → StatementKeeps kinds free (resolved n.declared s)
    statement_keeps xs ys free c zs is_free round line (syntax.Assign left right) named kept reach gathered fit =
        let same = plain_assignment n xs line left right kept.0 in
        subst (StatementKeeps kinds free) (sym same) (assign_keeps xs ys free is_free left.name left.subscripts line right named.0 kept.0 gathered.0 (subst StatementFits same fit))
    statement_keeps xs ys free c zs is_free round line (syntax.If arms rest) named kept reach gathered fit =
        let m = all_split (IsNamed n.declared) (arm_heads ys arms) (else_heads ys rest) named in
        let k = all_split (IsKept n) (arm_heads xs arms) (else_heads xs rest) kept in
        let r = all_split (IsReached n) (reached_in_arms zs arms) (reached_in_rest zs rest) reach in
        let g = all_split (IsGathered n) (heads_in_arms arms) (heads_in_rest rest) gathered in (
          arms_keep xs ys free zs is_free round arms m.0 k.0 r.0 g.0 fit.0,
          else_keeps xs ys free zs is_free round rest m.1 k.1 r.1 g.1 fit.1,
          two (have_no_loop (resolved_arms n.declared arms)) (has_no_loop (resolved_otherwise n.declared rest)) (no_arm_loop n zs arms r.0) (no_else_loop n zs rest r.1),
        )
    statement_keeps xs ys free c zs is_free round line (syntax.Do None axis b) named kept reach gathered fit =
        let i : Name = axis.index in
        let own = named.0.uses.0 in
        let rules = both (is_inner_axis n axis) _ kept.0.rules in (
          loop_keeps free (λ x d f. is_free.is x d ∙ ap (λ q. q && not (is_among x n.loops || is_among x xs)) f) axis (placed_names (axis_expressions axis) named.0.expressions)
              rules.0 own.0.0 gathered.0
              (is_free.is i own.0.0 ∙ unfree_index (is_among i n.indices) (is_among i n.loops || is_among i xs) gathered.0 (round i own.1)) fit.1,
          block_keeps (xs ++ i ∷ []) (ys ++ i ∷ []) (without free (place_of n.declared i)) c zs (free_more xs free i is_free own.0.0) (round_more xs ys i round) b
              named.1 kept.1 reach.1 gathered.1 fit.2,
        )
    statement_keeps xs ys free c zs is_free round line (syntax.Do (Some m) axis b) named kept reach gathered fit = absurd (true≢false (sym kept.1.0.rules))
    statement_keeps xs ys free c zs is_free round line (syntax.Where mask body others) named kept reach gathered fit = absurd (true≢false (sym kept.0.rules))
    statement_keeps xs ys free c zs is_free round line (syntax.Forall axes mask body) named kept reach gathered fit = absurd (true≢false (sym kept.0.rules))
    statement_keeps xs ys free c zs is_free round line (syntax.Print is) named kept reach gathered fit = absurd (true≢false (sym kept.0.rules))
    statement_keeps xs ys free c zs is_free round line syntax.Stop named kept reach gathered fit = absurd (true≢false (sym kept.0.rules))
    statement_keeps xs ys free c zs is_free round line syntax.Exit named kept reach gathered fit = absurd (true≢false (sym kept.0.rules))
    statement_keeps xs ys free c zs is_free round line syntax.Cycle named kept reach gathered fit = absurd (true≢false (sym kept.0.rules))
    statement_keeps xs ys free c zs is_free round line syntax.Continue named kept reach gathered fit = tt
    statement_keeps xs ys free c zs is_free round line (syntax.Redistribute d) named kept reach gathered fit = absurd (true≢false (sym kept.0.rules))

    arms_keep : (xs ys : List Name) (free : ℕ → Bool) (zs : List Name) → IsFree n xs free → Round xs ys → (arms : syntax.Arms)
        → AllByRecursion (IsNamed n.declared) (arm_heads ys arms) → AllByRecursion (IsKept n) (arm_heads xs arms) → AllByRecursion (IsReached n) (reached_in_arms zs arms)
        → AllByRecursion (IsGathered n) (heads_in_arms arms) → ArmsFit (resolved_arms n.declared arms) → ArmsKeep kinds free (resolved_arms n.declared arms)
    arms_keep xs ys free zs is_free round syntax.NoArm named kept reach gathered fit = tt
    arms_keep xs ys free zs is_free round (syntax.Arm line cond b arms) named kept reach gathered fit =
        let m = all_split (IsNamed n.declared) (heads ys b) (arm_heads ys arms) named.1 in
        let k = all_split (IsKept n) (heads xs b) (arm_heads xs arms) kept.1 in
        let r = all_split (IsReached n) (reached_heads true zs b) (reached_in_arms zs arms) reach.1 in
        let g = all_split (IsGathered n) (inner_heads b) (heads_in_arms arms) gathered in (
          cond_stands xs ys free is_free line cond named.0 kept.0 fit.0,
          block_keeps xs ys free true zs is_free round b m.0 k.0 r.0 g.0 fit.1,
          arms_keep xs ys free zs is_free round arms m.1 k.1 r.1 g.1 fit.2,
        )

    else_keeps : (xs ys : List Name) (free : ℕ → Bool) (zs : List Name) → IsFree n xs free → Round xs ys → (rest : syntax.Otherwise)
        → AllByRecursion (IsNamed n.declared) (else_heads ys rest) → AllByRecursion (IsKept n) (else_heads xs rest) → AllByRecursion (IsReached n) (reached_in_rest zs rest)
        → AllByRecursion (IsGathered n) (heads_in_rest rest) → BlockFits (resolved_otherwise n.declared rest) → BlockKeeps kinds free (resolved_otherwise n.declared rest)
    else_keeps xs ys free zs is_free round syntax.Without named kept reach gathered fit = tt
    else_keeps xs ys free zs is_free round (syntax.With b) named kept reach gathered fit = block_keeps xs ys free true zs is_free round b named kept reach gathered fit
