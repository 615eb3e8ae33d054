-- The texts of a nest that breaks no rule: its expressions have exact subscripts and no reduction, and the bounds in it name no index.
use Rattle.std.proofs.Common.{◌≡◌, ℕ, Bool, true, false, true≢false, List, [], ◌∷◌, ◌++◌, Option, Some, None, sym, subst}
use Rattle.std.specs.Prelude.{◌&&◌}
use Rattle.std.specs.List.{AllByRecursion, list_all}
use Rattle.op_tables.specs.declared.join.Join.{Join}
use Rattle.syntax_tree.specs.Expression as e
use Rattle.syntax_tree.specs.Expression.{Expression, Parts}
use Rattle.syntax_tree.specs.Statement as syntax
use Rattle.syntax_tree.specs.Statement.{Axis, designator}
use Rattle.expression_rules.specs.Inner.{axis_expressions, present}
use Rattle.expression_rules.specs.Symbols.{Name, is_among}
use Rattle.statement_walk.specs.Head as head
use Rattle.statement_walk.specs.Heads.{heads, statement_heads, arm_heads, else_heads, placed}
use Rattle.name_table.specs.Entries.{declared_as}
use Rattle.name_table.specs.Places.{IntegerScalar}
use Rattle.name_table.specs.declared.names.What.{What}
use Rattle.name_table.specs.declared.names.What.TheVariants as what
use Rattle.body_forms.specs.Names.{is_scalar}
use Rattle.body_forms.specs.Subexpressions.{subexpressions_in_parts}
use Rattle.body_forms.specs.Subscripts.{has_linear_subscripts, is_linear, items}
use Rattle.nest_check.specs.NestNames.{NestNames, reduction_operator}
use Rattle.nest_check.specs.NestRules.{body_names, is_linear_inside, is_allowed_in_nest, is_assignable, is_bound, is_step, is_inner_axis, has_one_operator, own_variable}
use Rattle.array_meaning.specs.Terms.{Term, Element, Section}
use Rattle.array_meaning.specs.Resolution.{place_of, dims_of, is_element, alone, assignment, left_of, term_of, terms_of, section_subscripts, resolved, resolved_block, resolved_arms, resolved_otherwise}
use Rattle.fitting_states.specs.FittingStates.{TermFits, BlockFits, StatementFits, ArmsFit}
use Rattle.name_table.proofs.Tests.{all_split, both}
use Rattle.well_formed.proofs.Heads.{placed_all}
use Rattle.nest_items.specs.NestForm.{IsPlain, NamesNone, TextsKeep, TextKeeps, ArmsTextsKeep}
use Rattle.nest_standing.specs.Named.{Declared, Names, IsNamed}
use Rattle.nest_standing.proofs.Ruled.{IsKept}
use Rattle.nest_standing.proofs.Exprs.{either_from, bound_names, exact_parts, plain}
use Rattle.nest_standing.proofs.Assignments.{plain_assignment}

-- each index is a scalar, and `all` are indices alone
module _ (n : NestNames) (scalars : (x : Name) → is_among x n.indices ≡ true → is_scalar (declared_as n.declared x) ≡ true)
    (all : ℕ → Bool) (others : (x : Name) → Declared n.declared x → is_among x n.indices ≡ false → all (place_of n.declared x) ≡ false) where
  -- ---- expressions of statements

  right_text : (xs : List Name) (line : ℕ) (left : syntax.Variable) (right : Expression) → IsKept n (placed xs line (head.Assignment left right))
      → TermFits (term_of n.declared [] right) → IsPlain (term_of n.declared [] right)
  right_text xs line left right kept fit =
      let o : Option Join = reduction_operator n.reduction_names left right in
      let own : Option Name = own_variable left.name o in
      let a : Bool = is_assignable n left.name left.subscripts in
      let l : Bool = is_allowed_in_nest n xs own (designator left) in
      let r : Bool = is_allowed_in_nest n xs own right in
      let h = both a (l && r) (both (a && (l && r)) (has_one_operator n left.name o) kept.rules).0 in
      plain n scalars xs own right (both l r h.1).1 (both (is_linear_inside n right) true (both (is_linear_inside n (designator left)) _ kept.linear).1).0 fit

  scalar_text : (k : ℕ) (w : Option What) (right : Term) → (TermFits right → IsPlain right)
      → StatementFits (assignment (alone None k w) right) → TextKeeps all (assignment (alone None k w) right)
  scalar_text k (Some (what.Scalar v)) right h fit = h fit
  scalar_text k (Some (what.Constant v)) right h fit = tt
  scalar_text k (Some (what.Array ds v)) right h fit = tt
  scalar_text k (Some what.Template) right h fit = tt
  scalar_text k (Some what.Arrangement) right h fit = tt
  scalar_text k None right h fit = tt

  assigned_text : (xs : List Name) (line : ℕ) (x : Name) (subs : Option Parts) (right : Expression)
      → IsKept n (placed xs line (head.Assignment (record { name = x; subscripts = subs }) right))
      → StatementFits (assignment (left_of n.declared [] (record { name = x; subscripts = subs })) (term_of n.declared [] right))
      → TextKeeps all (assignment (left_of n.declared [] (record { name = x; subscripts = subs })) (term_of n.declared [] right))
  assigned_text xs line x None right kept fit =
      scalar_text (place_of n.declared x) (declared_as n.declared x) (term_of n.declared [] right) (right_text xs line (record { name = x; subscripts = None }) right kept) fit
  assigned_text xs line x (Some ps) right kept fit =
      let l = both (is_linear_inside n (e.Element x ps)) _ kept.linear in
      let h = both (list_all (is_linear (body_names n)) (items ps)) (list_all (has_linear_subscripts (body_names n)) (subexpressions_in_parts ps)) l.0 in
      either_from (λ t. StatementFits (assignment t (term_of n.declared [] right))) (λ t. TextKeeps all (assignment t (term_of n.declared [] right)))
      (is_element ps) (Element (place_of n.declared x) (terms_of n.declared [] ps))
      (Section (place_of n.declared x) (section_subscripts n.declared [] (dims_of (declared_as n.declared x)) ps))
      (λ i f. (exact_parts n scalars ps h.0 f.0, right_text xs line (record { name = x; subscripts = Some ps }) right kept f.1)) (λ i f. tt) fit

  condition_text : (xs : List Name) (line : ℕ) (test : Expression) → IsKept n (placed xs line (head.Condition test)) → TermFits (term_of n.declared [] test) → IsPlain (term_of n.declared [] test)
  condition_text xs line test kept fit = plain n scalars xs None test kept.rules (both (is_linear_inside n test) true kept.linear).0 fit

  bound_text : (x : Expression) → Names n.declared x → is_bound n x ≡ true → NamesNone all (term_of n.declared [] x)
  bound_text x names h = bound_names n (λ k. all k ≡ false) (λ y d i a. others y d i) x names h

  bound_texts : (a : Axis) → AllByRecursion (Names n.declared) (axis_expressions a) → is_inner_axis n a ≡ true
      → NamesNone all (term_of n.declared [] a.first) × NamesNone all (term_of n.declared [] a.last)
  bound_texts a names rules =
      let h = both (is_bound n a.first) (is_bound n a.last) (both (is_bound n a.first && is_bound n a.last) (list_all (is_step n) (present a.step)) rules).0 in
      (bound_text a.first names.0 h.0, bound_text a.last names.1.0 h.1)

  -- ---- statements

  mutual
    pub texts_keep : (xs ys : List Name) (b : syntax.Block) → AllByRecursion (IsNamed n.declared) (heads ys b) → AllByRecursion (IsKept n) (heads xs b)
        → BlockFits (resolved_block n.declared b) → TextsKeep all (resolved_block n.declared b)
    texts_keep xs ys syntax.Done named kept fit = tt
    texts_keep xs ys (syntax.Then line s b) named kept fit =
        let m = all_split (IsNamed n.declared) (statement_heads ys line s) (heads ys b) named in
        let k = all_split (IsKept n) (statement_heads xs line s) (heads xs b) kept in
        (text_keeps xs ys line s m.0 k.0 fit.0, texts_keep xs ys b m.1 k.1 fit.1)

    text_keeps : (xs ys : List Name) (line : ℕ) (s : syntax.Statement) → AllByRecursion (IsNamed n.declared) (statement_heads ys line s)
        → AllByRecursion (IsKept n) (statement_heads xs line s) → StatementFits (resolved n.declared s) → TextKeeps all (resolved n.declared s)
    text_keeps xs ys line (syntax.Assign left right) named kept fit =
        let same = plain_assignment n xs line left right kept.0 in
        subst (TextKeeps all) (sym same) (assigned_text xs line left.name left.subscripts right kept.0 (subst StatementFits same fit))
    text_keeps xs ys line (syntax.If arms rest) named kept fit =
        let m = all_split (IsNamed n.declared) (arm_heads ys arms) (else_heads ys rest) named in
        let k = all_split (IsKept n) (arm_heads xs arms) (else_heads xs rest) kept in
        (arms_texts_keep xs ys arms m.0 k.0 fit.0, else_texts_keep xs ys rest m.1 k.1 fit.1)
    text_keeps xs ys line (syntax.Do None axis b) named kept fit = (
      bound_texts axis (placed_all (Names n.declared) IntegerScalar (axis_expressions axis) named.0.expressions) (both (is_inner_axis n axis) _ kept.0.rules).0,
      texts_keep (xs ++ axis.index ∷ []) (ys ++ axis.index ∷ []) b named.1 kept.1 fit.2,
    )
    text_keeps xs ys line (syntax.Do (Some m) axis b) named kept fit = absurd (true≢false (sym kept.1.0.rules))
    text_keeps xs ys line (syntax.Where mask body others) named kept fit = tt
    text_keeps xs ys line (syntax.Forall axes mask body) named kept fit = tt
    text_keeps xs ys line (syntax.Print is) named kept fit = tt
    text_keeps xs ys line syntax.Stop named kept fit = tt
    text_keeps xs ys line syntax.Exit named kept fit = tt
    text_keeps xs ys line syntax.Cycle named kept fit = tt
    text_keeps xs ys line syntax.Continue named kept fit = tt
    text_keeps xs ys line (syntax.Redistribute d) named kept fit = tt

    arms_texts_keep : (xs ys : List Name) (arms : syntax.Arms) → AllByRecursion (IsNamed n.declared) (arm_heads ys arms) → AllByRecursion (IsKept n) (arm_heads xs arms)
        → ArmsFit (resolved_arms n.declared arms) → ArmsTextsKeep all (resolved_arms n.declared arms)
    arms_texts_keep xs ys syntax.NoArm named kept fit = tt
    arms_texts_keep xs ys (syntax.Arm line test b arms) named kept fit =
        let m = all_split (IsNamed n.declared) (heads ys b) (arm_heads ys arms) named.1 in
        let k = all_split (IsKept n) (heads xs b) (arm_heads xs arms) kept.1 in
        (condition_text xs line test kept.0 fit.0, texts_keep xs ys b m.0 k.0 fit.1, arms_texts_keep xs ys arms m.1 k.1 fit.2)

    else_texts_keep : (xs ys : List Name) (rest : syntax.Otherwise) → AllByRecursion (IsNamed n.declared) (else_heads ys rest) → AllByRecursion (IsKept n) (else_heads xs rest)
        → BlockFits (resolved_otherwise n.declared rest) → TextsKeep all (resolved_otherwise n.declared rest)
    else_texts_keep xs ys syntax.Without named kept fit = tt
    else_texts_keep xs ys (syntax.With b) named kept fit = texts_keep xs ys b named kept fit
