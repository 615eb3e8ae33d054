-- What the statements of a nest that breaks no rule are by their form: no loop under IF, and reduction statements.
use Rattle.std.proofs.Common.{◌≡◌, ℕ, Bool, true, false, true≢false, List, [], ◌∷◌, ◌++◌, bytes_eq, Option, Some, None, refl, sym, ap, ◌∙◌, subst, inl, inr, ◌⊎◌, ℤ}
use Rattle.std.specs.Prelude.{◌&&◌, ◌||◌, not, option_map, if◌then◌else◌}
use Rattle.std.specs.List.{AllByRecursion, list_all}
use Rattle.std.proofs.lemmas.Slice.Eq.{bytes_eq-Decides}
use Rattle.op_tables.specs.declared.op.Op.{Op}
use Rattle.op_tables.specs.declared.op.Op.TheVariants as op
use Rattle.op_tables.specs.Arguments.{is_reduction}
use Rattle.syntax_tree.specs.Expression as e
use Rattle.syntax_tree.specs.Expression.{Expression, Parts}
use Rattle.syntax_tree.specs.Statement as syntax
use Rattle.expression_rules.specs.Operands.{names_in}
use Rattle.expression_rules.specs.Symbols.{Name, is_among}
use Rattle.name_table.specs.Entries.{declared_as}
use Rattle.name_table.specs.declared.names.What.TheVariants as what
use Rattle.body_forms.specs.Subexpressions.{subexpressions}
use Rattle.body_forms.specs.Subscripts.{has_linear_subscripts}
use Rattle.nest_check.specs.NestNames.{NestNames}
use Rattle.nest_check.specs.NestRules.{body_names, may_stand_in_nest}
use Rattle.nest_check.specs.Paths.{reached_heads, reached_in, reached_in_arms, reached_in_rest, assigned_by}
use Rattle.op_tables.specs.Reductions.{joined_by}
use Rattle.nest_check.specs.ReductionStatements.{is_alone, refers_to, is_without, is_joined, are_operands_of, operator_between, operator_in}
use Rattle.nest_check.specs.ReductionStatements as by_name
use Rattle.op_tables.specs.declared.join.Join.{Join}
use Rattle.nest_syntax.specs.NestKinds.{Kind, is_difference}
use Rattle.array_meaning.specs.Terms.{Term, Number, Scalar, Element, Section, Apply, Reduce, Terms, NoTerm, More}
use Rattle.array_meaning.specs.Terms as term
use Rattle.array_meaning.specs.Resolution.{place_of, alone, assignment, called, left_of, term_of, terms_of, transformation_of, resolved, resolved_block, resolved_arms, resolved_otherwise}
use Rattle.fitting_states.specs.FittingStates.{TermFits, TermsFit}
use Rattle.name_table.proofs.Tests.{all_split, both}
use Rattle.well_formed.proofs.Lists.{pass_split}
use Rattle.nest_items.specs.Standing.{Stands, IsReductionStatement, has_no_loop, is_no_loop, have_no_loop}
use Rattle.nest_standing.specs.Named.{Names, is_array_in}
use Rattle.nest_standing.proofs.Ruled.{IsReached, Tied, IsFree}
use Rattle.nest_standing.proofs.Exprs.{not_true, or_case, stands}
use Rattle.nest_standing.proofs.Assignments.{either_statement}

pub not_both : {A : Type 0} (b : Bool) → b ≡ true → b ≡ false → A
not_both b t f = absurd (true≢false (sym t ∙ f))

-- ---- no loop stands under an IF

assigns_no_loop : (l r : Term) → is_no_loop (assignment l r) ≡ true
assigns_no_loop (Scalar k) r = refl
assigns_no_loop (Element a ts) r = refl
assigns_no_loop (Section a subs) r = refl
assigns_no_loop (Number v) r = refl
assigns_no_loop (term.Index k) r = refl
assigns_no_loop (Apply o ts) r = refl
assigns_no_loop (Reduce o t) r = refl

pub two : (a b : Bool) → a ≡ true → b ≡ true → (a && b) ≡ true
two true true f g = refl
two true false f g = absurd (true≢false (sym g))
two false b f g = absurd (true≢false (sym f))

module _ (n : NestNames) where
  mutual
    pub no_loops : (zs : List Name) (b : syntax.Block) → AllByRecursion (IsReached n) (reached_heads true zs b) → has_no_loop (resolved_block n.declared b) ≡ true
    no_loops zs syntax.Done h = refl
    no_loops zs (syntax.Then line s b) h =
        let parts = all_split (IsReached n) (reached_in true zs line s) (reached_heads true (assigned_by zs s) b) h in
        two (is_no_loop (resolved n.declared s)) (has_no_loop (resolved_block n.declared b)) (no_loop zs line s parts.0) (no_loops (assigned_by zs s) b parts.1)

    no_loop : (zs : List Name) (line : ℕ) (s : syntax.Statement) → AllByRecursion (IsReached n) (reached_in true zs line s) → is_no_loop (resolved n.declared s) ≡ true
    no_loop zs line (syntax.Assign left right) h =
        either_statement (λ st. is_no_loop st ≡ true) n.declared (λ x y how. refl) (syntax.designator left) (transformation_of n.declared right)
        (assignment (left_of n.declared [] left) (term_of n.declared [] right)) (assigns_no_loop (left_of n.declared [] left) (term_of n.declared [] right))
    no_loop zs line (syntax.If arms rest) h =
        let parts = all_split (IsReached n) (reached_in_arms zs arms) (reached_in_rest zs rest) h in
        two (have_no_loop (resolved_arms n.declared arms)) (has_no_loop (resolved_otherwise n.declared rest)) (no_arm_loop zs arms parts.0) (no_else_loop zs rest parts.1)
    no_loop zs line (syntax.Do mark axis b) h = absurd (true≢false (sym h.0))
    no_loop zs line (syntax.Where mask body others) h = refl
    no_loop zs line (syntax.Forall axes mask body) h = refl
    no_loop zs line (syntax.Print is) h = refl
    no_loop zs line syntax.Stop h = refl
    no_loop zs line syntax.Exit h = refl
    no_loop zs line syntax.Cycle h = refl
    no_loop zs line syntax.Continue h = refl
    no_loop zs line (syntax.Redistribute d) h = refl

    pub no_arm_loop : (zs : List Name) (arms : syntax.Arms) → AllByRecursion (IsReached n) (reached_in_arms zs arms) → have_no_loop (resolved_arms n.declared arms) ≡ true
    no_arm_loop zs syntax.NoArm h = refl
    no_arm_loop zs (syntax.Arm line cond b arms) h =
        let parts = all_split (IsReached n) (reached_heads true zs b) (reached_in_arms zs arms) h.1 in
        two (has_no_loop (resolved_block n.declared b)) (have_no_loop (resolved_arms n.declared arms)) (no_loops zs b parts.0) (no_arm_loop zs arms parts.1)

    pub no_else_loop : (zs : List Name) (rest : syntax.Otherwise) → AllByRecursion (IsReached n) (reached_in_rest zs rest) → has_no_loop (resolved_otherwise n.declared rest) ≡ true
    no_else_loop zs syntax.Without h = refl
    no_else_loop zs (syntax.With b) h = no_loops zs b h

-- ---- reduction statements

pub if_some_is : (b : Bool) (o : Option Join) (v : Join) → (if b then o else None) ≡ Some v → (b ≡ true) × (o ≡ Some v)
if_some_is true o v h = (refl, h)
if_some_is false o v h = absurd cc

pub or_true : (a b : Bool) → (a || b) ≡ true → (a ≡ true) ⊎ (b ≡ true)
or_true true b h = inl refl
or_true false b h = inr h

same_difference : (o : Op) → is_difference o ≡ by_name.is_difference o
same_difference op.Sub = refl
same_difference o = refl

called_is : (n : NestNames) (o : Op) (v : Join) (ps : Parts) (ts : Terms) → joined_by o ≡ Some v → called n.declared [] o ps ts ≡ Apply o ts
called_is n op.Add v ps ts h = refl
called_is n op.Sub v ps ts h = refl
called_is n op.Mul v ps ts h = refl
called_is n op.Max v ps ts h = refl
called_is n op.Min v ps ts h = refl
called_is n op.BitAnd v ps ts h = refl
called_is n op.BitOr v ps ts h = refl
called_is n op.BitXor v ps ts h = refl
called_is n o v ps ts h = let none : None ≡ Some v = h in absurd cc

module _ (n : NestNames) (kinds : ℕ → Kind) (tied : Tied n kinds) (xs : List Name) (free : ℕ → Bool) (is_free : IsFree n xs free) where
  -- an expression that doesn't name the variable keeps the rules without an own one
  not_own : (x : Name) (f : Expression) → may_stand_in_nest n xs (Some x) f ≡ true → not (refers_to x f) ≡ true → may_stand_in_nest n xs None f ≡ true
  not_own x (e.Number v) h g = refl
  not_own x (e.Truth b) h g = refl
  not_own x (e.Name y) h g = named (is_among y n.reduction_names) (bytes_eq y x) _ (λ s. (bytes_eq-Decides x y).1 (sym ((bytes_eq-Decides y x).0 s))) h g
    where
      named : (r o i : Bool) → (o ≡ true → bytes_eq x y ≡ true) → ((not r || o) && i) ≡ true → not (bytes_eq x y) ≡ true → ((not r || false) && i) ≡ true
      named false o i same h g = h
      named true true i same h g = not_both (bytes_eq x y) (same refl) (not_true (bytes_eq x y) g)
      named true false i same h g = h
  not_own x (e.Element y ps) h g = named (is_among y n.reduction_names) (bytes_eq y x) _ (λ s. (bytes_eq-Decides x y).1 (sym ((bytes_eq-Decides y x).0 s))) h g
    where
      named : (r o i : Bool) → (o ≡ true → bytes_eq x y ≡ true) → ((not r || o) && i) ≡ true → not (bytes_eq x y) ≡ true → ((not r || false) && i) ≡ true
      named false o i same h g = h
      named true true i same h g = not_both (bytes_eq x y) (same refl) (not_true (bytes_eq x y) g)
      named true false i same h g = h
  not_own x (e.Call o ps) h g = h
  not_own x (e.Unary o a) h g = refl
  not_own x (e.Binary o a b) h g = refl
  not_own x (e.Closed a) h g = refl

  none_own : (x : Name) (fs : List Expression) → list_all (may_stand_in_nest n xs (Some x)) fs ≡ true → list_all (λ f. not (refers_to x f)) fs ≡ true
      → list_all (may_stand_in_nest n xs None) fs ≡ true
  none_own x [] h g = refl
  none_own x (f ∷ fs) h g =
      let a = both (may_stand_in_nest n xs (Some x) f) (list_all (may_stand_in_nest n xs (Some x)) fs) h in
      let b = both (not (refers_to x f)) (list_all (λ f. not (refers_to x f)) fs) g in
      two (may_stand_in_nest n xs None f) (list_all (may_stand_in_nest n xs None) fs) (not_own x f a.0 b.0) (none_own x fs a.1 b.1)

  -- what the rules say of a right side and its parts
  pub record Right (own : Option Name) (a : Expression) : Type 0 where
    pub names : Names n.declared a
    pub allowed : list_all (may_stand_in_nest n xs own) (subexpressions a) ≡ true
    pub linear : list_all (has_linear_subscripts (body_names n)) (subexpressions a) ≡ true
    pub arrays : list_all (is_array_in n.declared) (subexpressions a) ≡ true
    pub fit : TermFits (term_of n.declared [] a)

  pub right_stands : (own : Option Name) (a : Expression) → Right own a → Stands kinds free (option_map (place_of n.declared) own) (term_of n.declared [] a)
  right_stands own a h = stands n kinds tied xs own free is_free a h.names h.allowed h.linear h.arrays h.fit

  other_stands : (x : Name) (a : Expression) → Right (Some x) a → is_without x a ≡ true → Stands kinds free None (term_of n.declared [] a)
  other_stands x a h w = stands n kinds tied xs None free is_free a h.names (none_own x (subexpressions a) h.allowed w) h.linear h.arrays h.fit

  -- the variable alone is its scalar
  alone_is : (x : Name) (a : Expression) (v : ℤ) → declared_as n.declared x ≡ Some (what.Scalar v) → is_alone x a ≡ true → term_of n.declared [] a ≡ Scalar (place_of n.declared x)
  alone_is x (e.Name y) v w h =
      subst (λ y. alone None (place_of n.declared y) (declared_as n.declared y) ≡ Scalar (place_of n.declared x)) ((bytes_eq-Decides x y).0 h) (ap (alone None (place_of n.declared x)) w)
  alone_is x (e.Number v) u w h = absurd (true≢false (sym h))
  alone_is x (e.Truth b) v w h = absurd (true≢false (sym h))
  alone_is x (e.Element y ps) v w h = absurd (true≢false (sym h))
  alone_is x (e.Call o ps) v w h = absurd (true≢false (sym h))
  alone_is x (e.Unary o a) v w h = absurd (true≢false (sym h))
  alone_is x (e.Binary o a b) v w h = absurd (true≢false (sym h))
  alone_is x (e.Closed a) v w h = absurd (true≢false (sym h))

  between : (x : Name) (v : ℤ) (o : Op) (u : Join) (a b : Expression) (t : Term) → declared_as n.declared x ≡ Some (what.Scalar v)
      → operator_between x o a b ≡ Some u → Right (Some x) a → Right (Some x) b
      → (joined_by o ≡ Some u → t ≡ Apply o (More (term_of n.declared [] a) (More (term_of n.declared [] b) NoTerm)))
      → IsReductionStatement kinds free u (place_of n.declared x) t
  between x v o u a b t w h ga gb shape =
      let s = if_some_is (are_operands_of x o a b) (joined_by o) u h in
      or_case (or_true (is_joined x a b) (not (by_name.is_difference o) && is_joined x b a) s.0)
      (λ j. let m = both (is_alone x a) (is_without x b) j in
      record {
        by = o;
        other = term_of n.declared [] b;
        is_first = true;
        shape = shape s.1 ∙ ap (λ q. Apply o (More q (More (term_of n.declared [] b) NoTerm))) (alone_is x a v w m.0);
        operator = s.1;
        order = refl;
        stands = other_stands x b gb m.1;
      })
      (λ j. let m = both (not (by_name.is_difference o)) (is_joined x b a) j in
      let k = both (is_alone x b) (is_without x a) m.1 in
      record {
        by = o;
        other = term_of n.declared [] a;
        is_first = false;
        shape = shape s.1 ∙ ap (λ q. Apply o (More (term_of n.declared [] a) (More q NoTerm))) (alone_is x b v w k.0);
        operator = s.1;
        order = ap not (same_difference o) ∙ m.0;
        stands = other_stands x a ga k.1;
      })

  pub reduction_is : (x : Name) (v : ℤ) (u : Join) (a : Expression) → declared_as n.declared x ≡ Some (what.Scalar v) → operator_in x a ≡ Some u
      → Right (Some x) a → IsReductionStatement kinds free u (place_of n.declared x) (term_of n.declared [] a)
  reduction_is x v u (e.Binary o a b) w h g =
      let m = all_split _ (names_in a) (names_in b) g.names in
      let gs = pass_split (may_stand_in_nest n xs (Some x)) (subexpressions a) (subexpressions b) g.allowed in
      let ls = pass_split (has_linear_subscripts (body_names n)) (subexpressions a) (subexpressions b) g.linear in
      let rs = pass_split (is_array_in n.declared) (subexpressions a) (subexpressions b) g.arrays in
      between x v o u a b (term_of n.declared [] (e.Binary o a b)) w h
      (record { names = m.0; allowed = gs.0; linear = ls.0; arrays = rs.0; fit = g.fit.0 })
      (record { names = m.1; allowed = gs.1; linear = ls.1; arrays = rs.1; fit = g.fit.1.0 }) (λ r. refl)
  reduction_is x v u (e.Call o (e.More (e.One a) (e.More (e.One b) e.End))) w h g =
      let s = if_some_is (are_operands_of x o a b) (joined_by o) u h in
      let ps : Parts = e.More (e.One a) (e.More (e.One b) e.End) in
      let fits : TermsFit (terms_of n.declared [] ps) = subst TermFits (called_is n o u ps (terms_of n.declared [] ps) s.1) g.fit in
      let m = all_split _ (names_in a) (names_in b ++ []) g.names in
      let m' = all_split _ (names_in b) [] m.1 in
      let gs = pass_split (may_stand_in_nest n xs (Some x)) (subexpressions a) (subexpressions b ++ []) (both (not (is_reduction o)) _ g.allowed).1 in
      let gs' = pass_split (may_stand_in_nest n xs (Some x)) (subexpressions b) [] gs.1 in
      let ls = pass_split (has_linear_subscripts (body_names n)) (subexpressions a) (subexpressions b ++ []) g.linear in
      let ls' = pass_split (has_linear_subscripts (body_names n)) (subexpressions b) [] ls.1 in
      let rs = pass_split (is_array_in n.declared) (subexpressions a) (subexpressions b ++ []) g.arrays in
      let rs' = pass_split (is_array_in n.declared) (subexpressions b) [] rs.1 in
      between x v o u a b (term_of n.declared [] (e.Call o ps)) w h
      (record { names = m.0; allowed = gs.0; linear = ls.0; arrays = rs.0; fit = fits.0 })
      (record { names = m'.0; allowed = gs'.0; linear = ls'.0; arrays = rs'.0; fit = fits.1.0 }) (λ r. called_is n o u ps (terms_of n.declared [] ps) r)
  reduction_is x v u a w h g = let none : None ≡ Some u = h in absurd cc
