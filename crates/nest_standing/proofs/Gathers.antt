-- What a nest's body assigns, its indices and its operators, gathered.
use Rattle.std.proofs.Common.{◌≡◌, ℕ, nat_eq, Bool, true, false, true≢false, List, [], ◌∷◌, ◌++◌, map, bytes_eq, Option, Some, None, refl, sym, ap, ap₂, ◌∙◌, subst}
use Rattle.std.specs.Prelude.{◌&&◌, ◌||◌, not}
use Rattle.std.specs.List.{AllByRecursion, flat_map, list_any}
use Rattle.std.proofs.lemmas.List.{map-append}
use Rattle.std.proofs.lemmas.Grind.{flat_map-append}
use Rattle.std.proofs.lemmas.List.Folds.{list_any-append}
use Rattle.std.proofs.lemmas.Slice.Eq.{bytes_eq-Decides}
use Rattle.std.proofs.lemmas.Bool.Decides.{Decides-eqb}
use Rattle.op_tables.specs.declared.join.Join.{Join}
use Rattle.op_tables.specs.Joins.{IsOverNumbers}
use Rattle.op_tables.specs.Reductions.{joined_by}
use Rattle.op_tables.proofs.ReductionVariables.{over_numbers}
use Rattle.nest_check.specs.ReductionStatements.{are_operands_of, operator_in}
use Rattle.syntax_tree.specs.Expression as e
use Rattle.syntax_tree.specs.Expression.{Expression, Parts}
use Rattle.syntax_tree.specs.Statement as syntax
use Rattle.expression_rules.specs.Symbols.{Name, is_among}
use Rattle.statement_walk.specs.Head.{Head}
use Rattle.statement_walk.specs.Head as head
use Rattle.statement_walk.specs.Heads.{heads, statement_heads, arm_heads, else_heads, placed}
use Rattle.statement_walk.specs.Nests.{Nest as NamedNest}
use Rattle.name_table.specs.Entries.{declared_as}
use Rattle.name_table.specs.declared.names.Entry.{Entry}
use Rattle.name_table.specs.declared.names.What.{What}
use Rattle.name_table.specs.declared.names.What.TheVariants as what
use Rattle.body_forms.specs.Names.{is_scalar}
use Rattle.nest_check.specs.NestNames.{NestNames, operator_if, nest_names, nest_indices, reductions, alone as alone_names, do_variable_of, scalar_assigned, inner_heads, heads_in, heads_in_arms, heads_in_rest, operators_of, operator_of, reduction_operator, operators_added}
use Rattle.nest_check.specs.NestRules.{is_allowed_in_nest, has_one_operator, own_variable, may_be_named, is_own}
use Rattle.array_meaning.specs.Terms.{Term, Element, Section}
use Rattle.array_meaning.specs.Statements.{Nest, Block}
use Rattle.array_meaning.specs.Resolution.{place_of, dims_of, is_element, alone, assignment, left_of, term_of, terms_of, section_subscripts, resolved, resolved_block, resolved_arms, resolved_otherwise}
use Rattle.name_table.proofs.Tests.{all_split, both}
use Rattle.well_formed.proofs.Expressions.{either}
use Rattle.array_meaning.specs.Iterations.{is_in}
use Rattle.array_meaning.specs.Touches.{assigned_in, assigned_by, assigned_in_arms}
use Rattle.nest_standing.specs.Named.{Declared, AreDeclared, IsScalar, IsNamed}
use Rattle.nest_standing.proofs.Ruled.{IsKept, IsGathered}
use Rattle.nest_standing.proofs.PlacesOf.{among_is}
use Rattle.nest_standing.proofs.Exprs.{or_case, or_left, or_right}
use Rattle.nest_standing.proofs.Assignments.{plain_assignment}
use Rattle.nest_standing.proofs.Bodies.{not_both, or_true, if_some_is}
use Rattle.nest_standing.proofs.Ties.{among_all, operator_at_over, operators_of_nest, Meets}
use Rattle.nest_standing.proofs.Operators.{operators_hold, has_all}

pub all_join : {A : Type 0} (P : A → Type 0) (xs ys : List A) → AllByRecursion P xs → AllByRecursion P ys → AllByRecursion P (xs ++ ys)
all_join P [] ys h g = g
all_join P (x ∷ xs) ys h g = (h.0, all_join P xs ys h.1 g)

module _ (n : NestNames) where
  -- what the rules say of a scalar that is assigned
  abbrev pub IsQuiet : Name → Type 0
  IsQuiet x = IsScalar n.declared x × (is_among x n.indices ≡ false)

  -- statements assign the scalars at these places, and have these indices
  pub record Gives (hs : List Head) (ks : List ℕ) : Type 0 where
    pub places : ks ≡ map (place_of n.declared) (flat_map scalar_assigned hs)
    pub quiet : AllByRecursion IsQuiet (flat_map scalar_assigned hs)
    pub indices : AllByRecursion (IsScalar n.declared) (flat_map do_variable_of hs)

  nothing : Gives [] []
  nothing = record { places = refl; quiet = tt; indices = tt }

  join : (hs gs : List Head) (ks js : List ℕ) → Gives hs ks → Gives gs js → Gives (hs ++ gs) (ks ++ js)
  join hs gs ks js h g = record {
    places = ap₂ (λ a b. a ++ b) h.places g.places ∙ sym (map-append (place_of n.declared) (flat_map scalar_assigned hs) (flat_map scalar_assigned gs))
        ∙ ap (map (place_of n.declared)) (sym (flat_map-append scalar_assigned hs gs));
    quiet = subst (AllByRecursion IsQuiet) (sym (flat_map-append scalar_assigned hs gs)) (all_join IsQuiet (flat_map scalar_assigned hs) (flat_map scalar_assigned gs) h.quiet g.quiet);
    indices = subst (AllByRecursion (IsScalar n.declared)) (sym (flat_map-append do_variable_of hs gs))
        (all_join (IsScalar n.declared) (flat_map do_variable_of hs) (flat_map do_variable_of gs) h.indices g.indices);
  }

  unindexed_by : (r o i l x y : Bool) → ((l || x) ≡ true → y ≡ true) → y ≡ false → ((not r || o) && (not i || l || x)) ≡ true → i ≡ false
  unindexed_by r o false l x y f g h = refl
  unindexed_by true false true l x y f g h = absurd (true≢false (sym h))
  unindexed_by true true true l x y f g h = absurd (true≢false (sym (f h) ∙ g))
  unindexed_by false o true l x y f g h = absurd (true≢false (sym (f h) ∙ g))

  left_free : (a : Bool) → (not a || false) ≡ true → a ≡ false
  left_free false h = refl
  left_free true h = absurd (true≢false (sym h))

  -- the indices round a statement are among those of all loops round it
  abbrev pub Within : List Name → List Name → Type 0
  Within xs ys = (x : Name) → (is_among x n.loops || is_among x xs) ≡ true → is_among x ys ≡ true

  within_more : (xs ys : List Name) (i : Name) → Within xs ys → Within (xs ++ i ∷ []) (ys ++ i ∷ [])
  within_more xs ys i w x h =
      list_any-append (bytes_eq x) ys (i ∷ []) ∙ by (is_among x n.loops) (is_among x xs) (bytes_eq x i || false) (is_among x ys) (w x)
      (ap (λ q. is_among x n.loops || q) (sym (list_any-append (bytes_eq x) xs (i ∷ []))) ∙ h)
    where
      by : (l x b y : Bool) → ((l || x) ≡ true → y ≡ true) → (l || (x || b)) ≡ true → (y || b) ≡ true
      by true x b true f h = refl
      by true x b false f h = absurd (true≢false (sym (f refl)))
      by false true b true f h = refl
      by false true b false f h = absurd (true≢false (sym (f refl)))
      by false false b true f h = refl
      by false false b false f h = h

  scalar_gives : (xs ys : List Name) → Within xs ys → (x : Name) (w : Option What) (t : Term) (own : Option Name) → is_scalar w ≡ true → is_scalar (declared_as n.declared x) ≡ true → Declared n.declared x → is_among x ys ≡ false
      → may_be_named n xs own x ≡ true → (left : syntax.Variable) (right : Expression) → alone_names left.name left.subscripts ≡ x ∷ []
      → Gives (head.Assignment left right ∷ []) (assigned_by (assignment (alone None (place_of n.declared x) w) t))
  scalar_gives xs ys within x (Some (what.Scalar v)) t own s sd d f h left right e = record {
    places = ap (λ q. map (place_of n.declared) (q ++ [])) (sym e);
    quiet = subst (λ q. AllByRecursion IsQuiet (q ++ [])) (sym e)
        (((d, sd), unindexed_by (is_among x n.reduction_names) (is_own x own) (is_among x n.indices) (is_among x n.loops) (is_among x xs) (is_among x ys) (within x) f h), tt);
    indices = tt;
  }
  scalar_gives xs ys within x (Some (what.Constant v)) t own s sd d f h left right e = absurd (true≢false (sym s))
  scalar_gives xs ys within x (Some (what.Array ds v)) t own s sd d f h left right e = absurd (true≢false (sym s))
  scalar_gives xs ys within x (Some what.Template) t own s sd d f h left right e = absurd (true≢false (sym s))
  scalar_gives xs ys within x (Some what.Arrangement) t own s sd d f h left right e = absurd (true≢false (sym s))
  scalar_gives xs ys within x None t own s sd d f h left right e = absurd (true≢false (sym s))

  assign_gives : (xs ys : List Name) → Within xs ys → (x : Name) (subs : Option Parts) (line : ℕ) (right : Expression)
      → IsNamed n.declared (placed ys line (head.Assignment (record { name = x; subscripts = subs }) right))
      → IsKept n (placed xs line (head.Assignment (record { name = x; subscripts = subs }) right))
      → Gives (head.Assignment (record { name = x; subscripts = subs }) right ∷ []) (assigned_by (assignment (left_of n.declared [] (record { name = x; subscripts = subs })) (term_of n.declared [] right)))
  assign_gives xs ys within x None line right named kept =
      let o : Option Join = reduction_operator n.reduction_names (record { name = x; subscripts = None }) right in
      let own : Option Name = own_variable x o in
      let pair : Bool = is_allowed_in_nest n xs own (e.Name x) && is_allowed_in_nest n xs own right in
      let q = both (is_scalar (declared_as n.declared x) && pair) (has_one_operator n x o) kept.rules in
      let r = both (is_scalar (declared_as n.declared x)) pair q.0 in
      let p = both (is_allowed_in_nest n xs own (e.Name x)) (is_allowed_in_nest n xs own right) r.1 in
      scalar_gives xs ys within x (declared_as n.declared x) (term_of n.declared [] right) own r.0 r.0 named.expressions.0.0
      (left_free (is_among x ys) named.uses.0.1) (both (may_be_named n xs own x) true p.0).0 (record { name = x; subscripts = None }) right refl
  assign_gives xs ys within x (Some ps) line right named kept =
      either (λ l. Gives (head.Assignment (record { name = x; subscripts = Some ps }) right ∷ []) (assigned_by (assignment l (term_of n.declared [] right))))
      (is_element ps) (Element (place_of n.declared x) (terms_of n.declared [] ps))
      (Section (place_of n.declared x) (section_subscripts n.declared [] (dims_of (declared_as n.declared x)) ps))
      (λ i. record { places = refl; quiet = tt; indices = tt }) (λ i. record { places = refl; quiet = tt; indices = tt })

  mutual
    pub block_gives : (xs ys : List Name) → Within xs ys → (b : syntax.Block) → AllByRecursion (IsNamed n.declared) (heads ys b) → AllByRecursion (IsKept n) (heads xs b)
        → Gives (inner_heads b) (assigned_in (resolved_block n.declared b))
    block_gives xs ys within syntax.Done named kept = nothing
    block_gives xs ys within (syntax.Then line s b) named kept =
        let m = all_split (IsNamed n.declared) (statement_heads ys line s) (heads ys b) named in
        let k = all_split (IsKept n) (statement_heads xs line s) (heads xs b) kept in
        join (heads_in s) (inner_heads b) (assigned_by (resolved n.declared s)) (assigned_in (resolved_block n.declared b))
        (statement_gives xs ys within line s m.0 k.0) (block_gives xs ys within b m.1 k.1)

    statement_gives : (xs ys : List Name) → Within xs ys → (line : ℕ) (s : syntax.Statement) → AllByRecursion (IsNamed n.declared) (statement_heads ys line s)
        → AllByRecursion (IsKept n) (statement_heads xs line s) → Gives (heads_in s) (assigned_by (resolved n.declared s))
    statement_gives xs ys within line (syntax.Assign left right) named kept =
        subst (λ st. Gives (head.Assignment left right ∷ []) (assigned_by st)) (sym (plain_assignment n xs line left right kept.0))
        (assign_gives xs ys within left.name left.subscripts line right named.0 kept.0)
    statement_gives xs ys within line (syntax.If arms rest) named kept =
        let m = all_split (IsNamed n.declared) (arm_heads ys arms) (else_heads ys rest) named in
        let k = all_split (IsKept n) (arm_heads xs arms) (else_heads xs rest) kept in
        join (heads_in_arms arms) (heads_in_rest rest) (assigned_in_arms (resolved_arms n.declared arms)) (assigned_in (resolved_otherwise n.declared rest))
        (arms_give xs ys within arms m.0 k.0) (else_gives xs ys within rest m.1 k.1)
    statement_gives xs ys within line (syntax.Do None axis b) named kept =
        let h = block_gives (xs ++ axis.index ∷ []) (ys ++ axis.index ∷ []) (within_more xs ys axis.index within) b named.1 kept.1 in
        record { places = h.places; quiet = h.quiet; indices = (named.0.uses.0.0, h.indices) }
    statement_gives xs ys within line (syntax.Do (Some m) axis b) named kept = absurd (true≢false (sym kept.1.0.rules))
    statement_gives xs ys within line (syntax.Where mask body others) named kept = nothing
    statement_gives xs ys within line (syntax.Forall axes mask body) named kept = nothing
    statement_gives xs ys within line (syntax.Print is) named kept = nothing
    statement_gives xs ys within line syntax.Stop named kept = nothing
    statement_gives xs ys within line syntax.Exit named kept = nothing
    statement_gives xs ys within line syntax.Cycle named kept = nothing
    statement_gives xs ys within line syntax.Continue named kept = nothing
    statement_gives xs ys within line (syntax.Redistribute d) named kept = nothing

    arms_give : (xs ys : List Name) → Within xs ys → (arms : syntax.Arms) → AllByRecursion (IsNamed n.declared) (arm_heads ys arms) → AllByRecursion (IsKept n) (arm_heads xs arms)
        → Gives (heads_in_arms arms) (assigned_in_arms (resolved_arms n.declared arms))
    arms_give xs ys within syntax.NoArm named kept = nothing
    arms_give xs ys within (syntax.Arm line test b arms) named kept =
        let m = all_split (IsNamed n.declared) (heads ys b) (arm_heads ys arms) named.1 in
        let k = all_split (IsKept n) (heads xs b) (arm_heads xs arms) kept.1 in
        join (inner_heads b) (heads_in_arms arms) (assigned_in (resolved_block n.declared b)) (assigned_in_arms (resolved_arms n.declared arms))
        (block_gives xs ys within b m.0 k.0) (arms_give xs ys within arms m.1 k.1)

    else_gives : (xs ys : List Name) → Within xs ys → (rest : syntax.Otherwise) → AllByRecursion (IsNamed n.declared) (else_heads ys rest) → AllByRecursion (IsKept n) (else_heads xs rest)
        → Gives (heads_in_rest rest) (assigned_in (resolved_otherwise n.declared rest))
    else_gives xs ys within syntax.Without named kept = nothing
    else_gives xs ys within (syntax.With b) named kept = block_gives xs ys within b named kept

-- ---- by the names of the nest

none_among : (x : Name) (is ys : List Name) (P : Name → Type 0) → AllByRecursion (λ y. P y × (is_among y is ≡ false)) ys → is_among x is ≡ true → is_among x ys ≡ false
none_among x is [] P h g = refl
none_among x is (y ∷ ys) P h g = by (bytes_eq x y) refl (none_among x is ys P h.1 g)
  where
    by : (b : Bool) → bytes_eq x y ≡ b → is_among x ys ≡ false → (b || is_among x ys) ≡ false
    by true f more = not_both (is_among x is) g (subst (λ q. is_among q is ≡ false) (sym ((bytes_eq-Decides x y).0 f)) h.0.1)
    by false f more = more

pub all_first : {A : Type 0} (P Q : A → Type 0) (xs : List A) → AllByRecursion (λ x. P x × Q x) xs → AllByRecursion P xs
all_first P Q [] h = tt
all_first P Q (x ∷ xs) h = (h.0.0, all_first P Q xs h.1)

-- no place of an index is assigned
pub quiet_places : (names : List Entry) (is ys : List Name) (k : ℕ) → AreDeclared names is → AllByRecursion (λ y. IsScalar names y × (is_among y is ≡ false)) ys
    → is_in k (map (place_of names) ys) ≡ true → is_in k (map (place_of names) is) ≡ false
quiet_places names is [] k d h g = absurd (true≢false (sym g))
quiet_places names is (y ∷ ys) k d h g = or_case (or_true (nat_eq k (place_of names y)) (is_in k (map (place_of names) ys)) g)
    (λ f. subst (λ q. is_in q (map (place_of names) is) ≡ false) (sym ((Decides-eqb k (place_of names y)).0 f)) (among_is names y is h.0.0.0 d ∙ h.0.1))
    (λ f. quiet_places names is ys k d h.1 f)

operators_named : (n : NestNames) (rs : List Name) (hs : List Head) → AreDeclared n.declared (flat_map scalar_assigned hs) → AllByRecursion (λ p. Declared n.declared p.variable) (flat_map (operators_of rs) hs)
operators_named n rs [] h = tt
operators_named n rs (head.Assignment left right ∷ hs) h =
    let s = all_split (Declared n.declared) (alone_names left.name left.subscripts) (flat_map scalar_assigned hs) h in
    all_join (λ p. Declared n.declared p.variable) (operator_of left.name (reduction_operator rs left right)) (flat_map (operators_of rs) hs) (one left.subscripts s.0) (operators_named n rs hs s.1)
  where
    by : (o : Option Join) → Declared n.declared left.name → AllByRecursion (λ p. Declared n.declared p.variable) (operator_of left.name o)
    by None d = tt
    by (Some o) d = (d, tt)

    one : (subs : Option Parts) → AreDeclared n.declared (alone_names left.name subs)
        → AllByRecursion (λ p. Declared n.declared p.variable) (operator_of left.name (reduction_operator rs (record { name = left.name; subscripts = subs }) right))
    one None d = by (reduction_operator rs (record { name = left.name; subscripts = None }) right) d.0
    one (Some ps) d = tt
operators_named n rs (head.MaskedAssignment mask left right ∷ hs) h = operators_named n rs hs h
operators_named n rs (head.ForallAssignment axes left right ∷ hs) h = operators_named n rs hs h
operators_named n rs (head.Condition c ∷ hs) h = operators_named n rs hs h
operators_named n rs (head.Independent m ∷ hs) h = operators_named n rs hs h
operators_named n rs (head.Do mark axis ∷ hs) h = operators_named n rs hs h
operators_named n rs (head.Where mask ∷ hs) h = operators_named n rs hs h
operators_named n rs (head.Forall axes mask ∷ hs) h = operators_named n rs hs h
operators_named n rs (head.Print is ∷ hs) h = operators_named n rs hs h
operators_named n rs (head.Transfer ∷ hs) h = operators_named n rs hs h
operators_named n rs (head.Redistribute d ∷ hs) h = operators_named n rs hs h

-- what isn't a scalar is none of the scalars that are assigned
no_array : (names : List Entry) (x : Name) → is_scalar (declared_as names x) ≡ false → (ys : List Name) → AllByRecursion (IsScalar names) ys → is_among x ys ≡ false
no_array names x f [] h = refl
no_array names x f (y ∷ ys) h = by (bytes_eq x y) refl (no_array names x f ys h.1)
  where
    by : (b : Bool) → bytes_eq x y ≡ b → is_among x ys ≡ false → (b || is_among x ys) ≡ false
    by true e more = absurd (true≢false (sym h.0.1 ∙ ap (λ q. is_scalar (declared_as names q)) (sym ((bytes_eq-Decides x y).0 e)) ∙ f))
    by false e more = more

-- what is among scalars is one
scalar_among : (names : List Entry) (x : Name) (ys : List Name) → AllByRecursion (IsScalar names) ys → is_among x ys ≡ true → is_scalar (declared_as names x) ≡ true
scalar_among names x ys h f = by (is_scalar (declared_as names x)) refl
  where
    by : (b : Bool) → is_scalar (declared_as names x) ≡ b → b ≡ true
    by true g = refl
    by false g = not_both (is_among x ys) f (no_array names x g ys h)

-- what joins the REDUCTION variables is over all numbers of 64 bits
joined_over : (x : Name) (u : Join) (a : Expression) → operator_in x a ≡ Some u → IsOverNumbers u
joined_over x u (e.Binary o a b) h = over_numbers o u (if_some_is (are_operands_of x o a b) (joined_by o) u h).1
joined_over x u (e.Call o (e.More (e.One a) (e.More (e.One b) e.End))) h = over_numbers o u (if_some_is (are_operands_of x o a b) (joined_by o) u h).1
joined_over x u a h = let none : None ≡ Some u = h in absurd cc

operator_over : (subs : Option Parts) (rs : List Name) (x : Name) (right : Expression) (u : Join) → operator_if subs rs x right ≡ Some u → IsOverNumbers u
operator_over None rs x right u h = joined_over x u right (if_some_is (is_among x rs) (operator_in x right) u h).1
operator_over (Some ps) rs x right u h = absurd cc

operators_over : (rs : List Name) (hs : List Head) → AllByRecursion (λ p. IsOverNumbers p.operator) (flat_map (operators_of rs) hs)
operators_over rs [] = tt
operators_over rs (head.Assignment left right ∷ hs) =
    all_join (λ p. IsOverNumbers p.operator) (operator_of left.name (reduction_operator rs left right)) (flat_map (operators_of rs) hs)
    (by (reduction_operator rs left right) (operator_over left.subscripts rs left.name right)) (operators_over rs hs)
  where
    by : (o : Option Join) → ((u : Join) → o ≡ Some u → IsOverNumbers u) → AllByRecursion (λ p. IsOverNumbers p.operator) (operator_of left.name o)
    by None f = tt
    by (Some u) f = (f u refl, tt)
operators_over rs (h ∷ hs) = operators_over rs hs

pub numbers_joined : (es : List Entry) (t : NamedNest) (k : ℕ) → IsOverNumbers (operators_of_nest (nest_names es t) k)
numbers_joined es t k =
    operator_at_over (λ p. p.variable) (λ p. p.operator) es (nest_names es t).operators
    (operators_hold (λ p. IsOverNumbers p.operator) [] (flat_map (operators_of (reductions t)) (inner_heads t.body)) tt (operators_over (reductions t) (inner_heads t.body))) k

-- the names of a nest meet the resolved nest, where its lists do
pub meets : (es : List Entry) (t : NamedNest) (nest : Nest) (body : Block) → Gives (nest_names es t) (inner_heads t.body) (assigned_in body)
    → AllByRecursion (IsScalar es) (nest_indices t ++ flat_map do_variable_of (inner_heads t.body))
    → ((x : Name) → Declared es x → is_in (place_of es x) nest.reduction ≡ is_among x (nest_names es t).reduction_names)
    → ((x : Name) → Declared es x → is_in (place_of es x) nest.new ≡ is_among x (nest_names es t).new_names)
    → Meets (nest_names es t) nest body
meets es t nest body h indices reduction new =
    let ys : List Name = flat_map scalar_assigned (inner_heads t.body) in
    let is : List Name = nest_indices t ++ flat_map do_variable_of (inner_heads t.body) in
    let scalars = all_first (IsScalar es) (λ x. is_among x (nest_names es t).indices ≡ false) ys h.quiet in
    let declared = all_first (Declared es) (λ x. is_scalar (declared_as es x) ≡ true) ys scalars in
    record {
      assigned = λ x d. ap (is_in (place_of es x)) h.places ∙ among_is es x ys d declared ∙ sym (among_all x [] ys);
      reduction = reduction;
      new = new;
      operators = operators_hold (λ p. Declared es p.variable) [] (flat_map (operators_of (reductions t)) (inner_heads t.body)) tt (operators_named (nest_names es t) (reductions t) (inner_heads t.body) declared);
      quiet = λ x d i. among_all x [] ys ∙ none_among x (nest_names es t).indices ys (IsScalar es) h.quiet i;
      arrays = λ x f. among_all x [] ys ∙ no_array es x f ys scalars;
      scalars = λ x i. scalar_among es x is indices (sym (among_all x [] is) ∙ i);
    }

-- ---- each statement with what is gathered

module _ (n : NestNames) where
  record Has (hs : List Head) : Type 0 where
    assigned : (x : Name) → is_among x (flat_map scalar_assigned hs) ≡ true → is_among x n.assigned ≡ true
    indices : (x : Name) → is_among x (flat_map do_variable_of hs) ≡ true → is_among x n.indices ≡ true
    operators : (x : Name) → list_any (λ p. bytes_eq x p.variable) (flat_map (operators_of n.reduction_names) hs) ≡ true → list_any (λ p. bytes_eq x p.variable) n.operators ≡ true

  rest : (h : Head) (hs : List Head) → Has (h ∷ hs) → Has hs
  rest h hs g = record {
    assigned = λ x f. g.assigned x (list_any-append (bytes_eq x) (scalar_assigned h) (flat_map scalar_assigned hs) ∙ or_right (is_among x (scalar_assigned h)) _ f);
    indices = λ x f. g.indices x (list_any-append (bytes_eq x) (do_variable_of h) (flat_map do_variable_of hs) ∙ or_right (is_among x (do_variable_of h)) _ f);
    operators = λ x f. g.operators x (list_any-append (λ p. bytes_eq x p.variable) (operators_of n.reduction_names h) (flat_map (operators_of n.reduction_names) hs)
        ∙ or_right (list_any (λ p. bytes_eq x p.variable) (operators_of n.reduction_names h)) _ f);
  }

  same_name : (x : Name) → bytes_eq x x ≡ true
  same_name x = (bytes_eq-Decides x x).1 refl

  gathered_at : (h : Head) (hs : List Head) → Has (h ∷ hs) → IsGathered n h
  gathered_at (head.Assignment left right) hs g = (
    each (alone_names left.name left.subscripts) (λ x f. g.assigned x
        (list_any-append (bytes_eq x) (alone_names left.name left.subscripts) (flat_map scalar_assigned hs) ∙ or_left (is_among x (alone_names left.name left.subscripts)) _ f)),
    λ o f. g.operators left.name (list_any-append (λ p. bytes_eq left.name p.variable) (operators_of n.reduction_names (head.Assignment left right)) (flat_map (operators_of n.reduction_names) hs)
        ∙ or_left (list_any (λ p. bytes_eq left.name p.variable) (operators_of n.reduction_names (head.Assignment left right))) _
        (ap (λ q. list_any (λ p. bytes_eq left.name p.variable) (operator_of left.name q)) f ∙ or_left (bytes_eq left.name left.name) false (same_name left.name))),
  )
    where
      each : (xs : List Name) → ((x : Name) → is_among x xs ≡ true → is_among x n.assigned ≡ true) → AllByRecursion (λ x. is_among x n.assigned ≡ true) xs
      each [] f = tt
      each (x ∷ xs) f = (f x (or_left (bytes_eq x x) (is_among x xs) (same_name x)), each xs (λ y h. f y (or_right (bytes_eq y x) (is_among y xs) h)))
  gathered_at (head.Do mark axis) hs g = g.indices axis.index (or_left (bytes_eq axis.index axis.index) (is_among axis.index (flat_map do_variable_of hs)) (same_name axis.index))
  gathered_at (head.MaskedAssignment mask left right) hs g = tt
  gathered_at (head.ForallAssignment axes left right) hs g = tt
  gathered_at (head.Condition c) hs g = tt
  gathered_at (head.Independent m) hs g = tt
  gathered_at (head.Where mask) hs g = tt
  gathered_at (head.Forall axes mask) hs g = tt
  gathered_at (head.Print is) hs g = tt
  gathered_at head.Transfer hs g = tt
  gathered_at (head.Redistribute d) hs g = tt

  all_gathered : (hs : List Head) → Has hs → AllByRecursion (IsGathered n) hs
  all_gathered [] g = tt
  all_gathered (h ∷ hs) g = (gathered_at h hs g, all_gathered hs (rest h hs g))

pub gathered : (es : List Entry) (t : NamedNest) → AllByRecursion (IsGathered (nest_names es t)) (inner_heads t.body)
gathered es t = all_gathered (nest_names es t) (inner_heads t.body) (record {
  assigned = λ x h. among_all x [] (flat_map scalar_assigned (inner_heads t.body)) ∙ h;
  indices = λ x h. among_all x [] (nest_indices t ++ flat_map do_variable_of (inner_heads t.body))
      ∙ list_any-append (bytes_eq x) (nest_indices t) (flat_map do_variable_of (inner_heads t.body)) ∙ or_right (is_among x (nest_indices t)) _ h;
  operators = λ x h. has_all [] (flat_map (operators_of (reductions t)) (inner_heads t.body)) (operators_added [] (flat_map (operators_of (reductions t)) (inner_heads t.body))) refl x h;
})
