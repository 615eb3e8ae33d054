-- What every path through the body of a nest that breaks no rule has assigned.
use Rattle.std.proofs.Common.{◌≡◌, ℕ, nat_eq, Bool, true, false, true≢false, List, [], ◌∷◌, ◌++◌, bytes_eq, cond, Option, Some, None, refl, sym, ap, ◌∙◌, subst, inl, inr, ◌⊎◌}
use Rattle.std.specs.Prelude.{◌&&◌, ◌||◌, not, if◌then◌else◌}
use Rattle.std.specs.List.{AllByRecursion, list_all}
use Rattle.std.proofs.lemmas.List.Folds.{list_any-append}
use Rattle.std.proofs.lemmas.Slice.Eq.{bytes_eq-Decides}
use Rattle.syntax_tree.specs.Expression.{Expression, Parts}
use Rattle.syntax_tree.specs.Statement as syntax
use Rattle.expression_rules.specs.Symbols.{Name, is_among}
use Rattle.statement_walk.specs.Head as head
use Rattle.statement_walk.specs.Heads.{heads, statement_heads, arm_heads, else_heads, placed}
use Rattle.name_table.specs.Entries.{declared_as}
use Rattle.name_table.specs.declared.names.What.{What}
use Rattle.name_table.specs.declared.names.What.TheVariants as what
use Rattle.body_forms.specs.Names.{is_scalar}
use Rattle.nest_check.specs.NestNames.{NestNames, added, all_added, alone as alone_names}
use Rattle.nest_check.specs.NestRules.{is_unassigned, may_be_read, subexpressions_after, is_readable, is_assignable}
use Rattle.nest_check.specs.Paths as by_name
use Rattle.nest_check.specs.Paths.{common, reached_heads, reached_in, reached_in_arms, reached_in_rest}
use Rattle.nest_syntax.specs.NestKinds.{Kind, New, has_copies}
use Rattle.array_meaning.specs.Terms.{Term, Number, Scalar, Element, Section, Apply, Reduce}
use Rattle.array_meaning.specs.Terms as term
use Rattle.array_meaning.specs.Resolution.{place_of, dims_of, is_element, alone, assignment, left_of, term_of, terms_of, section_subscripts, resolved, resolved_block, resolved_arms, resolved_otherwise}
use Rattle.name_table.proofs.Tests.{all_split, both}
use Rattle.well_formed.proofs.Expressions.{either}
use Rattle.nest_items.specs.Paths.{IsReadable, PathsAssign, PathAssigns, ArmsAssign, assigned_after, assigned_after_statement, assigned_after_arms}
use Rattle.nest_standing.specs.Named.{Declared, IsNamed}
use Rattle.nest_standing.proofs.Ruled.{IsKept, IsReached, Tied}
use Rattle.nest_standing.proofs.PlacesOf.{place_eq}
use Rattle.nest_standing.proofs.Bodies.{two, or_true}
use Rattle.nest_standing.proofs.Exprs.{or_case, or_left, or_right, readable}
use Rattle.nest_standing.proofs.Assignments.{assignable, plain_assignment}

common_both : (x : Name) (xs ys : List Name) → is_among x (common xs ys) ≡ true → (is_among x xs ≡ true) × (is_among x ys ≡ true)
common_both x [] ys h = absurd (true≢false (sym h))
common_both x (z ∷ zs) ys h = by (is_among z ys) refl h (common_both x zs ys)
  where
    by : (b : Bool) → is_among z ys ≡ b → is_among x (cond b (z ∷ common zs ys) (common zs ys)) ≡ true
        → (is_among x (common zs ys) ≡ true → (is_among x zs ≡ true) × (is_among x ys ≡ true)) → ((bytes_eq x z || is_among x zs) ≡ true) × (is_among x ys ≡ true)
    by true f g more = or_case (or_true (bytes_eq x z) (is_among x (common zs ys)) g)
        (λ s. (or_left (bytes_eq x z) (is_among x zs) s, subst (λ q. is_among q ys ≡ true) (sym ((bytes_eq-Decides x z).0 s)) f))
        (λ r. (or_right (bytes_eq x z) (is_among x zs) (more r).0, (more r).1))
    by false f g more = (or_right (bytes_eq x z) (is_among x zs) (more g).0, (more g).1)

only_common : (x : Name) (zs ws : List Name) (arms : syntax.Arms) → is_among x (by_name.assigned_by_arms zs ws arms) ≡ true → is_among x ws ≡ true
only_common x zs ws syntax.NoArm h = h
only_common x zs ws (syntax.Arm line test b arms) h =
    (common_both x ws (by_name.assigned_after zs b) (only_common x zs (common ws (by_name.assigned_after zs b)) arms h)).0

added_case : (x y : Name) (zs : List Name) → is_among y (added zs x) ≡ true → (is_among y zs ≡ true) ⊎ (bytes_eq y x ≡ true)
added_case x y zs h = by (is_among x zs) h
  where
    by : (b : Bool) → is_among y (if b then zs else zs ++ x ∷ []) ≡ true → (is_among y zs ≡ true) ⊎ (bytes_eq y x ≡ true)
    by true g = inl g
    by false g = or_case (or_true (is_among y zs) (bytes_eq y x || false) (sym (list_any-append (bytes_eq y) zs (x ∷ [])) ∙ g)) inl
        (λ r. or_case (or_true (bytes_eq y x) false r) inr (λ f. absurd (true≢false (sym f))))

assigns_readable : (kinds : ℕ → Kind) (before : ℕ → Bool) (l t : Term) → IsReadable kinds before t → PathAssigns kinds before (assignment l t)
assigns_readable kinds before (Scalar k) t h = h
assigns_readable kinds before (Element a ts) t h = h
assigns_readable kinds before (Section a subs) t h = tt
assigns_readable kinds before (Number v) t h = tt
assigns_readable kinds before (term.Index k) t h = tt
assigns_readable kinds before (Apply o ts) t h = tt
assigns_readable kinds before (Reduce o u) t h = tt

module _ (n : NestNames) (kinds : ℕ → Kind) (tied : Tied n kinds) where
  -- what names say is assigned, places do
  abbrev pub Grown : List Name → (ℕ → Bool) → Type 0
  Grown zs before = (x : Name) → Declared n.declared x → is_among x zs ≡ true → before (place_of n.declared x) ≡ true

  unassigned_by : (w i z : Bool) → w ≡ true → (w && not (i || z)) ≡ false → (i ≡ true) ⊎ (z ≡ true)
  unassigned_by true true z f h = inl refl
  unassigned_by true false true f h = inr refl
  unassigned_by true false false f h = absurd (true≢false h)
  unassigned_by false i z f h = absurd (true≢false (sym f))

  known_assigned : (zs : List Name) (before : ℕ → Bool) → Grown zs before → (x : Name) → Declared n.declared x → kinds (place_of n.declared x) ≡ New
      → is_unassigned n zs x ≡ false → before (place_of n.declared x) ≡ true
  known_assigned zs before grown x d new h =
      or_case (unassigned_by (is_among x n.new_names) (is_among x n.indices) (is_among x zs) (tied.new x d new) h)
      (λ i. absurd (true≢false (sym (ap has_copies new) ∙ tied.copies x d ∙ tied.quiet x d i))) (λ z. grown x d z)

  grown_scalar : (zs : List Name) (before : ℕ → Bool) (x : Name) (w : Option What) (t : Term) → Grown zs before → is_scalar w ≡ true → Declared n.declared x
      → Grown (added zs x) (assigned_after_statement before (assignment (alone None (place_of n.declared x) w) t))
  grown_scalar zs before x (Some (what.Scalar v)) t g s d = λ y dy h.
      or_case (added_case x y zs h)
      (λ z. or_left (before (place_of n.declared y)) (nat_eq (place_of n.declared x) (place_of n.declared y)) (g y dy z))
      (λ b. or_right (before (place_of n.declared y)) (nat_eq (place_of n.declared x) (place_of n.declared y))
      (place_eq n.declared x y d dy ∙ (bytes_eq-Decides x y).1 (sym ((bytes_eq-Decides y x).0 b))))
  grown_scalar zs before x (Some (what.Constant v)) t g s d = absurd (true≢false (sym s))
  grown_scalar zs before x (Some (what.Array ds v)) t g s d = absurd (true≢false (sym s))
  grown_scalar zs before x (Some what.Template) t g s d = absurd (true≢false (sym s))
  grown_scalar zs before x (Some what.Arrangement) t g s d = absurd (true≢false (sym s))
  grown_scalar zs before x None t g s d = absurd (true≢false (sym s))

  grown_assign : (zs : List Name) (before : ℕ → Bool) (x : Name) (subs : Option Parts) (t : Term) → Grown zs before → is_assignable n x subs ≡ true → Declared n.declared x
      → Grown (all_added zs (alone_names x subs)) (assigned_after_statement before (assignment (left_of n.declared [] (record { name = x; subscripts = subs })) t))
  grown_assign zs before x None t g s d = grown_scalar zs before x (declared_as n.declared x) t g s d
  grown_assign zs before x (Some ps) t g s d =
      either (λ l. Grown zs (assigned_after_statement before (assignment l t))) (is_element ps) (Element (place_of n.declared x) (terms_of n.declared [] ps))
      (Section (place_of n.declared x) (section_subscripts n.declared [] (dims_of (declared_as n.declared x)) ps)) (λ i. g) (λ i. g)

  left_declared : (ys : List Name) (x : Name) (subs : Option Parts) (line : ℕ) (right : Expression)
      → IsNamed n.declared (placed ys line (head.Assignment (record { name = x; subscripts = subs }) right)) → Declared n.declared x
  left_declared ys x None line right named = named.expressions.0.0
  left_declared ys x (Some ps) line right named = named.expressions.0.0

  mutual
    grown_block : (xs ys zs : List Name) (before : ℕ → Bool) → Grown zs before → (b : syntax.Block) → AllByRecursion (IsNamed n.declared) (heads ys b) → AllByRecursion (IsKept n) (heads xs b)
        → Grown (by_name.assigned_after zs b) (assigned_after before (resolved_block n.declared b))
    grown_block xs ys zs before g syntax.Done named kept = g
    grown_block xs ys zs before g (syntax.Then line s b) named kept =
        let m = all_split (IsNamed n.declared) (statement_heads ys line s) (heads ys b) named in
        let k = all_split (IsKept n) (statement_heads xs line s) (heads xs b) kept in
        grown_block xs ys (by_name.assigned_by zs s) (assigned_after_statement before (resolved n.declared s)) (grown_statement xs ys zs before g line s m.0 k.0) b m.1 k.1

    grown_statement : (xs ys zs : List Name) (before : ℕ → Bool) → Grown zs before → (line : ℕ) (s : syntax.Statement) → AllByRecursion (IsNamed n.declared) (statement_heads ys line s)
        → AllByRecursion (IsKept n) (statement_heads xs line s) → Grown (by_name.assigned_by zs s) (assigned_after_statement before (resolved n.declared s))
    grown_statement xs ys zs before g line (syntax.Assign left right) named kept =
        subst (λ st. Grown (by_name.assigned_by zs (syntax.Assign left right)) (assigned_after_statement before st)) (sym (plain_assignment n xs line left right kept.0))
        (grown_assign zs before left.name left.subscripts (term_of n.declared [] right) g (assignable n xs left.name left.subscripts line right kept.0)
        (left_declared ys left.name left.subscripts line right named.0))
    grown_statement xs ys zs before g line (syntax.If arms rest) named kept =
        let m = all_split (IsNamed n.declared) (arm_heads ys arms) (else_heads ys rest) named in
        let k = all_split (IsKept n) (arm_heads xs arms) (else_heads xs rest) kept in
        grown_arms xs ys zs before g (by_name.assigned_by_rest zs rest) (assigned_after before (resolved_otherwise n.declared rest)) (grown_else xs ys zs before g rest m.1 k.1) arms m.0 k.0
    grown_statement xs ys zs before g line (syntax.Do None axis b) named kept = g
    grown_statement xs ys zs before g line (syntax.Do (Some m) axis b) named kept = g
    grown_statement xs ys zs before g line (syntax.Where mask body others) named kept = g
    grown_statement xs ys zs before g line (syntax.Forall axes mask body) named kept = g
    grown_statement xs ys zs before g line (syntax.Print is) named kept = g
    grown_statement xs ys zs before g line syntax.Stop named kept = g
    grown_statement xs ys zs before g line syntax.Exit named kept = g
    grown_statement xs ys zs before g line syntax.Cycle named kept = g
    grown_statement xs ys zs before g line syntax.Continue named kept = g
    grown_statement xs ys zs before g line (syntax.Redistribute d) named kept = g

    grown_arms : (xs ys zs : List Name) (before : ℕ → Bool) → Grown zs before → (ws : List Name) (other : ℕ → Bool) → Grown ws other → (arms : syntax.Arms)
        → AllByRecursion (IsNamed n.declared) (arm_heads ys arms) → AllByRecursion (IsKept n) (arm_heads xs arms)
        → Grown (by_name.assigned_by_arms zs ws arms) (assigned_after_arms before (resolved_arms n.declared arms) other)
    grown_arms xs ys zs before g ws other go syntax.NoArm named kept = go
    grown_arms xs ys zs before g ws other go (syntax.Arm line test b arms) named kept = λ x d h.
        let m = all_split (IsNamed n.declared) (heads ys b) (arm_heads ys arms) named.1 in
        let k = all_split (IsKept n) (heads xs b) (arm_heads xs arms) kept.1 in
        let after_b : List Name = by_name.assigned_after zs b in
        let c = common_both x ws after_b (only_common x zs (common ws after_b) arms h) in
        two (assigned_after before (resolved_block n.declared b) (place_of n.declared x)) (assigned_after_arms before (resolved_arms n.declared arms) other (place_of n.declared x))
        (grown_block xs ys zs before g b m.0 k.0 x d c.1)
        (grown_arms xs ys zs before g (common ws after_b) other (λ y dy f. go y dy (common_both y ws after_b f).0) arms m.1 k.1 x d h)

    grown_else : (xs ys zs : List Name) (before : ℕ → Bool) → Grown zs before → (rest : syntax.Otherwise) → AllByRecursion (IsNamed n.declared) (else_heads ys rest)
        → AllByRecursion (IsKept n) (else_heads xs rest) → Grown (by_name.assigned_by_rest zs rest) (assigned_after before (resolved_otherwise n.declared rest))
    grown_else xs ys zs before g syntax.Without named kept = g
    grown_else xs ys zs before g (syntax.With b) named kept = grown_block xs ys zs before g b named kept

  mutual
    pub paths_assign : (xs ys zs : List Name) (c : Bool) (before : ℕ → Bool) → Grown zs before → (b : syntax.Block) → AllByRecursion (IsNamed n.declared) (heads ys b)
        → AllByRecursion (IsKept n) (heads xs b) → AllByRecursion (IsReached n) (reached_heads c zs b) → PathsAssign kinds before (resolved_block n.declared b)
    paths_assign xs ys zs c before g syntax.Done named kept reach = tt
    paths_assign xs ys zs c before g (syntax.Then line s b) named kept reach =
        let m = all_split (IsNamed n.declared) (statement_heads ys line s) (heads ys b) named in
        let k = all_split (IsKept n) (statement_heads xs line s) (heads xs b) kept in
        let r = all_split (IsReached n) (reached_in c zs line s) (reached_heads c (by_name.assigned_by zs s) b) reach in (
          path_assigns xs ys zs c before g line s m.0 k.0 r.0,
          paths_assign xs ys (by_name.assigned_by zs s) c (assigned_after_statement before (resolved n.declared s)) (grown_statement xs ys zs before g line s m.0 k.0) b m.1 k.1 r.1,
        )

    path_assigns : (xs ys zs : List Name) (c : Bool) (before : ℕ → Bool) → Grown zs before → (line : ℕ) (s : syntax.Statement) → AllByRecursion (IsNamed n.declared) (statement_heads ys line s)
        → AllByRecursion (IsKept n) (statement_heads xs line s) → AllByRecursion (IsReached n) (reached_in c zs line s) → PathAssigns kinds before (resolved n.declared s)
    path_assigns xs ys zs c before g line (syntax.Assign left right) named kept reach =
        subst (PathAssigns kinds before) (sym (plain_assignment n xs line left right kept.0))
        (assigns_readable kinds before (left_of n.declared [] left) (term_of n.declared [] right)
        (readable n kinds tied zs before (known_assigned zs before g) right named.0.expressions.1.0
        (both (list_all (may_be_read n zs) (subexpressions_after left.subscripts)) (is_readable n zs right) reach.0).1))
    path_assigns xs ys zs c before g line (syntax.If arms rest) named kept reach =
        let m = all_split (IsNamed n.declared) (arm_heads ys arms) (else_heads ys rest) named in
        let k = all_split (IsKept n) (arm_heads xs arms) (else_heads xs rest) kept in
        let r = all_split (IsReached n) (reached_in_arms zs arms) (reached_in_rest zs rest) reach in
        (arms_assign xs ys zs before g arms m.0 k.0 r.0, else_assigns xs ys zs before g rest m.1 k.1 r.1)
    path_assigns xs ys zs c before g line (syntax.Do None axis b) named kept reach =
        paths_assign (xs ++ axis.index ∷ []) (ys ++ axis.index ∷ []) zs c before g b named.1 kept.1 reach.1
    path_assigns xs ys zs c before g line (syntax.Do (Some m) axis b) named kept reach = absurd (true≢false (sym kept.1.0.rules))
    path_assigns xs ys zs c before g line (syntax.Where mask body others) named kept reach = tt
    path_assigns xs ys zs c before g line (syntax.Forall axes mask body) named kept reach = tt
    path_assigns xs ys zs c before g line (syntax.Print is) named kept reach = tt
    path_assigns xs ys zs c before g line syntax.Stop named kept reach = tt
    path_assigns xs ys zs c before g line syntax.Exit named kept reach = tt
    path_assigns xs ys zs c before g line syntax.Cycle named kept reach = tt
    path_assigns xs ys zs c before g line syntax.Continue named kept reach = tt
    path_assigns xs ys zs c before g line (syntax.Redistribute d) named kept reach = tt

    arms_assign : (xs ys zs : List Name) (before : ℕ → Bool) → Grown zs before → (arms : syntax.Arms) → AllByRecursion (IsNamed n.declared) (arm_heads ys arms)
        → AllByRecursion (IsKept n) (arm_heads xs arms) → AllByRecursion (IsReached n) (reached_in_arms zs arms) → ArmsAssign kinds before (resolved_arms n.declared arms)
    arms_assign xs ys zs before g syntax.NoArm named kept reach = tt
    arms_assign xs ys zs before g (syntax.Arm line test b arms) named kept reach =
        let m = all_split (IsNamed n.declared) (heads ys b) (arm_heads ys arms) named.1 in
        let k = all_split (IsKept n) (heads xs b) (arm_heads xs arms) kept.1 in
        let r = all_split (IsReached n) (reached_heads true zs b) (reached_in_arms zs arms) reach.1 in (
          readable n kinds tied zs before (known_assigned zs before g) test named.0.expressions.0 reach.0,
          paths_assign xs ys zs true before g b m.0 k.0 r.0,
          arms_assign xs ys zs before g arms m.1 k.1 r.1,
        )

    else_assigns : (xs ys zs : List Name) (before : ℕ → Bool) → Grown zs before → (rest : syntax.Otherwise) → AllByRecursion (IsNamed n.declared) (else_heads ys rest)
        → AllByRecursion (IsKept n) (else_heads xs rest) → AllByRecursion (IsReached n) (reached_in_rest zs rest) → PathsAssign kinds before (resolved_otherwise n.declared rest)
    else_assigns xs ys zs before g syntax.Without named kept reach = tt
    else_assigns xs ys zs before g (syntax.With b) named kept reach = paths_assign xs ys zs true before g b named kept reach
