-- A constant expression over the declared constants has its value in the resolved program too.
use Rattle.std.proofs.Common.{◌≡◌, Bool, true, false, true≢false, List, [], ◌∷◌, length, map, cond, bytes_eq, Option, Some, None, refl, sym, ap, ap₂, ◌∙◌, subst, ℤ, pos, ◌⊎◌, inl, inr, ⊎_elim}
use Rattle.std.specs.Prelude.{◌||◌, not, option_and_then, unwrap_or, if◌then◌else◌}
use Rattle.std.proofs.lemmas.Option.{same_Some}
use Rattle.std.proofs.lemmas.Slice.Eq.{bytes_eq-Decides}
use Rattle.op_tables.specs.declared.op.Op.{Op}
use Rattle.op_tables.specs.Arguments.{takes, is_reduction, is_transformation, is_inquiry, is_processor_count}
use Rattle.op_tables.specs.Operators.{operator_value, is_zero, truth}
use Rattle.syntax_tree.specs.Expression as e
use Rattle.syntax_tree.specs.Expression.{Expression, Parts}
use Rattle.expression_rules.specs.declared.dims.Dim.{Dim}
use Rattle.expression_rules.specs.declared.evaluated.Evaluated.{Evaluated}
use Rattle.expression_rules.specs.declared.evaluated.Evaluated.TheVariants.{Invalid, Unknown, Known}
use Rattle.expression_rules.specs.declared.symbols.Symbol.{Symbol}
use Rattle.expression_rules.specs.declared.symbols.Symbol.TheVariants as symbol
use Rattle.expression_rules.specs.Constants.{with_more, unless_zero, operated, elemental_value, inquired, of_dimensions, of_array, processor_count, value_of_symbol, named_first, value, values, values_after}
use Rattle.expression_rules.specs.Symbols.{Name, SymbolTable, find}
use Rattle.name_table.specs.Entries.{declared_as, entry, what_is}
use Rattle.name_table.specs.declared.names.Entry.{Entry}
use Rattle.name_table.specs.declared.names.What.{What}
use Rattle.name_table.specs.declared.names.What.TheVariants as what
use Rattle.nest_check.specs.NestNames.{with_constant, with_constants, constant_symbols}
use Rattle.nest_check.specs.NestRules.{is_nonzero}
use Rattle.array_meaning.specs.Terms.{Term, Number, Scalar, Index, Element, Section, Apply, Reduce, Terms, NoTerm, More}
use Rattle.array_meaning.specs.Resolution.{place_of, dims_of, alone, constant, constants, or_zero, inquiry, first_named, first_term, term_of, terms_of}
use Rattle.well_formed.proofs.Dimensions.{declared_found}
use Rattle.nest_syntax.specs.ClosedTerms.{with_closed, closed_value, closed_values}
use Rattle.nest_items.specs.NestForm.{IsStep}
use Rattle.nest_standing.specs.KeptNests.{StepsAre}
use Rattle.nest_standing.proofs.DistinctNames.{NoRepeat, found_other, found_self}

-- ---- what the table of constants has

-- a constant with its value, or an array with its bounds
abbrev Stands : What → Symbol → Type 0
Stands w (symbol.Constant o) = (v : ℤ) × (o ≡ Some v) × (w ≡ what.Constant v)
Stands w (symbol.Array r o n) = (ds : List Dim) × (u : ℤ) × (o ≡ Some ds) × (w ≡ what.Array ds u)
Stands w s = ⊥

some_symbol : (a b : Symbol) → Some a ≡ Some b → a ≡ b
some_symbol a b h = same_Some a b h

abbrev array_symbol : List Dim → ℤ → Symbol
array_symbol ds u = symbol.Array (length ds) (Some ds) (Some u)

-- after one entry more: what was there, or that entry
one_more : (t : SymbolTable) (x y : Name) (w : What) (s : Symbol) → find x (with_constant t y w) ≡ Some s → (find x t ≡ Some s) ⊎ ((bytes_eq x y ≡ true) × Stands w s)
one_more t x y (what.Constant v) s h = by (bytes_eq x y) refl where
  by : (b : Bool) → bytes_eq x y ≡ b → (find x t ≡ Some s) ⊎ ((bytes_eq x y ≡ true) × Stands (what.Constant v) s)
  by true g = inr (g, subst (Stands (what.Constant v)) (some_symbol (symbol.Constant (Some v)) s (sym (found_self x y (symbol.Constant (Some v)) t g) ∙ h)) (v, refl, refl))
  by false g = inl (sym (found_other x y (symbol.Constant (Some v)) t g) ∙ h)
one_more t x y (what.Array ds u) s h = by (bytes_eq x y) refl where
  by : (b : Bool) → bytes_eq x y ≡ b → (find x t ≡ Some s) ⊎ ((bytes_eq x y ≡ true) × Stands (what.Array ds u) s)
  by true g = inr (g, subst (Stands (what.Array ds u)) (some_symbol (array_symbol ds u) s (sym (found_self x y (array_symbol ds u) t g) ∙ h)) (ds, u, refl, refl))
  by false g = inl (sym (found_other x y (array_symbol ds u) t g) ∙ h)
one_more t x y (what.Scalar v) s h = inl h
one_more t x y what.Template s h = inl h
one_more t x y what.Arrangement s h = inl h

abbrev HasStood : SymbolTable → Name → Symbol → Type 0
HasStood t x s = (r : Symbol) × (find x t ≡ Some r) × Stands (what_is r) s

none_some : (s : Symbol) → None ≡ Some s → ⊥
none_some s h = absurd cc

all_more : (k : SymbolTable) (x : Name) (s : Symbol) (t : SymbolTable) → NoRepeat t → find x (with_constants k (map entry t)) ≡ Some s → (find x k ≡ Some s) ⊎ HasStood t x s
all_more k x s [] once h = inl h
all_more k x s (a ∷ es) once h = ⊎_elim
    (λ l. ⊎_elim (λ m. inl m) (λ m. inr (a.1, ap (λ b. cond b (Some a.1) (find x es)) m.0, m.1)) (one_more k x a.0 (what_is a.1) s l))
    (λ r. inr (r.0, later (bytes_eq x a.0) refl r.0 r.1, r.2))
    (all_more (with_constant k a.0 (what_is a.1)) x s es once.1 h)
  where
    later : (b : Bool) → bytes_eq x a.0 ≡ b → (r : Symbol) → find x es ≡ Some r → cond b (Some a.1) (find x es) ≡ Some r
    later true g r f = absurd (none_some r (sym (ap (λ q. find q es) ((bytes_eq-Decides x a.0).0 g) ∙ once.0) ∙ f))
    later false g r f = f

stood : (t : SymbolTable) → NoRepeat t → (x : Name) (s : Symbol) → find x (constant_symbols (map entry t)) ≡ Some s → (w : What) × (declared_as (map entry t) x ≡ Some w) × Stands w s
stood t once x s h = ⊎_elim
    (λ l. absurd (none_some s l))
    (λ r. (what_is r.0, declared_found x t r.0 r.1, r.2))
    (all_more [] x s t once h)

-- ---- values

known_same : (a b : ℤ) → (let p : Evaluated ℤ = Known a in p) ≡ Known b → a ≡ b
known_same a b h = cc

known_list : (a b : List ℤ) → (let p : Evaluated (List ℤ) = Known a in p) ≡ Known b → a ≡ b
known_list a b h = cc

abbrev More2 : Evaluated ℤ → Evaluated (List ℤ) → List ℤ → Type 0
More2 a b ns = (n : ℤ) × (ms : List ℤ) × (a ≡ Known n) × (b ≡ Known ms) × (n ∷ ms ≡ ns)

more_known : (a : Evaluated ℤ) (b : Evaluated (List ℤ)) (ns : List ℤ) → with_more a b ≡ Known ns → More2 a b ns
more_known (Known n) (Known ms) ns h = (n, ms, refl, refl, known_list (n ∷ ms) ns h)
more_known (Known n) Invalid ns h = absurd cc
more_known (Known n) Unknown ns h = absurd cc
more_known Invalid b ns h = absurd cc
more_known Unknown Invalid ns h = absurd cc
more_known Unknown Unknown ns h = absurd cc
more_known Unknown (Known ms) ns h = absurd cc

unless_known : (o : Option ℤ) (v : ℤ) → unless_zero o ≡ Known v → o ≡ Some v
unless_known (Some n) v h = ap Some (known_same n v h)
unless_known None v h = absurd cc

operated_known : (o : Op) (r : Evaluated (List ℤ)) (v : ℤ) → operated o r ≡ Known v → (ns : List ℤ) × (r ≡ Known ns) × (operator_value o ns ≡ Some v)
operated_known o (Known ns) v h = (ns, refl, unless_known (operator_value o ns) v h)
operated_known o Unknown v h = absurd cc
operated_known o Invalid v h = absurd cc

elemental_known : (o : Op) (r : Evaluated (List ℤ)) (v : ℤ) → elemental_value o r ≡ Known v → (ns : List ℤ) × (r ≡ Known ns) × (operator_value o ns ≡ Some v)
elemental_known o (Known ns) v h = by (takes o (length ns)) h where
  by : (b : Bool) → (if b then operated o (Known ns) else Unknown) ≡ Known v → (ms : List ℤ) × ((let p : Evaluated (List ℤ) = Known ns in p) ≡ Known ms) × (operator_value o ms ≡ Some v)
  by true g = (ns, refl, unless_known (operator_value o ns) v g)
  by false g = absurd cc
elemental_known o Unknown v h = absurd cc
elemental_known o Invalid v h = absurd cc

-- ---- resolved constants

applied_is : (o : Op) (ts : Terms) (r : Option (List ℤ)) (v : ℤ) → ((ns : List ℤ) → r ≡ Some ns → constants ts ≡ ns) → option_and_then (operator_value o) r ≡ Some v
    → unwrap_or (operator_value o (constants ts)) (pos 0) ≡ v
applied_is o ts (Some ns) v f g = ap (λ ms. unwrap_or (operator_value o ms) (pos 0)) (f ns refl) ∙ ap (λ q. unwrap_or q (pos 0)) g
applied_is o ts None v f g = absurd cc

more_are : (t : Term) (ts : Terms) (a : Option ℤ) (b : Option (List ℤ)) (ns : List ℤ) → ((n : ℤ) → a ≡ Some n → constant t ≡ n)
    → ((ms : List ℤ) → b ≡ Some ms → constants ts ≡ ms) → with_closed a b ≡ Some ns → constant t ∷ constants ts ≡ ns
more_are t ts (Some n) (Some ms) ns f g h = ap₂ (λ x xs. x ∷ xs) (f n refl) (g ms refl) ∙ same_Some (n ∷ ms) ns h
more_are t ts (Some n) None ns f g h = absurd cc
more_are t ts None b ns f g h = absurd cc

mutual
  constant_is : (t : Term) (v : ℤ) → closed_value t ≡ Some v → constant t ≡ v
  constant_is (Number n) v h = same_Some n v h
  constant_is (Apply o ts) v h = applied_is o ts (closed_values ts) v (λ ns f. constants_are ts ns f) h
  constant_is (Scalar k) v h = absurd cc
  constant_is (Index k) v h = absurd cc
  constant_is (Element a ts) v h = absurd cc
  constant_is (Section a subs) v h = absurd cc
  constant_is (Reduce o t) v h = absurd cc

  constants_are : (ts : Terms) (ns : List ℤ) → closed_values ts ≡ Some ns → constants ts ≡ ns
  constants_are NoTerm ns h = same_Some [] ns h
  constants_are (More t ts) ns h = more_are t ts (closed_value t) (closed_values ts) ns (λ n f. constant_is t n f) (λ ms f. constants_are ts ms f) h

module _ (t : SymbolTable) (once : NoRepeat t) where
  abbrev names : List Entry
  names = map entry t

  abbrev table : SymbolTable
  table = constant_symbols names

  -- a name by itself
  alone_closed : (x : Name) (s : Option Symbol) (v : ℤ) → find x table ≡ s → value_of_symbol s ≡ Known v → closed_value (alone None (place_of names x) (declared_as names x)) ≡ Some v
  alone_closed x (Some (symbol.Constant (Some n))) v f h =
      let m = stood t once x (symbol.Constant (Some n)) f in
      ap (λ w. closed_value (alone None (place_of names x) w)) (m.1 ∙ ap Some m.2.2) ∙ sym m.2.1 ∙ ap Some (known_same n v h)
  alone_closed x (Some (symbol.Constant None)) v f h = absurd cc
  alone_closed x (Some symbol.Uninitialized) v f h = absurd cc
  alone_closed x (Some (symbol.Initialized n)) v f h = absurd cc
  alone_closed x (Some (symbol.Array r ds n)) v f h = absurd cc
  alone_closed x (Some (symbol.Template r)) v f h = absurd cc
  alone_closed x (Some (symbol.Arrangement r)) v f h = absurd cc
  alone_closed x None v f h = absurd cc

  -- SIZE, LBOUND and UBOUND
  array_dims : (x : Name) (s : Option Symbol) (ns : Evaluated (List ℤ)) (o : Op) (v : ℤ) → find x table ≡ s → of_array None o s ns ≡ Known v
      → (ms : List ℤ) × (ns ≡ Known ms) × (inquired None o (dims_of (declared_as names x)) ms ≡ Known v)
  array_dims x (Some (symbol.Array r o' n)) ns o v f h =
      let m = stood t once x (symbol.Array r o' n) f in
      let d = of_known m.2.0 ns (subst (λ q. of_dimensions None o q ns ≡ Known v) m.2.2 h) in
      (d.0, d.1, ap (λ w. inquired None o (dims_of w) d.0) (m.1 ∙ ap Some m.2.3) ∙ d.2)
    where
      of_known : (ds : List Dim) (ns : Evaluated (List ℤ)) → of_dimensions None o (Some ds) ns ≡ Known v → (ms : List ℤ) × (ns ≡ Known ms) × (inquired None o ds ms ≡ Known v)
      of_known ds (Known ms) g = (ms, refl, g)
      of_known ds Unknown g = absurd cc
      of_known ds Invalid g = absurd cc
  array_dims x (Some (symbol.Constant n)) ns o v f h = absurd cc
  array_dims x (Some symbol.Uninitialized) ns o v f h = absurd cc
  array_dims x (Some (symbol.Initialized n)) ns o v f h = absurd cc
  array_dims x (Some (symbol.Template r)) ns o v f h = absurd cc
  array_dims x (Some (symbol.Arrangement r)) ns o v f h = absurd cc
  array_dims x None ns o v f h = absurd cc

  unnamed : (o : Op) (ns : Evaluated (List ℤ)) (v : ℤ) → of_array None o None ns ≡ Known v → ⊥
  unnamed o ns v h = absurd cc

  called_closed : (o : Op) (ps : Parts) (v : ℤ) → ((ns : List ℤ) → values None table ps ≡ Known ns → closed_values (terms_of names [] ps) ≡ Some ns)
      → (of_array None o (named_first table ps) (values_after None table ps) ≡ Known v → closed_value (inquiry o (dims_of (first_named names ps)) (terms_of names [] ps)) ≡ Some v)
      → value None table (e.Call o ps) ≡ Known v → closed_value (term_of names [] (e.Call o ps)) ≡ Some v
  called_closed o ps v all inquired h = by (is_inquiry o) (is_processor_count o) (is_reduction o) (is_transformation o) h
    where
      by : (i p r m : Bool) → (if i then of_array None o (named_first table ps) (values_after None table ps)
          else (if p then processor_count None (values None table ps) else (if r || m then Invalid else elemental_value o (values None table ps)))) ≡ Known v
          → closed_value (if i then inquiry o (dims_of (first_named names ps)) (terms_of names [] ps)
          else (if r then Reduce o (first_term (terms_of names [] ps)) else Apply o (terms_of names [] ps))) ≡ Some v
      by true p r m g = inquired g
      by false true r m g = absurd cc
      by false false true m g = absurd cc
      by false false false true g = absurd cc
      by false false false false g =
          let s = elemental_known o (values None table ps) v g in
          ap (option_and_then (operator_value o)) (all s.0 s.1) ∙ s.2

  mutual
    value_closed : (x : Expression) (v : ℤ) → value None table x ≡ Known v → closed_value (term_of names [] x) ≡ Some v
    value_closed (e.Number n) v h = ap Some (known_same n v h)
    value_closed (e.Truth b) v h = ap Some (known_same (truth b) v h)
    value_closed (e.Name x) v h = alone_closed x (find x table) v refl h
    value_closed (e.Element x ps) v h = absurd cc
    value_closed (e.Closed a) v h = value_closed a v h
    value_closed (e.Unary o a) v h =
        let m = operated_known o (with_more (value None table a) (Known [])) v h in
        let q = more_known (value None table a) (Known []) m.0 m.1 in
        ap (λ c. option_and_then (operator_value o) (with_closed c (Some []))) (value_closed a q.0 q.2)
        ∙ ap (λ ms. operator_value o (q.0 ∷ ms)) (known_list [] q.1 q.3) ∙ ap (operator_value o) q.4 ∙ m.2
    value_closed (e.Binary o a b) v h =
        let m = operated_known o (with_more (value None table a) (with_more (value None table b) (Known []))) v h in
        let q = more_known (value None table a) (with_more (value None table b) (Known [])) m.0 m.1 in
        let r = more_known (value None table b) (Known []) q.1 q.3 in
        ap₂ (λ c d. option_and_then (operator_value o) (with_closed c (with_closed d (Some [])))) (value_closed a q.0 q.2) (value_closed b r.0 r.2)
        ∙ ap (λ ms. operator_value o (q.0 ∷ r.0 ∷ ms)) (known_list [] r.1 r.3) ∙ ap (λ ms. operator_value o (q.0 ∷ ms)) r.4 ∙ ap (operator_value o) q.4 ∙ m.2
    value_closed (e.Call o ps) v h = called_closed o ps v (λ ns f. values_closed ps ns f) (λ g. inquired_closed o ps v g) h

    values_closed : (ps : Parts) (ns : List ℤ) → values None table ps ≡ Known ns → closed_values (terms_of names [] ps) ≡ Some ns
    values_closed e.End ns h = ap Some (known_list [] ns h)
    values_closed (e.More (e.One a) ps) ns h =
        let m = more_known (value None table a) (values None table ps) ns h in
        ap₂ with_closed (value_closed a m.0 m.2) (values_closed ps m.1 m.3) ∙ ap Some m.4
    values_closed (e.More (e.Range a b c) ps) ns h = absurd cc
    values_closed (e.More (e.Glued a c) ps) ns h = absurd cc

    inquired_closed : (o : Op) (ps : Parts) (v : ℤ) → of_array None o (named_first table ps) (values_after None table ps) ≡ Known v
        → closed_value (inquiry o (dims_of (first_named names ps)) (terms_of names [] ps)) ≡ Some v
    inquired_closed o (e.More (e.One (e.Name x)) ps) v h =
        let m = array_dims x (find x table) (values None table ps) o v refl h in
        ap (λ ms. Some (or_zero (inquired None o (dims_of (declared_as names x)) ms))) (constants_are (terms_of names [] ps) m.0 (values_closed ps m.0 m.1))
        ∙ ap (λ q. Some (or_zero q)) m.2
    inquired_closed o e.End v h = absurd (unnamed o (Known []) v h)
    inquired_closed o (e.More (e.One (e.Number n)) ps) v h = absurd (unnamed o (values None table ps) v h)
    inquired_closed o (e.More (e.One (e.Truth b)) ps) v h = absurd (unnamed o (values None table ps) v h)
    inquired_closed o (e.More (e.One (e.Element x qs)) ps) v h = absurd (unnamed o (values None table ps) v h)
    inquired_closed o (e.More (e.One (e.Call p qs)) ps) v h = absurd (unnamed o (values None table ps) v h)
    inquired_closed o (e.More (e.One (e.Unary p a)) ps) v h = absurd (unnamed o (values None table ps) v h)
    inquired_closed o (e.More (e.One (e.Binary p a b)) ps) v h = absurd (unnamed o (values None table ps) v h)
    inquired_closed o (e.More (e.One (e.Closed a)) ps) v h = absurd (unnamed o (values None table ps) v h)
    inquired_closed o (e.More (e.Range a b c) ps) v h = absurd (unnamed o (values None table ps) v h)
    inquired_closed o (e.More (e.Glued a c) ps) v h = absurd (unnamed o (values None table ps) v h)

  -- a step
  pub steps_are : StepsAre names
  steps_are x h = by (value None table x) refl h where
    opposite : (b : Bool) → not b ≡ true → b ≡ false
    opposite false g = refl
    opposite true g = absurd (true≢false (sym g))

    by : (r : Evaluated ℤ) → value None table x ≡ r → is_nonzero r ≡ true → IsStep (term_of names [] x)
    by (Known n) f g = record { number = n; is = value_closed x n f; nonzero = opposite (is_zero n) g }
    by Unknown f g = absurd (true≢false (sym g))
    by Invalid f g = absurd (true≢false (sym g))
