-- The expressions of a nest that breaks no rule.
use Rattle.std.proofs.Common.{◌≡◌, ℕ, Bool, true, false, true≢false, List, [], ◌∷◌, Option, Some, None, refl, sym, ap, ◌∙◌, inl, inr, ◌⊎◌}
use Rattle.std.specs.Prelude.{◌&&◌, ◌||◌, not, is_some, option_map, if◌then◌else◌}
use Rattle.std.specs.List.{list_all}
use Rattle.std.proofs.lemmas.Slice.Eq.{bytes_eq-Decides}
use Rattle.op_tables.specs.declared.op.Op.{Op}
use Rattle.op_tables.specs.declared.op.Op.TheVariants as op
use Rattle.op_tables.specs.Arguments.{is_reduction, is_inquiry}
use Rattle.syntax_tree.specs.Expression as e
use Rattle.syntax_tree.specs.Expression.{Expression, Parts}
use Rattle.expression_rules.specs.Operands.{names_in, names_in_part, names_in_parts}
use Rattle.expression_rules.specs.Symbols.{Name, is_among}
use Rattle.name_table.specs.Entries.{declared_as}
use Rattle.name_table.specs.declared.names.What.{What}
use Rattle.name_table.specs.declared.names.What.TheVariants as what
use Rattle.body_forms.specs.Names.{is_constant, is_scalar, is_fixed}
use Rattle.body_forms.specs.Subexpressions.{subexpressions, subexpressions_in_part, subexpressions_in_parts}
use Rattle.body_forms.specs.Subscripts.{both as both_indices, in_product, in_operation, indices_in, is_at_most_one, is_empty, is_linear, has_linear_subscripts, is_sign, items}
use Rattle.nest_check.specs.NestNames.{NestNames}
use Rattle.nest_check.specs.NestRules.{body_names, may_be_named, may_stand_in_nest, is_own, is_unassigned, may_be_read}
use Rattle.nest_syntax.specs.NestKinds.{Kind, New}
use Rattle.array_meaning.specs.Terms.{Term, Element, Section, Apply, Reduce}
use Rattle.array_meaning.specs.Resolution.{place_of, dims_of, alone, inquiry, is_element, first_term, first_named, term_of, terms_of, section_subscripts}
use Rattle.fitting_states.specs.FittingStates.{TermFits, TermsFit}
use Rattle.name_table.proofs.Tests.{all_split, both}
use Rattle.well_formed.proofs.Lists.{pass_split}
use Rattle.well_formed.proofs.Expressions.{either}
use Rattle.nest_items.specs.Naming.{IsNaming}
use Rattle.nest_items.specs.Standing.{IsFixed, IsFixedTerm, AreFixedTerms, MayStand, Stands, AllStand}
use Rattle.nest_items.specs.Paths.{IsReadable, AreReadable}
use Rattle.nest_syntax.specs.LinearOperators.{is_linear_operator}
use Rattle.nest_items.specs.NestForm.{IsExact, AreExact, IsPlain, ArePlain}
use Rattle.nest_standing.specs.Named.{Declared, AreDeclared, Names, is_array_in}
use Rattle.nest_standing.proofs.Ruled.{Tied, IsFree}

pub not_true : (b : Bool) → not b ≡ true → b ≡ false
not_true false h = refl
not_true true h = absurd (true≢false (sym h))

pub either_from : (P Q : Term → Type 0) (b : Bool) (x y : Term) → (b ≡ true → P x → Q x) → (b ≡ false → P y → Q y) → P (if b then x else y) → Q (if b then x else y)
either_from P Q true x y f g h = f refl h
either_from P Q false x y f g h = g refl h

if_some : (b : Bool) (xs : Option (List Name)) → is_some (if b then xs else None) ≡ true → (b ≡ true) × (is_some xs ≡ true)
if_some true xs h = (refl, h)
if_some false xs h = absurd (true≢false (sym h))

both_some : (xs ys : Option (List Name)) → is_some (both_indices xs ys) ≡ true → (is_some xs ≡ true) × (is_some ys ≡ true)
both_some None ys h = absurd (true≢false (sym h))
both_some (Some xs) None h = absurd (true≢false (sym h))
both_some (Some xs) (Some ys) h = (refl, refl)

product_some : (xs ys : Option (List Name)) → is_some (in_product xs ys) ≡ true → (is_some xs ≡ true) × (is_some ys ≡ true)
product_some None ys h = absurd (true≢false (sym h))
product_some (Some []) None h = absurd (true≢false (sym h))
product_some (Some (x ∷ xs)) None h = absurd (true≢false (sym h))
product_some (Some xs) (Some ys) h = (refl, refl)

operation_some : (o : Op) (xs ys : Option (List Name)) → is_some (in_operation o xs ys) ≡ true → (is_linear_operator o ≡ true) × ((is_some xs ≡ true) × (is_some ys ≡ true))
operation_some op.Add xs ys h = (refl, both_some xs ys h)
operation_some op.Sub xs ys h = (refl, both_some xs ys h)
operation_some op.Mul xs ys h = (refl, product_some xs ys h)
operation_some o xs ys h = absurd (true≢false (sym h))

linear_some : (xs : Option (List Name)) → is_at_most_one xs ≡ true → is_some xs ≡ true
linear_some None h = absurd (true≢false (sym h))
linear_some (Some xs) h = refl

empty_some : (xs : Option (List Name)) → is_empty xs ≡ true → is_some xs ≡ true
empty_some None h = absurd (true≢false (sym h))
empty_some (Some xs) h = refl

-- ---- without an index

if_empty : (b : Bool) (xs : Option (List Name)) → is_empty (if b then xs else None) ≡ true → (b ≡ true) × (is_empty xs ≡ true)
if_empty true xs h = (refl, h)
if_empty false xs h = absurd (true≢false (sym h))

both_empty : (xs ys : Option (List Name)) → is_empty (both_indices xs ys) ≡ true → (is_empty xs ≡ true) × (is_empty ys ≡ true)
both_empty None ys h = absurd (true≢false (sym h))
both_empty (Some xs) None h = absurd (true≢false (sym h))
both_empty (Some []) (Some []) h = (refl, refl)
both_empty (Some []) (Some (y ∷ ys)) h = absurd (true≢false (sym h))
both_empty (Some (x ∷ xs)) (Some ys) h = absurd (true≢false (sym h))

product_empty : (xs ys : Option (List Name)) → is_empty (in_product xs ys) ≡ true → (is_empty xs ≡ true) × (is_empty ys ≡ true)
product_empty None ys h = absurd (true≢false (sym h))
product_empty (Some []) None h = absurd (true≢false (sym h))
product_empty (Some []) (Some []) h = (refl, refl)
product_empty (Some []) (Some (y ∷ ys)) h = absurd (true≢false (sym h))
product_empty (Some (x ∷ xs)) None h = absurd (true≢false (sym h))
product_empty (Some (x ∷ xs)) (Some []) h = absurd (true≢false (sym h))
product_empty (Some (x ∷ xs)) (Some (y ∷ ys)) h = absurd (true≢false (sym h))

operation_empty : (o : Op) (xs ys : Option (List Name)) → is_empty (in_operation o xs ys) ≡ true → (is_empty xs ≡ true) × (is_empty ys ≡ true)
operation_empty op.Add xs ys h = both_empty xs ys h
operation_empty op.Sub xs ys h = both_empty xs ys h
operation_empty op.Mul xs ys h = product_empty xs ys h
operation_empty o xs ys h = absurd (true≢false (sym h))

sign_linear : (o : Op) → is_sign o ≡ true → is_linear_operator o ≡ true
sign_linear op.Neg h = refl
sign_linear op.Plus h = refl
sign_linear o h = absurd (true≢false (sym h))

name_empty : (among fixed : Bool) (x : Name) → is_empty (if among then Some (x ∷ []) else (if fixed then Some [] else None)) ≡ true → (among ≡ false) × (fixed ≡ true)
name_empty true fixed x h = absurd (true≢false (sym h))
name_empty false true x h = (refl, refl)
name_empty false false x h = absurd (true≢false (sym h))

name_some : (among fixed : Bool) (x : Name) → is_some (if among then Some (x ∷ []) else (if fixed then Some [] else None)) ≡ true → (among ≡ true) ⊎ (fixed ≡ true)
name_some true fixed x h = inl refl
name_some false true x h = inr refl
name_some false false x h = absurd (true≢false (sym h))

fixed_cases : (w : Option What) (assigned : Bool) → (is_constant w || (is_scalar w && not assigned)) ≡ true → (is_constant w ≡ true) ⊎ ((is_scalar w ≡ true) × (assigned ≡ false))
fixed_cases (Some (what.Constant v)) a h = inl refl
fixed_cases (Some (what.Scalar v)) a h = inr (refl, not_true a h)
fixed_cases (Some (what.Array ds v)) a h = absurd (true≢false (sym h))
fixed_cases (Some what.Template) a h = absurd (true≢false (sym h))
fixed_cases (Some what.Arrangement) a h = absurd (true≢false (sym h))
fixed_cases None a h = absurd (true≢false (sym h))

pub or_case : {A B C : Type 0} → A ⊎ B → (A → C) → (B → C) → C
or_case (inl a) f g = f a
or_case (inr b) f g = g b

-- a name by itself: a constant names no scalar, and any other but itself none
module _ (P : ℕ → Type 0) where
  constant_names : (k : ℕ) (w : Option What) → is_constant w ≡ true → IsNaming P (λ a. ⊥) (alone None k w)
  constant_names k (Some (what.Constant v)) h = tt
  constant_names k (Some (what.Scalar v)) h = absurd (true≢false (sym h))
  constant_names k (Some (what.Array ds v)) h = absurd (true≢false (sym h))
  constant_names k (Some what.Template) h = absurd (true≢false (sym h))
  constant_names k (Some what.Arrangement) h = absurd (true≢false (sym h))
  constant_names k None h = absurd (true≢false (sym h))

  alone_names : (k : ℕ) (w : Option What) → P k → IsNaming P (λ a. ⊥) (alone None k w)
  alone_names k (Some (what.Scalar v)) h = h
  alone_names k (Some (what.Constant v)) h = tt
  alone_names k (Some (what.Array ds v)) h = tt
  alone_names k (Some what.Template) h = tt
  alone_names k (Some what.Arrangement) h = tt
  alone_names k None h = tt

-- ---- bounds

-- a bound names no index, and no scalar that the nest assigns
module _ (n : NestNames) (P : ℕ → Type 0)
    (named : (x : Name) → Declared n.declared x → is_among x n.indices ≡ false → is_among x n.assigned ≡ false → P (place_of n.declared x)) where
  pub bound_names : (x : Expression) → Names n.declared x → is_empty (indices_in (body_names n) x) ≡ true → IsNaming P (λ a. ⊥) (term_of n.declared [] x)
  bound_names (e.Number v) d h = tt
  bound_names (e.Truth b) d h = tt
  bound_names (e.Name x) d h =
      let s = name_empty (is_among x n.indices) (is_fixed (body_names n) x) x h in
      or_case (fixed_cases (declared_as n.declared x) (is_among x n.assigned) s.1)
      (λ c. constant_names P (place_of n.declared x) (declared_as n.declared x) c)
      (λ a. alone_names P (place_of n.declared x) (declared_as n.declared x) (named x d.0 s.0 a.1))
  bound_names (e.Element x ps) d h = absurd (true≢false (sym h))
  bound_names (e.Call o ps) d h = absurd (true≢false (sym h))
  bound_names (e.Unary o a) d h = (bound_names a d (if_empty (is_sign o) (indices_in (body_names n) a) h).1, tt)
  bound_names (e.Binary o a b) d h =
      let s = operation_empty o (indices_in (body_names n) a) (indices_in (body_names n) b) h in
      let m = all_split _ (names_in a) (names_in b) d in
      (bound_names a m.0 s.0, (bound_names b m.1 s.1, tt))
  bound_names (e.Closed a) d h = bound_names a d h

-- ---- expressions without a fault

exact_alone : (k : ℕ) (w : Option What) → (is_constant w || is_scalar w) ≡ true → TermFits (alone None k w) → IsExact (alone None k w)
exact_alone k (Some (what.Scalar v)) h fit = tt
exact_alone k (Some (what.Constant v)) h fit = fit
exact_alone k (Some (what.Array ds v)) h fit = absurd (true≢false (sym h))
exact_alone k (Some what.Template) h fit = absurd (true≢false (sym h))
exact_alone k (Some what.Arrangement) h fit = absurd (true≢false (sym h))
exact_alone k None h fit = absurd (true≢false (sym h))

plain_alone : (k : ℕ) (w : Option What) → IsPlain (alone None k w)
plain_alone k (Some (what.Scalar v)) = tt
plain_alone k (Some (what.Constant v)) = tt
plain_alone k (Some (what.Array ds v)) = tt
plain_alone k (Some what.Template) = tt
plain_alone k (Some what.Arrangement) = tt
plain_alone k None = tt

pub or_left : (a b : Bool) → a ≡ true → (a || b) ≡ true
or_left true b h = refl
or_left false b h = absurd (true≢false (sym h))

pub or_right : (a b : Bool) → b ≡ true → (a || b) ≡ true
or_right true b h = refl
or_right false b h = h

-- each index is a scalar
module _ (n : NestNames) (scalars : (x : Name) → is_among x n.indices ≡ true → is_scalar (declared_as n.declared x) ≡ true) where
  -- subscripts and bounds
  pub exact : (x : Expression) → is_some (indices_in (body_names n) x) ≡ true → TermFits (term_of n.declared [] x) → IsExact (term_of n.declared [] x)
  exact (e.Number v) h fit = fit
  exact (e.Truth b) h fit = absurd (true≢false (sym h))
  exact (e.Name x) h fit =
      let w : Option What = declared_as n.declared x in
      exact_alone (place_of n.declared x) w
      (or_case (name_some (is_among x n.indices) (is_fixed (body_names n) x) x h)
      (λ i. or_right (is_constant w) (is_scalar w) (scalars x i))
      (λ f. or_case (fixed_cases w (is_among x n.assigned) f) (λ c. or_left (is_constant w) (is_scalar w) c) (λ s. or_right (is_constant w) (is_scalar w) s.0))) fit
  exact (e.Element x ps) h fit = absurd (true≢false (sym h))
  exact (e.Call o ps) h fit = absurd (true≢false (sym h))
  exact (e.Unary o a) h fit = let s = if_some (is_sign o) (indices_in (body_names n) a) h in (sign_linear o s.0, (exact a s.1 fit.0, tt))
  exact (e.Binary o a b) h fit =
      let s = operation_some o (indices_in (body_names n) a) (indices_in (body_names n) b) h in
      (s.0, (exact a s.1.0 fit.0, (exact b s.1.1 fit.1.0, tt)))
  exact (e.Closed a) h fit = exact a h fit

  pub exact_bound : (x : Expression) → is_empty (indices_in (body_names n) x) ≡ true → TermFits (term_of n.declared [] x) → IsExact (term_of n.declared [] x)
  exact_bound x h fit = exact x (empty_some (indices_in (body_names n) x) h) fit

  pub exact_parts : (ps : Parts) → list_all (is_linear (body_names n)) (items ps) ≡ true → TermsFit (terms_of n.declared [] ps) → AreExact (terms_of n.declared [] ps)
  exact_parts e.End h fit = tt
  exact_parts (e.More (e.One a) ps) h fit =
      let s = both (is_linear (body_names n) (e.One a)) (list_all (is_linear (body_names n)) (items ps)) h in
      (exact a (linear_some (indices_in (body_names n) a) s.0) fit.0, exact_parts ps s.1 fit.1)
  exact_parts (e.More (e.Range a b c) ps) h fit = absurd (true≢false (sym h))
  exact_parts (e.More (e.Glued a c) ps) h fit = absurd (true≢false (sym h))

  -- right sides and conditions
  module _ (xs : List Name) (own : Option Name) where
    mutual
      pub plain : (x : Expression) → list_all (may_stand_in_nest n xs own) (subexpressions x) ≡ true
          → list_all (has_linear_subscripts (body_names n)) (subexpressions x) ≡ true → TermFits (term_of n.declared [] x) → IsPlain (term_of n.declared [] x)
      plain (e.Number v) g l fit = tt
      plain (e.Truth b) g l fit = tt
      plain (e.Name x) g l fit = plain_alone (place_of n.declared x) (declared_as n.declared x)
      plain (e.Element x ps) g l fit =
          let ls = both (list_all (is_linear (body_names n)) (items ps)) (list_all (has_linear_subscripts (body_names n)) (subexpressions_in_parts ps)) l in
          either_from TermFits IsPlain (is_element ps) (Element (place_of n.declared x) (terms_of n.declared [] ps))
          (Section (place_of n.declared x) (section_subscripts n.declared [] (dims_of (declared_as n.declared x)) ps))
          (λ i f. exact_parts ps ls.0 f) (λ i f. tt) fit
      plain (e.Call o ps) g l fit =
          let gs = both (not (is_reduction o)) (list_all (may_stand_in_nest n xs own) (subexpressions_in_parts ps)) g in
          either_from TermFits IsPlain (is_inquiry o) (inquiry o (dims_of (first_named n.declared ps)) (terms_of n.declared [] ps))
          (if is_reduction o then Reduce o (first_term (terms_of n.declared [] ps)) else Apply o (terms_of n.declared [] ps)) (λ i f. tt)
          (λ i. either_from TermFits IsPlain (is_reduction o) (Reduce o (first_term (terms_of n.declared [] ps))) (Apply o (terms_of n.declared [] ps))
          (λ q f. absurd (true≢false (sym q ∙ not_true (is_reduction o) gs.0))) (λ q f. all_plain ps gs.1 l f)) fit
      plain (e.Unary o a) g l fit = (plain a g l fit.0, tt)
      plain (e.Binary o a b) g l fit =
          let gs = pass_split (may_stand_in_nest n xs own) (subexpressions a) (subexpressions b) g in
          let ls = pass_split (has_linear_subscripts (body_names n)) (subexpressions a) (subexpressions b) l in
          (plain a gs.0 ls.0 fit.0, (plain b gs.1 ls.1 fit.1.0, tt))
      plain (e.Closed a) g l fit = plain a g l fit

      all_plain : (ps : Parts) → list_all (may_stand_in_nest n xs own) (subexpressions_in_parts ps) ≡ true
          → list_all (has_linear_subscripts (body_names n)) (subexpressions_in_parts ps) ≡ true → TermsFit (terms_of n.declared [] ps) → ArePlain (terms_of n.declared [] ps)
      all_plain e.End g l fit = tt
      all_plain (e.More (e.One a) ps) g l fit =
          let gs = pass_split (may_stand_in_nest n xs own) (subexpressions a) (subexpressions_in_parts ps) g in
          let ls = pass_split (has_linear_subscripts (body_names n)) (subexpressions a) (subexpressions_in_parts ps) l in
          (plain a gs.0 ls.0 fit.0, all_plain ps gs.1 ls.1 fit.1)
      all_plain (e.More (e.Range a b c) ps) g l fit =
          let q : e.Part = e.Range a b c in
          all_plain ps (pass_split (may_stand_in_nest n xs own) (subexpressions_in_part q) (subexpressions_in_parts ps) g).1
          (pass_split (has_linear_subscripts (body_names n)) (subexpressions_in_part q) (subexpressions_in_parts ps) l).1 fit
      all_plain (e.More (e.Glued a c) ps) g l fit =
          let q : e.Part = e.Glued a c in
          all_plain ps (pass_split (may_stand_in_nest n xs own) (subexpressions_in_part q) (subexpressions_in_parts ps) g).1
          (pass_split (has_linear_subscripts (body_names n)) (subexpressions_in_part q) (subexpressions_in_parts ps) l).1 fit

module _ (n : NestNames) (kinds : ℕ → Kind) (tied : Tied n kinds) where
  -- ---- names

  unfree_by : (i l x : Bool) → (not i || l || x) ≡ true → (i && not (l || x)) ≡ false
  unfree_by false l x h = refl
  unfree_by true true x h = refl
  unfree_by true false true h = refl
  unfree_by true false false h = absurd (true≢false (sym h))

  own_by : (r o : Bool) → (not r || o) ≡ true → (r ≡ false) ⊎ (o ≡ true)
  own_by false o h = inl refl
  own_by true true h = inr refl
  own_by true false h = absurd (true≢false (sym h))

  own_is : (x : Name) (own : Option Name) → is_own x own ≡ true → option_map (place_of n.declared) own ≡ Some (place_of n.declared x)
  own_is x None h = absurd (true≢false (sym h))
  own_is x (Some y) h = ap (λ z. Some (place_of n.declared z)) (sym ((bytes_eq-Decides x y).0 h))

  module _ (xs : List Name) (own : Option Name) (free : ℕ → Bool) (is_free : IsFree n xs free) where
    unfree : (x : Name) → Declared n.declared x → may_be_named n xs own x ≡ true → free (place_of n.declared x) ≡ false
    unfree x d h =
        is_free.is x d ∙ unfree_by (is_among x n.indices) (is_among x n.loops) (is_among x xs)
        (both (not (is_among x n.reduction_names) || is_own x own) (not (is_among x n.indices) || is_among x n.loops || is_among x xs) h).1

    may_stand : (x : Name) → Declared n.declared x → may_be_named n xs own x ≡ true → MayStand kinds free (option_map (place_of n.declared) own) (place_of n.declared x)
    may_stand x d h = (
      unfree x d h,
      or_case (own_by (is_among x n.reduction_names) (is_own x own)
          (both (not (is_among x n.reduction_names) || is_own x own) (not (is_among x n.indices) || is_among x n.loops || is_among x xs) h).0)
          (λ r. inl (tied.read x d r)) (λ o. inr (own_is x own o)),
    )

    -- ---- subscripts

    fixed_name : (x : Name) → Declared n.declared x → may_be_named n xs own x ≡ true → is_some (indices_in (body_names n) (e.Name x)) ≡ true
        → IsFixedTerm kinds free (alone None (place_of n.declared x) (declared_as n.declared x))
    fixed_name x d g h =
        let k : ℕ = place_of n.declared x in
        let w : Option What = declared_as n.declared x in
        or_case (name_some (is_among x n.indices) (is_fixed (body_names n) x) x h)
        (λ i. alone_names (IsFixed kinds free) k w (unfree x d g, tied.copies x d ∙ tied.quiet x d i))
        (λ f. or_case (fixed_cases w (is_among x n.assigned) f) (λ c. constant_names (IsFixed kinds free) k w c)
        (λ a. alone_names (IsFixed kinds free) k w (unfree x d g, tied.copies x d ∙ a.1)))

    fixed : (x : Expression) → Names n.declared x → list_all (may_stand_in_nest n xs own) (subexpressions x) ≡ true → is_some (indices_in (body_names n) x) ≡ true
        → IsFixedTerm kinds free (term_of n.declared [] x)
    fixed (e.Number v) d g h = tt
    fixed (e.Truth b) d g h = tt
    fixed (e.Name x) d g h = fixed_name x d.0 (both (may_be_named n xs own x) true g).0 h
    fixed (e.Element x ps) d g h = absurd (true≢false (sym h))
    fixed (e.Call o ps) d g h = absurd (true≢false (sym h))
    fixed (e.Unary o a) d g h = (fixed a d g (if_some (is_sign o) (indices_in (body_names n) a) h).1, tt)
    fixed (e.Binary o a b) d g h =
        let s = operation_some o (indices_in (body_names n) a) (indices_in (body_names n) b) h in
        let m = all_split _ (names_in a) (names_in b) d in
        let p = pass_split (may_stand_in_nest n xs own) (subexpressions a) (subexpressions b) g in
        (fixed a m.0 p.0 s.1.0, (fixed b m.1 p.1 s.1.1, tt))
    fixed (e.Closed a) d g h = fixed a d g h

    pub fixed_parts : (ps : Parts) → AreDeclared n.declared (names_in_parts ps) → list_all (may_stand_in_nest n xs own) (subexpressions_in_parts ps) ≡ true
        → list_all (is_linear (body_names n)) (items ps) ≡ true → AreFixedTerms kinds free (terms_of n.declared [] ps)
    fixed_parts e.End d g h = tt
    fixed_parts (e.More (e.One a) ps) d g h =
        let s = both (is_linear (body_names n) (e.One a)) (list_all (is_linear (body_names n)) (items ps)) h in
        let m = all_split _ (names_in a) (names_in_parts ps) d in
        let p = pass_split (may_stand_in_nest n xs own) (subexpressions a) (subexpressions_in_parts ps) g in
        (fixed a m.0 p.0 (linear_some (indices_in (body_names n) a) s.0), fixed_parts ps m.1 p.1 s.1)
    fixed_parts (e.More (e.Range a b c) ps) d g h = absurd (true≢false (sym h))
    fixed_parts (e.More (e.Glued a c) ps) d g h = absurd (true≢false (sym h))

    -- ---- expressions

    stands_alone : (x : Name) (w : Option What) → Declared n.declared x → may_be_named n xs own x ≡ true → TermFits (alone None (place_of n.declared x) w)
        → Stands kinds free (option_map (place_of n.declared) own) (alone None (place_of n.declared x) w)
    stands_alone x (Some (what.Scalar v)) d h fit = may_stand x d h
    stands_alone x (Some (what.Constant v)) d h fit = fit
    stands_alone x (Some (what.Array ds v)) d h fit = tt
    stands_alone x (Some what.Template) d h fit = fit
    stands_alone x (Some what.Arrangement) d h fit = fit
    stands_alone x None d h fit = fit

    mutual
      pub stands : (x : Expression) → Names n.declared x → list_all (may_stand_in_nest n xs own) (subexpressions x) ≡ true
          → list_all (has_linear_subscripts (body_names n)) (subexpressions x) ≡ true → list_all (is_array_in n.declared) (subexpressions x) ≡ true
          → TermFits (term_of n.declared [] x) → Stands kinds free (option_map (place_of n.declared) own) (term_of n.declared [] x)
      stands (e.Number v) d g l r fit = fit
      stands (e.Truth b) d g l r fit = fit
      stands (e.Name x) d g l r fit = stands_alone x (declared_as n.declared x) d.0 (both (may_be_named n xs own x) true g).0 fit
      stands (e.Element x ps) d g l r fit =
          let gs = both (may_be_named n xs own x) (list_all (may_stand_in_nest n xs own) (subexpressions_in_parts ps)) g in
          let ls = both (list_all (is_linear (body_names n)) (items ps)) (list_all (has_linear_subscripts (body_names n)) (subexpressions_in_parts ps)) l in
          let rs = both (not (is_scalar (declared_as n.declared x))) (list_all (is_array_in n.declared) (subexpressions_in_parts ps)) r in
          either (Stands kinds free (option_map (place_of n.declared) own)) (is_element ps) (Element (place_of n.declared x) (terms_of n.declared [] ps))
          (Section (place_of n.declared x) (section_subscripts n.declared [] (dims_of (declared_as n.declared x)) ps))
          (λ i. (tied.copies x d.0 ∙ tied.arrays x (not_true (is_scalar (declared_as n.declared x)) rs.0), fixed_parts ps d.1 gs.1 ls.0)) (λ i. tt)
      stands (e.Call o ps) d g l r fit =
          let gs = both (not (is_reduction o)) (list_all (may_stand_in_nest n xs own) (subexpressions_in_parts ps)) g in
          either_from TermFits (Stands kinds free (option_map (place_of n.declared) own)) (is_inquiry o)
          (inquiry o (dims_of (first_named n.declared ps)) (terms_of n.declared [] ps))
          (if is_reduction o then Reduce o (first_term (terms_of n.declared [] ps)) else Apply o (terms_of n.declared [] ps)) (λ i f. f)
          (λ i. either_from TermFits (Stands kinds free (option_map (place_of n.declared) own)) (is_reduction o)
          (Reduce o (first_term (terms_of n.declared [] ps))) (Apply o (terms_of n.declared [] ps))
          (λ q f. absurd (true≢false (sym q ∙ not_true (is_reduction o) gs.0))) (λ q f. all_stand ps d gs.1 l r f)) fit
      stands (e.Unary o a) d g l r fit = (stands a d g l r fit.0, tt)
      stands (e.Binary o a b) d g l r fit =
          let m = all_split _ (names_in a) (names_in b) d in
          let gs = pass_split (may_stand_in_nest n xs own) (subexpressions a) (subexpressions b) g in
          let ls = pass_split (has_linear_subscripts (body_names n)) (subexpressions a) (subexpressions b) l in
          let rs = pass_split (is_array_in n.declared) (subexpressions a) (subexpressions b) r in
          (stands a m.0 gs.0 ls.0 rs.0 fit.0, (stands b m.1 gs.1 ls.1 rs.1 fit.1.0, tt))
      stands (e.Closed a) d g l r fit = stands a d g l r fit

      all_stand : (ps : Parts) → AreDeclared n.declared (names_in_parts ps) → list_all (may_stand_in_nest n xs own) (subexpressions_in_parts ps) ≡ true
          → list_all (has_linear_subscripts (body_names n)) (subexpressions_in_parts ps) ≡ true → list_all (is_array_in n.declared) (subexpressions_in_parts ps) ≡ true
          → TermsFit (terms_of n.declared [] ps) → AllStand kinds free (option_map (place_of n.declared) own) (terms_of n.declared [] ps)
      all_stand e.End d g l r fit = tt
      all_stand (e.More (e.One a) ps) d g l r fit =
          let m = all_split _ (names_in a) (names_in_parts ps) d in
          let gs = pass_split (may_stand_in_nest n xs own) (subexpressions a) (subexpressions_in_parts ps) g in
          let ls = pass_split (has_linear_subscripts (body_names n)) (subexpressions a) (subexpressions_in_parts ps) l in
          let rs = pass_split (is_array_in n.declared) (subexpressions a) (subexpressions_in_parts ps) r in
          (stands a m.0 gs.0 ls.0 rs.0 fit.0, all_stand ps m.1 gs.1 ls.1 rs.1 fit.1)
      all_stand (e.More (e.Range a b c) ps) d g l r fit =
          let q : e.Part = e.Range a b c in
          all_stand ps (all_split _ (names_in_part q) (names_in_parts ps) d).1
          (pass_split (may_stand_in_nest n xs own) (subexpressions_in_part q) (subexpressions_in_parts ps) g).1
          (pass_split (has_linear_subscripts (body_names n)) (subexpressions_in_part q) (subexpressions_in_parts ps) l).1
          (pass_split (is_array_in n.declared) (subexpressions_in_part q) (subexpressions_in_parts ps) r).1 fit
      all_stand (e.More (e.Glued a c) ps) d g l r fit =
          let q : e.Part = e.Glued a c in
          all_stand ps (all_split _ (names_in_part q) (names_in_parts ps) d).1
          (pass_split (may_stand_in_nest n xs own) (subexpressions_in_part q) (subexpressions_in_parts ps) g).1
          (pass_split (has_linear_subscripts (body_names n)) (subexpressions_in_part q) (subexpressions_in_parts ps) l).1
          (pass_split (is_array_in n.declared) (subexpressions_in_part q) (subexpressions_in_parts ps) r).1 fit

  -- ---- reading

  module _ (zs : List Name) (before : ℕ → Bool)
      (assigned : (x : Name) → Declared n.declared x → kinds (place_of n.declared x) ≡ New → is_unassigned n zs x ≡ false → before (place_of n.declared x) ≡ true) where
    readable_alone : (x : Name) (w : Option What) → Declared n.declared x → not (is_unassigned n zs x) ≡ true → IsReadable kinds before (alone None (place_of n.declared x) w)
    readable_alone x (Some (what.Scalar v)) d h = λ new. assigned x d new (not_true (is_unassigned n zs x) h)
    readable_alone x (Some (what.Constant v)) d h = tt
    readable_alone x (Some (what.Array ds v)) d h = tt
    readable_alone x (Some what.Template) d h = tt
    readable_alone x (Some what.Arrangement) d h = tt
    readable_alone x None d h = tt

    mutual
      pub readable : (x : Expression) → Names n.declared x → list_all (may_be_read n zs) (subexpressions x) ≡ true → IsReadable kinds before (term_of n.declared [] x)
      readable (e.Number v) d g = tt
      readable (e.Truth b) d g = tt
      readable (e.Name x) d g = readable_alone x (declared_as n.declared x) d.0 (both (not (is_unassigned n zs x)) true g).0
      readable (e.Element x ps) d g =
          either (IsReadable kinds before) (is_element ps) (Element (place_of n.declared x) (terms_of n.declared [] ps))
          (Section (place_of n.declared x) (section_subscripts n.declared [] (dims_of (declared_as n.declared x)) ps)) (λ i. tt) (λ i. tt)
      readable (e.Call o ps) d g =
          either (IsReadable kinds before) (is_inquiry o)
          (inquiry o (dims_of (first_named n.declared ps)) (terms_of n.declared [] ps))
          (if is_reduction o then Reduce o (first_term (terms_of n.declared [] ps)) else Apply o (terms_of n.declared [] ps)) (λ i. tt)
          (λ i. either (IsReadable kinds before) (is_reduction o) (Reduce o (first_term (terms_of n.declared [] ps))) (Apply o (terms_of n.declared [] ps)) (λ q. tt)
          (λ q. all_readable ps d g))
      readable (e.Unary o a) d g = (readable a d g, tt)
      readable (e.Binary o a b) d g =
          let m = all_split _ (names_in a) (names_in b) d in
          let gs = pass_split (may_be_read n zs) (subexpressions a) (subexpressions b) g in
          (readable a m.0 gs.0, (readable b m.1 gs.1, tt))
      readable (e.Closed a) d g = readable a d g

      all_readable : (ps : Parts) → AreDeclared n.declared (names_in_parts ps) → list_all (may_be_read n zs) (subexpressions_in_parts ps) ≡ true
          → AreReadable kinds before (terms_of n.declared [] ps)
      all_readable e.End d g = tt
      all_readable (e.More (e.One a) ps) d g =
          let m = all_split _ (names_in a) (names_in_parts ps) d in
          let gs = pass_split (may_be_read n zs) (subexpressions a) (subexpressions_in_parts ps) g in
          (readable a m.0 gs.0, all_readable ps m.1 gs.1)
      all_readable (e.More (e.Range a b c) ps) d g =
          let q : e.Part = e.Range a b c in
          all_readable ps (all_split _ (names_in_part q) (names_in_parts ps) d).1 (pass_split (may_be_read n zs) (subexpressions_in_part q) (subexpressions_in_parts ps) g).1
      all_readable (e.More (e.Glued a c) ps) d g =
          let q : e.Part = e.Glued a c in
          all_readable ps (all_split _ (names_in_part q) (names_in_parts ps) d).1 (pass_split (may_be_read n zs) (subexpressions_in_part q) (subexpressions_in_parts ps) g).1
