-- The kinds of a nest's places are what its names are to it.
use Rattle.std.proofs.Common.{rules, ◌≡◌, ℕ, nat_eq, Bool, true, false, true≢false, List, [], ◌∷◌, ◌++◌, filter, cond, bytes_eq, refl, sym, ap, ◌∙◌, subst}
use Rattle.std.specs.Prelude.{◌&&◌, ◌||◌, not, if◌then◌else◌}
use Rattle.std.specs.List.{AllByRecursion, list_all, list_any}
use Rattle.std.proofs.lemmas.List.Folds.{list_any-append}
use Rattle.std.proofs.lemmas.Bool.Decides.{Decides-eqb}
use Rattle.std.proofs.lemmas.Slice.Eq.{bytes_eq-Decides}
use denote.Enum.Bare.{same_true}
use Rattle.op_tables.specs.declared.join.Join.{Join}
use Rattle.op_tables.specs.Joins.{IsOverNumbers}
use Rattle.op_tables.specs.declared.join.Join.TheVariants.{Sum}
use Rattle.op_tables.specs.contracts.join.Join.{the_type}
use Rattle.op_tables.specs.contracts.join.JoinPartialEq.TheImpl.{eq-value}
use Rattle.expression_rules.specs.Symbols.{Name, is_among}
use Rattle.name_table.specs.declared.names.Entry.{Entry}
use Rattle.name_table.specs.Entries.{declared_as}
use Rattle.body_forms.specs.Names.{is_scalar}
use Rattle.nest_check.specs.NestNames.{NestNames, added, all_added}
use Rattle.nest_syntax.specs.NestKinds.{New, Reduced, has_copies, kind_of, is_read}
use Rattle.array_meaning.specs.Resolution.{place_of, union}
use Rattle.array_meaning.specs.Iterations.{is_in}
use Rattle.array_meaning.specs.Touches.{assigned_in}
use Rattle.nest_items.proofs.NameKinds.{kind_by, copies_of_kind}
use Rattle.array_meaning.specs.Statements.{Nest, Block}
use Rattle.nest_standing.specs.Named.{Declared, AreDeclared}
use Rattle.nest_standing.proofs.Ruled.{Tied}
use Rattle.nest_standing.proofs.PlacesOf.{place_eq}

or_false : (b : Bool) → (b || false) ≡ b
or_false true = refl
or_false false = refl

or_assoc : (a b c : Bool) → ((a || b) || c) ≡ (a || (b || c))
or_assoc true b c = refl
or_assoc false b c = refl

-- ---- lists in which each name stands once

among_added : (x y : Name) (zs : List Name) → is_among x (added zs y) ≡ (is_among x zs || bytes_eq x y)
among_added x y zs = by (is_among y zs) refl
  where
    same : (b : Bool) → bytes_eq x y ≡ b → is_among y zs ≡ true → is_among x zs ≡ (is_among x zs || b)
    same true e f = subst (λ q. q ≡ (q || true)) (sym (subst (λ q. is_among q zs ≡ true) (sym ((bytes_eq-Decides x y).0 e)) f)) refl
    same false e f = sym (or_false (is_among x zs))

    by : (b : Bool) → is_among y zs ≡ b → is_among x (if b then zs else zs ++ y ∷ []) ≡ (is_among x zs || bytes_eq x y)
    by true f = same (bytes_eq x y) refl f
    by false f = list_any-append (bytes_eq x) zs (y ∷ []) ∙ ap (λ q. is_among x zs || q) (or_false (bytes_eq x y))

pub among_all : (x : Name) (zs ys : List Name) → is_among x (all_added zs ys) ≡ (is_among x zs || is_among x ys)
among_all x zs [] = sym (or_false (is_among x zs))
among_all x zs (y ∷ ys) =
    among_all x (added zs y) ys ∙ ap (λ q. q || is_among x ys) (among_added x y zs) ∙ or_assoc (is_among x zs) (bytes_eq x y) (is_among x ys)

pub added_declared : (names : List Entry) (zs ys : List Name) → AreDeclared names zs → AreDeclared names ys → AreDeclared names (all_added zs ys)
added_declared names zs [] d f = d
added_declared names zs (y ∷ ys) d f = added_declared names (added zs y) ys (one (is_among y zs)) f.1
  where
    last : (zs : List Name) → AreDeclared names zs → AreDeclared names (zs ++ y ∷ [])
    last [] d = (f.0, tt)
    last (z ∷ zs) d = (d.0, last zs d.1)

    one : (b : Bool) → AreDeclared names (if b then zs else zs ++ y ∷ [])
    one true = d
    one false = last zs d

-- ---- operators

same_op : (a b : Join) → eq-value.it a b ≡ true → a ≡ b
same_op a b h = same_true the_type (search rules) a b h

module _ {O : Type 0} (var : O → Name) (oper : O → Join) where
  -- the operator of a REDUCTION variable, by its place
  abbrev pub operator_at : List Entry → List O → ℕ → Join
  operator_at names [] k = Sum
  operator_at names (p ∷ ps) k = if nat_eq k (place_of names (var p)) then oper p else operator_at names ps k

  operator_is : (names : List Entry) (x : Name) (o : Join) (os : List O) → Declared names x → AllByRecursion (λ p. Declared names (var p)) os
      → list_all (λ p. not (bytes_eq x (var p)) || eq-value.it o (oper p)) os ≡ true → list_any (λ p. bytes_eq x (var p)) os ≡ true
      → operator_at names os (place_of names x) ≡ o
  operator_is names x o [] d ds one h = absurd (true≢false (sym h))
  operator_is names x o (p ∷ os) d ds one h = by (bytes_eq x (var p)) refl (place_eq names x (var p) d ds.0) (λ g. operator_is names x o os d ds.1 (rest (not (bytes_eq x (var p)) || eq-value.it o (oper p)) _ one) g)
    where
      first : (e : Bool) → bytes_eq x (var p) ≡ true → ((not (bytes_eq x (var p)) || e) && list_all (λ p. not (bytes_eq x (var p)) || eq-value.it o (oper p)) os) ≡ true → e ≡ true
      first true f g = refl
      first false f g = absurd (true≢false (sym g ∙ ap (λ b. (not b || false) && list_all (λ p. not (bytes_eq x (var p)) || eq-value.it o (oper p)) os) f))

      rest : (a b : Bool) → (a && b) ≡ true → b ≡ true
      rest true b g = g
      rest false b g = absurd (true≢false (sym g))

      by : (b : Bool) → bytes_eq x (var p) ≡ b → nat_eq (place_of names x) (place_of names (var p)) ≡ bytes_eq x (var p)
          → (list_any (λ p. bytes_eq x (var p)) os ≡ true → operator_at names os (place_of names x) ≡ o)
          → (if nat_eq (place_of names x) (place_of names (var p)) then oper p else operator_at names os (place_of names x)) ≡ o
      by true f g more =
          ap (λ c. if c then oper p else operator_at names os (place_of names x)) (g ∙ f)
          ∙ (sym (same_op o (oper p) (first (eq-value.it o (oper p)) f one)))
      by false f g more =
          ap (λ c. if c then oper p else operator_at names os (place_of names x)) (g ∙ f)
          ∙ more (sym (ap (λ b. b || list_any (λ p. bytes_eq x (var p)) os) f) ∙ h)

  either_over : (b : Bool) (x y : Join) → IsOverNumbers x → IsOverNumbers y → IsOverNumbers (if b then x else y)
  either_over true x y f g = f
  either_over false x y f g = g

  pub operator_at_over : (names : List Entry) (os : List O) → AllByRecursion (λ p. IsOverNumbers (oper p)) os → (k : ℕ) → IsOverNumbers (operator_at names os k)
  operator_at_over names [] h k = tt
  operator_at_over names (p ∷ os) h k =
      either_over (nat_eq k (place_of names (var p))) (oper p) (operator_at names os k) h.0 (operator_at_over names os h.1 k)

-- the operators of a nest's REDUCTION variables
abbrev pub operators_of_nest : NestNames → ℕ → Join
operators_of_nest n = operator_at (λ p. p.variable) (λ p. p.operator) n.declared n.operators

-- ---- kinds

read_by : (a r w : Bool) (o : Join) → r ≡ false → is_read (kind_by a r w o) ≡ has_copies (kind_by a r w o)
read_by false r w o h = refl
read_by true true w o h = absurd (true≢false h)
read_by true false true o h = refl
read_by true false false o h = refl

reduced_by : (a r w : Bool) (o by : Join) → kind_by a r w o ≡ Reduced by → r ≡ true
reduced_by true true w o by h = refl
reduced_by true false true o by h = absurd cc
reduced_by true false false o by h = absurd cc
reduced_by false r w o by h = absurd cc

new_by : (a r w : Bool) (o : Join) → kind_by a r w o ≡ New → w ≡ true
new_by true false true o h = refl
new_by true false false o h = absurd cc
new_by true true w o h = absurd cc
new_by false r w o h = absurd cc

-- the names of a nest in the resolved nest
pub record Meets (n : NestNames) (nest : Nest) (body : Block) : Type 0 where
  pub assigned : (x : Name) → Declared n.declared x → is_in (place_of n.declared x) (assigned_in body) ≡ is_among x n.assigned
  pub reduction : (x : Name) → Declared n.declared x → is_in (place_of n.declared x) nest.reduction ≡ is_among x n.reduction_names
  pub new : (x : Name) → Declared n.declared x → is_in (place_of n.declared x) nest.new ≡ is_among x n.new_names
  pub operators : AllByRecursion (λ p. Declared n.declared p.variable) n.operators
  pub quiet : (x : Name) → Declared n.declared x → is_among x n.indices ≡ true → is_among x n.assigned ≡ false
  pub arrays : (x : Name) → is_scalar (declared_as n.declared x) ≡ false → is_among x n.assigned ≡ false
  pub scalars : (x : Name) → is_among x n.indices ≡ true → is_scalar (declared_as n.declared x) ≡ true

pub tied : (n : NestNames) (nest : Nest) (body : Block) → Meets n nest body → Tied n (kind_of (operators_of_nest n) nest body)
tied n nest body h = record {
  copies = λ x d. copies_of_kind (operators_of_nest n) nest body (place_of n.declared x) ∙ h.assigned x d;
  read = λ x d r. read_by (is_in (place_of n.declared x) (assigned_in body)) (is_in (place_of n.declared x) nest.reduction) (is_in (place_of n.declared x) nest.new)
      (operators_of_nest n (place_of n.declared x)) (h.reduction x d ∙ r);
  reduced = λ x o d a r one has-it.
      (λ i. kind_by ((h.assigned x d ∙ a) i) ((h.reduction x d ∙ r) i) (is_in (place_of n.declared x) nest.new)
      (operator_is (λ p. p.variable) (λ p. p.operator) n.declared x o n.operators d h.operators one has-it i));
  unreduced = λ x by d e. sym (h.reduction x d) ∙ reduced_by (is_in (place_of n.declared x) (assigned_in body)) (is_in (place_of n.declared x) nest.reduction)
      (is_in (place_of n.declared x) nest.new) (operators_of_nest n (place_of n.declared x)) by e;
  new = λ x d e. sym (h.new x d) ∙ new_by (is_in (place_of n.declared x) (assigned_in body)) (is_in (place_of n.declared x) nest.reduction)
      (is_in (place_of n.declared x) nest.new) (operators_of_nest n (place_of n.declared x)) e;
  quiet = h.quiet;
  arrays = h.arrays;
  scalars = h.scalars;
}

-- ---- both lists of a directive, and of all

filter_in : (k : ℕ) (xs ys : List ℕ) → (is_in k xs || is_in k (filter (λ y. not (list_any (nat_eq y) xs)) ys)) ≡ (is_in k xs || is_in k ys)
filter_in k xs [] = refl
filter_in k xs (y ∷ ys) = by (list_any (nat_eq y) xs) refl (filter_in k xs ys)
  where
    middle : (a b c d : Bool) → (a || c) ≡ (a || d) → (a || (b || c)) ≡ (a || (b || d))
    middle true b c d h = refl
    middle false true c d h = refl
    middle false false c d h = h

    there : (b : Bool) → nat_eq k y ≡ b → is_in y xs ≡ true → is_in k xs ≡ (is_in k xs || b)
    there true f g = subst (λ q. q ≡ (q || true)) (sym (subst (λ q. is_in q xs ≡ true) (sym ((Decides-eqb k y).0 f)) g)) refl
    there false f g = sym (or_false (is_in k xs))

    by : (b : Bool) → is_in y xs ≡ b → (is_in k xs || is_in k (filter (λ y. not (list_any (nat_eq y) xs)) ys)) ≡ (is_in k xs || is_in k ys)
        → (is_in k xs || is_in k (cond (not b) (y ∷ filter (λ y. not (list_any (nat_eq y) xs)) ys) (filter (λ y. not (list_any (nat_eq y) xs)) ys))) ≡ (is_in k xs || (nat_eq k y || is_in k ys))
    by true g more = more ∙ ap (λ q. q || is_in k ys) (there (nat_eq k y) refl g) ∙ or_assoc (is_in k xs) (nat_eq k y) (is_in k ys)
    by false g more = middle (is_in k xs) (nat_eq k y) (is_in k (filter (λ y. not (list_any (nat_eq y) xs)) ys)) (is_in k ys) more

pub union_in : (k : ℕ) (xs ys : List ℕ) → is_in k (union xs ys) ≡ (is_in k xs || is_in k ys)
union_in k xs ys = list_any-append (nat_eq k) xs (filter (λ y. not (list_any (nat_eq y) xs)) ys) ∙ filter_in k xs ys
