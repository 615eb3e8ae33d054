-- The kinds of a nest's names are those of its code: a REDUCTION variable's operator is that of its first reduction statement.
use Rattle.std.proofs.Common.{◌≡◌, ℕ, nat_eq, List, [], ◌∷◌, ◌++◌, Bool, true, false, true≢false, if◌then◌else◌, Some, refl, sym, ap, ap₂, ◌∙◌, subst}
use Rattle.std.specs.Prelude.{◌||◌, unwrap_or}
use Rattle.std.proofs.lemmas.List.Folds.{list_any-append}
use Rattle.op_tables.specs.declared.join.Join.{Join}
use Rattle.op_tables.specs.declared.join.Join.TheVariants.{Sum}
use Rattle.op_tables.specs.declared.op.Op.{Op}
use Rattle.op_tables.specs.Reductions.{joined_by}
use Rattle.nest_syntax.specs.NestKinds.{Kind, Reduced, kind_of, reduction_term}
use Rattle.array_meaning.specs.Terms.{Term}
use Rattle.array_meaning.specs.Statements.{Loop, Nest, Block, Done, Then, Statement, AssignScalar, If, Do, Arms, NoArm, Arm}
use Rattle.array_meaning.specs.Iterations.{is_in}
use Rattle.array_meaning.specs.Touches.{assigned_in, assigned_by, assigned_in_arms}
use Rattle.nest_items.specs.BlockForms.{HasForm}
use Rattle.nest_items.specs.NestForm.{BlockKeeps, StatementKeeps, ArmsKeep}
use Rattle.nest_items.specs.Settled.{without}
use Rattle.nest_items.proofs.FormStands.{innermost, inmost}
use Rattle.nest_items.proofs.NameKinds.{kind_by}
use Rattle.nest_items.specs.Standing.{RightKind, IsReductionStatement}
use Rattle.nest_join.proofs.Names.{eq-is}
use Rattle.program_code.specs.NestCode.{operator_by, operator_in, rights_of, rights_in, rights_in_arms}

-- ---- right sides that are reduction statements of one operator

abbrev IsOf : Join → Term → Type 0
IsOf op t = (rights : List Term) → operator_by (t ∷ rights) ≡ op

abbrev AllOf : Join → List Term → Type 0
AllOf op [] = Unit {0}
AllOf op (t ∷ ts) = IsOf op t × AllOf op ts

all-both : (op : Join) (xs ys : List Term) → AllOf op xs → AllOf op ys → AllOf op (xs ++ ys)
all-both op [] ys h g = g
all-both op (x ∷ xs) ys h g = (h.0, all-both op xs ys h.1 g)

reduction-is : (first : Bool) (k : ℕ) (by : Op) (e : Term) (op : Join) → joined_by by ≡ Some op → IsOf op (reduction_term first k by e)
reduction-is true k by e op h rights = ap (λ o. unwrap_or o Sum) h
reduction-is false k by e op h rights = ap (λ o. unwrap_or o Sum) h

abbrev some_of : List Term → Bool
some_of [] = false
some_of (t ∷ ts) = true

some-both : (xs ys : List Term) → some_of (xs ++ ys) ≡ (some_of xs || some_of ys)
some-both [] ys = refl
some-both (x ∷ xs) ys = refl

some-if : (b : Bool) (t : Term) → b ≡ some_of (if b then t ∷ [] else [])
some-if true t = refl
some-if false t = refl

-- what is assigned has a right side
mutual
  found : (k : ℕ) (b : Block) → is_in k (assigned_in b) ≡ some_of (rights_of k b)
  found k Done = refl
  found k (Then line st rest) =
      list_any-append (nat_eq k) (assigned_by st) (assigned_in rest) ∙ ap₂ (λ a b. a || b) (found_by k st) (found k rest)
      ∙ sym (some-both (rights_in k st) (rights_of k rest))

  found_by : (k : ℕ) (st : Statement) → is_in k (assigned_by st) ≡ some_of (rights_in k st)
  found_by k (AssignScalar x t) = some-if (is_in k (x ∷ [])) t
  found_by k (If arms other) =
      list_any-append (nat_eq k) (assigned_in_arms arms) (assigned_in other) ∙ ap₂ (λ a b. a || b) (found_arms k arms) (found k other)
      ∙ sym (some-both (rights_in_arms k arms) (rights_of k other))
  found_by k (Do mark loop body) = found k body
  found_by k st = refl

  found_arms : (k : ℕ) (arms : Arms) → is_in k (assigned_in_arms arms) ≡ some_of (rights_in_arms k arms)
  found_arms k NoArm = refl
  found_arms k (Arm line t body arms) =
      list_any-append (nat_eq k) (assigned_in body) (assigned_in_arms arms) ∙ ap₂ (λ a b. a || b) (found k body) (found_arms k arms)
      ∙ sym (some-both (rights_of k body) (rights_in_arms k arms))

or-false : (b : Bool) → (b || false) ≡ true → b ≡ true
or-false true h = refl
or-false false h = h

module _ (kinds : ℕ → Kind) (k : ℕ) (op : Join) (is : kinds k ≡ Reduced op) where
  right-of : (free : ℕ → Bool) (x : ℕ) (t : Term) → k ≡ x → RightKind kinds free x t (kinds x) → IsOf op t
  right-of free x t same h =
      let x_is : kinds x ≡ Reduced op = ap kinds (sym same) ∙ is in
      let r : IsReductionStatement kinds free op x t = subst (RightKind kinds free x t) x_is h in
      subst (IsOf op) (sym r.shape) (reduction-is r.is_first x r.by r.other op r.operator)

  right-if : (free : ℕ → Bool) (x : ℕ) (t : Term) → RightKind kinds free x t (kinds x) → (b : Bool) → is_in k (x ∷ []) ≡ b → AllOf op (if b then t ∷ [] else [])
  right-if free x t h true e = (right-of free x t (eq-is k x (or-false (nat_eq k x) e)) h, tt)
  right-if free x t h false e = tt

  mutual
    all-of : (free : ℕ → Bool) (b : Block) → BlockKeeps kinds free b → AllOf op (rights_of k b)
    all-of free Done h = tt
    all-of free (Then line st rest) h = all-both op (rights_in k st) (rights_of k rest) (all-in free st h.0) (all-of free rest h.1)

    all-in : (free : ℕ → Bool) (st : Statement) → StatementKeeps kinds free st → AllOf op (rights_in k st)
    all-in free (AssignScalar x t) h = right-if free x t h.2 (is_in k (x ∷ [])) refl
    all-in free (If arms other) h = all-both op (rights_in_arms k arms) (rights_of k other) (all-arms free arms h.0) (all-of free other h.1)
    all-in free (Do mark loop body) h = all-of (without free loop.index) body h.1
    all-in free st h = tt

    all-arms : (free : ℕ → Bool) (arms : Arms) → ArmsKeep kinds free arms → AllOf op (rights_in_arms k arms)
    all-arms free NoArm h = tt
    all-arms free (Arm line t body arms) h = all-both op (rights_of k body) (rights_in_arms k arms) (all-of free body h.1) (all-arms free arms h.2)

operator-is : (op : Join) (xs : List Term) → some_of xs ≡ true → AllOf op xs → operator_by xs ≡ op
operator-is op [] e h = absurd (true≢false (sym e))
operator-is op (x ∷ xs) e h = h.0 xs

-- ---- kinds

one-by : (a r w : Bool) (o p : Join) → (a ≡ true → r ≡ true → o ≡ p) → kind_by a r w o ≡ kind_by a r w p
one-by true true w o p h = ap Reduced (h refl refl)
one-by true false w o p h = refl
one-by false r w o p h = refl

reduced-by : (a r w : Bool) (o : Join) → a ≡ true → r ≡ true → kind_by a r w o ≡ Reduced o
reduced-by true true w o e f = refl
reduced-by true false w o e f = absurd (true≢false (sym f))
reduced-by false r w o e f = absurd (true≢false (sym e))

pub one-kind : (nest : Nest) (loop : Loop) (block body : Block) (h : HasForm nest loop block body) → kind_of h.operators nest body ≡ kind_of (operator_in body) nest body
one-kind nest loop block body h =
    let kinds = kind_of h.operators nest body in
    let free = innermost kinds (without h.all loop.index) h.form.inner in
    let kept = inmost kinds h.all (without h.all loop.index) h.form.inner block body h.form.tight in
    λ i k. one-by (is_in k (assigned_in body)) (is_in k nest.reduction) (is_in k nest.new) (h.operators k) (operator_in body k)
    (λ e f. let is = reduced-by (is_in k (assigned_in body)) (is_in k nest.reduction) (is_in k nest.new) (h.operators k) e f in
    sym (operator-is (h.operators k) (rights_of k body) (sym (found k body) ∙ e) (all-of kinds k (h.operators k) is free body kept))) i
