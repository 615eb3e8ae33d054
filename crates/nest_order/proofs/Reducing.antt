-- A REDUCTION variable is its entry value joined with the fold of its copies.
use Rattle.std.proofs.Common.{◌≡◌, List, [], ◌∷◌, map, refl, ap, sym, ◌∙◌, subst, ℤ, neg_ℤ, ◌+ℤ◌, ◌-ℤ◌, arith}
use Rattle.std.specs.Prelude.{FitsSigned}
use Rattle.std.specs.Int.{int_wrap}
use Rattle.std.specs.List.{AllByRecursion}
use Rattle.std.proofs.lemmas.Int.{ints, SFits-int_wrap, int_wrap-add_left, int_wrap-add_right}
use mir.Syntax.{w64}
use Rattle.op_tables.specs.declared.join.Join.{Join}
use Rattle.op_tables.specs.declared.join.Join.TheVariants.{Sum}
use Rattle.op_tables.specs.Joins.{IsJoin, IsValue, IsOverNumbers, join, unit}
use Rattle.op_tables.proofs.Joins.{joins, numbers_join}
use Rattle.nest_order.specs.Reduction.{IsReducing, after_statements, plain_value, copies_of, folded, Statement, OnRight, OnLeft, Subtracted, assigned, IsOf, value_in, all_assigned}

module _ {V : Type 0} (InRange : V → Type 0) (join : V → V → V) (unit : V) (joins : IsJoin InRange join unit) where
  abbrev AllReduce : List (V → V) → Type 0
  AllReduce statements = AllByRecursion (IsReducing InRange join) statements

  after_in : (statements : List (V → V)) → AllReduce statements → (a : V) → InRange a → InRange (after_statements a statements)
  after_in [] all a h = h
  after_in (f ∷ fs) all a h = after_in fs all.1 (f a) (all.0.stays a h)

  after_joined : (statements : List (V → V)) → AllReduce statements → (a b : V) → InRange a → InRange b
      → after_statements (join a b) statements ≡ join a (after_statements b statements)
  after_joined [] all a b f g = refl
  after_joined (s ∷ ss) all a b f g = ap (λ x. after_statements x ss) (all.0.passes a b f g) ∙ after_joined ss all.1 a (s b) f (all.0.stays b g)

  -- one iteration onto the entry value joined with the copies so far
  one_iteration : (statements : List (V → V)) → AllReduce statements → (entry a : V) → InRange entry → InRange a →
      after_statements (join entry a) statements ≡ join entry (join a (after_statements unit statements))
  one_iteration ss all entry a f g =
      after_joined ss all entry a f g
      ∙ ap (λ x. join entry (after_statements x ss)) (sym (joins.neutral a g))
      ∙ ap (join entry) (after_joined ss all a unit g joins.unit_in)

  from_joined : (iterations : List (List (V → V))) → AllByRecursion AllReduce iterations → (entry a : V) → InRange entry → InRange a →
      plain_value (join entry a) iterations ≡ join entry (folded join a (copies_of unit iterations))
  from_joined [] all entry a f g = refl
  from_joined (ss ∷ rest) all entry a f g =
      ap (λ x. plain_value x rest) (one_iteration ss all.0 entry a f g)
      ∙ from_joined rest all.1 entry (join a (after_statements unit ss)) f (joins.closed a (after_statements unit ss) g (after_in ss all.0 unit joins.unit_in))

  pub reduced : (entry : V) (iterations : List (List (V → V))) → InRange entry → AllByRecursion AllReduce iterations
      → plain_value entry iterations ≡ join entry (folded join unit (copies_of unit iterations))
  reduced entry iterations f all = ap (λ x. plain_value x iterations) (sym (joins.neutral entry f)) ∙ from_joined iterations all entry unit f joins.unit_in

abbrev InBits : ℤ → Type 0
InBits z = FitsSigned w64 z

subtracted : (e : ℤ) → IsReducing InBits (join Sum) (assigned Sum (Subtracted e))
subtracted e = record {
  stays = λ a f. SFits-int_wrap w64 (a -ℤ e);
  passes = λ a b f g.
      let one : int_wrap w64 (a +ℤ b) -ℤ e ≡ int_wrap w64 (a +ℤ b) +ℤ neg_ℤ e = omega (arith, ints) in
      let two : a +ℤ b +ℤ neg_ℤ e ≡ a +ℤ (b -ℤ e) = omega (arith, ints) in
      ap (int_wrap w64) one ∙ int_wrap-add_left w64 (a +ℤ b) (neg_ℤ e) ∙ ap (int_wrap w64) two ∙ sym (int_wrap-add_right w64 a (b -ℤ e));
}

-- reduction statements of an operator, over values that it joins. A difference is one of sums alone
module _ (op : Join) (InRange : ℤ → Type 0) (over : IsJoin InRange (join op) (unit op))
    (less : (e : ℤ) → op ≡ Sum → IsReducing InRange (join op) (assigned op (Subtracted e))) where
  abbrev pub IsGood : Statement → Type 0
  IsGood s = IsOf op s × InRange (value_in s)

  pub reduces : (s : Statement) → IsGood s → IsReducing InRange (join op) (assigned op s)
  reduces (OnRight e) good = record { stays = λ a f. over.closed a e f good.1; passes = λ a b f g. over.associative a b e f g good.1 }
  reduces (OnLeft e) good = record {
    stays = λ a f. over.closed e a good.1 f;
    passes = λ a b f g.
        sym (over.associative e a b good.1 f g) ∙ ap (λ x. join op x b) (over.commutative e a) ∙ over.associative a e b f good.1 g;
  }
  reduces (Subtracted e) good = less e good.0

  all_reduce : (statements : List Statement) → AllByRecursion IsGood statements → AllByRecursion (IsReducing InRange (join op)) (map (assigned op) statements)
  all_reduce [] all = tt
  all_reduce (s ∷ ss) all = (reduces s all.0, all_reduce ss all.1)

  iterations_reduce : (iterations : List (List Statement)) → AllByRecursion (AllByRecursion IsGood) iterations
      → AllByRecursion (AllByRecursion (IsReducing InRange (join op))) (all_assigned op iterations)
  iterations_reduce [] all = tt
  iterations_reduce (ss ∷ rest) all = (all_reduce ss all.0, iterations_reduce rest all.1)

  pub all_joined : (entry : ℤ) (iterations : List (List Statement)) → InRange entry → AllByRecursion (AllByRecursion IsGood) iterations
      → plain_value entry (all_assigned op iterations) ≡ join op entry (folded (join op) (unit op) (copies_of (unit op) (all_assigned op iterations)))
  all_joined entry iterations f all = reduced InRange (join op) (unit op) over entry (all_assigned op iterations) f (iterations_reduce iterations all)

less_of_values : (op : Join) (e : ℤ) → op ≡ Sum → IsReducing (IsValue op) (join op) (assigned op (Subtracted e))
less_of_values op e is = subst (λ o. IsReducing (IsValue o) (join o) (assigned o (Subtracted e))) (sym is) (subtracted e)

less_of_numbers : (op : Join) (e : ℤ) → op ≡ Sum → IsReducing InBits (join op) (assigned op (Subtracted e))
less_of_numbers op e is = subst (λ o. IsReducing InBits (join o) (assigned o (Subtracted e))) (sym is) (subtracted e)

pub numbers_reduce : (op : Join) → IsOverNumbers op → (s : Statement) → IsOf op s × FitsSigned w64 (value_in s) → IsReducing InBits (join op) (assigned op s)
numbers_reduce op over = reduces op InBits (numbers_join op over) (less_of_numbers op)

pub variable_reduced : (op : Join) (entry : ℤ) (iterations : List (List Statement)) → IsValue op entry
    → AllByRecursion (AllByRecursion (λ s. IsOf op s × IsValue op (value_in s))) iterations
    → plain_value entry (all_assigned op iterations) ≡ join op entry (folded (join op) (unit op) (copies_of (unit op) (all_assigned op iterations)))
variable_reduced op = all_joined op (IsValue op) (joins op) (less_of_values op)
