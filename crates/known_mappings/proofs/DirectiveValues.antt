-- An expression of a directive that has a type and a rank has a value, or is no constant, over declared names that are known.
use Rattle.std.proofs.Common.{◌≡◌, ℕ, suc, Bool, true, false, true≢false, List, [], ◌∷◌, length, Option, Some, None, refl, sym, ap, subst, ◌∙◌, arith}
use Rattle.std.specs.Prelude.{ℤ, ◌&&◌, ◌||◌, not, nat_le, is_some, if◌then◌else◌}
use Rattle.std.specs.List.{AllByRecursion}
use Rattle.std.proofs.lemmas.Bool.Decides.{nat_tests}
use Rattle.op_tables.specs.declared.op.Op.{Op}
use Rattle.op_tables.specs.declared.op.Op.TheVariants as op
use Rattle.op_tables.specs.Arguments.{takes, is_reduction, is_transformation, is_inquiry, is_processor_count}
use Rattle.op_tables.specs.Operators.{operator_value}
use Rattle.syntax_tree.specs.Expression.{Expression, Number, Truth, Name as Alone, Element, Call, Unary, Binary, Closed, One, Parts, End, More}
use Rattle.expression_rules.specs.declared.dims.Dim.{Dim}
use Rattle.expression_rules.specs.declared.evaluated.Evaluated.{Evaluated}
use Rattle.expression_rules.specs.declared.evaluated.Evaluated.TheVariants.{Invalid, Unknown, Known}
use Rattle.expression_rules.specs.declared.symbols.Symbol.{Symbol}
use Rattle.expression_rules.specs.declared.symbols.Symbol.TheVariants.{Constant, Array}
use Rattle.expression_rules.specs.declared.types.Context.TheVariants.{Directive}
use Rattle.expression_rules.specs.declared.types.TypeAndRank.{TypeAndRank}
use Rattle.expression_rules.specs.Constants.{bound_of, elemental_value, inquired, item_or, named_first, numbered, of_array, operated, processor_count, unless_zero, value, value_of_symbol, values, values_after, with_more}
use Rattle.expression_rules.specs.Symbols.{SymbolTable, find}
use Rattle.expression_rules.specs.Types.{are_inquired, are_integer_scalars, count_of, elemental, if_typed, inquired_from, integer_scalar_if, is_inquired, is_integer_scalar, is_of_array, reduction, type_and_rank, types_and_ranks}
use Rattle.declarations.specs.Declarations.{if_known}
use Rattle.declarations.specs.DeclarationRules.{is_invalid}
use Rattle.name_table.specs.KnownSymbols.{is_known}
use Rattle.name_table.proofs.Tests.{HasValue, both, no_value, none_some}
use Rattle.name_table.proofs.TypedOperands.{elemental_values, typed_value}

-- ---- what has a type

scalar_values : (ss : List (Option TypeAndRank)) → are_integer_scalars ss ≡ true → AllByRecursion HasValue ss
scalar_values [] h = tt
scalar_values (s ∷ ss) h =
    let two = both (if_typed is_integer_scalar s) (are_integer_scalars ss) h in (typed_value is_integer_scalar s two.0, scalar_values ss two.1)

inquired_values : (ss : List (Option TypeAndRank)) → inquired_from false ss ≡ true → AllByRecursion HasValue ss
inquired_values [] h = tt
inquired_values (s ∷ ss) h =
    let two = both (is_inquired false s) (inquired_from false ss) h in (typed_value is_integer_scalar s two.0, inquired_values ss two.1)

if_scalar : (b : Bool) → HasValue (integer_scalar_if b) → b ≡ true
if_scalar true h = refl
if_scalar false h = absurd (no_value h)

-- ---- values that aren't unknown

abbrev pub IsSettled : {A : Type 0} → Evaluated A → Type 0
IsSettled Invalid = Unit {0}
IsSettled Unknown = ⊥
IsSettled (Known a) = Unit {0}

-- those of so many expressions
abbrev AreSettled : ℕ → Evaluated (List ℤ) → Type 0
AreSettled n Invalid = Unit {0}
AreSettled n Unknown = ⊥
AreSettled n (Known ns) = n ≡ length ns

more_settled : (n : ℕ) (v : Evaluated ℤ) (fs : Evaluated (List ℤ)) → IsSettled v → AreSettled n fs → AreSettled (suc n) (with_more v fs)
more_settled n Invalid fs f g = tt
more_settled n Unknown fs f g = absurd f
more_settled n (Known a) Invalid f g = tt
more_settled n (Known a) Unknown f g = absurd g
more_settled n (Known a) (Known as') f g = ap suc g

zero_settled : (n : Option ℤ) → IsSettled (unless_zero n)
zero_settled None = tt
zero_settled (Some n) = tt

operated_settled : (o : Op) (n : ℕ) (fs : Evaluated (List ℤ)) → AreSettled n fs → IsSettled (operated o fs)
operated_settled o n Invalid f = tt
operated_settled o n Unknown f = absurd f
operated_settled o n (Known ns) f = zero_settled (operator_value o ns)

elemental_settled : (o : Op) (n : ℕ) (fs : Evaluated (List ℤ)) → takes o n ≡ true → AreSettled n fs → IsSettled (elemental_value o fs)
elemental_settled o n Invalid w f = tt
elemental_settled o n Unknown w f = absurd f
elemental_settled o n (Known ns) w f =
    subst (λ b. IsSettled (if b then operated o (Known ns) else Unknown)) (sym (sym (ap (takes o) f) ∙ w)) (zero_settled (operator_value o ns))

item_settled : {A : Type 0} (f : A → ℤ) (a : Option A) → IsSettled (item_or Invalid f a)
item_settled f None = tt
item_settled f (Some a) = tt

too_many : (n : ℕ) → nat_le (suc (suc (suc n))) 2 ≡ true → ⊥
too_many n h = grind (arith, nat_tests)

two_many : (n : ℕ) → nat_le (suc (suc n)) 1 ≡ true → ⊥
two_many n h = grind (arith, nat_tests)

-- SIZE, LBOUND and UBOUND of dimensions that are known
inquired_settled : (grid : List ℕ) (o : Op) (l : List Dim) (ns : List ℤ) → is_inquiry o ≡ true → takes o (suc (length ns)) ≡ true → IsSettled (inquired (Some grid) o l ns)
inquired_settled grid op.Size l [] i w = tt
inquired_settled grid op.LBound l [] i w = absurd (true≢false (sym w))
inquired_settled grid op.UBound l [] i w = absurd (true≢false (sym w))
inquired_settled grid op.Size l (d ∷ []) i w = item_settled (bound_of op.Size) (numbered l d)
inquired_settled grid op.LBound l (d ∷ []) i w = item_settled (bound_of op.LBound) (numbered l d)
inquired_settled grid op.UBound l (d ∷ []) i w = item_settled (bound_of op.UBound) (numbered l d)
inquired_settled grid op.Size l (d ∷ e ∷ ns) i w = absurd (too_many (length ns) (both _ _ w).1)
inquired_settled grid op.LBound l (d ∷ e ∷ ns) i w = absurd (too_many (length ns) (both _ _ w).1)
inquired_settled grid op.UBound l (d ∷ e ∷ ns) i w = absurd (too_many (length ns) (both _ _ w).1)
inquired_settled grid o l ns i w = absurd (true≢false (sym i))

array_settled : (grid : List ℕ) (o : Op) (a : Option Symbol) (n : ℕ) (fs : Evaluated (List ℤ)) → is_inquiry o ≡ true → ((s : Symbol) → a ≡ Some s → is_known s ≡ true) →
    takes o (suc n) ≡ true → AreSettled n fs → IsSettled (of_array (Some grid) o a fs)
array_settled grid o (Some (Array r ds m)) n Invalid i known w f = tt
array_settled grid o (Some (Array r ds m)) n Unknown i known w f = absurd f
array_settled grid o (Some (Array r None m)) n (Known ns) i known w f = absurd (no_value (known (Array r None m) refl))
array_settled grid o (Some (Array r (Some l) m)) n (Known ns) i known w f = inquired_settled grid o l ns i (sym (ap (λ k. takes o (suc k)) f) ∙ w)
array_settled grid o a n fs i known w f = tt

-- NUMBER_OF_PROCESSORS
count_settled : (grid : List ℕ) (o : Op) (n : ℕ) (fs : Evaluated (List ℤ)) → is_processor_count o ≡ true → takes o n ≡ true → AreSettled n fs →
    IsSettled (processor_count (Some grid) fs)
count_settled grid o n Invalid i w f = tt
count_settled grid o n Unknown i w f = absurd f
count_settled grid o n (Known []) i w f = tt
count_settled grid o n (Known (d ∷ [])) i w f = item_settled _ (numbered grid d)
count_settled grid op.Nodes n (Known (d ∷ e ∷ ns)) i w f = absurd (two_many (length ns) (both _ _ (sym (ap (takes op.Nodes) f) ∙ w)).1)
count_settled grid o n (Known (d ∷ e ∷ ns)) i w f = absurd (true≢false (sym i))

inquiry_counts_no : (o : Op) → is_inquiry o ≡ true → is_processor_count o ≡ false
inquiry_counts_no op.Nodes h = absurd (true≢false (sym h))
inquiry_counts_no o h = refl

symbol_settled : (a : Option Symbol) → ((s : Symbol) → a ≡ Some s → is_known s ≡ true) → IsSettled (value_of_symbol a)
symbol_settled (Some (Constant None)) known = absurd (no_value (known (Constant None) refl))
symbol_settled (Some (Constant (Some n))) known = tt
symbol_settled a known = tt

-- values over t, and types over u, which may have the dummies of the directive before the declared names
module _ (grid : List ℕ) (t u : SymbolTable) (known : (x : List ℕ) (s : Symbol) → find x t ≡ Some s → is_known s ≡ true) where
  first_known : (ps : Parts) (s : Symbol) → named_first t ps ≡ Some s → is_known s ≡ true
  first_known (More (One (Alone x)) ps) s h = known x s h
  first_known ps s h = absurd (none_some s h)

  -- one call
  called_settled : (o : Op) (ps : Parts) →
      (AllByRecursion HasValue (types_and_ranks Directive u ps) → AreSettled (count_of ps) (values (Some grid) t ps)) →
      (takes o (count_of ps) ≡ true → are_inquired (types_and_ranks Directive u ps) ≡ true → is_inquiry o ≡ true →
      IsSettled (of_array (Some grid) o (named_first t ps) (values_after (Some grid) t ps))) →
      HasValue (type_and_rank Directive u (Call o ps)) → IsSettled (value (Some grid) t (Call o ps))
  called_settled o ps all after h = by (takes o (count_of ps)) (is_processor_count o) (is_inquiry o) (is_reduction o) (is_transformation o) refl refl refl h
    where
      by : (tk pc iq rd tr : Bool) → takes o (count_of ps) ≡ tk → is_processor_count o ≡ pc → is_inquiry o ≡ iq →
          HasValue (if not tk then None else (if pc then integer_scalar_if (true && are_integer_scalars (types_and_ranks Directive u ps))
          else (if iq then integer_scalar_if (are_inquired (types_and_ranks Directive u ps) && (true || is_of_array u ps))
          else (if rd then reduction o (types_and_ranks Directive u ps) else elemental o (types_and_ranks Directive u ps))))) →
          IsSettled (if iq then of_array (Some grid) o (named_first t ps) (values_after (Some grid) t ps)
          else (if pc then processor_count (Some grid) (values (Some grid) t ps) else (if rd || tr then Invalid else elemental_value o (values (Some grid) t ps))))
      by false pc iq rd tr a b c h = absurd (no_value h)
      by true true true rd tr a b c h = absurd (true≢false (sym b ∙ inquiry_counts_no o c))
      by true false true rd tr a b c h = after a (both _ true (if_scalar _ h)).0 c
      by true true false rd tr a b c h = count_settled grid o (count_of ps) _ b a (all (scalar_values _ (if_scalar _ h)))
      by true false false true tr a b c h = tt
      by true false false false true a b c h = tt
      by true false false false false a b c h = elemental_settled o (count_of ps) _ a (all (elemental_values o _ h))

  mutual
    pub settled : (e : Expression) → HasValue (type_and_rank Directive u e) → IsSettled (value (Some grid) t e)
    settled (Number m) h = tt
    settled (Truth b) h = tt
    settled (Alone x) h = symbol_settled (find x t) (known x)
    settled (Element x ps) h = tt
    settled (Closed a) h = settled a h
    settled (Unary o a) h =
        operated_settled o 1 _ (more_settled 0 _ (Known []) (settled a (elemental_values o (type_and_rank Directive u a ∷ []) h).0) refl)
    settled (Binary o a b) h =
        let own = elemental_values o (type_and_rank Directive u a ∷ type_and_rank Directive u b ∷ []) h in
        operated_settled o 2 _ (more_settled 1 _ _ (settled a own.0) (more_settled 0 _ (Known []) (settled b own.1.0) refl))
    settled (Call o ps) h =
        called_settled o ps (λ g. settled_parts ps g)
        (λ w g i. settled_after o ps i w g)
        h

    settled_parts : (ps : Parts) → AllByRecursion HasValue (types_and_ranks Directive u ps) → AreSettled (count_of ps) (values (Some grid) t ps)
    settled_parts End h = refl
    settled_parts (More (One e) ps) h = more_settled (count_of ps) _ _ (settled e h.0) (settled_parts ps h.1)
    settled_parts (More q ps) h = tt

    settled_after : (o : Op) (ps : Parts) → is_inquiry o ≡ true → takes o (count_of ps) ≡ true → are_inquired (types_and_ranks Directive u ps) ≡ true →
        IsSettled (of_array (Some grid) o (named_first t ps) (values_after (Some grid) t ps))
    settled_after o End i w h = tt
    settled_after o (More (One e) ps) i w h =
        array_settled grid o (named_first t (More (One e) ps)) (count_of ps) (values (Some grid) t ps) i (first_known (More (One e) ps)) w
        (settled_parts ps (inquired_values (types_and_ranks Directive u ps) (both (is_some (type_and_rank Directive u e)) _ h).1))
    settled_after o (More q ps) i w h = absurd (no_value h)

  -- a constant expression of a directive has a value
  pub has_value : (e : Expression) → is_invalid (value (Some grid) t e) ≡ false → HasValue (type_and_rank Directive u e) → HasValue (if_known (value (Some grid) t e))
  has_value e a b = by (value (Some grid) t e) (settled e b) a
    where
      by : (v : Evaluated ℤ) → IsSettled v → is_invalid v ≡ false → HasValue (if_known v)
      by Invalid f a = absurd (true≢false a)
      by Unknown f a = absurd f
      by (Known n) f a = refl
