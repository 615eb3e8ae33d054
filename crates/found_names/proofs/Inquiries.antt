-- SIZE, LBOUND and UBOUND of an array have a value where no rule of names, types and ranks is broken.
use Rattle.std.proofs.Common.{◌≡◌, ℕ, zero, suc, ◌+◌, ◌≤◌, Bool, true, false, true≢false, cond, bytes_eq, List, [], ◌∷◌, length, map, position, slice_get, Option, Some, None, refl, sym, ap, subst, ◌∙◌, arith}
use Rattle.std.specs.Bool.{⊤}
use Rattle.std.specs.Prelude.{ℤ, pos, negsuc, drop, ◌&&◌, ◌||◌, not, nat_le, is_some, unwrap_or, if◌then◌else◌}
use Rattle.std.specs.List.{AllByRecursion, list_all, position_from}
use Rattle.std.proofs.lemmas.Bool.Decides.{nat_tests}
use Rattle.std.proofs.lemmas.Iterator.Adapters.{position_from-zero}
use Rattle.std.proofs.lemmas.Slice.Eq.{bytes_eq-Decides}
use Rattle.op_tables.specs.declared.op.Op.{Op}
use Rattle.op_tables.specs.declared.op.Op.TheVariants as op
use Rattle.op_tables.specs.Arguments.{is_inquiry, is_processor_count, is_reduction, is_transformation, takes}
use Rattle.op_tables.specs.Operators.{operator_value}
use Rattle.syntax_tree.specs.Expression.{Expression, Number, Truth, Name as Alone, Element, Call, Unary, Binary, Closed, Part, One, Range, Glued, Parts, End, More, Maybe, Absent, Present}
use Rattle.expression_rules.specs.Constants.{bound_of, elemental_value, inquired, item_or, named_first, numbered, of_array, operated, part_value, unless_zero, value, value_of_symbol, values, values_after, with_more}
use Rattle.expression_rules.specs.Symbols.{Name, SymbolTable, find, is_array, rank_of, satisfies}
use Rattle.expression_rules.specs.Types.{are_dimensions, are_inquired, are_subscripts, called_type, count_of, elemental, if_typed, inquired_from, integer_scalar_if, is_dimension, is_inquired, is_integer_scalar, is_of_array, is_subscript, is_triplet_part, reduction, triplets, type_and_rank, types_and_ranks}
use Rattle.expression_rules.specs.declared.dims.Dim.{Dim}
use Rattle.expression_rules.specs.declared.evaluated.Evaluated.{Evaluated}
use Rattle.expression_rules.specs.declared.evaluated.Evaluated.TheVariants.{Invalid, Unknown, Known}
use Rattle.expression_rules.specs.declared.symbols.Symbol.{Symbol}
use Rattle.expression_rules.specs.declared.symbols.Symbol.TheVariants as symbol
use Rattle.expression_rules.specs.declared.types.Context.TheVariants.{Statement}
use Rattle.expression_rules.specs.declared.types.TypeAndRank.{TypeAndRank}
use Rattle.name_table.specs.Entries.{declared_as, entry}
use Rattle.name_table.specs.Places.{whole_rank}
use Rattle.name_table.specs.declared.names.What.TheVariants as what
use Rattle.array_meaning.specs.Terms.{Apply, Term, Terms, Reduce}
use Rattle.array_meaning.specs.Resolution.{alone, constant, constants, dims_of, first_named, first_term, inquiry, or_zero, place_of, term_of, terms_of}
use Rattle.name_table.proofs.Tests.{HasValue, both, none_some}
use Rattle.name_table.proofs.TypedOperands.{typed_value}
use Rattle.well_formed.proofs.Dimensions.{IsFull, declared_found}
use Rattle.well_formed.proofs.Transformed.{IsMoved, Shifted, Transposed, Summed}
use Rattle.found_names.specs.FoundNames.{IsScalarName}
use Rattle.found_names.specs.Inquiries.{AreAnswered, IsAnswered, IsValue, MaybeIsAnswered, PartIsAnswered}
use Rattle.found_names.specs.Scalars.{Values}
use Rattle.found_names.proofs.Types.{ArgumentsFit, Fits, called_fits, elemental_fits, subscripted_rank}

not_true : false ≡ true → ⊥
not_true h = true≢false (sym h)

-- ---- values that are known

-- the value of an expression is that of its term, and so are those of parts
abbrev Agree : Evaluated ℤ → ℤ → Type 0
Agree (Known n) m = m ≡ n
Agree v m = ⊤

abbrev AllAgree : Evaluated (List ℤ) → List ℤ → Type 0
AllAgree (Known ns) ms = ms ≡ ns
AllAgree v ms = ⊤

more_agree : (v : Evaluated ℤ) (vs : Evaluated (List ℤ)) (m : ℤ) (ms : List ℤ) → Agree v m → AllAgree vs ms → AllAgree (with_more v vs) (m ∷ ms)
more_agree (Known n) (Known ns) m ms f g = λ i. f i ∷ g i
more_agree (Known n) Unknown m ms f g = tt
more_agree (Known n) Invalid m ms f g = tt
more_agree Unknown Invalid m ms f g = tt
more_agree Unknown Unknown m ms f g = tt
more_agree Unknown (Known ns) m ms f g = tt
more_agree Invalid vs m ms f g = tt

zero_agree : (n : Option ℤ) → Agree (unless_zero n) (unwrap_or n (pos 0))
zero_agree None = tt
zero_agree (Some n) = refl

operated_agree : (o : Op) (vs : Evaluated (List ℤ)) (ms : List ℤ) → AllAgree vs ms → Agree (operated o vs) (unwrap_or (operator_value o ms) (pos 0))
operated_agree o Invalid ms f = tt
operated_agree o Unknown ms f = tt
operated_agree o (Known ns) ms f =
    subst (λ l. Agree (unless_zero (operator_value o ns)) (unwrap_or (operator_value o l) (pos 0))) (sym f) (zero_agree (operator_value o ns))

elemental_agree : (o : Op) (vs : Evaluated (List ℤ)) (ms : List ℤ) → AllAgree vs ms → Agree (elemental_value o vs) (unwrap_or (operator_value o ms) (pos 0))
elemental_agree o Invalid ms f = tt
elemental_agree o Unknown ms f = tt
elemental_agree o (Known ns) ms f = by (takes o (length ns))
  where
    by : (b : Bool) → Agree (if b then operated o (Known ns) else Unknown) (unwrap_or (operator_value o ms) (pos 0))
    by true = operated_agree o (Known ns) ms f
    by false = tt

or_zero_agree : (v : Evaluated ℤ) → Agree v (or_zero v)
or_zero_agree (Known n) = refl
or_zero_agree Unknown = tt
or_zero_agree Invalid = tt

-- ---- indices are scalars, and so no constants

stands_from : (x : Name) (i k : ℕ) (xs : List Name) (P : Name → Type 0) → AllByRecursion P xs → position_from (bytes_eq x) i xs ≡ Some k → P x
stands_from x i k [] P all is = absurd (none_some k is)
stands_from x i k (y ∷ ys) P all is = by (bytes_eq x y) refl is (stands_from x (i + 1) k ys P all.1)
  where
    by : (b : Bool) → bytes_eq x y ≡ b → cond b (Some i) (position_from (bytes_eq x) (i + 1) ys) ≡ Some k → (position_from (bytes_eq x) (i + 1) ys ≡ Some k → P x) → P x
    by true same is more = subst P (sym ((bytes_eq-Decides x y).0 same)) all.0
    by false same is more = more is

-- ---- dimensions of an array

value_there : {A : Type 0} (f : A → ℤ) (o : Option A) → is_some o ≡ true → IsValue (item_or Unknown f o)
value_there f None h = absurd (not_true h)
value_there f (Some a) h = tt

item_there : (l : List Dim) (d : ℕ) → nat_le (suc d) (length l) ≡ true → is_some (slice_get l d) ≡ true
item_there [] d h = absurd (none d h)
  where
    none : (d : ℕ) → nat_le (suc d) 0 ≡ true → ⊥
    none d h = grind (arith, nat_tests)
item_there (a ∷ l) zero h = refl
item_there (a ∷ l) (suc d) h = item_there l d (grind (arith, nat_tests))

numbered_there : (l : List Dim) (d : ℤ) → is_dimension (length l) d ≡ true → is_some (numbered l d) ≡ true
numbered_there l (pos zero) h = absurd (not_true h)
numbered_there l (pos (suc d)) h = item_there l d h
numbered_there l (negsuc d) h = absurd (not_true h)

too_many : (n : ℕ) → nat_le (suc (suc (suc n))) 2 ≡ true → ⊥
too_many n h = grind (arith, nat_tests)

inquired_value : (o : Op) (l : List Dim) (ns : List ℤ) → is_inquiry o ≡ true → takes o (suc (length ns)) ≡ true → list_all (is_dimension (length l)) ns ≡ true →
    IsValue (inquired None o l ns)
inquired_value op.Size l [] i w h = tt
inquired_value op.LBound l [] i w h = absurd (true≢false (sym w))
inquired_value op.UBound l [] i w h = absurd (true≢false (sym w))
inquired_value op.Size l (d ∷ []) i w h = value_there (bound_of op.Size) (numbered l d) (numbered_there l d (both _ true h).0)
inquired_value op.LBound l (d ∷ []) i w h = value_there (bound_of op.LBound) (numbered l d) (numbered_there l d (both _ true h).0)
inquired_value op.UBound l (d ∷ []) i w h = value_there (bound_of op.UBound) (numbered l d) (numbered_there l d (both _ true h).0)
inquired_value op.Size l (d ∷ e ∷ ns) i w h = absurd (too_many (length ns) (both _ _ w).1)
inquired_value op.LBound l (d ∷ e ∷ ns) i w h = absurd (too_many (length ns) (both _ _ w).1)
inquired_value op.UBound l (d ∷ e ∷ ns) i w h = absurd (too_many (length ns) (both _ _ w).1)
inquired_value o l ns i w h = absurd (true≢false (sym i))

if_scalar : (b : Bool) → HasValue (integer_scalar_if b) → b ≡ true
if_scalar true h = refl
if_scalar false h = absurd (not_true h)

inquiry_typed : (t : SymbolTable) (o : Op) (ps : Parts) (ss : List (Option TypeAndRank)) → is_inquiry o ≡ true → HasValue (called_type Statement t o ps ss) →
    (takes o (count_of ps) ≡ true) × ((are_inquired ss ≡ true) × (is_of_array t ps ≡ true))
inquiry_typed t o ps ss i h = by (takes o (count_of ps)) (is_processor_count o) (is_inquiry o) refl refl i h
  where
    by : (tk pc iq : Bool) → takes o (count_of ps) ≡ tk → is_processor_count o ≡ pc → iq ≡ true →
        HasValue (if not tk then None else (if pc then integer_scalar_if false else (if iq then integer_scalar_if (are_inquired ss && (false || is_of_array t ps))
        else (if is_reduction o then reduction o ss else elemental o ss)))) → (takes o (count_of ps) ≡ true) × ((are_inquired ss ≡ true) × (is_of_array t ps ≡ true))
    by false pc iq a b c h = absurd (not_true h)
    by true true iq a b c h = absurd (not_true h)
    by true false true a b c h = (a, both (are_inquired ss) (is_of_array t ps) (if_scalar (are_inquired ss && is_of_array t ps) h))
    by true false false a b c h = absurd (not_true c)

inquired_types : (ss : List (Option TypeAndRank)) → inquired_from false ss ≡ true → AllByRecursion (Fits Values) ss
inquired_types [] h = tt
inquired_types (s ∷ ss) h = let two = both (is_inquired false s) (inquired_from false ss) h in (typed_value is_integer_scalar s two.0, inquired_types ss two.1)

are_typed : (ss : List (Option TypeAndRank)) → are_inquired ss ≡ true → AllByRecursion (Fits Values) ss
are_typed [] h = tt
are_typed (s ∷ ss) h = let two = both (is_some s) (inquired_from false ss) h in (two.0, inquired_types ss two.1)

module _ (t : SymbolTable) (full : (x : Name) (s : Symbol) → find x t ≡ Some s → IsFull s) (indices : List Name)
    (scalars : AllByRecursion (λ x. IsScalarName (declared_as (map entry t) x)) indices) where
  -- ---- the value of a constant expression is that of its term

  alone_agree : (x : Name) → Agree (value_of_symbol (find x t)) (constant (term_of (map entry t) indices (Alone x)))
  alone_agree x = by (find x t) refl
    where
      no_index : (n : ℤ) (o : Option ℕ) → position (bytes_eq x) indices ≡ o → declared_as (map entry t) x ≡ Some (what.Constant n) →
          constant (alone o (place_of (map entry t) x) (declared_as (map entry t) x)) ≡ n
      no_index n None at is = ap (λ w. constant (alone None (place_of (map entry t) x) w)) is
      no_index n (Some k) at is =
          absurd (subst IsScalarName is (stands_from x 0 k indices (λ y. IsScalarName (declared_as (map entry t) y)) scalars (sym (position_from-zero (bytes_eq x) indices) ∙ at)))

      by : (o : Option Symbol) → find x t ≡ o → Agree (value_of_symbol o) (constant (term_of (map entry t) indices (Alone x)))
      by (Some (symbol.Constant (Some n))) is = no_index n (position (bytes_eq x) indices) refl (declared_found x t (symbol.Constant (Some n)) is)
      by (Some (symbol.Constant None)) is = tt
      by o is = tt

  named_dims : (x : Name) (r : ℕ) (l : List Dim) (n : Option ℤ) → find x t ≡ Some (symbol.Array r (Some l) n) → dims_of (declared_as (map entry t) x) ≡ l
  named_dims x r l n is = ap dims_of (declared_found x t (symbol.Array r (Some l) n) is)

  -- SIZE and its kin
  inquiry_agree : (o : Op) (x : Name) (vs : Evaluated (List ℤ)) (ms : List ℤ) → AllAgree vs ms →
      Agree (of_array None o (find x t) vs) (or_zero (inquired None o (dims_of (declared_as (map entry t) x)) ms))
  inquiry_agree o x vs ms f = by (find x t) refl vs f
    where
      by : (a : Option Symbol) → find x t ≡ a → (vs : Evaluated (List ℤ)) → AllAgree vs ms → Agree (of_array None o a vs) (or_zero (inquired None o (dims_of (declared_as (map entry t) x)) ms))
      by (Some (symbol.Array r (Some l) n)) is (Known ns) f =
          subst (λ ds. Agree (inquired None o l ns) (or_zero (inquired None o ds ms))) (sym (named_dims x r l n is))
          (subst (λ k. Agree (inquired None o l ns) (or_zero (inquired None o l k))) (sym f) (or_zero_agree (inquired None o l ns)))
      by (Some (symbol.Array r None n)) is (Known ns) f = tt
      by (Some (symbol.Array r ds n)) is Unknown f = tt
      by (Some (symbol.Array r ds n)) is Invalid f = tt
      by a is vs f = tt

  abbrev call_term : Bool → Bool → Op → Parts → Terms → Term
  call_term iq rd o ps ts = if iq then inquiry o (dims_of (first_named (map entry t) ps)) ts else (if rd then Reduce o (first_term ts) else Apply o ts)

  call_agree : (o : Op) (ps : Parts) → AllAgree (values None t ps) (constants (terms_of (map entry t) indices ps)) →
      Agree (of_array None o (named_first t ps) (values_after None t ps))
      (or_zero (inquired None o (dims_of (first_named (map entry t) ps)) (drop 1 (constants (terms_of (map entry t) indices ps))))) →
      Agree (value None t (Call o ps)) (constant (term_of (map entry t) indices (Call o ps)))
  call_agree o ps all first = by (is_inquiry o) (is_processor_count o) (is_reduction o) (is_transformation o)
    where
      by : (iq pc rd tr : Bool) → Agree (if iq then of_array None o (named_first t ps) (values_after None t ps) else (if pc then Invalid else
          (if rd || tr then Invalid else elemental_value o (values None t ps)))) (constant (call_term iq rd o ps (terms_of (map entry t) indices ps)))
      by true pc rd tr = first
      by false true rd tr = tt
      by false false true tr = tt
      by false false false true = tt
      by false false false false = elemental_agree o (values None t ps) (constants (terms_of (map entry t) indices ps)) all

  mutual
    agree : (e : Expression) → Agree (value None t e) (constant (term_of (map entry t) indices e))
    agree (Number n) = refl
    agree (Truth b) = refl
    agree (Alone x) = alone_agree x
    agree (Element x ps) = tt
    agree (Closed a) = agree a
    agree (Unary o a) = operated_agree o _ _ (more_agree (value None t a) (Known []) _ [] (agree a) refl)
    agree (Binary o a b) = operated_agree o _ _ (more_agree (value None t a) _ _ _ (agree a) (more_agree (value None t b) (Known []) _ [] (agree b) refl))
    agree (Call o ps) = call_agree o ps (all_agree ps) (first_agree o ps)

    all_agree : (ps : Parts) → AllAgree (values None t ps) (constants (terms_of (map entry t) indices ps))
    all_agree End = refl
    all_agree (More (One e) ps) = more_agree (value None t e) (values None t ps) _ _ (agree e) (all_agree ps)
    all_agree (More p ps) = tt

    first_agree : (o : Op) (ps : Parts) → Agree (of_array None o (named_first t ps) (values_after None t ps))
        (or_zero (inquired None o (dims_of (first_named (map entry t) ps)) (drop 1 (constants (terms_of (map entry t) indices ps)))))
    first_agree o (More (One (Alone x)) ps) = inquiry_agree o x (values None t ps) (constants (terms_of (map entry t) indices ps)) (all_agree ps)
    first_agree o ps = tt

  -- ---- an inquiry that has a type has a value

  counted : (ps : Parts) (ns : List ℤ) → values None t ps ≡ Known ns → count_of ps ≡ length ns
  counted End ns h = ap known_length h
    where
      known_length : Evaluated (List ℤ) → ℕ
      known_length (Known ns) = length ns
      known_length v = 0
  counted (More p ps) ns h = by (part_value None t p) (values None t ps) h (counted ps)
    where
      known_length : Evaluated (List ℤ) → ℕ
      known_length (Known ns) = length ns
      known_length v = 0

      is_known : Evaluated (List ℤ) → Bool
      is_known (Known ns) = true
      is_known v = false

      by : (v : Evaluated ℤ) (vs : Evaluated (List ℤ)) → with_more v vs ≡ Known ns → ((ms : List ℤ) → vs ≡ Known ms → count_of ps ≡ length ms) → suc (count_of ps) ≡ length ns
      by (Known n) (Known ms) h f = ap suc (f ms refl) ∙ ap known_length h
      by (Known n) Unknown h f = absurd (not_true (ap is_known h))
      by (Known n) Invalid h f = absurd (not_true (ap is_known h))
      by Unknown Invalid h f = absurd (not_true (ap is_known h))
      by Unknown Unknown h f = absurd (not_true (ap is_known h))
      by Unknown (Known ms) h f = absurd (not_true (ap is_known h))
      by Invalid vs h f = absurd (not_true (ap is_known h))

  answered : (o : Op) (ps : Parts) → is_inquiry o ≡ true → HasValue (type_and_rank Statement t (Call o ps)) →
      IsValue (inquired None o (dims_of (first_named (map entry t) ps)) (drop 1 (constants (terms_of (map entry t) indices ps))))
  answered o End i h = absurd (not_true (inquiry_typed t o End [] i h).1.1)
  answered o (More (One (Alone x)) ps) i h =
      let own = inquiry_typed t o (More (One (Alone x)) ps) (types_and_ranks Statement t (More (One (Alone x)) ps)) i h in
      let two = both (satisfies is_array (find x t)) (are_dimensions (rank_of (find x t)) (values None t ps)) own.1.1 in
      by (find x t) refl two.0 (values None t ps) refl two.1 own.0
    where
      by_values : (r : ℕ) (l : List Dim) (n : Option ℤ) → find x t ≡ Some (symbol.Array r (Some l) n) → r ≡ length l → (vs : Evaluated (List ℤ)) → values None t ps ≡ vs →
          are_dimensions r vs ≡ true → takes o (suc (count_of ps)) ≡ true →
          IsValue (inquired None o (dims_of (declared_as (map entry t) x)) (constants (terms_of (map entry t) indices ps)))
      by_values r l n is same Unknown known dims w = absurd (not_true dims)
      by_values r l n is same Invalid known dims w = absurd (not_true dims)
      by_values r l n is same (Known ns) known dims w =
          subst (λ ds. IsValue (inquired None o ds (constants (terms_of (map entry t) indices ps)))) (sym (named_dims x r l n is))
          (subst (λ ms. IsValue (inquired None o l ms)) (sym (subst (λ vs. AllAgree vs (constants (terms_of (map entry t) indices ps))) known (all_agree ps)))
          (inquired_value o l ns i (sym (ap (λ k. takes o (suc k)) (counted ps ns known)) ∙ w) (sym (ap (λ k. list_all (is_dimension k) ns) same) ∙ dims)))

      by_symbol : (s : Symbol) → find x t ≡ Some s → IsFull s → satisfies is_array (Some s) ≡ true → (vs : Evaluated (List ℤ)) → values None t ps ≡ vs →
          are_dimensions (rank_of (Some s)) vs ≡ true → takes o (suc (count_of ps)) ≡ true →
          IsValue (inquired None o (dims_of (declared_as (map entry t) x)) (constants (terms_of (map entry t) indices ps)))
      by_symbol (symbol.Array r None n) is own array vs known dims w = absurd own
      by_symbol (symbol.Array r (Some l) n) is own array vs known dims w = by_values r l n is own.0 vs known dims w
      by_symbol s is own array vs known dims w = absurd (not_true array)

      by : (a : Option Symbol) → find x t ≡ a → satisfies is_array a ≡ true → (vs : Evaluated (List ℤ)) → values None t ps ≡ vs → are_dimensions (rank_of a) vs ≡ true →
          takes o (suc (count_of ps)) ≡ true → IsValue (inquired None o (dims_of (declared_as (map entry t) x)) (constants (terms_of (map entry t) indices ps)))
      by None is array vs known dims w = absurd (not_true array)
      by (Some s) is array vs known dims w = by_symbol s is (full x s is) array vs known dims w
  answered o ps i h = absurd (not_true (inquiry_typed t o ps (types_and_ranks Statement t ps) i h).1.1)

  -- ---- all inquiries of an expression

  good_subscripts : (x : Name) (ps : Parts) → HasValue (type_and_rank Statement t (Element x ps)) → are_subscripts Statement t ps ≡ true
  good_subscripts x ps h =
      (subscripted_rank (λ k. true) (rank_of (find x t)) (count_of ps) (are_subscripts Statement t ps) (triplets ps) (typed (type_and_rank Statement t (Element x ps)) h)).0
    where
      typed : (o : Option TypeAndRank) → HasValue o → if_typed (λ s. true) o ≡ true
      typed None h = absurd (not_true h)
      typed (Some s) h = refl

  argument_types : (o : Op) (ps : Parts) → HasValue (type_and_rank Statement t (Call o ps)) → AllByRecursion (Fits Values) (types_and_ranks Statement t ps)
  argument_types o ps h = by (is_inquiry o) refl
    where
      either_way : (b : Bool) → ArgumentsFit Values b (types_and_ranks Statement t ps) → AllByRecursion (Fits Values) (types_and_ranks Statement t ps)
      either_way true f = f
      either_way false f = f

      by : (b : Bool) → is_inquiry o ≡ b → AllByRecursion (Fits Values) (types_and_ranks Statement t ps)
      by true i = are_typed (types_and_ranks Statement t ps) (inquiry_typed t o ps (types_and_ranks Statement t ps) i h).1.0
      by false i = either_way (is_reduction o) (called_fits Values t o ps (types_and_ranks Statement t ps) i h)

  mutual
    pub all_answered : (e : Expression) → HasValue (type_and_rank Statement t e) → IsAnswered (map entry t) indices e
    all_answered (Number n) h = tt
    all_answered (Truth b) h = tt
    all_answered (Alone x) h = tt
    all_answered (Element x ps) h = subscripts_answered ps (good_subscripts x ps h)
    all_answered (Closed a) h = all_answered a h
    all_answered (Unary o a) h = all_answered a (elemental_fits Values o (type_and_rank Statement t a ∷ []) h).0
    all_answered (Binary o a b) h =
        let own = elemental_fits Values o (type_and_rank Statement t a ∷ type_and_rank Statement t b ∷ []) h in (all_answered a own.0, all_answered b own.1.0)
    all_answered (Call o ps) h = (λ i. answered o ps i h, arguments_answered ps (argument_types o ps h))

    arguments_answered : (ps : Parts) → AllByRecursion (Fits Values) (types_and_ranks Statement t ps) → AreAnswered (map entry t) indices ps
    arguments_answered End h = tt
    arguments_answered (More (One a) ps) h = (all_answered a h.0, arguments_answered ps h.1)
    arguments_answered (More p ps) h = absurd (not_true h.0)

    subscripts_answered : (ps : Parts) → are_subscripts Statement t ps ≡ true → AreAnswered (map entry t) indices ps
    subscripts_answered End h = tt
    subscripts_answered (More p ps) h =
        let two = both (is_subscript Statement t p) (are_subscripts Statement t ps) h in (part_answered p two.0, subscripts_answered ps two.1)

    part_answered : (p : Part) → is_subscript Statement t p ≡ true → PartIsAnswered (map entry t) indices p
    part_answered (One a) h = all_answered a (typed_value is_integer_scalar (type_and_rank Statement t a) h)
    part_answered (Range a b c) h =
        let s = both (is_triplet_part Statement t a && is_triplet_part Statement t b) (is_triplet_part Statement t c) h in
        let r = both (is_triplet_part Statement t a) (is_triplet_part Statement t b) s.0 in
        (maybe_answered a r.0, maybe_answered b r.1, maybe_answered c s.1)
    part_answered (Glued a c) h =
        let s = both (is_triplet_part Statement t a) (if_typed is_integer_scalar (type_and_rank Statement t c)) h in
        (maybe_answered a s.0, all_answered c (typed_value is_integer_scalar (type_and_rank Statement t c) s.1))

    maybe_answered : (m : Maybe) → is_triplet_part Statement t m ≡ true → MaybeIsAnswered (map entry t) indices m
    maybe_answered Absent h = tt
    maybe_answered (Present a) h = all_answered a (typed_value is_integer_scalar (type_and_rank Statement t a) h)

  -- ---- those of a circular shift or a transpose

  named_answered : (x : Expression) → 1 ≤ whole_rank t x → IsAnswered (map entry t) indices x
  named_answered (Alone x) h = tt
  named_answered x h = absurd (omega (arith, h))

  pub moved_answered : (left right : Expression) → IsMoved Statement t left right → IsAnswered (map entry t) indices right
  moved_answered left right (Shifted b k some same scalar) =
      (λ i. absurd (not_true i), (named_answered b (omega (arith, some, same)), (all_answered k (typed_value is_integer_scalar (type_and_rank Statement t k) scalar), tt)))
  moved_answered left right (Transposed b one same) = (λ i. absurd (not_true i), (named_answered b (omega (arith, same)), tt))
  moved_answered left right (Summed b one same) = (λ i. absurd (not_true i), (named_answered b (omega (arith, same)), tt))
