-- Values of constant expressions over a symbol table in which all is known, and types over a later one.
use Rattle.std.proofs.Common.{◌≡◌, ℕ, zero, suc, Bool, true, false, true≢false, List, [], ◌∷◌, length, slice_get, Option, Some, None, refl, sym, ap, ◌∙◌, arith}
use Rattle.std.specs.Prelude.{ℤ, pos, negsuc, ◌&&◌, ◌||◌, not, nat_le, is_some, if◌then◌else◌}
use Rattle.std.specs.List.{list_all, list_any}
use Rattle.std.proofs.lemmas.Bool.Decides.{nat_tests}
use Rattle.op_tables.specs.declared.op.Op.{Op}
use Rattle.op_tables.specs.declared.op.Op.TheVariants as op
use Rattle.op_tables.specs.Arguments.{takes, is_reduction, is_transformation, is_transformational, is_inquiry, is_processor_count}
use Rattle.op_tables.specs.Operators.{operator_value}
use Rattle.syntax_tree.specs.Expression.{Expression, Number, Truth, Name as Alone, Element, Call, Unary, Binary, Closed, Part, One, Parts, End, More}
use Rattle.expression_rules.specs.declared.dims.Dim.{Dim}
use Rattle.expression_rules.specs.declared.evaluated.Evaluated.{Evaluated}
use Rattle.expression_rules.specs.declared.evaluated.Evaluated.TheVariants.{Invalid, Unknown, Known}
use Rattle.expression_rules.specs.declared.symbols.Symbol.{Symbol}
use Rattle.expression_rules.specs.declared.symbols.Symbol.TheVariants.{Initialized, Constant, Array}
use Rattle.expression_rules.specs.declared.types.Context.TheVariants.{Statement}
use Rattle.expression_rules.specs.declared.types.DataType.{DataType}
use Rattle.expression_rules.specs.declared.types.TypeAndRank.{TypeAndRank}
use Rattle.expression_rules.specs.Constants.{at_dimension, bound_of, called_value, elemental_value, inquired, item_or, named_first, numbered, of_array, operated, part_value, unless_zero, value, value_of_symbol, values, values_after, with_more}
use Rattle.expression_rules.specs.Symbols.{Name, SymbolTable, find, is_array, is_uninitialized, rank_of, satisfies}
use Rattle.expression_rules.specs.Types.{are_dimensions, are_inquired, called_type, common, conforming, count_of, elemental, inquired_from, integer_scalar_if, is_dimension, is_inquired, is_of_array, operand_type, rank_in, reduction, of_type, result_type, type_and_rank, types_and_ranks}
use Rattle.declarations.specs.Declarations.{if_known, number}
use Rattle.declarations.specs.DeclarationRules.{is_invalid}

-- a symbol is known, and its dimensions are as many as its rank
abbrev pub IsRight : Symbol → Type 0
IsRight (Initialized None) = ⊥
IsRight (Constant None) = ⊥
IsRight (Array r None n) = ⊥
IsRight (Array r (Some ds) None) = ⊥
IsRight (Array r (Some ds) (Some n)) = r ≡ length ds
IsRight s = Unit {0}

abbrev pub tag : {A : Type 0} → Evaluated A → ℕ
tag Invalid = 0
tag Unknown = 1
tag (Known a) = 2

invalid_known : {A : Type 0} (a : A) → Invalid ≡ Known a → ⊥
invalid_known a h = let e : 0 ≡ 2 = ap tag h in omega (arith, e)

unknown_known : {A : Type 0} (a : A) → Unknown ≡ Known a → ⊥
unknown_known a h = let e : 1 ≡ 2 = ap tag h in omega (arith, e)

invalid_unknown : {A : Type 0} (v : Evaluated A) → tag v ≡ 0 → v ≡ Unknown → ⊥
invalid_unknown v a h = let e : tag v ≡ 1 = ap tag h in omega (arith, a, e)

known_unknown : {A : Type 0} (v : Evaluated A) → tag v ≡ 2 → v ≡ Unknown → ⊥
known_unknown v a h = let e : tag v ≡ 1 = ap tag h in omega (arith, a, e)

-- ---- what is known stays so

abbrev pub Later : {A : Type 0} → Evaluated A → Evaluated A → Type 0
Later {A} v w = (a : A) → v ≡ Known a → w ≡ Known a

more_later : (v w : Evaluated ℤ) (fs gs : Evaluated (List ℤ)) → Later v w → Later fs gs → Later (with_more v fs) (with_more w gs)
more_later Invalid w fs gs f g ns h = absurd (invalid_known ns h)
more_later Unknown w Invalid gs f g ns h = absurd (invalid_known ns h)
more_later Unknown w Unknown gs f g ns h = absurd (unknown_known ns h)
more_later Unknown w (Known as') gs f g ns h = absurd (unknown_known ns h)
more_later (Known a) w Invalid gs f g ns h = absurd (invalid_known ns h)
more_later (Known a) w Unknown gs f g ns h = absurd (unknown_known ns h)
more_later (Known a) w (Known as') gs f g ns h = (λ i. with_more (f a refl i) (g as' refl i)) ∙ h

operated_later : (o : Op) (fs gs : Evaluated (List ℤ)) → Later fs gs → Later (operated o fs) (operated o gs)
operated_later o Invalid gs g n h = absurd (invalid_known n h)
operated_later o Unknown gs g n h = absurd (unknown_known n h)
operated_later o (Known ns) gs g n h = ap (operated o) (g ns refl) ∙ h

elemental_later : (o : Op) (fs gs : Evaluated (List ℤ)) → Later fs gs → Later (elemental_value o fs) (elemental_value o gs)
elemental_later o Invalid gs g n h = absurd (invalid_known n h)
elemental_later o Unknown gs g n h = absurd (unknown_known n h)
elemental_later o (Known ns) gs g n h = ap (elemental_value o) (g ns refl) ∙ h

if_later : (b : Bool) (x x' y y' : Evaluated ℤ) → Later x x' → Later y y' → Later (if b then x else y) (if b then x' else y')
if_later true x x' y y' f g = f
if_later false x x' y y' f g = g

-- what a name stands for stays so, unless it is a scalar without an initial value
abbrev pub Stays : Option Symbol → Option Symbol → Type 0
Stays a b = (s : Symbol) → a ≡ Some s → is_uninitialized s ≡ false → b ≡ Some s

abbrev pub Kept : SymbolTable → SymbolTable → Type 0
Kept t u = (x : Name) → Stays (find x t) (find x u)

array_later : (o : Op) (a b : Option Symbol) (fs gs : Evaluated (List ℤ)) → Stays a b → Later fs gs → Later (of_array None o a fs) (of_array None o b gs)
array_later o (Some (Array r ds m)) b Invalid gs k g n h = absurd (invalid_known n h)
array_later o (Some (Array r ds m)) b Unknown gs k g n h = absurd (unknown_known n h)
array_later o (Some (Array r ds m)) b (Known ns) gs k g n h = (λ i. of_array None o (k (Array r ds m) refl refl i) (g ns refl i)) ∙ h
array_later o a b fs gs k g n h = absurd (invalid_known n h)

symbol_later : (a b : Option Symbol) → Stays a b → Later (value_of_symbol a) (value_of_symbol b)
symbol_later (Some (Constant m)) b k n h = ap value_of_symbol (k (Constant m) refl refl) ∙ h
symbol_later a b k n h = absurd (invalid_known n h)

call_later : (o : Op) (a b : Option Symbol) (fs gs xs ys : Evaluated (List ℤ)) → Stays a b → Later fs gs → Later xs ys →
    Later (called_value None o a fs xs) (called_value None o b gs ys)
call_later o a b fs gs xs ys k f g =
    if_later (is_inquiry o) _ _ _ _ (array_later o a b xs ys k g)
    (if_later (is_processor_count o) _ _ _ _ (λ n h. h) (if_later (is_transformational o) _ _ _ _ (λ n h. h) (elemental_later o fs gs f)))

nothing_stays : (b : Option Symbol) → Stays None b
nothing_stays b s h = absurd (true≢false (sym (ap is_some h)))

first_stays : (t u : SymbolTable) → Kept t u → (ps : Parts) → Stays (named_first t ps) (named_first u ps)
first_stays t u k (More (One (Alone x)) ps) = k x
first_stays t u k ps = nothing_stays (named_first u ps)

module _ (t u : SymbolTable) (k : Kept t u) where
  mutual
    pub later : (e : Expression) → Later (value None t e) (value None u e)
    later (Number m) = λ n h. h
    later (Truth b) = λ n h. h
    later (Alone x) = symbol_later (find x t) (find x u) (k x)
    later (Element x ps) = λ n h. h
    later (Closed a) = later a
    later (Unary o a) = operated_later o _ _ (more_later _ _ _ _ (later a) (λ n h. h))
    later (Binary o a b) = operated_later o _ _ (more_later _ _ _ _ (later a) (more_later _ _ _ _ (later b) (λ n h. h)))
    later (Call o ps) = call_later o _ _ _ _ _ _ (first_stays t u k ps) (later_parts ps) (later_after ps)

    later_parts : (ps : Parts) → Later (values None t ps) (values None u ps)
    later_parts End = λ n h. h
    later_parts (More q ps) = more_later _ _ _ _ (later_part q) (later_parts ps)

    pub later_after : (ps : Parts) → Later (values_after None t ps) (values_after None u ps)
    later_after End = λ n h. h
    later_after (More q ps) = later_parts ps

    later_part : (q : Part) → Later (part_value None t q) (part_value None u q)
    later_part (One e) = later e
    later_part q = λ n h. h

-- ---- what is unknown breaks a rule of types and ranks

abbrev pub has_none : List (Option TypeAndRank) → Bool
has_none ss = list_any (λ s. not (is_some s)) ss

or_true : (a : Bool) → (a || true) ≡ true
or_true true = refl
or_true false = refl

and_false : (a : Bool) → (a && false) ≡ false
and_false true = refl
and_false false = refl

and_right : (a b : Bool) → (a && b) ≡ true → b ≡ true
and_right true b h = h
and_right false b h = absurd (true≢false (sym h))

common_none : (r : Option ℕ) → common r None ≡ None
common_none None = refl
common_none (Some q) = refl

conforming_none : (k : DataType) (ss : List (Option TypeAndRank)) → has_none ss ≡ true → conforming k ss ≡ None
conforming_none k [] h = absurd (true≢false (sym h))
conforming_none k (None ∷ ss) h = refl
conforming_none k (Some s ∷ ss) h = ap (common (rank_in k (Some s))) (conforming_none k ss h) ∙ common_none (rank_in k (Some s))

elemental_none : (o : Op) (ss : List (Option TypeAndRank)) → has_none ss ≡ true → elemental o ss ≡ None
elemental_none o ss h = ap (of_type (result_type o)) (conforming_none (operand_type o) ss h)

inquired_none : (ss : List (Option TypeAndRank)) → has_none ss ≡ true → inquired_from false ss ≡ false
inquired_none [] h = absurd (true≢false (sym h))
inquired_none (None ∷ ss) h = refl
inquired_none (Some s ∷ ss) h = ap (λ b. is_inquired false (Some s) && b) (inquired_none ss h) ∙ and_false (is_inquired false (Some s))

-- an unknown value is of what has no type, and of unknown values one is of such
abbrev pub Lacks : Evaluated ℤ → Option TypeAndRank → Type 0
Lacks v s = v ≡ Unknown → s ≡ None

abbrev pub OneLacks : Evaluated (List ℤ) → List (Option TypeAndRank) → Type 0
OneLacks fs ss = fs ≡ Unknown → has_none ss ≡ true

more_lacks : (v : Evaluated ℤ) (fs : Evaluated (List ℤ)) (s : Option TypeAndRank) (ss : List (Option TypeAndRank)) → Lacks v s → OneLacks fs ss → OneLacks (with_more v fs) (s ∷ ss)
more_lacks Invalid fs s ss f g h = absurd (invalid_unknown _ refl h)
more_lacks Unknown fs s ss f g h = ap (λ s. not (is_some s) || has_none ss) (f refl)
more_lacks (Known a) Unknown s ss f g h = ap (λ b. not (is_some s) || b) (g refl) ∙ or_true (not (is_some s))
more_lacks (Known a) Invalid s ss f g h = absurd (invalid_unknown _ refl h)
more_lacks (Known a) (Known as') s ss f g h = absurd (known_unknown _ refl h)

none_lacks : (ss : List (Option TypeAndRank)) → OneLacks (Known []) ss
none_lacks ss h = absurd (known_unknown _ refl h)

zero_lacks : (n : Option ℤ) → unless_zero n ≡ Unknown → ⊥
zero_lacks None h = invalid_unknown _ refl h
zero_lacks (Some n) h = known_unknown _ refl h

operated_lacks : (o : Op) (fs : Evaluated (List ℤ)) (ss : List (Option TypeAndRank)) → OneLacks fs ss → Lacks (operated o fs) (elemental o ss)
operated_lacks o Invalid ss g h = absurd (invalid_unknown _ refl h)
operated_lacks o Unknown ss g h = elemental_none o ss (g refl)
operated_lacks o (Known ns) ss g h = absurd (zero_lacks (operator_value o ns) h)

unary_lacks : (o : Op) (v : Evaluated ℤ) (s : Option TypeAndRank) → Lacks v s → Lacks (operated o (with_more v (Known []))) (elemental o (s ∷ []))
unary_lacks o v s f = operated_lacks o (with_more v (Known [])) (s ∷ []) (more_lacks v (Known []) s [] f (none_lacks []))

binary_lacks : (o : Op) (v w : Evaluated ℤ) (s r : Option TypeAndRank) → Lacks v s → Lacks w r →
    Lacks (operated o (with_more v (with_more w (Known [])))) (elemental o (s ∷ r ∷ []))
binary_lacks o v w s r f g =
    operated_lacks o (with_more v (with_more w (Known []))) (s ∷ r ∷ []) (more_lacks v (with_more w (Known [])) s (r ∷ []) f (more_lacks w (Known []) r [] g (none_lacks [])))

-- a dimension that isn't there
no_item : (l : List Dim) (d : ℕ) → slice_get l d ≡ None → nat_le (suc d) (length l) ≡ false
no_item [] d h = grind (arith, nat_tests)
no_item (a ∷ l) zero h = absurd (true≢false (ap is_some h))
no_item (a ∷ l) (suc d) h = let e = no_item l d h in grind (arith, nat_tests)

not_numbered : (l : List Dim) (d : ℤ) → numbered l d ≡ None → is_dimension (length l) d ≡ false
not_numbered l (pos zero) h = refl
not_numbered l (pos (suc d)) h = no_item l d h
not_numbered l (negsuc d) h = refl

one_dimension : (f : Dim → ℤ) (r : ℕ) (l : List Dim) (d : ℤ) → r ≡ length l → at_dimension None f l d ≡ Unknown → list_all (is_dimension r) (d ∷ []) ≡ false
one_dimension f r l d is h = by (numbered l d) refl h
  where
    by : (o : Option Dim) → numbered l d ≡ o → item_or Unknown f o ≡ Unknown → list_all (is_dimension r) (d ∷ []) ≡ false
    by None e h = ap (λ r. is_dimension r d && true) is ∙ ap (λ b. b && true) (not_numbered l d e)
    by (Some a) e h = absurd (known_unknown _ refl h)

too_many : (n : ℕ) → nat_le (suc (suc (suc n))) 2 ≡ true → ⊥
too_many n h = grind (arith, nat_tests)

inquired_unknown : (o : Op) (r : ℕ) (l : List Dim) (ns : List ℤ) → is_inquiry o ≡ true → r ≡ length l → inquired None o l ns ≡ Unknown → takes o (suc (length ns)) ≡ true →
    list_all (is_dimension r) ns ≡ false
inquired_unknown op.Size r l [] i is h w = absurd (known_unknown _ refl h)
inquired_unknown op.LBound r l [] i is h w = absurd (true≢false (sym w))
inquired_unknown op.UBound r l [] i is h w = absurd (true≢false (sym w))
inquired_unknown op.Size r l (d ∷ []) i is h w = one_dimension (bound_of op.Size) r l d is h
inquired_unknown op.LBound r l (d ∷ []) i is h w = one_dimension (bound_of op.LBound) r l d is h
inquired_unknown op.UBound r l (d ∷ []) i is h w = one_dimension (bound_of op.UBound) r l d is h
inquired_unknown op.Size r l (d ∷ e ∷ ns) i is h w = absurd (too_many (length ns) (and_right _ _ w))
inquired_unknown op.LBound r l (d ∷ e ∷ ns) i is h w = absurd (too_many (length ns) (and_right _ _ w))
inquired_unknown op.UBound r l (d ∷ e ∷ ns) i is h w = absurd (too_many (length ns) (and_right _ _ w))
inquired_unknown o r l ns i is h w = absurd (true≢false (sym i))

-- SIZE and its kin, of an array that is known
array_lacks : (o : Op) (a b : Option Symbol) (fs gs : Evaluated (List ℤ)) (asked : Bool) (count : ℕ) →
    is_inquiry o ≡ true → ((s : Symbol) → a ≡ Some s → IsRight s) → Stays a b → Later fs gs → (fs ≡ Unknown → asked ≡ false) →
    ((s : Symbol) (ns : List ℤ) → a ≡ Some s → fs ≡ Known ns → count ≡ suc (length ns)) → takes o count ≡ true →
    of_array None o a fs ≡ Unknown → (asked && (satisfies is_array b && are_dimensions (rank_of b) gs)) ≡ false
array_lacks o (Some (Array r ds m)) b Invalid gs asked count i right k g f c w h = absurd (invalid_unknown _ refl h)
array_lacks o (Some (Array r ds m)) b Unknown gs asked count i right k g f c w h = ap (λ x. x && (satisfies is_array b && are_dimensions (rank_of b) gs)) (f refl)
array_lacks o (Some (Array r None m)) b (Known ns) gs asked count i right k g f c w h = absurd (right (Array r None m) refl)
array_lacks o (Some (Array r (Some l) None)) b (Known ns) gs asked count i right k g f c w h = absurd (right (Array r (Some l) None) refl)
array_lacks o (Some (Array r (Some l) (Some m))) b (Known ns) gs asked count i right k g f c w h =
    let s : Symbol = Array r (Some l) (Some m) in
    let here : b ≡ Some s = k s refl refl in
    (λ j. asked && (satisfies is_array (here j) && are_dimensions (rank_of (here j)) (g ns refl j)))
    ∙ ap (λ x. asked && x) (inquired_unknown o r l ns i (right s refl) h (sym (ap (takes o) (c s ns refl refl)) ∙ w))
    ∙ and_false asked
array_lacks o a b fs gs asked count i right k g f c w h = absurd (invalid_unknown _ refl h)

-- how many arguments there are
abbrev pub length_in : Evaluated (List ℤ) → ℕ
length_in (Known ns) = length ns
length_in v = 0

known_length : (xs ys : List ℤ) → Known xs ≡ Known ys → length xs ≡ length ys
known_length xs ys h = ap length_in h

counted : (t : SymbolTable) (ps : Parts) (ns : List ℤ) → values None t ps ≡ Known ns → count_of ps ≡ length ns
counted t End ns h = known_length [] ns h
counted t (More q ps) ns h = by (part_value None t q) (values None t ps) (counted t ps) ns h
  where
    by : (v : Evaluated ℤ) (fs : Evaluated (List ℤ)) → ((ns : List ℤ) → fs ≡ Known ns → count_of ps ≡ length ns) → (ns : List ℤ) → with_more v fs ≡ Known ns →
        suc (count_of ps) ≡ length ns
    by Invalid fs f ns h = absurd (invalid_known ns h)
    by Unknown Invalid f ns h = absurd (invalid_known ns h)
    by Unknown Unknown f ns h = absurd (unknown_known ns h)
    by Unknown (Known as') f ns h = absurd (unknown_known ns h)
    by (Known a) Invalid f ns h = absurd (invalid_known ns h)
    by (Known a) Unknown f ns h = absurd (unknown_known ns h)
    by (Known a) (Known as') f ns h = ap suc (f as' refl) ∙ known_length (a ∷ as') ns h

first_none : (s : Symbol) → None ≡ Some s → ⊥
first_none s h = true≢false (sym (ap is_some h))

counted_after : (t : SymbolTable) (ps : Parts) (s : Symbol) (ns : List ℤ) → named_first t ps ≡ Some s → values_after None t ps ≡ Known ns → count_of ps ≡ suc (length ns)
counted_after t End s ns a h = absurd (first_none s a)
counted_after t (More q ps) s ns a h = ap suc (counted t ps ns h)

no_first : (a b : Bool) → (a || b) ≡ false → a ≡ false
no_first false b h = refl
no_first true b h = h

-- which type a call has
inquiry_counts_no : (o : Op) → is_inquiry o ≡ true → is_processor_count o ≡ false
inquiry_counts_no op.Nodes h = absurd (true≢false (sym h))
inquiry_counts_no o h = refl

inquiry_type : (o : Op) (u : SymbolTable) (ps : Parts) (ss : List (Option TypeAndRank)) → is_inquiry o ≡ true →
    (takes o (count_of ps) ≡ true → (are_inquired ss && is_of_array u ps) ≡ false) → called_type Statement u o ps ss ≡ None
inquiry_type o u ps ss i f = by (takes o (count_of ps)) f
  where
    by : (k : Bool) → (k ≡ true → (are_inquired ss && is_of_array u ps) ≡ false)
        → (if not k then None else (if is_processor_count o then integer_scalar_if false else
        (if is_inquiry o then integer_scalar_if (are_inquired ss && is_of_array u ps) else (if is_reduction o then reduction o ss else elemental o ss)))) ≡ None
    by false f = refl
    by true f =
        (λ j. if inquiry_counts_no o i j then integer_scalar_if false else (if i j then integer_scalar_if (f refl j) else
        (if is_reduction o then reduction o ss else elemental o ss)))

elemental_type : (o : Op) (u : SymbolTable) (ps : Parts) (ss : List (Option TypeAndRank)) → is_inquiry o ≡ false → is_processor_count o ≡ false → is_reduction o ≡ false →
    (takes o (count_of ps) ≡ true → elemental o ss ≡ None) → called_type Statement u o ps ss ≡ None
elemental_type o u ps ss i p r f = by (takes o (count_of ps)) f
  where
    by : (k : Bool) → (k ≡ true → elemental o ss ≡ None)
        → (if not k then None else (if is_processor_count o then integer_scalar_if false else
        (if is_inquiry o then integer_scalar_if (are_inquired ss && is_of_array u ps) else (if is_reduction o then reduction o ss else elemental o ss)))) ≡ None
    by false f = refl
    by true f =
        (λ j. if p j then integer_scalar_if false else (if i j then integer_scalar_if (are_inquired ss && is_of_array u ps) else (if r j then reduction o ss else f refl j)))

procedure_lacks : (o : Op) (fs : Evaluated (List ℤ)) (ss : List (Option TypeAndRank)) (count : ℕ) → OneLacks fs ss → ((ns : List ℤ) → fs ≡ Known ns → count ≡ length ns) →
    elemental_value o fs ≡ Unknown → takes o count ≡ true → elemental o ss ≡ None
procedure_lacks o Invalid ss count g c h w = absurd (invalid_unknown _ refl h)
procedure_lacks o Unknown ss count g c h w = elemental_none o ss (g refl)
procedure_lacks o (Known ns) ss count g c h w =
    absurd (zero_lacks (operator_value o ns) (sym (ap (λ b. if b then unless_zero (operator_value o ns) else Unknown) (sym (ap (takes o) (c ns refl)) ∙ w)) ∙ h))

module _ (t u : SymbolTable) (k : Kept t u) (right : (x : Name) (s : Symbol) → find x t ≡ Some s → IsRight s) where
  symbol_lacks : (a : Option Symbol) (s : Option TypeAndRank) → ((x : Symbol) → a ≡ Some x → IsRight x) → Lacks (value_of_symbol a) s
  symbol_lacks (Some (Constant None)) s r h = absurd (r (Constant None) refl)
  symbol_lacks (Some (Constant (Some n))) s r h = absurd (known_unknown _ refl h)
  symbol_lacks a s r h = absurd (invalid_unknown _ refl h)

  first_right : (ps : Parts) (s : Symbol) → named_first t ps ≡ Some s → IsRight s
  first_right (More (One (Alone x)) ps) s h = right x s h
  first_right ps s h = absurd (first_none s h)

  call_lacks : (o : Op) (ps : Parts) → OneLacks (values None t ps) (types_and_ranks Statement u ps) →
      (values_after None t ps ≡ Unknown → are_inquired (types_and_ranks Statement u ps) ≡ false) → Lacks (value None t (Call o ps)) (type_and_rank Statement u (Call o ps))
  call_lacks o ps g f h = by (is_inquiry o) (is_processor_count o) (is_transformational o) refl refl refl h
    where
      by : (i p r : Bool) → is_inquiry o ≡ i → is_processor_count o ≡ p → is_transformational o ≡ r →
          (if i then of_array None o (named_first t ps) (values_after None t ps) else (if p then Invalid else
          (if r then Invalid else elemental_value o (values None t ps)))) ≡ Unknown →
          called_type Statement u o ps (types_and_ranks Statement u ps) ≡ None
      by true p r a b c h =
          inquiry_type o u ps (types_and_ranks Statement u ps) a
          (λ w. array_lacks o (named_first t ps) (named_first u ps) (values_after None t ps) (values_after None u ps) (are_inquired (types_and_ranks Statement u ps))
          (count_of ps)
          a (first_right ps) (first_stays t u k ps) (later_after t u k ps) f (λ s ns. counted_after t ps s ns) w h)
      by false true r a b c h = absurd (invalid_unknown _ refl h)
      by false false true a b c h = absurd (invalid_unknown _ refl h)
      by false false false a b c h =
          elemental_type o u ps (types_and_ranks Statement u ps) a b (no_first (is_reduction o) (is_transformation o) c)
          (procedure_lacks o (values None t ps) (types_and_ranks Statement u ps) (count_of ps) g (λ ns. counted t ps ns) h)

  mutual
    pub lacks : (e : Expression) → Lacks (value None t e) (type_and_rank Statement u e)
    lacks (Number m) = λ h. absurd (known_unknown _ refl h)
    lacks (Truth b) = λ h. absurd (known_unknown _ refl h)
    lacks (Alone x) = symbol_lacks (find x t) _ (right x)
    lacks (Element x ps) = λ h. absurd (invalid_unknown _ refl h)
    lacks (Closed a) = lacks a
    lacks (Unary o a) = unary_lacks o (value None t a) (type_and_rank Statement u a) (lacks a)
    lacks (Binary o a b) = binary_lacks o (value None t a) (value None t b) (type_and_rank Statement u a) (type_and_rank Statement u b) (lacks a) (lacks b)
    lacks (Call o ps) = call_lacks o ps (lacks_parts ps) (lacks_after ps)

    lacks_parts : (ps : Parts) → OneLacks (values None t ps) (types_and_ranks Statement u ps)
    lacks_parts End = none_lacks []
    lacks_parts (More (One e) ps) = more_lacks (value None t e) (values None t ps) (type_and_rank Statement u e) (types_and_ranks Statement u ps) (lacks e) (lacks_parts ps)
    lacks_parts (More q ps) = λ h. absurd (invalid_unknown _ refl h)

    lacks_after : (ps : Parts) → values_after None t ps ≡ Unknown → are_inquired (types_and_ranks Statement u ps) ≡ false
    lacks_after End = λ h. absurd (known_unknown _ refl h)
    lacks_after (More (One e) ps) = λ h. ap (λ b. is_some (type_and_rank Statement u e) && b) (inquired_none (types_and_ranks Statement u ps) (lacks_parts ps h))
        ∙ and_false (is_some (type_and_rank Statement u e))
    lacks_after (More q ps) = λ h. refl

  -- a constant expression of a type has a number
  pub has_number : (e : Expression) → is_invalid (value None t e) ≡ false → is_some (type_and_rank Statement u e) ≡ true → is_some (number t e) ≡ true
  has_number e a b = by (value None t e) refl a
    where
      by : (v : Evaluated ℤ) → value None t e ≡ v → is_invalid v ≡ false → is_some (if_known v) ≡ true
      by Invalid h a = absurd (true≢false a)
      by Unknown h a = absurd (true≢false (sym b ∙ ap is_some (lacks e h)))
      by (Known n) h a = refl
