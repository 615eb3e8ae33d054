-- The scalars of a nest may have copies.
use Rattle.std.proofs.Common.{◌≡◌, ℕ, zero, suc, ◌<◌, List, [], ◌∷◌, ◌++◌, Bool, true, false, ◌||◌, not, if◌then◌else◌, nat_eq, Option, Some, None, Result, Ok, Err, refl, ap, ap₂, sym, ◌∙◌, subst, ℤ, arith, ◌⊎◌, inl, inr, ⊎_elim, FitsSigned, w64, Contains, true≢false}
use Rattle.std.specs.Int.{int_bit_and, int_bit_or, int_bit_xor}
use Rattle.std.proofs.lemmas.Int.{int_wrap_fits}
use Rattle.std.proofs.lemmas.Bool.Decides.{nat_tests}
use Rattle.std.proofs.lemmas.List.Elements.{Contains-append_left, Contains-append_right, Contains-append_cases}
use Rattle.op_tables.specs.declared.op.Op.{Op}
use Rattle.op_tables.specs.declared.op.Op.TheVariants as op
use Rattle.op_tables.specs.Operators.{wrapped}
use Rattle.nest_order.specs.Turns.{joined_up_to}
use Rattle.storage.specs.Storage.{Storage, Spot, read}
use Rattle.storage.specs.Effect.{Skip, Put}
use Rattle.nest_order.specs.Items as items
use Rattle.nest_order.specs.Items.{Items, Branches, EndIf, Branch}
use Rattle.nest_order.specs.Listed as listing
use Rattle.nest_order.specs.Listed.{Names, names_in, known_in, listed, listed_branches}
use Rattle.nest_order.specs.Nest.{AgreeOn}
use Rattle.op_tables.specs.declared.join.Join.{Join}
use Rattle.op_tables.specs.declared.join.Join.TheVariants.{Sum, Product, Greatest, Least, And, Or, ExclusiveOr}
use Rattle.nest_order.specs.Reduction.{Statement, OnRight, OnLeft, IsOf, value_in, assigned}
use Rattle.nest_syntax.specs.NestKinds.{Kind, Shared, New, Assigned, Reduced, has_copies, is_read, is_difference, reduction_term}
use Rattle.nest_order.specs.Copies.{scalar_at}
use Rattle.nest_order.specs.Scalars.{AllFit, MayName, MayNameAll, reduced_effect, IsPlain, IsReduction, IsPlainOr, IsAction, IsCondition, ReadsLate, MayCopy}
use Rattle.array_meaning.specs.Terms.{Term, Number, Scalar, Index, Element, Section, Apply, Reduce, Terms, NoTerm, More}
use Rattle.array_meaning.specs.Statements.{Loop, Nest, Block}
use Rattle.array_meaning.specs.Faults.{Cause, ◌>>=◌, with_more}
use Rattle.array_meaning.specs.State.{State, scalar, place_in}
use Rattle.array_meaning.specs.Expressions.{value, values}
use Rattle.array_meaning.specs.Elementals.{operated}
use Rattle.array_meaning.specs.Iterations.{iteration_count, at_iteration}
use Rattle.array_meaning.specs.Touches.{assigned_in}
use Rattle.array_meaning.specs.NestEntry.{check_nest}
use Rattle.nest_items.specs.NestItems.{Action, Condition, text_at, one, scalar_effect, element_effect, truth_or_fault, iteration_items}
use Rattle.nest_syntax.specs.Assigning.{Assigning, ToScalar, ToElement}
use Rattle.nest_items.specs.StateStorage.{state_of}
use Rattle.nest_parts.specs.NestSpots.{spots_in, all_spots, spots_read, written_by, element_spot, is_scalar, on_right, statement_of, reduction_statement, reducing_by, reducing, reads, names_of}
use Rattle.op_tables.specs.Reductions.{joined_by}
use Rattle.nest_items.specs.Standing.{Stands, AllStand, IsReductionStatement, RightKind, NestStands, AreKinds}
use Rattle.nest_items.specs.NestEnds.{HasRows}
use Rattle.nest_parts.specs.NestParts.{IsGood}
use Rattle.nest_items.proofs.Storing.{if_so, scalar-at}
use Rattle.nest_parts.proofs.Nearness.{AssigningStands, value_by_spots, place_now, put_is_written}
use Rattle.nest_parts.proofs.Listings.{nothing_in, only_in, only_there}
use Rattle.nest_parts.proofs.EachItem.{block_each}
use Rattle.nest_parts.proofs.Fitting.{good_set, value_fits}
use Rattle.nest_parts.proofs.Parallel.{read_is, known_holds, apart_visible}

-- ---- what is listed with more names

module _ {A C L : Type 0} (N N' : Names A C L) (x : L)
    (actions : (a : A) → Contains (N.of_action a) x → Contains (N'.of_action a) x)
    (conditions : (c : C) → Contains (N.of_condition c) x → Contains (N'.of_condition c) x)
    (known : (c : C) → N'.known c ≡ N.known c) where
  names_more : (c : Option C) → Contains (names_in N c) x → Contains (names_in N' c) x
  names_more None h = h
  names_more (Some c) h = conditions c h

  known_more : (c : Option C) → known_in N' c ≡ known_in N c
  known_more None = refl
  known_more (Some c) = known c

  counted_more : (k : Option Bool) (xs ys xs' ys' : List L) → (Contains xs x → Contains xs' x) → (Contains ys x → Contains ys' x)
      → Contains (listing.counted k xs ys) x → Contains (listing.counted k xs' ys') x
  counted_more None xs ys xs' ys' f g h = ⊎_elim (λ l. Contains-append_left xs' ys' x (f l)) (λ r. Contains-append_right xs' ys' x (g r)) (Contains-append_cases xs ys x h)
  counted_more (Some true) xs ys xs' ys' f g h = f h
  counted_more (Some false) xs ys xs' ys' f g h = g h

  both_more : (xs ys xs' ys' : List L) → (Contains xs x → Contains xs' x) → (Contains ys x → Contains ys' x) → Contains (xs ++ ys) x → Contains (xs' ++ ys') x
  both_more xs ys xs' ys' f g h = ⊎_elim (λ l. Contains-append_left xs' ys' x (f l)) (λ r. Contains-append_right xs' ys' x (g r)) (Contains-append_cases xs ys x h)

  turns_more : (n : ℕ) (f g : ℕ → List L) → ((i : ℕ) → Contains (f i) x → Contains (g i) x) → Contains (joined_up_to n f) x → Contains (joined_up_to n g) x
  turns_more zero f g e h = h
  turns_more (suc n) f g e h = both_more (joined_up_to n f) (f n) (joined_up_to n g) (g n) (turns_more n f g e) (e n) h

  mutual
    pub listed_more : (xs : Items A C) → Contains (listed N xs) x → Contains (listed N' xs) x
    listed_more items.Done h = h
    listed_more (items.Then a rest) h = both_more (N.of_action a) (listed N rest) (N'.of_action a) (listed N' rest) (actions a) (listed_more rest) h
    listed_more (items.If bs rest) h = both_more (listed_branches N bs) (listed N rest) (listed_branches N' bs) (listed N' rest) (branches_more bs) (listed_more rest) h
    listed_more (items.Repeat n body rest) h =
        both_more (joined_up_to n (λ i. listed N (body i))) (listed N rest) (joined_up_to n (λ i. listed N' (body i))) (listed N' rest)
        (turns_more n (λ i. listed N (body i)) (λ i. listed N' (body i)) (λ i. listed_more (body i))) (listed_more rest) h

    branches_more : (bs : Branches A C) → Contains (listed_branches N bs) x → Contains (listed_branches N' bs) x
    branches_more EndIf h = h
    branches_more (Branch test body others) h =
        both_more (names_in N test) (listing.counted (known_in N test) (listed N body) (listed_branches N others)) (names_in N' test) (listing.counted (known_in N' test) (listed N' body) (listed_branches N' others))
        (names_more test)
        (λ c. subst (λ k. Contains (listing.counted k (listed N' body) (listed_branches N' others)) x) (sym (known_more test))
        (counted_more (known_in N test) (listed N body) (listed_branches N others) (listed N' body) (listed_branches N' others) (listed_more body) (branches_more others) c)) h

-- ---- reduction statements

equal_self : (k : ℕ) → nat_eq k k ≡ true
equal_self k = grind (arith, nat_tests)

bits_joined : (bits : ℤ → ℤ → ℤ) (x v : ℤ) → FitsSigned w64 x → FitsSigned w64 v → bits x v ≡ bits (wrapped x) (wrapped v)
bits_joined bits x v f g = ap₂ bits (sym (int_wrap_fits w64 x f)) (sym (int_wrap_fits w64 v g))

joins_right : (o : Op) (by : Join) (x v : ℤ) → joined_by o ≡ Some by → FitsSigned w64 x → FitsSigned w64 v → operated o (x ∷ v ∷ []) ≡ Ok (assigned by (on_right o v) x)
joins_right op.Add by x v e f g = let same : Sum ≡ by = cc in ap (λ q. Ok (assigned q (OnRight v) x)) same
joins_right op.Sub by x v e f g = refl
joins_right op.Mul by x v e f g = let same : Product ≡ by = cc in ap (λ q. Ok (assigned q (OnRight v) x)) same
joins_right op.Max by x v e f g = let same : Greatest ≡ by = cc in ap (λ q. Ok (assigned q (OnRight v) x)) same
joins_right op.Min by x v e f g = let same : Least ≡ by = cc in ap (λ q. Ok (assigned q (OnRight v) x)) same
joins_right op.BitAnd by x v e f g = ap Ok (bits_joined (int_bit_and w64) x v f g) ∙ (let same : And ≡ by = cc in ap (λ q. Ok (assigned q (OnRight v) x)) same)
joins_right op.BitOr by x v e f g = ap Ok (bits_joined (int_bit_or w64) x v f g) ∙ (let same : Or ≡ by = cc in ap (λ q. Ok (assigned q (OnRight v) x)) same)
joins_right op.BitXor by x v e f g = ap Ok (bits_joined (int_bit_xor w64) x v f g) ∙ (let same : ExclusiveOr ≡ by = cc in ap (λ q. Ok (assigned q (OnRight v) x)) same)
joins_right o by x v e f g = absurd cc

joins_left : (o : Op) (by : Join) (x v : ℤ) → joined_by o ≡ Some by → is_difference o ≡ false → FitsSigned w64 x → FitsSigned w64 v → operated o (v ∷ x ∷ []) ≡ Ok (assigned by (OnLeft v) x)
joins_left op.Add by x v e d f g = let same : Sum ≡ by = cc in ap (λ q. Ok (assigned q (OnLeft v) x)) same
joins_left op.Sub by x v e d f g = absurd (true≢false d)
joins_left op.Mul by x v e d f g = let same : Product ≡ by = cc in ap (λ q. Ok (assigned q (OnLeft v) x)) same
joins_left op.Max by x v e d f g = let same : Greatest ≡ by = cc in ap (λ q. Ok (assigned q (OnLeft v) x)) same
joins_left op.Min by x v e d f g = let same : Least ≡ by = cc in ap (λ q. Ok (assigned q (OnLeft v) x)) same
joins_left op.BitAnd by x v e d f g = ap Ok (bits_joined (int_bit_and w64) v x g f) ∙ (let same : And ≡ by = cc in ap (λ q. Ok (assigned q (OnLeft v) x)) same)
joins_left op.BitOr by x v e d f g = ap Ok (bits_joined (int_bit_or w64) v x g f) ∙ (let same : Or ≡ by = cc in ap (λ q. Ok (assigned q (OnLeft v) x)) same)
joins_left op.BitXor by x v e d f g = ap Ok (bits_joined (int_bit_xor w64) v x g f) ∙ (let same : ExclusiveOr ≡ by = cc in ap (λ q. Ok (assigned q (OnLeft v) x)) same)
joins_left o by x v e d f g = absurd cc

right_value : (o : Op) (v : ℤ) → value_in (on_right o v) ≡ v
right_value op.Sub v = refl
right_value o v = refl

right_is_of : (o : Op) (by : Join) (v : ℤ) → joined_by o ≡ Some by → FitsSigned w64 v → IsOf by (on_right o v) × FitsSigned w64 (value_in (on_right o v))
right_is_of op.Sub by v e fits = let same : by ≡ Sum = cc in (same, fits)
right_is_of o by v e fits = (tt, fits)

module _ (kinds : ℕ → Kind) (assigned_names : List ℕ) (start : Storage) where
  -- ---- what may be named

  may_of : (k : Kind) (spot : Spot) → (has_copies k ≡ false) ⊎ (is_read k ≡ true) → (has_copies k ≡ true → spot.at ≡ 0) → MayName k spot
  may_of Shared spot h is = tt
  may_of New spot h is = is refl
  may_of Assigned spot h is = is refl
  may_of (Reduced op) spot h is = absurd (⊎_elim (λ f. true≢false f) (λ t. true≢false (sym t)) h)

  element_may : (a : ℕ) (r : Result ℕ Cause) (spot : Spot) → has_copies (kinds a) ≡ false → Contains (element_spot a r) spot → has_copies (kinds spot.row) ≡ false
  element_may a (Ok p) spot c there = ap (λ q. has_copies (kinds q.row)) (sym (only_in (record { row = a; at = p }) spot there)) ∙ c
  element_may a (Err e) spot c there = absurd (nothing_in spot there)

  scalar_may : (k : ℕ) (b : Bool) (spot : Spot) → is_read (kinds k) ≡ b → Contains (if b then scalar_at k ∷ [] else []) spot → is_read (kinds spot.row) ≡ true
  scalar_may k true spot e there = ap (λ q. is_read (kinds q.row)) (sym (only_in (scalar_at k) spot there)) ∙ e
  scalar_may k false spot e there = absurd (nothing_in spot there)

  mutual
    read_kind : (free : ℕ → Bool) (own : Option ℕ) (s : State) (t : Term) (spot : Spot) → Stands kinds free own t → Contains (spots_in kinds s t) spot
        → (has_copies (kinds spot.row) ≡ false) ⊎ (is_read (kinds spot.row) ≡ true)
    read_kind free own s (Number v) spot h c = absurd (nothing_in spot c)
    read_kind free own s (Scalar k) spot h c = inr (scalar_may k (is_read (kinds k)) spot refl c)
    read_kind free own s (Index k) spot h c = absurd (nothing_in spot c)
    read_kind free own s (Element a ts) spot h c = inl (element_may a (values [] s ts >>= place_in s a) spot h.0 c)
    read_kind free own s (Section a subs) spot h c = absurd (nothing_in spot c)
    read_kind free own s (Apply o ts) spot h c = reads_kind free own s ts spot h c
    read_kind free own s (Reduce o t) spot h c = absurd (nothing_in spot c)

    reads_kind : (free : ℕ → Bool) (own : Option ℕ) (s : State) (ts : Terms) (spot : Spot) → AllStand kinds free own ts → Contains (all_spots kinds s ts) spot
        → (has_copies (kinds spot.row) ≡ false) ⊎ (is_read (kinds spot.row) ≡ true)
    reads_kind free own s NoTerm spot h c = absurd (nothing_in spot c)
    reads_kind free own s (More t ts) spot h c = ⊎_elim (λ l. read_kind free own s t spot h.0 l) (λ r. reads_kind free own s ts spot h.1 r)
        (Contains-append_cases (spots_in kinds s t) (all_spots kinds s ts) spot c)

  reads_may : (free : ℕ → Bool) (own : Option ℕ) (s : State) (t : Term) → Stands kinds free own t → MayNameAll kinds (spots_in kinds s t)
  reads_may free own s t h spot c = may_of (kinds spot.row) spot (read_kind free own s t spot h c) (read_is kinds free own s t spot h c)

  -- a scalar that isn't a REDUCTION variable needs no own name
  mutual
    none_own : (free : ℕ → Bool) (k : ℕ) (t : Term) → is_read (kinds k) ≡ has_copies (kinds k) → Stands kinds free (Some k) t → Stands kinds free None t
    none_own free k (Number v) e h = h
    none_own free k (Scalar j) e h = (h.0, ⊎_elim (λ l. inl l) (λ r. let same : k ≡ j = cc in inl (subst (λ q. is_read (kinds q) ≡ has_copies (kinds q)) same e)) h.1)
    none_own free k (Index j) e h = h
    none_own free k (Element a ts) e h = h
    none_own free k (Section a subs) e h = h
    none_own free k (Apply o ts) e h = none_owns free k ts e h
    none_own free k (Reduce o t) e h = h

    none_owns : (free : ℕ → Bool) (k : ℕ) (ts : Terms) → is_read (kinds k) ≡ has_copies (kinds k) → AllStand kinds free (Some k) ts → AllStand kinds free None ts
    none_owns free k NoTerm e h = h
    none_owns free k (More t ts) e h = (none_own free k t e h.0, none_owns free k ts e h.1)

  -- ---- effects

  scalar_ends : (line k : ℕ) (r : Result ℤ Cause) → scalar_effect line k r ≡ Skip → ⊥
  scalar_ends line k (Ok v) e = absurd cc
  scalar_ends line k (Err c) e = absurd cc

  element_ends : (line a : ℕ) (p : Result ℕ Cause) (r : Result ℤ Cause) → element_effect line a p r ≡ Skip → ⊥
  element_ends line a (Ok k) (Ok v) e = absurd cc
  element_ends line a (Ok k) (Err c) e = absurd cc
  element_ends line a (Err c) r e = absurd cc

  scalar_value : (line k : ℕ) (r : Result ℤ Cause) (spot : Spot) (v : ℤ) → scalar_effect line k r ≡ Put spot v → r ≡ Ok v
  scalar_value line k (Ok w) spot v e = let same : w ≡ v = cc in ap Ok same
  scalar_value line k (Err c) spot v e = absurd cc

  element_put_value : (line a : ℕ) (p : Result ℕ Cause) (r : Result ℤ Cause) (spot : Spot) (v : ℤ) → element_effect line a p r ≡ Put spot v → r ≡ Ok v
  element_put_value line a (Ok k) (Ok w) spot v e = let same : w ≡ v = cc in ap Ok same
  element_put_value line a (Ok k) (Err c) spot v e = absurd cc
  element_put_value line a (Err c) r spot v e = absurd cc

  module _ (free : ℕ → Bool) (line : ℕ) (s : State) (good : IsGood kinds s) where
    abbrev now : Storage → State
    now m = state_of kinds s m

    near_none : (t : Term) → Stands kinds free None t → (m m' : Storage) → AgreeOn (spots_in kinds s t) m m' → value [] (now m) t ≡ value [] (now m') t
    near_none t h m m' agree = value_by_spots kinds s free None m m' (λ k e. absurd cc) t h agree

    plain_scalar : (k : ℕ) (t : Term) → AssigningStands kinds s free (ToScalar k t) → is_read (kinds k) ≡ true
        → IsPlain (one kinds) kinds (reads kinds assigned_names) (written_by kinds) (reducing kinds) start (text_at line s (ToScalar k t))
    plain_scalar k t h read_so = record {
      near = λ m m' a b agree. ap (scalar_effect line k) (near_none t (none_own free k t (read_so ∙ sym h.0) h.1) m m' agree);
      stores = λ m spot v e. put_is_written kinds s free line (ToScalar k t) m spot v h e;
      ends = λ m e. scalar_ends line k (value [] (now m) t) e;
      writable = λ spot c. let same = only_in (scalar_at k) spot c in subst (λ q. MayName (kinds q.row) q) same (may_of (kinds k) (scalar_at k) (inr read_so) (λ t. refl));
      fits = λ m spot v fit e. value_fits kinds s good m fit free (Some k) t h.1 v (scalar_value line k (value [] (now m) t) spot v e);
    }

    plain_element : (a : ℕ) (ts : Terms) (t : Term) → AssigningStands kinds s free (ToElement a ts t)
        → IsPlain (one kinds) kinds (reads kinds assigned_names) (written_by kinds) (reducing kinds) start (text_at line s (ToElement a ts t))
    plain_element a ts t h = record {
      near = λ m m' x y agree. ap₂ (element_effect line a) (place_now kinds s free m a ts h.1 ∙ sym (place_now kinds s free m' a ts h.1)) (near_none t h.2 m m' agree);
      stores = λ m spot v e. put_is_written kinds s free line (ToElement a ts t) m spot v h e;
      ends = λ m e. element_ends line a (values [] (now m) ts >>= place_in (now m) a) (value [] (now m) t) e;
      writable = λ spot c. may_of (kinds spot.row) spot (inl (element_may a (values [] s ts >>= place_in s a) spot h.0 c))
          (λ z. absurd (true≢false (sym z ∙ element_may a (values [] s ts >>= place_in s a) spot h.0 c)));
      fits = λ m spot v fit e. value_fits kinds s good m fit free None t h.2 v (element_put_value line a (values [] (now m) ts >>= place_in (now m) a) (value [] (now m) t) spot v e);
    }

    -- a reduction statement
    not_the_variable : (k : ℕ) (by : Join) (e : Term) → kinds k ≡ Reduced by → Stands kinds free None e → is_scalar k e ≡ false
    not_the_variable k by (Number v) is h = refl
    not_the_variable k by (Scalar j) is h = ⊎_elim
        (λ l. let differ : j ≡ k → ⊥ = λ e. true≢false (sym (l ∙ ap (λ q. has_copies (kinds q)) e ∙ ap has_copies is) ∙ ap (λ q. is_read (kinds q)) e ∙ ap is_read is) in grind (arith, nat_tests))
        (λ r. absurd cc)
        h.1
    not_the_variable k by (Index j) is h = refl
    not_the_variable k by (Element a ts) is h = refl
    not_the_variable k by (Section a subs) is h = refl
    not_the_variable k by (Apply o ts) is h = refl
    not_the_variable k by (Reduce o t) is h = refl

    abbrev made : Bool → Op → ℤ → Statement
    made true o v = on_right o v
    made false o v = OnLeft v

    statement_is : (first : Bool) (k : ℕ) (by : Join) (o : Op) (e : Term) → kinds k ≡ Reduced by → Stands kinds free None e → (m : Storage)
        → reduction_statement line (now m) k (reduction_term first k o e) ≡ statement_of line (made first o) (value [] (now m) e)
    statement_is true k by o e is h m = ap (λ b. if b then statement_of line (on_right o) (value [] (now m) e) else statement_of line OnLeft (value [] (now m) (Scalar k))) (equal_self k)
    statement_is false k by o e is h m = ap (λ b. if b then statement_of line (on_right o) (value [] (now m) (Scalar k)) else statement_of line OnLeft (value [] (now m) e)) (not_the_variable k by e is h)

    spots_inside : (first : Bool) (k : ℕ) (o : Op) (e : Term) (spot : Spot) → Contains (spots_in kinds s e) spot → Contains (spots_in kinds s (reduction_term first k o e)) spot
    spots_inside true k o e spot c = Contains-append_right (spots_in kinds s (Scalar k)) (spots_in kinds s e ++ []) spot (Contains-append_left (spots_in kinds s e) [] spot c)
    spots_inside false k o e spot c = Contains-append_left (spots_in kinds s e) (spots_in kinds s (Scalar k) ++ []) spot c

    variable_now : (k : ℕ) (m : Storage) → has_copies (kinds k) ≡ true → scalar (now m) k ≡ read m (scalar_at k)
    variable_now k m c = scalar-at kinds s m k (good.there k c) ∙ if_so (has_copies (kinds k)) (read m (scalar_at k)) (scalar s k) c

    right_effect : (k : ℕ) (by : Join) (o : Op) (x : ℤ) (r : Result ℤ Cause) → joined_by o ≡ Some by → FitsSigned w64 x → ((v : ℤ) → r ≡ Ok v → FitsSigned w64 v)
        → scalar_effect line k (with_more (Ok x) (with_more r (Ok [])) >>= operated o) ≡ reduced_effect k by (statement_of line (on_right o) r) x
    right_effect k by o x (Ok v) e f g = ap (scalar_effect line k) (joins_right o by x v e f (g v refl))
    right_effect k by o x (Err c) e f g = refl

    left_effect : (k : ℕ) (by : Join) (o : Op) (x : ℤ) (r : Result ℤ Cause) → joined_by o ≡ Some by → is_difference o ≡ false → FitsSigned w64 x → ((v : ℤ) → r ≡ Ok v → FitsSigned w64 v)
        → scalar_effect line k (with_more r (with_more (Ok x) (Ok [])) >>= operated o) ≡ reduced_effect k by (statement_of line OnLeft r) x
    left_effect k by o x (Ok v) e d f g = ap (scalar_effect line k) (joins_left o by x v e d f (g v refl))
    left_effect k by o x (Err c) e d f g = refl

    left_order : (o : Op) → (false || not (is_difference o)) ≡ true → is_difference o ≡ false
    left_order o e = opposite (is_difference o) e where
      opposite : (b : Bool) → not b ≡ true → b ≡ false
      opposite true z = absurd (true≢false (sym z))
      opposite false z = refl

    effect_is : (first : Bool) (k : ℕ) (by : Join) (o : Op) (e : Term) → joined_by o ≡ Some by → (first || not (is_difference o)) ≡ true → (m : Storage)
        → FitsSigned w64 (scalar (now m) k) → ((v : ℤ) → value [] (now m) e ≡ Ok v → FitsSigned w64 v)
        → scalar_effect line k (value [] (now m) (reduction_term first k o e)) ≡ reduced_effect k by (statement_of line (made first o) (value [] (now m) e)) (scalar (now m) k)
    effect_is true k by o e of order m f g = right_effect k by o (scalar (now m) k) (value [] (now m) e) of f g
    effect_is false k by o e of order m f g = left_effect k by o (scalar (now m) k) (value [] (now m) e) of (left_order o order) f g

    made_value : (first : Bool) (o : Op) (v : ℤ) → value_in (made first o v) ≡ v
    made_value true o v = right_value o v
    made_value false o v = refl

    made_is_of : (first : Bool) (o : Op) (by : Join) (v : ℤ) → joined_by o ≡ Some by → FitsSigned w64 v → IsOf by (made first o v) × FitsSigned w64 (value_in (made first o v))
    made_is_of true o by v e fits = right_is_of o by v e fits
    made_is_of false o by v e fits = (tt, fits)

    statement_good : (first : Bool) (o : Op) (by : Join) (r : Result ℤ Cause) (st : Statement) → joined_by o ≡ Some by → ((v : ℤ) → r ≡ Ok v → FitsSigned w64 v)
        → statement_of line (made first o) r ≡ Ok st → IsOf by st × FitsSigned w64 (value_in st)
    statement_good first o by (Ok v) st of fits e = let same : made first o v ≡ st = cc in subst (λ q. IsOf by q × FitsSigned w64 (value_in q)) same (made_is_of first o by v of (fits v refl))
    statement_good first o by (Err c) st of fits e = absurd cc

    reduction_is : (k : ℕ) (t : Term) (by : Join) → kinds k ≡ Reduced by → IsReductionStatement kinds free by k t
        → IsReduction (one kinds) kinds (reads kinds assigned_names) (written_by kinds) (reducing kinds) start (text_at line s (ToScalar k t))
        (record { row = k; statement = λ m. reduction_statement line (now m) k t })
    reduction_is k t by is h = record {
      op = by;
      kind = is;
      near = λ m m' a b agree. read_as m ∙ ap (statement_of line (made h.is_first h.by)) (near_none h.other h.stands m m'
          (λ spot c. agree spot (subst (λ q. Contains (spots_in kinds s q) spot) (sym h.shape) (spots_inside h.is_first k h.by h.other spot c)))) ∙ sym (read_as m');
      is = λ m f g. ap (λ q. scalar_effect line k (value [] (now m) q)) h.shape
          ∙ effect_is h.is_first k by h.by h.other h.operator h.order m (subst (FitsSigned w64) (sym (variable_now k m (ap has_copies is))) f)
          (λ v e. subst (FitsSigned w64) (made_value h.is_first h.by v) (g (made h.is_first h.by v) (read_as m ∙ ap (statement_of line (made h.is_first h.by)) e)))
          ∙ ap₂ (λ q x. reduced_effect k by q x) (sym (read_as m)) (variable_now k m (ap has_copies is));
      good = λ m st fit e. statement_good h.is_first h.by by (value [] (now m) h.other) st h.operator (value_fits kinds s good m fit free None h.other h.stands) (sym (read_as m) ∙ e);
      stores = only_there (scalar_at k);
    }
      where
        read_as : (m : Storage) → reduction_statement line (now m) k t ≡ statement_of line (made h.is_first h.by) (value [] (now m) h.other)
        read_as m = ap (reduction_statement line (now m) k) h.shape ∙ statement_is h.is_first k by h.by h.other is h.stands m

    scalar_action : (k : ℕ) (t : Term) (kind : Kind) → kinds k ≡ kind → AssigningStands kinds s free (ToScalar k t) → RightKind kinds free k t kind
        → IsPlainOr (one kinds) kinds (reads kinds assigned_names) (written_by kinds) (reducing kinds) start (text_at line s (ToScalar k t)) (reducing_by kinds line s k t kind)
    scalar_action k t Shared e h right = absurd right
    scalar_action k t New e h right = plain_scalar k t h (ap is_read e)
    scalar_action k t Assigned e h right = plain_scalar k t h (ap is_read e)
    scalar_action k t (Reduced by) e h right = reduction_is k t by e right

  pub text_is : (free : ℕ → Bool) (line : ℕ) (s : State) (x : Assigning) → IsGood kinds s → AssigningStands kinds s free x
      → IsAction (one kinds) kinds (reads kinds assigned_names) (written_by kinds) (reducing kinds) start (text_at line s x)
  text_is free line s (ToScalar k t) good h = (reads_may free (Some k) s t h.1, scalar_action free line s good k t (kinds k) refl h h.2)
  text_is free line s (ToElement a ts t) good h = (reads_may free None s t h.2, plain_element free line s good a ts t h)

  pub condition_is : (free : ℕ → Bool) (line : ℕ) (s : State) (t : Term) → IsGood kinds s → Stands kinds free None t
      → IsCondition (one kinds) kinds (reads kinds assigned_names) (written_by kinds) (reducing kinds) start (text_at line s t)
  condition_is free line s t good h = record {
    readable = reads_may free None s t h;
    near = λ m m' a b agree. ap (truth_or_fault line) (value_by_spots kinds s free None m m' (λ k e. absurd cc) t h agree);
  }

module _ (kinds : ℕ → Kind) (all : ℕ → Bool) (s : State) (nest : Nest) (loop : Loop) (block body : Block)
    (h : NestStands kinds all s nest loop block body) (are : AreKinds kinds nest body) (passed : check_nest nest body s ≡ Ok s) where
  all_listed : (xs : Items Action Condition) (spot : Spot) → Contains (listed (reads kinds (assigned_in body)) xs) spot → Contains (listed (names_of kinds (assigned_in body) false) xs) spot
  all_listed xs spot c = listed_more (reads kinds (assigned_in body)) (names_of kinds (assigned_in body) false) spot
      (λ x d. Contains-append_left (spots_read kinds x.entry x.text) (written_by kinds x) spot d) (λ x d. d) (λ x. refl) xs c

  pub may_copy : (start : Storage) → HasRows kinds start → AllFit start → ((i : ℕ) → i < iteration_count nest s → IsGood kinds (at_iteration nest s i))
      → ((i : ℕ) → i < iteration_count nest s → ReadsLate kinds (reads kinds (assigned_in body)) (written_by kinds) (iteration_items nest body s i) (λ row. false))
      → MayCopy (one kinds) kinds (reads kinds (assigned_in body)) (written_by kinds) (reducing kinds) start (iteration_count nest s) (iteration_items nest body s)
  may_copy start rows fit good late = record {
    scalars = rows;
    numbers = are.numbers;
    fit = fit;
    texts = λ i lt. block_each kinds (IsGood kinds) (λ z x p j g. good_set kinds z x p j g)
        (IsAction (one kinds) kinds (reads kinds (assigned_in body)) (written_by kinds) (reducing kinds) start)
        (IsCondition (one kinds) kinds (reads kinds (assigned_in body)) (written_by kinds) (reducing kinds) start)
        (λ free line z x g d. text_is kinds (assigned_in body) start free line z x g d)
        (λ free line z t g d. condition_is kinds (assigned_in body) start free line z t g d)
        body h.inside (at_iteration nest s i) (good i lt) (h.each i lt);
    known = λ i lt. block_each kinds (λ z. Unit {0}) (λ z x p j u. tt) (λ x. Unit {0})
        (λ x. (holds : Bool) → (reads kinds (assigned_in body)).known x ≡ Some holds → (m : Storage) → (one kinds).condition x m ≡ Ok holds)
        (λ free line z x u d. tt) (λ free line z t u d holds e m. known_holds kinds (assigned_in body) are.unassigned line z t holds e m)
        body h.inside (at_iteration nest s i) tt (h.each i lt);
    late = late;
    apart = λ i i' row lt lt' differ is c c'.
        let seen = inr (ap has_copies is, are.unlisted row is) in
        ⊎_elim
        (λ l. apart_visible kinds all s nest loop block body h are passed i i' false (scalar_at row) lt lt' differ seen c (all_listed (iteration_items nest body s i') (scalar_at row) l))
        (λ r. apart_visible kinds all s nest loop block body h are passed i i' true (scalar_at row) lt lt' differ seen c r)
        c';
  }
