-- The expressions of a program that have a type and a rank keep the ranks of arrays.
use Rattle.std.proofs.Common.{◌≡◌, ℕ, zero, suc, ◌+◌, ◌<◌, Bool, true, false, true≢false, cond, bytes_eq, List, [], ◌∷◌, length, map, position, Option, Some, None, refl, sym, ap, ◌∙◌, arith}
use Rattle.std.specs.Prelude.{ℤ, pos, drop, ◌&&◌, not, nat_eq, slice_index_or, if◌then◌else◌}
use Rattle.std.specs.List.{AllByRecursion, position_from}
use Rattle.std.proofs.lemmas.Bool.{eqb-true}
use Rattle.std.proofs.lemmas.Iterator.Adapters.{position_from-zero}
use Rattle.op_tables.specs.declared.op.Op.{Op}
use Rattle.op_tables.specs.Arguments.{is_inquiry, is_processor_count, is_reduction, takes}
use Rattle.syntax_tree.specs.Expression as e
use Rattle.syntax_tree.specs.Expression.{Expression, Part, Parts, Maybe}
use Rattle.expression_rules.specs.declared.dims.Dim.{Dim}
use Rattle.expression_rules.specs.declared.symbols.Symbol.{Symbol}
use Rattle.expression_rules.specs.declared.symbols.Symbol.TheVariants.{Array}
use Rattle.expression_rules.specs.declared.types.Context.TheVariants.{Statement}
use Rattle.expression_rules.specs.declared.types.TypeAndRank.{TypeAndRank}
use Rattle.expression_rules.specs.Symbols.{Name, SymbolTable, find, rank_of}
use Rattle.expression_rules.specs.Types.{are_subscripts, called_type, conforming, count_of, elemental, if_typed, integer_scalar_if, is_integer_scalar, is_subscript, is_triplet_part, operand_type, reduction, reduction_of, subscripted, triplets, type_and_rank, types_and_ranks}
use Rattle.name_table.specs.Entries.{declared_as, entry, what_is}
use Rattle.name_table.specs.declared.names.Entry.{Entry}
use Rattle.name_table.specs.declared.names.What.{What}
use Rattle.name_table.specs.declared.names.What.TheVariants as what
use Rattle.array_meaning.specs.Terms.{Element, Section, Apply, Reduce, Terms, NoTerm, More, list_of, SectionSubscripts}
use Rattle.array_meaning.specs.Resolution.{alone, dims_of, first_named, first_term, initial_array, inquiry, is_element, no_dim, place_of, section_subscript, section_subscripts, term_of, term_or, terms_of}
use Rattle.code_meaning.specs.Parallel.{shape_of}
use Rattle.lowering.specs.Ranks.{AreRanked, AreRankedSubscripts, IsRanked, subscript_count}
use Rattle.lowering.proofs.Wholes.{whole-counted, whole-ranked}
use Rattle.name_table.proofs.Tests.{HasValue, both, no_value, none_some, some_same}
use Rattle.name_table.proofs.TypedOperands.{conforming_values, elemental_values, typed_value}
use Rattle.well_formed.proofs.Expressions.{either}
use Rattle.well_formed.proofs.Dimensions.{IsFull, declared_found, shape_is, shapes_in}

-- ---- tests and options

if_value : {A : Type 0} (b : Bool) (o : Option A) → HasValue (if b then o else None) → b ≡ true
if_value true o h = refl
if_value false o h = absurd (no_value h)

reduced_value : (o : Op) (r : Option ℕ) → HasValue (reduction_of o r) → HasValue r
reduced_value o None h = absurd (no_value h)
reduced_value o (Some r) h = refl

reduction_values : (o : Op) (ss : List (Option TypeAndRank)) → HasValue (reduction o ss) → AllByRecursion HasValue ss
reduction_values o ss h = conforming_values (operand_type o) ss (reduced_value o (conforming (operand_type o) ss) h)

-- so do the arguments of a procedure that is no inquiry
called_values : (t : SymbolTable) (o : Op) (ps : Parts) (ss : List (Option TypeAndRank)) → is_inquiry o ≡ false → HasValue (called_type Statement t o ps ss) →
    AllByRecursion HasValue ss
called_values t o ps ss other h = by (takes o (count_of ps)) (is_processor_count o) (is_inquiry o) (is_reduction o) _ other h
  where
    by : (taken count asks reduces : Bool) (asked : Option TypeAndRank) → asks ≡ false →
        HasValue (if not taken then None else (if count then integer_scalar_if false else (if asks then asked else (if reduces then reduction o ss else elemental o ss)))) →
        AllByRecursion HasValue ss
    by false count asks reduces asked n h = absurd (no_value h)
    by true true asks reduces asked n h = absurd (no_value h)
    by true false true reduces asked n h = absurd (true≢false n)
    by true false false true asked n h = reduction_values o ss h
    by true false false false asked n h = elemental_values o ss h

-- ---- counts

below_from : {A : Type 0} (test : A → Bool) (i k : ℕ) (xs : List A) → position_from test i xs ≡ Some k → k < i + length xs
below_from test i k [] is = absurd (none_some k is)
below_from test i k (x ∷ xs) is = by (test x) is (below_from test (i + 1) k xs)
  where
    by : (b : Bool) → cond b (Some i) (position_from test (i + 1) xs) ≡ Some k → (position_from test (i + 1) xs ≡ Some k → k < (i + 1) + length xs) → k < i + suc (length xs)
    by true is more = let same = some_same i k is in omega (arith, same)
    by false is more = let less = more is in omega (arith, less)

below : {A : Type 0} (test : A → Bool) (k : ℕ) (xs : List A) → position test xs ≡ Some k → k < length xs
below test k xs is = let less = below_from test 0 k xs (sym (position_from-zero test xs) ∙ is) in omega (arith, less)

-- `full`: the arrays that a name may stand for have their dimensions
module _ (t : SymbolTable) (full : (x : Name) (s : Symbol) → find x t ≡ Some s → IsFull s) (indices : List Name) where
  abbrev names : List Entry
  names = map entry t

  abbrev shapes : List (List Dim)
  shapes = shapes_in (map entry t)

  abbrev Rank : Name → ℕ
  Rank x = length (shape_of (shapes_in (map entry t)) (place_of (map entry t) x))

  alone_ranked : (x : Name) (o : Option ℕ) (w : Option What) → position (bytes_eq x) indices ≡ o → declared_as names x ≡ w →
      IsRanked shapes (length indices) (alone o (place_of names x) w)
  alone_ranked x (Some k) w at is = below (bytes_eq x) k indices at
  alone_ranked x None (Some (what.Array ds v)) at is = (whole-counted ds ∙ ap length (sym (shape_is names x (what.Array ds v) is)), whole-ranked shapes (length indices) ds)
  alone_ranked x None w at is = tt

  -- a reference with subscripts has one for each dimension
  referenced : (x : Name) (count along : ℕ) (good : Bool) → HasValue (subscripted (rank_of (find x t)) count good along) → (count ≡ Rank x) × (good ≡ true)
  referenced x count along good h = by (find x t) refl h
    where
      by_symbol : (s : Symbol) → shape_of shapes (place_of names x) ≡ (initial_array (what_is s)).dims → IsFull s → HasValue (subscripted (rank_of (Some s)) count good along) →
          (count ≡ Rank x) × (good ≡ true)
      by_symbol (Array zero ds n) same own h = absurd (no_value h)
      by_symbol (Array (suc r) None n) same own h = absurd own
      by_symbol (Array (suc r) (Some ds) n) same own h =
          let tests = both (nat_eq count (suc r)) good (if_value (nat_eq count (suc r) && good) _ h) in
          (eqb-true count (suc r) tests.0 ∙ own.0 ∙ ap length (sym same), tests.1)
      by_symbol s same own h = absurd (no_value h)

      by : (o : Option Symbol) → find x t ≡ o → HasValue (subscripted (rank_of o) count good along) → (count ≡ Rank x) × (good ≡ true)
      by None is h = absurd (no_value h)
      by (Some s) is h = by_symbol s (shape_is names x (what_is s) (declared_found x t s is)) (full x s is) h

  terms_counted : (ps : Parts) → is_element ps ≡ true → length (list_of (terms_of names indices ps)) ≡ count_of ps
  terms_counted e.End h = refl
  terms_counted (e.More (e.One a) ps) h = ap suc (terms_counted ps h)
  terms_counted (e.More (e.Range a b c) ps) h = absurd (true≢false (sym h))
  terms_counted (e.More (e.Glued a c) ps) h = absurd (true≢false (sym h))

  subscripts_counted : (ds : List Dim) (ps : Parts) → subscript_count (section_subscripts names indices ds ps) ≡ count_of ps
  subscripts_counted ds e.End = refl
  subscripts_counted ds (e.More (e.One a) ps) = let more = subscripts_counted (drop 1 ds) ps in omega (arith, more)
  subscripts_counted ds (e.More (e.Range a b c) ps) = let more = subscripts_counted (drop 1 ds) ps in omega (arith, more)
  subscripts_counted ds (e.More (e.Glued a c) ps) = let more = subscripts_counted (drop 1 ds) ps in omega (arith, more)

  first_ranked : (ts : Terms) → AreRanked shapes (length indices) ts → IsRanked shapes (length indices) (first_term ts)
  first_ranked NoTerm h = tt
  first_ranked (More a ts) h = h.0

  mutual
    pub ranked : (x : Expression) → HasValue (type_and_rank Statement t x) → IsRanked shapes (length indices) (term_of names indices x)
    ranked (e.Number v) h = tt
    ranked (e.Truth b) h = tt
    ranked (e.Name x) h = alone_ranked x (position (bytes_eq x) indices) (declared_as names x) refl refl
    ranked (e.Element x ps) h =
        let own = referenced x (count_of ps) (triplets ps) (are_subscripts Statement t ps) h in
        let ds : List Dim = dims_of (declared_as names x) in
        either (IsRanked shapes (length indices)) (is_element ps) (Element (place_of names x) (terms_of names indices ps))
        (Section (place_of names x) (section_subscripts names indices ds ps)) (λ i. (terms_counted ps i ∙ own.0, elements_ranked ps own.1))
        (λ i. (subscripts_counted ds ps ∙ own.0, subscripts_ranked ds ps own.1))
    ranked (e.Call o ps) h =
        either (IsRanked shapes (length indices)) (is_inquiry o) (inquiry o (dims_of (first_named names ps)) (terms_of names indices ps))
        (if is_reduction o then Reduce o (first_term (terms_of names indices ps)) else Apply o (terms_of names indices ps)) (λ i. tt)
        (λ i. let own = arguments_ranked ps (called_values t o ps (types_and_ranks Statement t ps) i h) in
        either (IsRanked shapes (length indices)) (is_reduction o) (Reduce o (first_term (terms_of names indices ps))) (Apply o (terms_of names indices ps))
        (λ r. first_ranked (terms_of names indices ps) own) (λ r. own))
    ranked (e.Unary o a) h = (ranked a (elemental_values o (type_and_rank Statement t a ∷ []) h).0, tt)
    ranked (e.Binary o a b) h =
        let own = elemental_values o (type_and_rank Statement t a ∷ type_and_rank Statement t b ∷ []) h in (ranked a own.0, (ranked b own.1.0, tt))
    ranked (e.Closed a) h = ranked a h

    arguments_ranked : (ps : Parts) → AllByRecursion HasValue (types_and_ranks Statement t ps) → AreRanked shapes (length indices) (terms_of names indices ps)
    arguments_ranked e.End h = tt
    arguments_ranked (e.More (e.One a) ps) h = (ranked a h.0, arguments_ranked ps h.1)
    arguments_ranked (e.More (e.Range a b c) ps) h = arguments_ranked ps h.1
    arguments_ranked (e.More (e.Glued a c) ps) h = arguments_ranked ps h.1

    elements_ranked : (ps : Parts) → are_subscripts Statement t ps ≡ true → AreRanked shapes (length indices) (terms_of names indices ps)
    elements_ranked e.End h = tt
    elements_ranked (e.More (e.One a) ps) h =
        let own = both (if_typed is_integer_scalar (type_and_rank Statement t a)) (are_subscripts Statement t ps) h in
        (ranked a (typed_value is_integer_scalar (type_and_rank Statement t a) own.0), elements_ranked ps own.1)
    elements_ranked (e.More (e.Range a b c) ps) h = elements_ranked ps (both (is_subscript Statement t (e.Range a b c)) (are_subscripts Statement t ps) h).1
    elements_ranked (e.More (e.Glued a c) ps) h = elements_ranked ps (both (is_subscript Statement t (e.Glued a c)) (are_subscripts Statement t ps) h).1

    subscripts_ranked : (ds : List Dim) (ps : Parts) → are_subscripts Statement t ps ≡ true →
        AreRankedSubscripts shapes (length indices) (section_subscripts names indices ds ps)
    subscripts_ranked ds e.End h = tt
    subscripts_ranked ds (e.More p ps) h =
        let own = both (is_subscript Statement t p) (are_subscripts Statement t ps) h in
        subscript_ranked (slice_index_or ds 0 no_dim) p (section_subscripts names indices (drop 1 ds) ps) own.0 (subscripts_ranked (drop 1 ds) ps own.1)

    subscript_ranked : (d : Dim) (p : Part) (rest : SectionSubscripts) → is_subscript Statement t p ≡ true → AreRankedSubscripts shapes (length indices) rest →
        AreRankedSubscripts shapes (length indices) (section_subscript names indices d p rest)
    subscript_ranked d (e.One a) rest h more = (ranked a (typed_value is_integer_scalar (type_and_rank Statement t a) h), more)
    subscript_ranked d (e.Range a b c) rest h more =
        let s = both (is_triplet_part Statement t a && is_triplet_part Statement t b) (is_triplet_part Statement t c) h in
        let r = both (is_triplet_part Statement t a) (is_triplet_part Statement t b) s.0 in
        ((maybe_ranked d.lower a r.0, maybe_ranked d.upper b r.1, maybe_ranked (pos 1) c s.1), more)
    subscript_ranked d (e.Glued a c) rest h more =
        let s = both (is_triplet_part Statement t a) (if_typed is_integer_scalar (type_and_rank Statement t c)) h in
        ((maybe_ranked d.lower a s.0, tt, ranked c (typed_value is_integer_scalar (type_and_rank Statement t c) s.1)), more)

    maybe_ranked : (v : ℤ) (m : Maybe) → is_triplet_part Statement t m ≡ true → IsRanked shapes (length indices) (term_or names indices v m)
    maybe_ranked v e.Absent h = tt
    maybe_ranked v (e.Present a) h = ranked a (typed_value is_integer_scalar (type_and_rank Statement t a) h)
