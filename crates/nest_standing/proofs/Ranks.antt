-- What has subscripts in an expression with a type and a rank is no scalar.
use Rattle.std.proofs.Common.{◌≡◌, ℕ, zero, suc, ◌≤◌, Bool, true, false, true≢false, List, [], ◌∷◌, ◌++◌, map, Option, Some, None, refl, sym, ap, subst, ◌∙◌, inl, inr, arith}
use Rattle.std.specs.Prelude.{◌&&◌, ◌||◌, not, is_some, nat_eq, if◌then◌else◌}
use Rattle.std.specs.List.{list_all}
use Rattle.std.proofs.lemmas.List.Folds.{list_all-append}
use Rattle.op_tables.specs.declared.op.Op.{Op}
use Rattle.op_tables.specs.Arguments.{takes, is_reduction, is_inquiry, is_processor_count}
use Rattle.syntax_tree.specs.Expression as e
use Rattle.syntax_tree.specs.Expression.{Expression, Part, Parts, Maybe}
use Rattle.expression_rules.specs.declared.symbols.Symbol.{Symbol}
use Rattle.expression_rules.specs.declared.symbols.Symbol.TheVariants as symbol
use Rattle.expression_rules.specs.declared.types.Context.{Context}
use Rattle.expression_rules.specs.declared.types.DataType.{DataType}
use Rattle.expression_rules.specs.declared.types.TypeAndRank.{TypeAndRank}
use Rattle.expression_rules.specs.Symbols.{Name, SymbolTable, find, rank_of}
use Rattle.expression_rules.specs.Types.{is_integer_scalar, if_typed, common, rank_in, conforming, of_type, elemental, operand_type, result_type, reduction_of, reduction, integer_scalar_if, is_of_array, inquired_from, are_inquired, are_integer_scalars, is_directive, count_of, triplets, called_type, subscripted, integer, type_and_rank, types_and_ranks, are_subscripts, is_subscript, is_triplet_part}
use Rattle.name_table.specs.Entries.{entry, declared_as, what_is}
use Rattle.name_table.specs.declared.names.Entry.{Entry}
use Rattle.name_table.specs.Places.{AssignedTo, Place, Requirement, whole_rank}
use Rattle.body_forms.specs.Names.{is_scalar}
use Rattle.body_forms.specs.Subexpressions.{subexpressions, subexpressions_in_part, subexpressions_in_parts, subexpressions_in_maybe}
use Rattle.well_formed.proofs.Dimensions.{declared_found}
use Rattle.well_formed.proofs.Transformed.{IsMoved, Shifted, Transposed, Summed}
use Rattle.well_formed.proofs.RankedStatements.{IsPlaced, ArePlaced}
use Rattle.name_table.proofs.Tests.{both}
use Rattle.nest_standing.specs.Named.{is_array_in, names_arrays}
use Rattle.nest_standing.proofs.Bodies.{two}

typed_some : (test : TypeAndRank → Bool) (s : Option TypeAndRank) → if_typed test s ≡ true → is_some s ≡ true
typed_some test None h = absurd (true≢false (sym h))
typed_some test (Some s) h = refl

abbrev AllSome : List (Option TypeAndRank) → Type 0
AllSome ss = list_all (λ s. is_some s) ss ≡ true

common_some : (a b : Option ℕ) → is_some (common a b) ≡ true → is_some a ≡ true → is_some b ≡ true
common_some None b h g = absurd (true≢false (sym g))
common_some (Some q) None h g = absurd (true≢false (sym h))
common_some (Some q) (Some r) h g = refl

conforming_some : (k : DataType) (ss : List (Option TypeAndRank)) → (is_some (conforming k ss) ≡ true → AllSome ss)
conforming_some k [] h = refl
conforming_some k (None ∷ ss) h = none ss h where
  none : (ss : List (Option TypeAndRank)) → is_some (common None (conforming k ss)) ≡ true → AllSome (None ∷ ss)
  none ss h = h
conforming_some k (Some s ∷ ss) h = by (rank_in k (Some s)) h (conforming_some k ss) where
  by : (r : Option ℕ) → is_some (common r (conforming k ss)) ≡ true → (is_some (conforming k ss) ≡ true → AllSome ss) → AllSome (Some s ∷ ss)
  by None h more = absurd (true≢false (sym h))
  by (Some q) h more = more (common_some (Some q) (conforming k ss) h refl)

type_some : (k : DataType) (r : Option ℕ) → is_some (of_type k r) ≡ true → is_some r ≡ true
type_some k None h = absurd (true≢false (sym h))
type_some k (Some r) h = refl

elemental_some : (o : Op) (ss : List (Option TypeAndRank)) → is_some (elemental o ss) ≡ true → AllSome ss
elemental_some o ss h = conforming_some (operand_type o) ss (type_some (result_type o) (conforming (operand_type o) ss) h)

reduced_some : (o : Op) (r : Option ℕ) → is_some (reduction_of o r) ≡ true → is_some r ≡ true
reduced_some o None h = absurd (true≢false (sym h))
reduced_some o (Some r) h = refl

scalar_if : (b : Bool) → is_some (integer_scalar_if b) ≡ true → b ≡ true
scalar_if true h = refl
scalar_if false h = absurd (true≢false (sym h))

inquired_some : (b : Bool) (ss : List (Option TypeAndRank)) → inquired_from b ss ≡ true → AllSome ss
inquired_some b [] h = refl
inquired_some true (s ∷ ss) h = let m = both (is_some s) (inquired_from false ss) h in two (is_some s) _ m.0 (inquired_some false ss m.1)
inquired_some false (s ∷ ss) h =
    let m = both (if_typed is_integer_scalar s) (inquired_from false ss) h in two (is_some s) _ (typed_some is_integer_scalar s m.0) (inquired_some false ss m.1)

scalars_some : (ss : List (Option TypeAndRank)) → are_integer_scalars ss ≡ true → AllSome ss
scalars_some [] h = refl
scalars_some (s ∷ ss) h =
    let m = both (if_typed is_integer_scalar s) (are_integer_scalars ss) h in two (is_some s) _ (typed_some is_integer_scalar s m.0) (scalars_some ss m.1)

called_some : (c : Context) (t : SymbolTable) (o : Op) (ps : Parts) (ss : List (Option TypeAndRank)) → is_some (called_type c t o ps ss) ≡ true → AllSome ss
called_some c t o ps ss h = by (not (takes o (count_of ps))) (is_processor_count o) (is_inquiry o) (is_reduction o) h
  where
    by : (n p i r : Bool) → is_some (if n then None else (if p then integer_scalar_if (is_directive c && are_integer_scalars ss)
        else (if i then integer_scalar_if (are_inquired ss && (is_directive c || is_of_array t ps)) else (if r then reduction o ss else elemental o ss)))) ≡ true → AllSome ss
    by true p i r h = absurd (true≢false (sym h))
    by false true i r h = scalars_some ss (both (is_directive c) (are_integer_scalars ss) (scalar_if (is_directive c && are_integer_scalars ss) h)).1
    by false false true r h = inquired_some true ss (both (are_inquired ss) (is_directive c || is_of_array t ps) (scalar_if (are_inquired ss && (is_directive c || is_of_array t ps)) h)).0
    by false false false true h = conforming_some (operand_type o) ss (reduced_some o (conforming (operand_type o) ss) h)
    by false false false false h = elemental_some o ss h

subscripted_some : (r count triplets : ℕ) (good : Bool) → is_some (subscripted r count good triplets) ≡ true → ((q : ℕ) × (r ≡ suc q)) × (good ≡ true)
subscripted_some zero count triplets good h = absurd (true≢false (sym h))
subscripted_some (suc q) count triplets good h = ((q, refl), (both (nat_eq count (suc q)) good (by (nat_eq count (suc q) && good) h)).1)
  where
    by : (b : Bool) → is_some (if b then Some (integer triplets) else None) ≡ true → b ≡ true
    by true h = refl
    by false h = absurd (true≢false (sym h))

-- what has a rank is no scalar
symbol_scalar : (s : Symbol) (q : ℕ) → rank_of (Some s) ≡ suc q → is_scalar (Some (what_is s)) ≡ false
symbol_scalar (symbol.Array r ds v) q h = refl
symbol_scalar symbol.Uninitialized q h = absurd (omega (arith, h))
symbol_scalar (symbol.Initialized v) q h = absurd (omega (arith, h))
symbol_scalar (symbol.Constant v) q h = refl
symbol_scalar (symbol.Template r) q h = refl
symbol_scalar (symbol.Arrangement r) q h = refl

no_scalar : (x : Name) (t : SymbolTable) (q : ℕ) → rank_of (find x t) ≡ suc q → is_scalar (declared_as (map entry t) x) ≡ false
no_scalar x t q h = by (find x t) refl h where
  by : (o : Option Symbol) → find x t ≡ o → rank_of o ≡ suc q → is_scalar (declared_as (map entry t) x) ≡ false
  by None f g = absurd (omega (arith, g))
  by (Some s) f g = ap is_scalar (declared_found x t s f) ∙ symbol_scalar s q g

module _ (context : Context) (t : SymbolTable) where
  abbrev names : List Entry
  names = map entry t

  abbrev Passes : List Expression → Type 0
  Passes es = list_all (is_array_in names) es ≡ true

  pass_both : (xs ys : List Expression) → Passes xs → Passes ys → Passes (xs ++ ys)
  pass_both xs ys h g = list_all-append (is_array_in names) xs ys ∙ two (list_all (is_array_in names) xs) (list_all (is_array_in names) ys) h g

  mutual
    pub typed_arrays : (x : Expression) → is_some (type_and_rank context t x) ≡ true → Passes (subexpressions x)
    typed_arrays (e.Number v) h = refl
    typed_arrays (e.Truth b) h = refl
    typed_arrays (e.Name x) h = refl
    typed_arrays (e.Element x ps) h =
        let s = subscripted_some (rank_of (find x t)) (count_of ps) (triplets ps) (are_subscripts context t ps) h in
        two (not (is_scalar (declared_as names x))) (list_all (is_array_in names) (subexpressions_in_parts ps)) (ap not (no_scalar x t s.0.0 s.0.1)) (subscript_arrays ps s.1)
    typed_arrays (e.Closed a) h = typed_arrays a h
    typed_arrays (e.Unary o a) h =
        typed_arrays a (both (is_some (type_and_rank context t a)) true (elemental_some o (type_and_rank context t a ∷ []) h)).0
    typed_arrays (e.Binary o a b) h =
        let s = both (is_some (type_and_rank context t a)) (is_some (type_and_rank context t b) && true)
        (elemental_some o (type_and_rank context t a ∷ type_and_rank context t b ∷ []) h) in
        pass_both (subexpressions a) (subexpressions b) (typed_arrays a s.0) (typed_arrays b (both (is_some (type_and_rank context t b)) true s.1).0)
    typed_arrays (e.Call o ps) h = argument_arrays ps (called_some context t o ps (types_and_ranks context t ps) h)

    argument_arrays : (ps : Parts) → AllSome (types_and_ranks context t ps) → Passes (subexpressions_in_parts ps)
    argument_arrays e.End h = refl
    argument_arrays (e.More (e.One a) ps) h =
        let s = both (is_some (type_and_rank context t a)) _ h in pass_both (subexpressions a) (subexpressions_in_parts ps) (typed_arrays a s.0) (argument_arrays ps s.1)
    argument_arrays (e.More (e.Range a b c) ps) h = absurd (true≢false (sym h))
    argument_arrays (e.More (e.Glued a c) ps) h = absurd (true≢false (sym h))

    subscript_arrays : (ps : Parts) → are_subscripts context t ps ≡ true → Passes (subexpressions_in_parts ps)
    subscript_arrays e.End h = refl
    subscript_arrays (e.More p ps) h =
        let s = both (is_subscript context t p) (are_subscripts context t ps) h in
        pass_both (subexpressions_in_part p) (subexpressions_in_parts ps) (part_arrays p s.0) (subscript_arrays ps s.1)

    part_arrays : (p : Part) → is_subscript context t p ≡ true → Passes (subexpressions_in_part p)
    part_arrays (e.One a) h = typed_arrays a (typed_some is_integer_scalar (type_and_rank context t a) h)
    part_arrays (e.Range a b c) h =
        let s = both (is_triplet_part context t a && is_triplet_part context t b) (is_triplet_part context t c) h in
        let r = both (is_triplet_part context t a) (is_triplet_part context t b) s.0 in
        pass_both (subexpressions_in_maybe a ++ subexpressions_in_maybe b) (subexpressions_in_maybe c)
        (pass_both (subexpressions_in_maybe a) (subexpressions_in_maybe b) (maybe_arrays a r.0) (maybe_arrays b r.1)) (maybe_arrays c s.1)
    part_arrays (e.Glued a c) h =
        let s = both (is_triplet_part context t a) (if_typed is_integer_scalar (type_and_rank context t c)) h in
        pass_both (subexpressions_in_maybe a) (subexpressions c) (maybe_arrays a s.0) (typed_arrays c (typed_some is_integer_scalar (type_and_rank context t c) s.1))

    maybe_arrays : (m : Maybe) → is_triplet_part context t m ≡ true → Passes (subexpressions_in_maybe m)
    maybe_arrays e.Absent h = refl
    maybe_arrays (e.Present a) h = typed_arrays a (typed_some is_integer_scalar (type_and_rank context t a) h)

  -- a whole array by its name
  whole_arrays : (x : Expression) → 1 ≤ whole_rank t x → Passes (subexpressions x)
  whole_arrays (e.Name x) h = refl
  whole_arrays x h = absurd (omega (arith, h))

  moved_arrays : (left x : Expression) → IsMoved context t left x → Passes (subexpressions x)
  moved_arrays left x (Shifted b k some same scalar) =
      pass_both (subexpressions b) (subexpressions k ++ []) (whole_arrays b (subst (λ r. 1 ≤ r) (sym same) some))
      (pass_both (subexpressions k) [] (typed_arrays k (typed_some is_integer_scalar (type_and_rank context t k) scalar)) refl)
  moved_arrays left x (Transposed b two_left two_right) = pass_both (subexpressions b) [] (whole_arrays b (omega (arith, two_right))) refl
  moved_arrays left x (Summed b one_left one_right) = pass_both (subexpressions b) [] (whole_arrays b (omega (arith, one_right))) refl

  placed_array : (r : Requirement) (x : Expression) → IsPlaced context t r x → Passes (subexpressions x)
  placed_array (AssignedTo left) x (inl h) = typed_arrays x h
  placed_array (AssignedTo left) x (inr h) = moved_arrays left x h
  placed_array r x h = typed_arrays x h

  pub placed_arrays : (ps : List Place) → ArePlaced context t ps → list_all (names_arrays names) (map (λ p. p.expression) ps) ≡ true
  placed_arrays [] h = refl
  placed_arrays (p ∷ ps) h =
      two (names_arrays names p.expression) (list_all (names_arrays names) (map (λ p. p.expression) ps)) (placed_array p.requirement p.expression h.0) (placed_arrays ps h.1)
