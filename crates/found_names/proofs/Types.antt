-- What has a type and a rank: the ranks of operands, and of references with subscripts.
use Rattle.std.proofs.Common.{◌≡◌, ℕ, zero, suc, Bool, true, false, true≢false, List, [], ◌∷◌, Option, Some, None, refl, sym, ap, arith}
use Rattle.std.specs.Prelude.{◌&&◌, not, is_some, nat_eq, nat_le, if◌then◌else◌}
use Rattle.std.specs.List.{AllByRecursion}
use Rattle.std.proofs.lemmas.Bool.{eqb-true}
use Rattle.op_tables.specs.declared.op.Op.{Op}
use Rattle.op_tables.specs.Arguments.{is_inquiry, is_processor_count, is_reduction, takes}
use Rattle.syntax_tree.specs.Expression as e
use Rattle.syntax_tree.specs.Expression.{Parts}
use Rattle.expression_rules.specs.declared.types.Context.TheVariants.{Statement}
use Rattle.expression_rules.specs.declared.types.DataType.{DataType}
use Rattle.expression_rules.specs.declared.types.TypeAndRank.{TypeAndRank}
use Rattle.expression_rules.specs.Symbols.{SymbolTable}
use Rattle.expression_rules.specs.Types.{called_type, common, conforming, count_of, elemental, if_typed, integer, integer_scalar_if, is_integer_scalar, is_logical_scalar, of_type, operand_type, rank_in, reduction, reduction_of, result_type, same_type, subscripted, triplets}
use Rattle.array_meaning.specs.Resolution.{is_element}
use Rattle.name_table.proofs.Tests.{HasValue, both}
use Rattle.name_table.proofs.TypedOperands.{typed_value}
use Rattle.found_names.specs.Scalars.{Asked, OneValue, Values}

-- the type and rank of an expression that gives one value, or values
abbrev pub Fits : Asked → Option TypeAndRank → Type 0
Fits OneValue o = if_typed (λ s. nat_eq s.rank 0) o ≡ true
Fits Values o = HasValue o

no_value : false ≡ true → ⊥
no_value h = true≢false (sym h)

pub fits_values : (asked : Asked) (o : Option TypeAndRank) → Fits asked o → HasValue o
fits_values OneValue o h = typed_value _ o h
fits_values Values o h = h

pub integer_fits : (o : Option TypeAndRank) → if_typed is_integer_scalar o ≡ true → Fits OneValue o
integer_fits None h = absurd (no_value h)
integer_fits (Some s) h = (both _ (nat_eq s.rank 0) h).1

pub logical_fits : (o : Option TypeAndRank) → if_typed is_logical_scalar o ≡ true → Fits OneValue o
logical_fits None h = absurd (no_value h)
logical_fits (Some s) h = (both _ (nat_eq s.rank 0) h).1

-- ---- operands

abbrev RankFits : Asked → Option ℕ → Type 0
RankFits OneValue o = o ≡ Some 0
RankFits Values o = HasValue o

above_zero : (n : ℕ) → Some (suc n) ≡ Some 0 → ⊥
above_zero n h = absurd cc

either_zero : (b : Bool) (n : ℕ) → (if b then Some (suc n) else None) ≡ Some 0 → ⊥
either_zero true n h = above_zero n h
either_zero false n h = no_value (ap is_some h)

common_fits : (asked : Asked) (a b : Option ℕ) → RankFits asked (common a b) → RankFits asked a × RankFits asked b
common_fits Values None b h = absurd (no_value h)
common_fits Values (Some q) None h = absurd (no_value h)
common_fits Values (Some q) (Some r) h = (refl, refl)
common_fits OneValue None b h = absurd (no_value (ap is_some h))
common_fits OneValue (Some q) None h = absurd (no_value (ap is_some h))
common_fits OneValue (Some zero) (Some r) h = (refl, h)
common_fits OneValue (Some (suc q)) (Some zero) h = absurd (above_zero q h)
common_fits OneValue (Some (suc q)) (Some (suc r)) h = absurd (either_zero (nat_eq q r) q h)

in_fits : (asked : Asked) (k : DataType) (o : Option TypeAndRank) → RankFits asked (rank_in k o) → Fits asked o
in_fits Values k None h = absurd (no_value h)
in_fits Values k (Some s) h = refl
in_fits OneValue k None h = absurd (no_value (ap is_some h))
in_fits OneValue k (Some s) h = by (same_type k s.data_type) h
  where
    by : (b : Bool) → (if b then Some s.rank else None) ≡ Some 0 → nat_eq s.rank 0 ≡ true
    by true h = ap (λ o. if_zero o) h
      where
        if_zero : Option ℕ → Bool
        if_zero None = false
        if_zero (Some n) = nat_eq n 0
    by false h = absurd (no_value (ap is_some h))

conforming_fits : (asked : Asked) (k : DataType) (ss : List (Option TypeAndRank)) → RankFits asked (conforming k ss) → AllByRecursion (Fits asked) ss
conforming_fits asked k [] h = tt
conforming_fits asked k (s ∷ ss) h = let two = common_fits asked (rank_in k s) (conforming k ss) h in (in_fits asked k s two.0, conforming_fits asked k ss two.1)

of_fits : (asked : Asked) (k : DataType) (o : Option ℕ) → Fits asked (of_type k o) → RankFits asked o
of_fits Values k None h = absurd (no_value h)
of_fits Values k (Some r) h = refl
of_fits OneValue k None h = absurd (no_value h)
of_fits OneValue k (Some r) h = ap Some (eqb-true r 0 h)

pub elemental_fits : (asked : Asked) (o : Op) (ss : List (Option TypeAndRank)) → Fits asked (elemental o ss) → AllByRecursion (Fits asked) ss
elemental_fits asked o ss h = conforming_fits asked (operand_type o) ss (of_fits asked (result_type o) (conforming (operand_type o) ss) h)

reduced_fits : (o : Op) (r : Option ℕ) → HasValue (reduction_of o r) → HasValue r
reduced_fits o None h = absurd (no_value h)
reduced_fits o (Some r) h = refl

reduction_fits : (o : Op) (ss : List (Option TypeAndRank)) → HasValue (reduction o ss) → AllByRecursion (Fits Values) ss
reduction_fits o ss h = conforming_fits Values (operand_type o) ss (reduced_fits o (conforming (operand_type o) ss) h)

-- the arguments of a reduction, and of another procedure that is no inquiry
abbrev pub ArgumentsFit : Asked → Bool → List (Option TypeAndRank) → Type 0
ArgumentsFit asked true ss = AllByRecursion (Fits Values) ss
ArgumentsFit asked false ss = AllByRecursion (Fits asked) ss

pub nothing_fits : {A : Type 0} (asked : Asked) → Fits asked None → A
nothing_fits OneValue h = absurd (no_value h)
nothing_fits Values h = absurd (no_value h)

pub called_fits : (asked : Asked) (t : SymbolTable) (o : Op) (ps : Parts) (ss : List (Option TypeAndRank)) → is_inquiry o ≡ false → Fits asked (called_type Statement t o ps ss) →
    ArgumentsFit asked (is_reduction o) ss
called_fits asked t o ps ss other h = by (takes o (count_of ps)) (is_processor_count o) (is_inquiry o) (is_reduction o) _ other h
  where
    by : (taken count asks reduces : Bool) (inquired : Option TypeAndRank) → asks ≡ false →
        Fits asked (if not taken then None else (if count then integer_scalar_if false else (if asks then inquired else (if reduces then reduction o ss else elemental o ss)))) →
        ArgumentsFit asked reduces ss
    by false count asks reduces inquired n h = nothing_fits asked h
    by true true asks reduces inquired n h = nothing_fits asked h
    by true false true reduces inquired n h = absurd (true≢false n)
    by true false false true inquired n h = reduction_fits o ss (fits_values asked (reduction o ss) h)
    by true false false false inquired n h = elemental_fits asked o ss h

-- ---- references with subscripts

-- the rank of a reference is the number of its triplets
pub subscripted_rank : (test : ℕ → Bool) (r count : ℕ) (good : Bool) (k : ℕ) → if_typed (λ s. test s.rank) (subscripted r count good k) ≡ true → (good ≡ true) × (test k ≡ true)
subscripted_rank test zero count good k h = absurd (no_value h)
subscripted_rank test (suc r) count good k h = by (nat_eq count (suc r)) good h
  where
    by : (b good : Bool) → if_typed (λ s. test s.rank) (if b && good then Some (integer k) else None) ≡ true → (good ≡ true) × (test k ≡ true)
    by true true h = (refl, h)
    by true false h = absurd (no_value h)
    by false good h = absurd (no_value h)

above_none : (n : ℕ) → nat_eq (suc n) 0 ≡ true → ⊥
above_none n h = let same : suc n ≡ 0 = eqb-true (suc n) 0 h in omega (arith, same)

pub no_triplet : (ps : Parts) → nat_eq (triplets ps) 0 ≡ true → is_element ps ≡ true
no_triplet e.End h = refl
no_triplet (e.More (e.One a) ps) h = no_triplet ps h
no_triplet (e.More (e.Range a b c) ps) h = absurd (above_none (triplets ps) h)
no_triplet (e.More (e.Glued a c) ps) h = absurd (above_none (triplets ps) h)

pub some_triplet : (ps : Parts) → nat_le 1 (triplets ps) ≡ true → is_element ps ≡ false
some_triplet e.End h = absurd (no_value h)
some_triplet (e.More (e.One a) ps) h = some_triplet ps h
some_triplet (e.More (e.Range a b c) ps) h = refl
some_triplet (e.More (e.Glued a c) ps) h = refl

pub of_element : (ps : Parts) → is_element ps ≡ true → triplets ps ≡ 0
of_element e.End h = refl
of_element (e.More (e.One a) ps) h = of_element ps h
of_element (e.More (e.Range a b c) ps) h = absurd (no_value h)
of_element (e.More (e.Glued a c) ps) h = absurd (no_value h)
