-- The operands of what has a type and a rank have them.
use Rattle.std.proofs.Common.{◌≡◌, ℕ, Bool, true, List, [], ◌∷◌, Option, Some, None, refl}
use Rattle.std.specs.List.{AllByRecursion}
use Rattle.op_tables.specs.declared.op.Op.{Op}
use Rattle.expression_rules.specs.declared.types.DataType.{DataType}
use Rattle.expression_rules.specs.declared.types.TypeAndRank.{TypeAndRank}
use Rattle.expression_rules.specs.Types.{common, conforming, elemental, if_typed, of_type, operand_type, rank_in, result_type}
use Rattle.name_table.proofs.Tests.{HasValue, no_value}

pub typed_value : (test : TypeAndRank → Bool) (o : Option TypeAndRank) → if_typed test o ≡ true → HasValue o
typed_value test None h = absurd (no_value h)
typed_value test (Some s) h = refl

common_values : (a b : Option ℕ) → HasValue (common a b) → HasValue a × HasValue b
common_values None b h = absurd (no_value h)
common_values (Some q) None h = absurd (no_value h)
common_values (Some q) (Some r) h = (refl, refl)

in_value : (k : DataType) (o : Option TypeAndRank) → HasValue (rank_in k o) → HasValue o
in_value k None h = absurd (no_value h)
in_value k (Some s) h = refl

-- operands that conform each have a type
pub conforming_values : (k : DataType) (ss : List (Option TypeAndRank)) → HasValue (conforming k ss) → AllByRecursion HasValue ss
conforming_values k [] h = tt
conforming_values k (s ∷ ss) h =
    let both_of = common_values (rank_in k s) (conforming k ss) h in (in_value k s both_of.0, conforming_values k ss both_of.1)

of_value : (k : DataType) (o : Option ℕ) → HasValue (of_type k o) → HasValue o
of_value k None h = absurd (no_value h)
of_value k (Some r) h = refl

pub elemental_values : (o : Op) (ss : List (Option TypeAndRank)) → HasValue (elemental o ss) → AllByRecursion HasValue ss
elemental_values o ss h = conforming_values (operand_type o) ss (of_value (result_type o) (conforming (operand_type o) ss) h)
