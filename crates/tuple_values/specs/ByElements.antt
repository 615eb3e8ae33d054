-- Of private clauses.
-- Elemental expressions at a tuple, by the elements where they read them.
use Rattle.std.specs.Prelude.{List, [], ℤ, Result, Ok}
use Rattle.expression_rules.specs.declared.dims.Dim.{Dim}
use Rattle.storage.specs.Storage.{Spot}
use Rattle.array_meaning.specs.Faults.{Cause, ◌>>=◌, with_more}
use Rattle.array_meaning.specs.State.{element_place, if_in_bounds}
use Rattle.array_meaning.specs.Sections.{subscripts_at}
use Rattle.array_meaning.specs.Elementals.{Elemental, Same, Selected, Operation, Elementals, NoOperand, Operand, operated}
use Rattle.code_meaning.specs.Parallel.{shape_of}

module _ (shapes : List (List Dim)) (get : Spot → ℤ) (x : List ℤ) where
  abbrev mutual
    pub value_by_elements : Elemental → Result ℤ Cause
    value_by_elements (Same v) = Ok v
    value_by_elements (Selected a ds) =
        if_in_bounds (element_place (shape_of shapes a) (subscripts_at ds x)) >>= (λ k. Ok (get (record { row = a; at = k })))
    value_by_elements (Operation o ys) = values_by_elements ys >>= operated o

    pub values_by_elements : Elementals → Result (List ℤ) Cause
    values_by_elements NoOperand = Ok []
    values_by_elements (Operand y ys) = with_more (value_by_elements y) (values_by_elements ys)
