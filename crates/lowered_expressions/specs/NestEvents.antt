-- Of a promise.
-- When a parallel statement of a nest of INDEPENDENT loops (HPF 2.0, 5.1) is a part of a nest that is entered. The copies stand after the declared names.
use Rattle.std.specs.Prelude.{◌≡◌, ℕ, ◌+◌, ◌<◌, List, [], ◌∷◌, ◌++◌, length, map, pos, true, Option, Some, None}
use Rattle.array_meaning.specs.Terms.{Term}
use Rattle.array_meaning.specs.Iterations.{is_in}
use Rattle.statement_trail.specs.NestParts.{EnteredNest, NestPart, ScalarPart, ElementPart, ConditionPart, index_in, copied_in, scalar_copy, condition_copy}
use Rattle.nest_syntax.specs.Asked.{Asked}
use Rattle.node_code.specs.declared.nest.NestRole.TheVariants.{Assigns, Tests, SetsElse}
use Rattle.node_code.specs.Flat.{Int}
use Rattle.node_code.specs.Forms.{FlatForm}
use Rattle.node_code.specs.Parallel.{When}
use Rattle.node_code.specs.NestStatements.{NestStatement, ElementLeft, CopyLeft}
use Rattle.program_code.specs.ExpressionCode.{index_subs, index_form}
use Rattle.nest_syntax.specs.NestTerms.{indexed, all_indexed, AllNameFirst, SubscriptsFirst}
use Rattle.lowered_expressions.specs.WellFormed.{IsIndexed, AreSubscripts}

-- n names are declared
module _ (n : ℕ) (nest : EnteredNest) where
  -- stored conditions as they are asked for, each in its row
  abbrev pub whens_for : List Asked → List When
  whens_for [] = []
  whens_for (w ∷ ws) = record { copy = n + condition_copy nest w.number; value = w.value } ∷ whens_for ws

  -- they are conditions of the nest
  abbrev pub AreStored : List Asked → Type 0
  AreStored [] = Unit {0}
  AreStored (w ∷ ws) = (w.number < nest.conditions) × AreStored ws

  -- a name as an index of a form: an index of the nest, or after those one of the scalars whose copies are read
  abbrev pub index_for : List ℕ → ℕ → Option ℕ
  index_for copies = index_in (nest.indices ++ copies) 0

  module _ (p : NestStatement) where
    -- it evaluates this expression, and reads the copies of the scalars that this names and the nest assigns. In its subscripts there is none of these
    pub record Evaluates (t : Term) : Type 0 where
      pub names : p.names ≡ copied_in nest.assigned t
      pub copies : p.copies ≡ map (λ k. n + scalar_copy nest k) p.names
      pub right : p.right ≡ index_form (indexed (index_for p.names) t)
      pub form : IsIndexed n (indexed (index_for p.names) t)
      pub first : SubscriptsFirst (length nest.indices) (indexed (index_for p.names) t)

    -- it is the part: an assignment, or a condition that is stored
    abbrev pub IsPart : NestPart → Type 0
    IsPart (ScalarPart k t) = (is_in k nest.assigned ≡ true) × (p.role ≡ Assigns) × (p.left ≡ CopyLeft (n + scalar_copy nest k)) × Evaluates t
    IsPart (ElementPart a ts t) =
        (a < n) × (p.role ≡ Assigns) × (p.left ≡ ElementLeft a (index_subs (all_indexed (index_for p.names) ts))) × Evaluates t
        × AreSubscripts n (all_indexed (index_for p.names) ts) × AllNameFirst (length nest.indices) (all_indexed (index_for p.names) ts)
    IsPart (ConditionPart k (Some t)) = (k < nest.conditions) × (p.role ≡ Tests) × (p.left ≡ CopyLeft (n + condition_copy nest k)) × Evaluates t
    IsPart (ConditionPart k None) =
        (k < nest.conditions) × (p.role ≡ SetsElse) × (p.left ≡ CopyLeft (n + condition_copy nest k)) × (p.names ≡ []) × (p.copies ≡ [])
        × (p.right ≡ FlatForm (Int (pos 1)))
