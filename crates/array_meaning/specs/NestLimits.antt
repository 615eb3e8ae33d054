-- Of the claim.
-- The limits of a nest: its indices, its subscripts, and how many tuples each statement has.
use Rattle.std.specs.Prelude.{ℕ, ◌*◌, nat_le, List, [], ◌∷◌, ◌++◌, ℤ, pos, ◌-ℤ◌, Bool, true, ◌&&◌, ◌||◌, ◌==◌}
use Rattle.std.specs.List.{list_all}
use Rattle.std.specs.Result.{result_unwrap_or}
use Rattle.array_meaning.specs.declared.limits.TheConstants.{MAX_TUPLES}
use Rattle.name_table.specs.Operators.{wrapped}
use Rattle.array_meaning.specs.Terms.{Term, list_of}
use Rattle.array_meaning.specs.Statements.{Nest, Block, Done, Then, Statement, AssignScalar, AssignElement, If, Do, Arms, NoArm, Arm}
use Rattle.array_meaning.specs.State.{State, set_scalar}
use Rattle.array_meaning.specs.Sections.{is_subscript_in_limits}
use Rattle.array_meaning.specs.Expressions.{value}
use Rattle.array_meaning.specs.Forall.{is_index_in_limits, subscripts_in}
use Rattle.array_meaning.specs.Iterations.{values_of, nest_axes, nest_indices, iteration_count}

-- the state in which all of these indices have this value
abbrev pub with_all : List ℕ → ℤ → State → State
with_all [] v s = s
with_all (x ∷ xs) v s = with_all xs v (set_scalar s x v)

-- the value of a subscript. In a nest it names no array and no assigned scalar
abbrev pub number_in : State → Term → ℤ
number_in s t = result_unwrap_or (value [] s t) (pos 0)

-- a subscript is `a*x + c` in at most one index x: c is its value where all indices are 0, and a what it grows by until all are 1
abbrev pub is_linear_in_limits : List ℕ → State → Term → Bool
is_linear_in_limits indices s t =
    let c = number_in (with_all indices (pos 0) s) t in
    is_subscript_in_limits (wrapped (number_in (with_all indices (pos 1) s) t -ℤ c)) c

abbrev pub are_linear_in_limits : List ℕ → State → List Term → Bool
are_linear_in_limits indices s subscripts = list_all (is_linear_in_limits indices s) subscripts

-- each statement has so many tuples: those of the nest times the turns of the loops round it
abbrev mutual
  pub is_block_in_limits : List ℕ → State → ℕ → Block → Bool
  is_block_in_limits indices s n Done = true
  is_block_in_limits indices s n (Then line statement rest) =
      nat_le n MAX_TUPLES && is_in_limits indices s n statement && is_block_in_limits indices s n rest

  pub is_in_limits : List ℕ → State → ℕ → Statement → Bool
  is_in_limits indices s n (AssignScalar k right) = are_linear_in_limits indices s (subscripts_in right)
  is_in_limits indices s n (AssignElement a subscripts right) = are_linear_in_limits indices s (list_of subscripts ++ subscripts_in right)
  is_in_limits indices s n (If arms other) = are_arms_in_limits indices s n arms && is_block_in_limits indices s n other
  is_in_limits indices s n (Do mark loop body) =
      ((values_of s loop).count == 0 || is_index_in_limits (values_of s loop))
      && is_block_in_limits (loop.index ∷ indices) s (n * (values_of s loop).count) body
  is_in_limits indices s n statement = true

  pub are_arms_in_limits : List ℕ → State → ℕ → Arms → Bool
  are_arms_in_limits indices s n NoArm = true
  are_arms_in_limits indices s n (Arm line t body arms) =
      are_linear_in_limits indices s (subscripts_in t) && is_block_in_limits indices s n body && are_arms_in_limits indices s n arms

-- of a nest that has an iteration
abbrev pub is_nest_in_limits : Nest → Block → State → Bool
is_nest_in_limits nest body s =
    list_all is_index_in_limits (nest_axes s nest) && is_block_in_limits (nest_indices nest) s (iteration_count nest s) body
