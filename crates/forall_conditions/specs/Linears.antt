-- Of a promise.
-- Linear subscripts as the code has them.
use Rattle.std.specs.Prelude.{ℕ, nat_le, Bool, ◌&&◌, ◌||◌, List, Option, Some, None}
use Rattle.std.specs.List.{list_all, list_any}
use Rattle.array_meaning.specs.declared.limits.TheConstants.{MAX_TUPLES}
use Rattle.array_meaning.specs.Terms.{Term}
use Rattle.array_meaning.specs.State.{State}
use Rattle.array_meaning.specs.declared.sections.Sequence.{Sequence}
use Rattle.array_meaning.specs.Forall.{Linear, linear, depends_on, is_linear_in_limits, is_index_in_limits}
use Rattle.forall_conditions.specs.declared.linear_forms.LinearForm.{LinearForm}

abbrev pub linear_of : LinearForm → Linear
linear_of x = record { index = x.index; factor = x.factor; offset = x.offset }

-- a linear form, or another one where there is none
abbrev pub linear_or : Option LinearForm → Linear → Linear
linear_or None other = other
linear_or (Some x) other = linear_of x

-- subscripts that are in the limits
abbrev pub are_in_limits : State → List Term → Bool
are_in_limits s ts = list_all (λ t. is_linear_in_limits (linear s t)) ts

-- an index that takes few values, in the limits
abbrev pub is_short_in_limits : Sequence → Bool
is_short_in_limits p = nat_le p.count MAX_TUPLES && is_index_in_limits p

-- an index that has one value at most, or on which a form depends
abbrev pub is_covered : List LinearForm → ℕ → ℕ → Bool
is_covered xs k count = nat_le count 1 || list_any (λ x. depends_on k (linear_of x)) xs
