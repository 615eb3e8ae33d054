-- Of the claim.
-- What an ALIGN says, with the values of its expressions (HPF 2.0, 3.4).
use Rattle.std.specs.Prelude.{ℕ, List, [], ◌∷◌, length, replicate, drop, ℤ, pos, Option, Some, None, option_map}
use Rattle.syntax_tree.specs.Expression.{Part, One, Range, Glued, Maybe, Absent, Present}
use Rattle.syntax_tree.specs.Directive.{Alignment, Source, Spread, Target, Placed, Replicated}
use Rattle.expression_rules.specs.Symbols.{Name}
use Rattle.expression_rules.specs.declared.dims.Dim.{Dim}
use Rattle.declarations.specs.Declarations.{if_known}
use Rattle.name_table.specs.Directives.{dummies}
use Rattle.distribution_rules.specs.Setting.{Setting, dims_of, value_in}
use Rattle.alignment_rules.specs.declared.alignment_values.TargetValue.{TargetValue}
use Rattle.alignment_rules.specs.declared.alignment_values.TargetValue.TheVariants.{Every, Subscript, Triplet}
use Rattle.linear_subscripts.specs.LinearForms.{dummies_in, linear_form}

-- a list that is left out is all `:`
abbrev pub full : Target
full = Placed (Range Absent Absent Absent)

abbrev pub list_or : {A : Type 0} → A → ℕ → Option (List A) → List A
list_or a n None = replicate n a
list_or a n (Some as') = as'

-- the entries of an alignee of so many dimensions, and those of the target
abbrev pub sources : Alignment → ℕ → List Source
sources a rank = list_or Spread rank a.sources

abbrev pub targets : Setting → Alignment → List Target
targets s a = list_or full (length (dims_of s a.target)) a.subscripts

abbrev pub first_name : List Name → Option Name
first_name [] = None
first_name (x ∷ xs) = Some x

-- a part of a triplet; where it is left out, another number stands for it
abbrev pub part_or : Setting → Option ℤ → Maybe → Option ℤ
part_or s other Absent = other
part_or s other (Present e) = if_known (value_in s e)

abbrev pub lower_of : Option Dim → Option ℤ
lower_of d = option_map (λ x. x.lower) d

abbrev pub upper_of : Option Dim → Option ℤ
upper_of d = option_map (λ x. x.upper) d

-- what stands for a dimension of the target of these bounds
abbrev pub part_value : Setting → List Name → Option Dim → Part → TargetValue
part_value s ds b (One e) = Subscript (first_name (dummies_in ds e)) (linear_form s ds e)
part_value s ds b (Range first last step) = Triplet (part_or s (lower_of b) first) (part_or s (upper_of b) last) (part_or s (Some (pos 1)) step)
part_value s ds b (Glued first step) = Triplet (part_or s (lower_of b) first) (upper_of b) (if_known (value_in s step))

abbrev pub target_value : Setting → List Name → Option Dim → Target → TargetValue
target_value s ds b Replicated = Every
target_value s ds b (Placed p) = part_value s ds b p

-- the first dimension of a list; unknown where there is none
abbrev pub first_dim : List (Option Dim) → Option Dim
first_dim [] = None
first_dim (d ∷ ds) = d

abbrev pub values_from : Setting → List Name → List (Option Dim) → List Target → List TargetValue
values_from s ds bs [] = []
values_from s ds bs (t ∷ ts) = target_value s ds (first_dim bs) t ∷ values_from s ds (drop 1 bs) ts

-- what stands for each dimension of the target
abbrev pub target_values : Setting → Alignment → List TargetValue
target_values s a = values_from s (dummies a) (dims_of s a.target) (targets s a)
