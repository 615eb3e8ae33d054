-- Of the claim.
-- The bounds of dimensions in directives (HPF 2.0, 3.6 and 3.7), each dimension where both of its bounds are known.
use Rattle.std.specs.Prelude.{ℕ, Bool, false, nat_lt, List, [], ◌∷◌, ℤ, pos, Option, Some, None}
use Rattle.mappings.specs.declared.limits.TheConstants.{MAX_TEMPLATE_EXTENT}
use Rattle.syntax_tree.specs.Expression.{Expression}
use Rattle.syntax_tree.specs.Directive.{Bound}
use Rattle.expression_rules.specs.Constants.{value}
use Rattle.expression_rules.specs.Dims.{extent, is_empty}
use Rattle.expression_rules.specs.Symbols.{SymbolTable}
use Rattle.expression_rules.specs.declared.dims.Dim.{Dim}
use Rattle.expression_rules.specs.declared.evaluated.Evaluated.{Evaluated}
use Rattle.expression_rules.specs.declared.evaluated.Evaluated.TheVariants.{Known}

-- the value of an expression of a directive, for a grid of these extents
abbrev pub directive_value : List ℕ → SymbolTable → Expression → Evaluated ℤ
directive_value grid t e = value (Some grid) t e

-- the value of an expression of a directive that may be left out, and stands for a number then
abbrev pub directive_value_or : ℤ → List ℕ → SymbolTable → Option Expression → Evaluated ℤ
directive_value_or n grid t None = Known n
directive_value_or n grid t (Some e) = directive_value grid t e

abbrev pub lower_value : List ℕ → SymbolTable → Bound → Evaluated ℤ
lower_value grid t b = directive_value_or (pos 1) grid t b.lower

abbrev pub upper_value : List ℕ → SymbolTable → Bound → Evaluated ℤ
upper_value grid t b = directive_value grid t b.upper

-- a dimension, where both of its bounds are known
abbrev pub dim_if : Evaluated ℤ → Evaluated ℤ → Option Dim
dim_if (Known l) (Known u) = Some (record { lower = l; upper = u })
dim_if l u = None

abbrev pub dim_of : List ℕ → SymbolTable → Bound → Option Dim
dim_of grid t b = dim_if (lower_value grid t b) (upper_value grid t b)

-- a test of what is known
abbrev pub passes : {A : Type 0} → (A → Bool) → Option A → Bool
passes test None = false
passes test (Some a) = test a

abbrev pub is_empty_dim : Option Dim → Bool
is_empty_dim d = passes is_empty d

-- a dimension of a template has too many positions
abbrev pub is_too_wide : Option Dim → Bool
is_too_wide d = passes (λ x. nat_lt MAX_TEMPLATE_EXTENT (extent x)) d

-- the extents, where all are known
abbrev pub with_extent : Option Dim → Option (List ℕ) → Option (List ℕ)
with_extent (Some d) (Some ns) = Some (extent d ∷ ns)
with_extent d ns = None

abbrev pub extents : List (Option Dim) → Option (List ℕ)
extents [] = Some []
extents (d ∷ ds) = with_extent d (extents ds)
