-- Of the claim.
-- The rules of templates and processor arrangements (HPF 2.0, 3.6 and 3.7).
use Rattle.std.specs.Prelude.{ℕ, ◌==◌, Bool, ◌||◌, not, List, [], ◌++◌, map, length}
use Rattle.std.specs.List.{list_any, flat_map}
use Rattle.hpf_base.specs.ElementOrder.{product}
use Rattle.hpf_base.specs.declared.refusal.Reason.{Reason}
use Rattle.hpf_base.specs.declared.refusal.Reason.TheVariants as reason
use Rattle.syntax_tree.specs.Directive.{Bound, Processors, Template as TemplateDirective}
use Rattle.syntax_tree.specs.MainProgram.{Declared, Directed}
use Rattle.expression_rules.specs.Symbols.{SymbolTable}
use Rattle.expression_rules.specs.declared.dims.Dim.{Dim}
use Rattle.declarations.specs.Declarations.{bounds_of, if_known, is_too_far}
use Rattle.declarations.specs.DeclarationRules.{is_invalid}
use Rattle.declarations.specs.Reasons.{when}
use Rattle.std.specs.Prelude.{Option}
use Rattle.distribution_rules.specs.Dimensions.{lower_value, upper_value, dim_of, passes, is_empty_dim, is_too_wide, extents}
use Rattle.distribution_rules.specs.Setting.{Setting}

-- what is wrong with a bound: it isn't constant, divides by zero, or is past the limit
abbrev pub bound_reasons : List ℕ → SymbolTable → Bound → List Reason
bound_reasons grid t b =
    when (is_invalid (lower_value grid t b) || is_invalid (upper_value grid t b)) reason.BadConstant
    ++ when (is_too_far (if_known (lower_value grid t b)) || is_too_far (if_known (upper_value grid t b))) reason.Limit

abbrev pub template_reasons : List ℕ → SymbolTable → List Bound → List Reason
template_reasons grid t bs = flat_map (bound_reasons grid t) bs ++ when (list_any is_too_wide (map (dim_of grid t) bs)) reason.Limit

-- an arrangement has dimensions, none of them empty, and as many processors as the grid
abbrev pub is_misfit : List ℕ → List (Option Dim) → Bool
is_misfit grid ds = (length ds == 0) || list_any is_empty_dim ds || passes (λ ns. not (product ns == product grid)) (extents ds)

abbrev pub arrangement_reasons : List ℕ → SymbolTable → List Bound → List Reason
arrangement_reasons grid t bs = flat_map (bound_reasons grid t) bs ++ when (is_misfit grid (map (dim_of grid t) bs)) reason.BadArrangement

-- what is wrong with the templates and the processor arrangements of a declaration
abbrev pub space_reasons : Setting → Declared → List Reason
space_reasons s (Directed (TemplateDirective es)) = flat_map (λ e. template_reasons s.grid s.names (bounds_of e.bounds)) es
space_reasons s (Directed (Processors es)) = flat_map (λ e. arrangement_reasons s.grid s.names (bounds_of e.bounds)) es
space_reasons s d = []
