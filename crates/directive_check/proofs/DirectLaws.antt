-- A mapping that a DISTRIBUTE gives is that of an object that isn't aligned: each entry is given a subscript of the object itself.
use Rattle.std.proofs.Common.{◌≡◌, ℕ, ℤ, pos, Bool, true, false, List, [], ◌∷◌, Option, Some, None, refl, sym, ap, ◌∙◌}
use Rattle.std.specs.Prelude.{◌*ℤ◌, All, IfSome, option_and_then, option_map, slice_index_or, if◌then◌else◌}
use Rattle.std.proofs.Math.IntN.{*ℤ-one, *ℤ_comm, +ℤ_idr}
use Rattle.std.proofs.lemmas.List.Elements.{All-cons, All-nil}
use Rattle.mappings.specs.Alignment.{align_through, composed_align}
use Rattle.mappings.specs.declared.mapping.AlignDim.{AlignDim}
use Rattle.mappings.specs.declared.mapping.AlignDim.TheVariants.{Linear, At, Every}
use Rattle.mappings.specs.declared.mapping.Form.{Form}
use Rattle.mappings.specs.declared.mapping.MapDim.{MapDim}
use Rattle.expression_rules.specs.Dims.{extent}
use Rattle.expression_rules.specs.Symbols.{Name}
use Rattle.expression_rules.specs.declared.dims.Dim.{Dim}
use Rattle.distribution_rules.specs.declared.evaluated_formats.DistributionValues.{DistributionValues}
use Rattle.distribution_rules.specs.declared.evaluated_formats.FormatValue.{FormatValue}
use Rattle.distribution_rules.specs.declared.evaluated_formats.Processors.{Processors}
use Rattle.distribution_rules.specs.declared.evaluated_formats.Processors.TheVariants.{Extents, Missing, Unknown}
use Rattle.distribution_rules.specs.Dimensions.{is_too_wide}
use Rattle.distribution_rules.specs.Distributed.{all_or_none, and_more, are_formats, distributed, distributed_onto, form_of, has_all_nodes, map_dim, map_dim_in, map_dim_with}
use Rattle.distribution_rules.specs.DistributionRules.{DistributedDim, distributed_from, distribution_values}
use Rattle.distribution_rules.specs.Setting.{Setting, dims_of}
use Rattle.directive_check.specs.DirectMappings.{IsDirect, IsDirectAlign}
use Rattle.directive_check.specs.MappedObjects.{How, Distributed, Aligned, MappedObject, how_mapped}
use Rattle.directive_check.specs.ProgramMaps.{mapped_as, start_of}

abbrev IsDirectDim : MapDim → Type 0
IsDirectDim e = IsDirectAlign e.align

with_form : (d : DistributedDim) (b : Dim) (f : Option Form) → IfSome (option_map (map_dim_with d b) f) IsDirectDim
with_form d b None = tt
with_form d b (Some f) = (refl, refl)

within : (d : DistributedDim) (b : Dim) (wide : Bool) (f : Option Form) → IfSome (if wide then None else option_map (map_dim_with d b) f) IsDirectDim
within d b true f = tt
within d b false f = with_form d b f

with_bounds : (d : DistributedDim) (b : Option Dim) → IfSome (option_and_then (map_dim_in d) b) IsDirectDim
with_bounds d None = tt
with_bounds d (Some b) = within d b (is_too_wide (Some b)) (form_of d.format (extent b) d.procs)

one_more : (a : Option MapDim) (bs : Option (List MapDim)) → IfSome a IsDirectDim → IfSome bs (All IsDirectDim) → IfSome (and_more a bs) (All IsDirectDim)
one_more None bs h k = tt
one_more (Some a) None h k = tt
one_more (Some a) (Some bs) h k = All-cons IsDirectDim a bs h k

all_direct : (ds : List DistributedDim) → IfSome (all_or_none map_dim ds) (All IsDirectDim)
all_direct [] = All-nil IsDirectDim
all_direct (d ∷ ds) = one_more (map_dim d) (all_or_none map_dim ds) (with_bounds d d.bounds) (all_direct ds)

onto : (t : Bool) (ps : List ℕ) (ms : Option (List MapDim)) → IfSome ms (All IsDirectDim) →
    IfSome (if t then option_map (λ entries. record { grid = ps; dims = entries }) ms else None) IsDirect
onto false ps ms h = tt
onto true ps None h = tt
onto true ps (Some ms) h = h

onto_processors : (grid : List ℕ) (fs : List FormatValue) (bs : List (Option Dim)) (p : Processors) → IfSome (distributed_onto grid fs bs p) IsDirect
onto_processors grid fs bs (Extents ps) =
    onto (has_all_nodes grid ps) ps (all_or_none map_dim (distributed_from 0 0 fs bs ps)) (all_direct (distributed_from 0 0 fs bs ps))
onto_processors grid fs bs Unknown = tt
onto_processors grid fs bs (Missing why) = tt

pub direct : (s : Setting) (v : DistributionValues) (bs : List (Option Dim)) → IfSome (distributed s v bs) IsDirect
direct s v bs = by (are_formats v.formats bs)
  where
    by : (t : Bool) → IfSome (if t then distributed_onto s.grid v.formats bs v.processors else None) IsDirect
    by true = onto_processors s.grid v.formats bs v.processors
    by false = tt

direct_as : (s : Setting) (x : Name) (h : Option How) → IfSome (mapped_as s x h) IsDirect
direct_as s x None = All-nil IsDirectDim
direct_as s x (Some (Aligned a)) = All-nil IsDirectDim
direct_as s x (Some (Distributed d)) = direct s (distribution_values s d) (dims_of s x)

-- that of an object that isn't aligned, at the start
pub start_direct : (s : Setting) (ms : List MappedObject) (x : Name) → IfSome (start_of s ms x) IsDirect
start_direct s ms x = direct_as s x (how_mapped ms x)

-- ---- what is given through such an entry

one_through : (e : AlignDim) → align_through (pos 1) (pos 0) e ≡ e
unfolding lib.IntN.one
one_through (Linear dim a b) = λ i. Linear dim (once a i) ((+ℤ_idr (pos 1 *ℤ b) ∙ once b) i)
  where
    once : (z : ℤ) → pos 1 *ℤ z ≡ z
    once z = *ℤ_comm (pos 1) z ∙ *ℤ-one z
one_through (At v) = λ i. At ((+ℤ_idr (pos 1 *ℤ v) ∙ (*ℤ_comm (pos 1) v ∙ *ℤ-one v)) i)
one_through Every = refl

abbrev dim_in : AlignDim → ℕ
dim_in (Linear dim a b) = dim
dim_in e = 0

pub through_direct : (e : AlignDim) (dim : ℕ) (a b : ℤ) (align : List AlignDim) (r : AlignDim) → e ≡ Linear dim a b → IsDirectAlign e →
    r ≡ slice_index_or align dim Every → r ≡ composed_align align e
through_direct (Linear d c k) dim a b align r is one found =
    found
    ∙ ap (λ n. slice_index_or align n Every) (sym (ap dim_in is))
    ∙ sym ((λ i. align_through (one.0 i) (one.1 i) (slice_index_or align d Every)) ∙ one_through (slice_index_or align d Every))
through_direct (At v) dim a b align r is one found = absurd (apart is)
  where
    apart : At v ≡ Linear dim a b → ⊥
    apart h = cc
through_direct Every dim a b align r is one found = absurd (apart is)
  where
    apart : Every ≡ Linear dim a b → ⊥
    apart h = cc
