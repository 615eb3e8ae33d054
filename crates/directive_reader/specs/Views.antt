-- Of the claim.
-- What the values of directives are, apart from where they lie in memory.
use Rattle.std.specs.Prelude.{ℕ, Bool, true, false, List, [], ◌∷◌, map, Option, Some, None, option_map}
use Rattle.std.proofs.Common.{inl, inr}
use Rattle.syntax_tree.specs.declared.decl.Entity.{Entity}
use Rattle.syntax_tree.specs.declared.directive.Directive.{Directive}
use Rattle.syntax_tree.specs.declared.directive.Directive.TheVariants as directive
use Rattle.syntax_tree.specs.declared.directive.DistSpec.{DistSpec}
use Rattle.syntax_tree.specs.declared.directive.AlignSpec.{AlignSpec}
use Rattle.syntax_tree.specs.declared.directive.Format.{Format}
use Rattle.syntax_tree.specs.declared.directive.Format.TheVariants as format_of_dimension
use Rattle.syntax_tree.specs.declared.directive.Source.{Source}
use Rattle.syntax_tree.specs.declared.directive.Source.TheVariants as source_of_dimension
use Rattle.syntax_tree.specs.declared.directive.Target.{Target}
use Rattle.syntax_tree.specs.declared.directive.Target.TheVariants as target_of_dimension
use Rattle.syntax_tree.specs.declared.expr.Expr.{Expr}
use Rattle.syntax_tree.specs.Expression.{expression, subscript}
use Rattle.line_forms.specs.Grammar.{Value}
use Rattle.line_forms.specs.Parts.{bound, bound_of}
use Rattle.directive_reader.specs.declared.kind.Kind.TheVariants as kind
use Rattle.directive_reader.specs.declared.directive.DirectiveLine.{DirectiveLine}
use Rattle.directive_reader.specs.declared.directive.DirectiveLine.TheVariants as line
use Rattle.directive_reader.specs.Reading.{DistributionSpec, AlignmentSpec}
use Rattle.directive_reader.specs.Forms.{arrangement, format, distribution, source, target, alignment, DirectiveForm, Known, Passed}

-- an arrangement has bounds always, and no initial value
abbrev bounds_in : Option Expr → Option (List (Value bound)) → List (Value bound)
bounds_in None (Some bs) = bs
bounds_in start bs = []

abbrev pub arrangement_of : Entity → Value arrangement
arrangement_of e = (e.name, bounds_in e.start (option_map (λ v. map bound_of v.items) e.dims))

abbrev pub format_of : Format → Value format
format_of format_of_dimension.Star = inl tt
format_of (format_of_dimension.Block m) = inr (inl (option_map expression m))
format_of (format_of_dimension.Cyclic k) = inr (inr (inl (option_map expression k)))
format_of (format_of_dimension.GenBlock sizes) = inr (inr (inr (map expression sizes.items)))

abbrev pub source_of : Source → Value source
source_of source_of_dimension.Colon = inl tt
source_of source_of_dimension.Star = inr (inl tt)
source_of (source_of_dimension.Dummy name) = inr (inr name)

abbrev pub target_of : Target → Value target
target_of target_of_dimension.Star = inl tt
target_of (target_of_dimension.Sub s) = inr (subscript s)

-- the one name that stands before a list; no name where there isn't exactly one
abbrev pub first_of : List (List ℕ) → List ℕ
first_of (x ∷ []) = x
first_of xs = []

abbrev pub distribution_of : (many : Bool) → DistSpec → Value (distribution many)
distribution_of false d = (first_of d.names, (map format_of d.formats.items, d.onto))
distribution_of true d = (map format_of d.formats.items, (d.onto, d.names))

abbrev pub alignment_of : (many : Bool) → AlignSpec → Value (alignment many)
alignment_of false a = (first_of a.names, (option_map (λ v. map source_of v.items) a.source, (a.target, (option_map (λ v. map target_of v.items) a.subs, tt))))
alignment_of true a = (option_map (λ v. map source_of v.items) a.source, (a.target, (option_map (λ v. map target_of v.items) a.subs, a.names)))

-- what stands after the words DISTRIBUTE and REDISTRIBUTE, and after ALIGN
abbrev pub distribution_spec_of : DistSpec → DistributionSpec
distribution_spec_of d = (d.colons, distribution_of d.colons d)

abbrev pub alignment_spec_of : AlignSpec → AlignmentSpec
alignment_spec_of a = (a.colons, alignment_of a.colons a)

-- a list that may be left out
abbrev pub names_in : List (List ℕ) → Option (List (List ℕ))
names_in [] = None
names_in (x ∷ xs) = Some (x ∷ xs)

abbrev pub mapping_of : Directive → DirectiveForm
mapping_of (directive.Processors es) = Known kind.Processors (false, map arrangement_of es.items)
mapping_of (directive.Template es) = Known kind.Template (false, map arrangement_of es.items)
mapping_of (directive.Dynamic names) = Known kind.Dynamic (false, names)
mapping_of (directive.Distribute d) = Known (kind.Distribute d.colons) (distribution_of d.colons d)
mapping_of (directive.Align a) = Known (kind.Align a.colons) (alignment_of a.colons a)
mapping_of directive.Passed = Passed []

abbrev pub form_of : DirectiveLine → DirectiveForm
form_of (line.Mapping d) = mapping_of d
form_of (line.Redistribute d) = Known (kind.Redistribute d.colons) (distribution_of d.colons d)
form_of (line.Independent new reduction) = Known kind.Independent (names_in new, names_in reduction)
