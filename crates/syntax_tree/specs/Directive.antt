-- Of the claim.
-- The abstract syntax of mapping directives (HPF 2.0, 3), and what it is of a tree: what they say, apart from where they lie
-- in memory and from spellings that change nothing.
use Rattle.std.specs.Prelude.{ℕ, Bool, true, false, List, [], ◌∷◌, map, Option, Some, None, option_map}
use Rattle.syntax_tree.specs.declared.decl.Bound.{Bound as HeldBound}
use Rattle.syntax_tree.specs.declared.decl.Entity.{Entity as HeldEntity}
use Rattle.syntax_tree.specs.declared.directive.AlignSpec.{AlignSpec}
use Rattle.syntax_tree.specs.declared.directive.Directive.{Directive as HeldDirective}
use Rattle.syntax_tree.specs.declared.directive.Directive.TheVariants as directive
use Rattle.syntax_tree.specs.declared.directive.DistSpec.{DistSpec}
use Rattle.syntax_tree.specs.declared.directive.Format.{Format as HeldFormat}
use Rattle.syntax_tree.specs.declared.directive.Format.TheVariants as format
use Rattle.syntax_tree.specs.declared.directive.Source.{Source as HeldSource}
use Rattle.syntax_tree.specs.declared.directive.Source.TheVariants as source
use Rattle.syntax_tree.specs.declared.directive.Target.{Target as HeldTarget}
use Rattle.syntax_tree.specs.declared.directive.Target.TheVariants as target
use Rattle.syntax_tree.specs.declared.expr.Expr.{Expr}
use Rattle.syntax_tree.specs.Expression.{Expression, Part, expression, subscript}

-- the bounds of a dimension (Fortran 95, 5.1.2.4.1); a lower bound that is left out is 1
pub record Bound : Type 0 where
  pub lower : Option Expression
  pub upper : Expression

-- an entity (Fortran 95, 5.1): its name, the bounds of its dimensions, the first one first, and its initial value
pub record Entity : Type 0 where
  pub name : List ℕ
  pub bounds : Option (List Bound)
  pub start : Option Expression

-- how a dimension is distributed (HPF 2.0, 3.3 and 8): `*`, BLOCK or CYCLIC, with the expression in parentheses after
-- it, or GEN_BLOCK, with the sizes of the blocks in parentheses after it
pub data Format : Type 0 where
  Undistributed : Format
  Block : Option Expression → Format
  Cyclic : Option Expression → Format
  GenBlock : List Expression → Format

-- DISTRIBUTE and REDISTRIBUTE: the names of the distributees, a format for each of their dimensions, and the processor
-- arrangement after ONTO
pub record Distribution : Type 0 where
  pub names : List (List ℕ)
  pub formats : List Format
  pub onto : Option (List ℕ)

-- what stands for a dimension of the alignee: an align dummy, `:` or `*` (HPF 2.0, 3.4)
pub data Source : Type 0 where
  Dummy : List ℕ → Source
  Spread : Source
  Collapsed : Source

-- what stands for a dimension of the target: a subscript, or `*`
pub data Target : Type 0 where
  Placed : Part → Target
  Replicated : Target

-- ALIGN: the names of the alignees, an entry for each of their dimensions, the name of the target, and an entry for each
-- of its dimensions
pub record Alignment : Type 0 where
  pub names : List (List ℕ)
  pub sources : Option (List Source)
  pub target : List ℕ
  pub subscripts : Option (List Target)

-- a directive among the declarations; processor arrangements and templates are entities with bounds
pub data Directive : Type 0 where
  Processors : List Entity → Directive
  Template : List Entity → Directive
  Dynamic : List (List ℕ) → Directive
  Distribute : Distribution → Directive
  Align : Alignment → Directive
  -- a directive that is passed over
  Passed : Directive

-- ---- what these are of a tree

abbrev pub bound : HeldBound → Bound
bound b = record { lower = option_map expression b.lower; upper = expression b.upper }

abbrev pub entity : HeldEntity → Entity
entity e = record { name = e.name; bounds = option_map (λ bs. map bound bs.items) e.dims; start = option_map expression e.start }

-- an arrangement or a template has bounds always, and no initial value
abbrev pub bounds_in : Option Expr → Option (List Bound) → List Bound
bounds_in None (Some bs) = bs
bounds_in start bs = []

abbrev pub arrangement : HeldEntity → Entity
arrangement e = record { name = e.name; bounds = Some (bounds_in e.start (option_map (λ bs. map bound bs.items) e.dims)); start = None }

-- the one name that stands before a list; no name where there isn't exactly one
abbrev pub first_of : List (List ℕ) → List ℕ
first_of (x ∷ []) = x
first_of xs = []

-- the names after `::`, or the one name before the list
abbrev pub names_of : Bool → List (List ℕ) → List (List ℕ)
names_of true xs = xs
names_of false xs = first_of xs ∷ []

abbrev pub format_of : HeldFormat → Format
format_of format.Star = Undistributed
format_of (format.Block m) = Block (option_map expression m)
format_of (format.Cyclic k) = Cyclic (option_map expression k)
format_of (format.GenBlock sizes) = GenBlock (map expression sizes.items)

abbrev pub distribution : DistSpec → Distribution
distribution d = record { names = names_of d.colons d.names; formats = map format_of d.formats.items; onto = d.onto }

abbrev pub source_of : HeldSource → Source
source_of (source.Dummy x) = Dummy x
source_of source.Colon = Spread
source_of source.Star = Collapsed

abbrev pub target_of : HeldTarget → Target
target_of (target.Sub s) = Placed (subscript s)
target_of target.Star = Replicated

abbrev pub alignment : AlignSpec → Alignment
alignment a = record {
  names = names_of a.colons a.names;
  sources = option_map (λ v. map source_of v.items) a.source;
  target = a.target;
  subscripts = option_map (λ v. map target_of v.items) a.subs;
}

abbrev pub directive_of : HeldDirective → Directive
directive_of (directive.Processors es) = Processors (map arrangement es.items)
directive_of (directive.Template es) = Template (map arrangement es.items)
directive_of (directive.Dynamic xs) = Dynamic xs
directive_of (directive.Distribute d) = Distribute (distribution d)
directive_of (directive.Align a) = Align (alignment a)
directive_of directive.Passed = Passed
