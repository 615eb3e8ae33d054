-- Of the claim.
-- The objects that DISTRIBUTE and ALIGN map, and those of DYNAMIC, one by one (HPF 2.0, 3.3, 3.4 and 8.5).
use Rattle.std.specs.Prelude.{ℕ, ◌||◌, not, bytes_eq, find, List, [], ◌∷◌, ◌++◌, map, Option, option_map}
use Rattle.std.specs.List.{flat_map}
use Rattle.hpf_base.specs.declared.refusal.Reason.TheVariants as reason
use Rattle.hpf_base.specs.declared.refusal.Refusal.{Refusal}
use Rattle.syntax_tree.specs.Directive.{Dynamic, Distribute, Align, Distribution, Alignment}
use Rattle.syntax_tree.specs.MainProgram.{Declared, Directed, Declaration}
use Rattle.expression_rules.specs.Symbols.{Name, is_among}
use Rattle.declarations.specs.Reasons.{at, when}
use Rattle.distribution_rules.specs.Setting.{Setting, object, has_kind, is_mapped_kind}

-- how an object is mapped
pub data How : Type 0 where
  Distributed : Distribution → How
  Aligned : Alignment → How

-- an object of a DISTRIBUTE or an ALIGN, with the number of its line
pub record MappedObject : Type 0 where
  pub line : ℕ
  pub name : Name
  pub how : How

abbrev pub mapped_object : ℕ → How → Name → MappedObject
mapped_object line h x = record { line = line; name = x; how = h }

abbrev pub mapped_by : ℕ → Declared → List MappedObject
mapped_by line (Directed (Distribute d)) = map (mapped_object line (Distributed d)) d.names
mapped_by line (Directed (Align a)) = map (mapped_object line (Aligned a)) a.names
mapped_by line d = []

-- all of them, in the order of the text
abbrev pub mapped_objects : List Declaration → List MappedObject
mapped_objects ds = flat_map (λ d. mapped_by d.line d.what) ds

-- how an object is mapped first
abbrev pub how_mapped : List MappedObject → Name → Option How
how_mapped ms x = option_map (λ m. m.how) (find (λ m. bytes_eq x m.name) ms)

-- an object that is mapped twice, where these names were mapped before
abbrev pub mapped_twice : List Name → List MappedObject → List Refusal
mapped_twice before [] = []
mapped_twice before (m ∷ ms) = at m.line (when (is_among m.name before) reason.BadDirective) ++ mapped_twice (m.name ∷ before) ms

-- a name of a DYNAMIC, with the number of its line
pub record DynamicName : Type 0 where
  pub line : ℕ
  pub name : Name

abbrev pub dynamic_of : ℕ → Declared → List DynamicName
dynamic_of line (Directed (Dynamic xs)) = map (λ x. record { line = line; name = x }) xs
dynamic_of line d = []

abbrev pub dynamic_names : List Declaration → List DynamicName
dynamic_names ds = flat_map (λ d. dynamic_of d.line d.what) ds

-- a name of a DYNAMIC that is neither an array nor a template, or that stood there before
abbrev pub dynamic_breaches : Setting → List Name → List DynamicName → List Refusal
dynamic_breaches s before [] = []
dynamic_breaches s before (d ∷ ds) =
    at d.line (when (not (has_kind is_mapped_kind (object s d.name)) || is_among d.name before) reason.BadDirective)
    ++ dynamic_breaches s (d.name ∷ before) ds

-- the objects that a REDISTRIBUTE may name
abbrev pub dynamic_objects : List Declaration → List Name
dynamic_objects ds = map (λ d. d.name) (dynamic_names ds)
