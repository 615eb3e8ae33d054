-- Of a promise.
-- Where an object lies at the start (HPF 2.0, 3): as its DISTRIBUTE says; where it is aligned, as what its alignments end at lies; and
-- where no directive maps it, as the compiler chooses, which here is on every node.
use Rattle.std.specs.Prelude.{◌≡◌, ℕ, true, false, List, length, Some, None}
use Rattle.std.specs.List.{AllByRecursion}
use Rattle.mappings.specs.Alignment.{composed}
use Rattle.mappings.specs.Mapping.{IsAlign}
use Rattle.mappings.specs.declared.mapping.AlignDim.{AlignDim}
use Rattle.mappings.specs.declared.mapping.Mapping.{Mapping}
use Rattle.syntax_tree.specs.Directive.{Distribution}
use Rattle.expression_rules.specs.Symbols.{Name}
use Rattle.distribution_rules.specs.DistributionRules.{distributed_count}
use Rattle.distribution_rules.specs.Setting.{Setting, dims_of}
use Rattle.alignment_rules.specs.declared.alignment_values.Alignment.TheVariants.{Known}
use Rattle.directive_check.specs.MappedObjects.{Distributed, MappedObject, how_mapped}
use Rattle.directive_check.specs.Chains.{is_aligned, root_of, root_alignment}
use Rattle.directive_check.specs.ProgramMaps.{distributed_as, replicated}

-- the mapping that a distribution gives an object is known, and has an entry for each dimension that it distributes
pub record IsGiven (s : Setting) (d : Distribution) (x : Name) (m : Mapping) : Type 0 where
  pub known : distributed_as s d x ≡ Some m
  pub entries : length m.dims ≡ distributed_count d.formats

-- an object that isn't aligned: nothing maps it, or a DISTRIBUTE does
pub data LiesByItself (s : Setting) (ms : List MappedObject) (x : Name) (m : Mapping) : Type 0 where
  Unmapped : how_mapped ms x ≡ None → m ≡ replicated s.grid → LiesByItself s ms x m
  ByDistribute : (d : Distribution) → how_mapped ms x ≡ Some (Distributed d) → IsGiven s d x m → LiesByItself s ms x m

-- an alignment of an object of so many dimensions: it has an entry for each dimension of its target, and none along a dimension that the
-- object hasn't
pub record IsWhole (rank target : ℕ) (es : List AlignDim) : Type 0 where
  pub each : length es ≡ target
  pub along : AllByRecursion (IsAlign rank) es

-- any object: by itself, or through a known alignment with what its alignments end at, which isn't aligned
pub data LiesAtStart (s : Setting) (ms : List MappedObject) (x : Name) (m : Mapping) : Type 0 where
  NotAligned : is_aligned ms x ≡ false → LiesByItself s ms x m → LiesAtStart s ms x m
  ByAlign : (es : List AlignDim) (r : Mapping) → is_aligned ms x ≡ true → is_aligned ms (root_of s ms x) ≡ false → root_alignment s ms x ≡ Known es →
      IsWhole (length (dims_of s x)) (length (dims_of s (root_of s ms x))) es → LiesByItself s ms (root_of s ms x) r → m ≡ composed r es → LiesAtStart s ms x m
