-- Of a promise.
-- Where an array lies after a REDISTRIBUTE (HPF 2.0, 3.3 and 3.4): as it says of the array, or of what the array's alignments end at.
use Rattle.std.specs.Prelude.{◌≡◌, ℕ, ⊤, true, false, length, slice_get, List, [], ◌∷◌, Some}
use Rattle.std.specs.List.{AllByRecursion, flat_map}
use Rattle.mappings.specs.Alignment.{composed}
use Rattle.mappings.specs.declared.mapping.AlignDim.{AlignDim}
use Rattle.mappings.specs.declared.mapping.Mapping.{Mapping}
use Rattle.array_maps.specs.declared.maps.NewMap.{NewMap}
use Rattle.array_maps.specs.declared.maps.Redistribution.{Redistribution}
use Rattle.syntax_tree.specs.Directive.{Distribution}
use Rattle.syntax_tree.specs.MainProgram.{MainProgram}
use Rattle.expression_rules.specs.Symbols.{Name, is_among}
use Rattle.statement_walk.specs.Head.{Head}
use Rattle.statement_walk.specs.Head as head
use Rattle.statement_walk.specs.Heads.{PlacedHead, all_heads}
use Rattle.distribution_rules.specs.declared.objects.Object.{Object}
use Rattle.distribution_rules.specs.Setting.{Setting, dims_of}
use Rattle.alignment_rules.specs.declared.alignment_values.Alignment.TheVariants.{Known}
use Rattle.directive_check.specs.MappedObjects.{MappedObject}
use Rattle.directive_check.specs.Chains.{is_aligned, root_of, root_alignment}
use Rattle.known_mappings.specs.StartMappings.{IsGiven, IsWhole}

-- by a REDISTRIBUTE of itself, or of what its alignments end at
pub data LiesAfter (s : Setting) (ms : List MappedObject) (d : Distribution) (x : Name) (m : Mapping) : Type 0 where
  Redistributed : is_aligned ms x ≡ false → is_among x d.names ≡ true → IsGiven s d x m → LiesAfter s ms d x m
  WithRoot : (es : List AlignDim) (r : Mapping) → is_aligned ms x ≡ true → is_among (root_of s ms x) d.names ≡ true → root_alignment s ms x ≡ Known es →
      IsWhole (length (dims_of s x)) (length (dims_of s (root_of s ms x))) es → IsGiven s d (root_of s ms x) r → m ≡ composed r es → LiesAfter s ms d x m

-- the new mapping of an array of these, by its number
pub record IsNewMapOf (s : Setting) (ms : List MappedObject) (os : List Object) (d : Distribution) (n : NewMap) : Type 0 where
  pub array : Object
  pub is : slice_get os n.array.0 ≡ Some array
  pub lies : LiesAfter s ms d array.name n.map

abbrev pub redistribution_of : ℕ → Head → List (ℕ × Distribution)
redistribution_of line (head.Redistribute d) = (line, d) ∷ []
redistribution_of line h = []

-- the REDISTRIBUTEs of a program, in the order of the text, each with its line
abbrev pub redistributions_of : List PlacedHead → List (ℕ × Distribution)
redistributions_of hs = flat_map (λ h. redistribution_of h.line h.what) hs

abbrev pub redistributions : MainProgram → List (ℕ × Distribution)
redistributions p = redistributions_of (all_heads p.body)

-- each of these has the line of a REDISTRIBUTE, and arrays that move with it, each to a mapping of it
abbrev pub AreMovesOf : Setting → List MappedObject → List Object → List (ℕ × Distribution) → List Redistribution → Type 0
AreMovesOf s ms os [] [] = ⊤
AreMovesOf s ms os (d ∷ ds) (r ∷ moves) = (r.line ≡ d.0) × AllByRecursion (IsNewMapOf s ms os d.1) r.maps × AreMovesOf s ms os ds moves
AreMovesOf s ms os ds moves = ⊥
