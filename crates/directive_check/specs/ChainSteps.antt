-- Of private clauses.
-- What private contracts see of alignments one after the other. No public clause cites this file.
use Rattle.std.specs.Prelude.{◌≡◌, Bool, false, List}
use Rattle.std.specs.List.{flat_map}
use Rattle.hpf_base.specs.declared.refusal.Refusal.{Refusal}
use Rattle.declarations.specs.Reasons.{at}
use Rattle.distribution_rules.specs.Setting.{Setting}
use Rattle.directive_check.specs.declared.mapped_object.MappedObject.{MappedObject as HeldObject}
use Rattle.directive_check.specs.MappedObjects.{How, Distributed, Aligned, MappedObject}
use Rattle.directive_check.specs.MappedSteps.{how_of}
use Rattle.directive_check.specs.Chains.{is_refused}
use Rattle.directive_check.specs.MappingRules.{chain_reasons}

-- what is wrong with objects among others, which are mapped as these are
abbrev pub chain_breaches_in : Setting → List MappedObject → List MappedObject → List Refusal
chain_breaches_in s firsts ms = flat_map (λ m. at m.line (chain_reasons s firsts m.name)) ms

-- what maps an object is an ALIGN that breaks a rule by itself
abbrev pub is_refused_how : Setting → How → Bool
is_refused_how s (Distributed d) = false
is_refused_how s (Aligned a) = is_refused s a

-- of an object it is noted whether its ALIGN breaks a rule by itself
abbrev pub IsJudged : Setting → HeldObject → Type 0
IsJudged s m = m.refused ≡ is_refused_how s (how_of m.directive.now)
