-- The alignment of an object by an ALIGN that breaks no rule.
use Rattle.std.proofs.Common.{◌≡◌, ℤ, Bool, true, false, List, [], length, Option, Some, None, subst, ◌∙◌, All}
use Rattle.std.specs.Prelude.{if◌then◌else◌}
use Rattle.std.specs.List.{list_any}
use Rattle.mappings.specs.Mapping.{IsAlign}
use Rattle.mappings.specs.declared.mapping.AlignDim.{AlignDim}
use Rattle.syntax_tree.specs.Directive as directive
use Rattle.expression_rules.specs.Symbols.{Name}
use Rattle.distribution_rules.specs.Distributed.{all_or_none}
use Rattle.distribution_rules.specs.Setting.{Setting, dims_of}
use Rattle.alignment_rules.specs.declared.alignment_values.Alignment.TheVariants.{Known, PastLimits}
use Rattle.alignment_rules.specs.AlignedEntries.{AreAligned, AreSubscripts, MapsInto}
use Rattle.alignment_rules.specs.AlignmentEntries.{alignment_of, alignment_with, colons_from, entry_of, is_past_limits, pairs}
use Rattle.alignment_rules.specs.AlignmentRules.{alignee_reasons, alignment_reasons}
use Rattle.alignment_rules.specs.AlignmentValues.{sources, target_values}
use Rattle.alignment_rules.proofs.InsideTargets.{maps_into}
use Rattle.alignment_rules.proofs.MovingDims.{align_entries, all_apart, apart_entries, entries_length}
use Rattle.alignment_rules.proofs.PlacedTargets.{matched, placed}

within_limits : (b : Bool) (fs es : List AlignDim) → (if b then PastLimits else Known fs) ≡ Known es → Some fs ≡ Some es
within_limits true fs es h = absurd cc
within_limits false fs es h = cc

known_entries : (found : Option (List AlignDim)) (es : List AlignDim) → alignment_with found ≡ Known es → found ≡ Some es
known_entries None es h = absurd cc
known_entries (Some fs) es h = within_limits (list_any is_past_limits fs) fs es h

pub are_aligned : (s : Setting) (a : directive.Alignment) (x : Name) (es : List AlignDim) → alignment_reasons s a ≡ [] → alignee_reasons s a x ≡ [] →
    alignment_of s a x ≡ Known es → AreAligned (length (dims_of s x)) (dims_of s a.target) es
are_aligned s a x es kept kept_of known =
    let ds = dims_of s x in
    let ss = sources a (length ds) in
    let vs = target_values s a in
    let bs = dims_of s a.target in
    let m = matched s a x kept_of in
    let p = placed s a x kept m in
    let made_of = known_entries (all_or_none entry_of (pairs ss ds vs bs)) es known in
    record {
      one_each = entries_length ss ds (colons_from 0 ss) vs bs es made_of ∙ m.targets_each;
      dims = subst (λ n. All (IsAlign n) es) m.sources_each (align_entries ss ds (colons_from 0 ss) vs bs es p made_of);
      apart = apart_entries es (all_apart ss ds (colons_from 0 ss) vs bs es p made_of);
    }

pub map_inside : (s : Setting) (a : directive.Alignment) (x : Name) (es : List AlignDim) (index : List ℤ) → alignee_reasons s a x ≡ [] → alignment_of s a x ≡ Known es →
    AreSubscripts (dims_of s x) index → MapsInto (dims_of s a.target) es index
map_inside s a x es index kept_of known h =
    let ds = dims_of s x in
    let ss = sources a (length ds) in
    let vs = target_values s a in
    let bs = dims_of s a.target in
    maps_into ss ds (colons_from 0 ss) vs bs es index h (matched s a x kept_of).pairs_kept (known_entries (all_or_none entry_of (pairs ss ds vs bs)) es known)
