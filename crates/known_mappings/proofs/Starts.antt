-- The mapping of each object at the start is known, where no rule is broken.
use Rattle.std.proofs.Common.{◌≡◌, ℕ, zero, suc, true, false, true≢false, List, [], ◌∷◌, ◌++◌, length, Option, Some, None, refl, sym, ap, subst, ◌∙◌}
use Rattle.std.specs.Prelude.{◌&&◌, is_some, unwrap_or, if◌then◌else◌}
use Rattle.std.specs.List.{AllByRecursion}
use Rattle.hpf_base.specs.Grid.{IsGrid}
use Rattle.hpf_base.specs.declared.refusal.Reason.TheVariants as reason
use Rattle.mappings.specs.Alignment.{composed}
use Rattle.mappings.specs.Mapping.{IsAlign}
use Rattle.mappings.specs.declared.mapping.AlignDim.{AlignDim}
use Rattle.mappings.specs.declared.mapping.Mapping.{Mapping}
use Rattle.syntax_tree.specs.Directive as directive
use Rattle.expression_rules.specs.Symbols.{Name, find, with_dummies}
use Rattle.expression_rules.specs.declared.symbols.Symbol.{Symbol}
use Rattle.declarations.specs.Reasons.{when}
use Rattle.name_table.specs.Directives.{dummies}
use Rattle.name_table.specs.KnownSymbols.{is_known}
use Rattle.name_table.specs.declared.names.Entry.{Entry}
use Rattle.name_table.specs.declared.names.What.{What}
use Rattle.name_table.specs.declared.names.What.TheVariants as what
use Rattle.distribution_rules.specs.Dimensions.{passes}
use Rattle.distribution_rules.specs.Distributed.{all_or_none}
use Rattle.distribution_rules.specs.Setting.{Setting, dims_of}
use Rattle.alignment_rules.specs.declared.alignment_values.Alignment.TheVariants.{Known}
use Rattle.alignment_rules.specs.AlignmentEntries.{alignment_of}
use Rattle.alignment_rules.specs.AlignmentRules.{alignment_reasons}
use Rattle.alignment_rules.proofs.AlignedLaws.{are_aligned}
use Rattle.directive_check.specs.MappedObjects.{How, Aligned, Distributed, MappedObject, how_mapped}
use Rattle.directive_check.specs.Chains.{chain_entries, chain_entries_from, composed_entries, entries_in, has_some, is_aligned, is_composed, is_on_cycle, known_entries, known_or_past, limited, own_entries, root_alignment, root_from, root_of, target_in, target_of, through_target, within_limits}
use Rattle.directive_check.specs.MappingRules.{chain_breaches, chain_reasons, is_past, outside_reasons}
use Rattle.directive_check.specs.ProgramMaps.{mapped_as, replicated, start_map, start_maps_in, start_mapping, start_of, through, with_root}
use Rattle.known_mappings.specs.StartMappings.{ByAlign, ByDistribute, IsWhole, LiesAtStart, LiesByItself, NotAligned, Unmapped}
use Rattle.name_table.proofs.Tests.{HasValue, all_append, empties, fails, no_value, none_some, some_same, value_of}
use Rattle.known_mappings.proofs.Distributions.{all_made, distribution_given}
use Rattle.known_mappings.proofs.Alignments.{AreWithin, alignment_known}
use Rattle.known_mappings.proofs.Chains.{all_end, ends, root_free}
use Rattle.known_mappings.proofs.Objects.{IsRight}
use Rattle.known_mappings.proofs.WholeAlignments.{of_all, root_whole}
use Rattle.known_mappings.proofs.Programs.{AreGood, IsGoodAlignment, chain_found, good_found}

-- what a program that breaks no rule has
pub record IsFine (s : Setting) (ms : List MappedObject) : Type 0 where
  pub grid : IsGrid s.grid
  pub known : (x : Name) (a : Symbol) → find x s.names ≡ Some a → is_known a ≡ true
  pub right : AllByRecursion (IsRight s.grid) s.objects
  pub good : AreGood s ms
  pub chains : chain_breaches s ms ≡ []

root_here : (n : ℕ) (ms : List MappedObject) (x : Name) → root_from n ms x None ≡ x
root_here zero ms x = refl
root_here (suc n) ms x = refl

-- what an object that is aligned is aligned by
aligned_by : (ms : List MappedObject) (x y : Name) → target_of ms x ≡ Some y → (a : directive.Alignment) × (how_mapped ms x ≡ Some (Aligned a))
aligned_by ms x y is = by (how_mapped ms x) is
  where
    by : (h : Option How) → target_in h ≡ Some y → (a : directive.Alignment) × (h ≡ Some (Aligned a))
    by None is = absurd (none_some y is)
    by (Some (Distributed d)) is = absurd (none_some y is)
    by (Some (Aligned a)) is = (a, refl)

module _ (s : Setting) (ms : List MappedObject) (fine : IsFine s ms) where
  chain_fine : (x y : Name) → target_of ms x ≡ Some y → chain_reasons s ms x ≡ []
  chain_fine x y is = let a = aligned_by ms x y is in chain_found s ms ms x (Aligned a.0) fine.chains a.1

  good_aligned : (x y : Name) → target_of ms x ≡ Some y → (a : directive.Alignment) × ((how_mapped ms x ≡ Some (Aligned a)) × IsGoodAlignment s x a)
  good_aligned x y is = let a = aligned_by ms x y is in (a.0, (a.1, good_found s ms x (Aligned a.0) fine.good a.1))

  parts : (x y : Name) → target_of ms x ≡ Some y → (is_on_cycle s ms x ≡ false) × ((is_composed ms x && is_past (root_alignment s ms x)) ≡ false)
  parts x y is =
      let two = empties (when (is_on_cycle s ms x) reason.BadDirective ++ when (is_composed ms x && is_past (root_alignment s ms x)) reason.Limit)
      (outside_reasons s ms x (chain_entries s ms x)) (chain_fine x y is) in
      let one = empties (when (is_on_cycle s ms x) reason.BadDirective) _ two.0 in
      (fails _ reason.BadDirective one.0, fails _ reason.Limit one.1)

  chain_ends : (x : Name) → ends (length s.names) ms (target_of ms x) ≡ true
  chain_ends = all_end ms s.names (λ x y is. (parts x y is).0) (λ x y is. (good_aligned x y is).1.1.named)

  -- ---- alignments

  record IsOwnKnown (x y : Name) : Type 0 where
    entries : List AlignDim
    is : own_entries s ms x ≡ Some entries
    within : AreWithin entries
    whole : IsWhole (length (dims_of s x)) (length (dims_of s y)) entries

  own_known : (x y : Name) → target_of ms x ≡ Some y → IsOwnKnown x y
  own_known x y is =
      let a = good_aligned x y is in
      let good = a.1.1 in
      let two = empties (alignment_reasons s a.0) _ good.reasons in
      let known = alignment_known s fine.known fine.right (with_dummies s.names (dummies a.0)) a.0 x good.types two.0 good.own in
      record {
        entries = known.entries;
        is = ap (entries_in s x) a.1.0 ∙ ap (λ whys. if has_some whys then None else known_entries (alignment_of s a.0 x)) good.reasons ∙ ap known_entries known.is;
        within = known.within;
        whole =
            let aligned = are_aligned s a.0 x known.entries two.0 good.own known.is in
            let same : a.0.target ≡ y = some_same a.0.target y (sym (ap target_in a.1.0) ∙ is) in
            record { each = aligned.one_each ∙ ap (λ z. length (dims_of s z)) same; along = of_all (IsAlign (length (dims_of s x))) known.entries aligned.dims };
      }

  own_whole : (x y : Name) → target_of ms x ≡ Some y → (es : List AlignDim) → own_entries s ms x ≡ Some es → IsWhole (length (dims_of s x)) (length (dims_of s y)) es
  own_whole x y is es all =
      let own = own_known x y is in subst (IsWhole (length (dims_of s x)) (length (dims_of s y))) (some_same own.entries es (sym own.is ∙ all)) own.whole

  -- the alignment of an aligned object with what its alignments end at is whole
  pub aligned_whole : (x : Name) (es : List AlignDim) → is_aligned ms x ≡ true → root_alignment s ms x ≡ Known es →
      IsWhole (length (dims_of s x)) (length (dims_of s (root_of s ms x))) es
  aligned_whole x es aligned known = let y = value_of (target_of ms x) aligned in root_whole s ms own_whole x y.0 y.1 es known

  both_composed : (es ws : Option (List AlignDim)) → HasValue es → HasValue ws → HasValue (composed_entries es ws)
  both_composed None ws h g = absurd (no_value h)
  both_composed (Some es) None h g = absurd (no_value g)
  both_composed (Some es) (Some ws) h g = refl

  chain_known : (n : ℕ) (x y : Name) → target_of ms x ≡ Some y → ends n ms (Some y) ≡ true → HasValue (chain_entries_from n s ms x (Some y))
  chain_known zero x y is h = absurd (no_value h)
  chain_known (suc n) x y is h = by (target_of ms y) refl h (chain_known n y)
    where
      own : HasValue (own_entries s ms x)
      own = ap is_some (own_known x y is).is

      by : (z : Option Name) → target_of ms y ≡ z → ends n ms z ≡ true →
          ((z : Name) → target_of ms y ≡ Some z → ends n ms (Some z) ≡ true → HasValue (chain_entries_from n s ms y (Some z))) →
          HasValue (through_target (own_entries s ms x) z (chain_entries_from n s ms y z))
      by None is h more = own
      by (Some z) is h more = both_composed (own_entries s ms x) (chain_entries_from n s ms y (Some z)) own (more z is h)

  made_known : (o : Option (List AlignDim)) → HasValue o → (es : List AlignDim) × (known_or_past o ≡ Known es)
  made_known None h = absurd (no_value h)
  made_known (Some es) h = (es, refl)

  unless_past : (o : Option (List AlignDim)) → is_past (known_or_past o) ≡ false → (es : List AlignDim) × (known_or_past o ≡ Known es)
  unless_past None h = absurd (true≢false h)
  unless_past (Some es) h = (es, refl)

  limited_known : (o : Option (List AlignDim)) → HasValue o → is_past (limited o) ≡ false → (es : List AlignDim) × (limited o ≡ Known es)
  limited_known None h near = absurd (no_value h)
  limited_known (Some es) h near = unless_past (all_or_none within_limits es) near

  -- the alignment of an aligned object with what its alignments end at
  root_known : (x y : Name) → target_of ms x ≡ Some y → (es : List AlignDim) × (root_alignment s ms x ≡ Known es)
  root_known x y is = by (target_of ms y) refl
    where
      ended : ends (length s.names) ms (Some y) ≡ true
      ended = ap (ends (length s.names) ms) (sym is) ∙ chain_ends x

      whole : HasValue (chain_entries s ms x)
      whole = subst (λ t. HasValue (chain_entries_from (length s.names) s ms x t)) (sym is) (chain_known (length s.names) x y is ended)

      alone_from : (n : ℕ) → ends n ms (Some y) ≡ true → target_of ms y ≡ None → chain_entries_from n s ms x (Some y) ≡ own_entries s ms x
      alone_from zero h none = absurd (no_value h)
      alone_from (suc n) h none = ap (λ z. through_target (own_entries s ms x) z (chain_entries_from n s ms y z)) none

      by : (z : Option Name) → target_of ms y ≡ z → (es : List AlignDim) × (root_alignment s ms x ≡ Known es)
      by None none =
          let own = own_known x y is in
          let same : chain_entries s ms x ≡ Some own.entries = ap (chain_entries_from (length s.names) s ms x) is ∙ alone_from (length s.names) ended none ∙ own.is in
          let made = made_known (all_or_none within_limits own.entries) (all_made within_limits own.entries own.within) in
          (made.0, ap limited same ∙ made.1)
      by (Some z) more =
          let composed_one : is_composed ms x ≡ true = ap (λ t. passes (is_aligned ms) t) is ∙ ap is_some more in
          limited_known (chain_entries s ms x) whole (ap (λ b. b && is_past (root_alignment s ms x)) (sym composed_one) ∙ (parts x y is).1)

  -- ---- objects that aren't aligned

  free_lies : (y : Name) → is_aligned ms y ≡ false → (m : Mapping) × ((start_of s ms y ≡ Some m) × LiesByItself s ms y m)
  free_lies y free = by (how_mapped ms y) refl free
    where
      by : (h : Option How) → how_mapped ms y ≡ h → is_some (target_in h) ≡ false → (m : Mapping) × ((mapped_as s y h ≡ Some m) × LiesByItself s ms y m)
      by None is free = (replicated s.grid, (refl, Unmapped is refl))
      by (Some (Aligned a)) is free = absurd (true≢false free)
      by (Some (Distributed d)) is free =
          let good = good_found s ms y (Distributed d) fine.good is in
          let m = distribution_given s fine.known fine.grid fine.right s.names d y good.types good.reasons good.own in
          (m.0, (m.1.0, ByDistribute d is record { known = m.1.0; entries = m.1.1 }))

  -- what an object's alignments end at isn't aligned, and is the object itself where it isn't aligned
  pub root_is_free : (x : Name) → is_aligned ms (root_of s ms x) ≡ false
  root_is_free x = root_free (length s.names) ms x (target_of ms x) refl (chain_ends x)

  pub root_itself : (x : Name) → target_of ms x ≡ None → root_of s ms x ≡ x
  root_itself x none = ap (root_from (length s.names) ms x) none ∙ root_here (length s.names) ms x

  -- ---- any object

  -- with a mapping of what its alignments end at
  pub data IsWithRoot (x : Name) (r m : Mapping) : Type 0 where
    Free : is_aligned ms x ≡ false → root_of s ms x ≡ x → r ≡ m → IsWithRoot x r m
    Through : (es : List AlignDim) → is_aligned ms x ≡ true → root_alignment s ms x ≡ Known es → m ≡ composed r es → IsWithRoot x r m

  pub with_root_known : (x : Name) (root : Option Mapping) (r : Mapping) → root ≡ Some r → (m : Mapping) × ((with_root s ms x root ≡ Some m) × IsWithRoot x r m)
  with_root_known x root r is = by (target_of ms x) refl
    where
      by : (y : Option Name) → target_of ms x ≡ y → (m : Mapping) × ((with_root s ms x root ≡ Some m) × IsWithRoot x r m)
      by None none = (r, (ap (λ y. if is_some y then through root (root_alignment s ms x) else root) none ∙ is, Free (ap is_some none) (root_itself x none) refl))
      by (Some y) at =
          let a = root_known x y at in (
            composed r a.0,
            (
              ap (λ t. if is_some t then through root (root_alignment s ms x) else root) at ∙ (λ i. through (is i) (a.1 i)),
              Through a.0 (ap is_some at) a.1 refl,
            ),
          )

  pub start_lies : (x : Name) → (m : Mapping) × ((start_mapping s ms x ≡ Some m) × LiesAtStart s ms x m)
  start_lies x =
      let root = free_lies (root_of s ms x) (root_is_free x) in
      let whole = with_root_known x (start_of s ms (root_of s ms x)) root.0 root.1.0 in
      (whole.0, (whole.1.0, by root.0 whole.0 root.1.1 whole.1.1))
    where
      by : (r m : Mapping) → LiesByItself s ms (root_of s ms x) r → IsWithRoot x r m → LiesAtStart s ms x m
      by r m root (Free free itself same) = NotAligned free (subst (LiesByItself s ms x) same (subst (λ z. LiesByItself s ms z r) itself root))
      by r m root (Through es aligned known same) = ByAlign es r aligned (root_is_free x) known (aligned_whole x es aligned known) root same

  -- ---- the arrays

  array_lies : (x : Name) (w : What) → AllByRecursion (λ a. LiesAtStart s ms a.name a.start) (start_map s ms x w)
  array_lies x (what.Array ds n) =
      let m = start_lies x in (subst (LiesAtStart s ms x) (sym (ap (λ o. unwrap_or o (replicated s.grid)) m.1.0)) m.1.1, tt)
  array_lies x (what.Scalar n) = tt
  array_lies x (what.Constant n) = tt
  array_lies x what.Template = tt
  array_lies x what.Arrangement = tt

  pub arrays_lie : (es : List Entry) → AllByRecursion (λ a. LiesAtStart s ms a.name a.start) (start_maps_in s ms es)
  arrays_lie [] = tt
  arrays_lie (e ∷ es) = all_append (λ a. LiesAtStart s ms a.name a.start) (start_map s ms e.name e.what) (start_maps_in s ms es) (array_lies e.name e.what) (arrays_lie es)
