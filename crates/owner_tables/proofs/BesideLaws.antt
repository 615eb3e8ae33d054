-- What composing asks, where the subscripts of a copy are good.
use Rattle.std.proofs.Common.{◌≡◌, ℕ, ◌≤◌, Bool, true, false, if◌then◌else◌, List, length, map, All, AllPairs, Some, None, refl, sym, ◌∙◌, ap, subst}
use Rattle.std.specs.Option.{is_some}
use Rattle.std.proofs.lemmas.Bool.{true≢false}
use Rattle.std.proofs.lemmas.Option.{same_Some}
use Rattle.hpf_base.specs.declared.limits.TheConstants.{MAX_ELEMENTS}
use Rattle.mappings.specs.declared.mapping.AlignDim.{AlignDim}
use Rattle.mappings.specs.declared.mapping.Mapping.{Mapping}
use Rattle.mappings.specs.Alignment.{composed, composed_align}
use Rattle.mappings.specs.Mapping.{FitsAlign, IsMapping, MoveApart}
use Rattle.machine_steps.specs.CopyLayout.{copy_shape}
use Rattle.machine_steps.specs.Layout.{Layout}
use Rattle.aligned_copies.specs.Beside.{is_good, settled}
use Rattle.aligned_copies.proofs.Valid.{beside-laid, numbers-fit, settled-apart, settled-target}
use Rattle.copy_anchors.specs.Settled.{good_subscripts}
use Rattle.owner_tables.specs.Layouts.{IsLaid}

-- what is there where a test passes
there : {A : Type 0} (t : Bool) (x y : A) → Some x ≡ (if t then Some y else None) → (t ≡ true) × (x ≡ y)
there true x y h = (refl, same_Some x y h)
there false x y h = absurd (true≢false (ap is_some h))

module _ (layout : Layout) (ns : List ℕ) (xs : List AlignDim) (nodes : ℕ) (laid : IsLaid nodes layout) (each : All (λ n. n ≤ MAX_ELEMENTS) ns)
    (align : List AlignDim) (h : Some align ≡ good_subscripts layout.shape ns xs) where
  good : (is_good layout.shape ns xs ≡ true) × (align ≡ map (settled ns) xs)
  good = there (is_good layout.shape ns xs) align (map (settled ns) xs) h

  pub target-is : IsMapping (length align) layout.mapping
  target-is = subst (λ ys. IsMapping (length ys) layout.mapping) (sym good.1) (settled-target nodes layout ns xs laid good.0 each)

  pub numbers-are : All (λ entry. FitsAlign (composed_align align entry.align)) layout.mapping.dims
  numbers-are = subst (λ ys. All (λ entry. FitsAlign (composed_align ys entry.align)) layout.mapping.dims) (sym good.1) (numbers-fit nodes layout ns xs laid good.0 each)

  pub apart-are : AllPairs MoveApart align
  apart-are = subst (AllPairs MoveApart) (sym good.1) (settled-apart nodes layout ns xs laid good.0 each)

  pub mapping-laid : (mapping : Mapping) → mapping ≡ composed layout.mapping align → IsLaid nodes (record { shape = copy_shape ns; mapping = mapping })
  mapping-laid mapping e =
      subst (λ m. IsLaid nodes (record { shape = copy_shape ns; mapping = m })) (sym (e ∙ ap (composed layout.mapping) good.1))
      (beside-laid nodes layout ns xs laid good.0 each)
