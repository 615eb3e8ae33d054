-- Copies are laid out for their own courses.
use Rattle.std.proofs.Common.{◌≡◌, ℕ, ◌==◌, false, if◌then◌else◌, List, [], ◌∷◌, length, map, pos, ◌+ℤ◌, ◌-ℤ◌, slice_get, Some, All, refl, sym, ◌∙◌, ap, subst, arith}
use Rattle.std.proofs.lemmas.Int.{ints}
use Rattle.std.proofs.lemmas.List.{length-map}
use Rattle.std.proofs.lemmas.List.Elements.{All-cons, All-nil}
use Rattle.mappings.specs.Mapping.{IsAlign}
use Rattle.expression_rules.specs.Dims.{extent, at_least_none}
use Rattle.machine_steps.specs.CopyLayout.{copy_extents, copy_shape, copy_layout, copy_dims as mapped_dims}
use Rattle.machine_steps.specs.Layout.{Layout}
use Rattle.machine_steps.specs.Space.{space_count}
use Rattle.courses.specs.Owners.{IsLaidOut}
use Rattle.courses.specs.References.{copy_dims, named_copy}
use Rattle.courses.proofs.Axes.{copy-along}

lowers-are : (ns : List ℕ) → map (λ d. d.lower) (copy_dims ns) ≡ map (λ n. pos 1) ns
lowers-are [] = refl
lowers-are (n ∷ ns) = ap (λ l. pos 1 ∷ l) (lowers-are ns)

extents-are : (ns : List ℕ) → map (λ d. pos (extent d)) (copy_dims ns) ≡ map pos ns
extents-are [] = refl
extents-are (n ∷ ns) =
    let m : (pos n -ℤ pos 1) +ℤ pos 1 ≡ pos n = omega (arith, ints) in
    ap (λ y. pos (at_least_none y) ∷ map (λ d. pos (extent d)) (copy_dims ns)) m ∙ ap (λ l. pos n ∷ l) (extents-are ns)

aligned-below : (nodes : ℕ) (ns : List ℕ) → All (λ e. IsAlign (length ns) e.align) (mapped_dims nodes ns)
aligned-below nodes [] = All-nil (λ e. IsAlign 0 e.align)
aligned-below nodes (n ∷ ns) = All-cons (λ e. IsAlign (length (n ∷ ns)) e.align) _ [] (omega arith) (All-nil (λ e. IsAlign (length (n ∷ ns)) e.align))

pub laid : (nodes row : ℕ) (ns : List ℕ) (layouts : List Layout) → (space_count ns == 0) ≡ false → slice_get layouts row ≡ Some (copy_layout nodes ns)
    → IsLaidOut ns layouts (named_copy ns row) (copy_layout nodes ns)
laid nodes row ns layouts some e = record {
  row = e;
  shape = ap copy_shape same ∙ (λ i. record { lower = sym (lowers-are ns) i; extent = sym (extents-are ns) i });
  rank = (copy-along ns row).rank;
  align = subst (λ ms. All (λ e. IsAlign (length (copy_dims ns)) e.align) (mapped_dims nodes ms)) (sym same)
      (subst (λ k. All (λ e. IsAlign k e.align) (mapped_dims nodes ns)) (sym long) (aligned-below nodes ns));
  axes = (copy-along ns row).axes;
}
  where
    same : copy_extents ns ≡ ns
    same = ap (λ b. if b then map (λ extent. 0) ns else ns) some

    long : length (copy_dims ns) ≡ length ns
    long = length-map ns (λ n. record { lower = pos 1; upper = pos n })
