-- Grids of nodes, from the numbers that their extents are.
use Rattle.std.proofs.Common.{◌≡◌, ◌∙◌, ◌≤◌, ◌↔◌, ℕ, List, [], ◌∷◌, Option, Some, None, Bool, true, false, true≢false, refl, sym, ap, subst, arith, option_map, length, suc, All}
use Rattle.std.specs.Prelude.{if◌then◌else◌, nat_le, option_and_then, IsSome, IfSome}
use Rattle.std.specs.List.{slice_split}
use Rattle.std.specs.Str.Parse.{digits_value}
use Rattle.std.proofs.lemmas.Bool.{le-leb, leb-true, and_from, and_parts}
use Rattle.std.proofs.lemmas.List.Elements.{All-cons, All-nil}
use Rattle.std.proofs.lemmas.List.Splits.{length-slice_split}
use Rattle.std.proofs.lemmas.Option.{cond_some, none-some, option_and_then_some, same_Some}
use Rattle.hpf_base.specs.ElementOrder.{product}
use Rattle.hpf_base.specs.Grid.{IsGrid}
use Rattle.hpf_base.specs.declared.limits.TheConstants.{MAX_NODES, MAX_RANK}
use Rattle.hpf_words.specs.Parts.{Text}
use Rattle.hpf_words.specs.Jobs.{has_digits, between, number_of, extents_of, grid_of, is_small, is_x}

extent_least : (text : Text) (n : ℕ) → number_of 2 1 MAX_NODES text ≡ Some n → 1 ≤ n
extent_least text n is = go (has_digits 2 text) is
  where
    go : (b : Bool) → (if b then between 1 MAX_NODES (digits_value 10 text) else None) ≡ Some n → 1 ≤ n
    go true e =
        let within = cond_some _ (digits_value 10 text) n e in
        subst (λ (m : ℕ). 1 ≤ m) within.1 (leb-true 1 (digits_value 10 text) (and_parts _ _ within.0).0)
    go false e = absurd (none-some n e)

abbrev AreExtents : List Text → List ℕ → Type 0
AreExtents texts ns = (length ns ≡ length texts) × All (λ n. 1 ≤ n) ns

-- as many extents as texts, and none of them 0
extents_are : (texts : List Text) (ns : List ℕ) → extents_of texts ≡ Some ns → AreExtents texts ns
extents_are [] ns e = subst (AreExtents []) (same_Some [] ns e) (refl, All-nil _)
extents_are (text ∷ texts) ns e = option_and_then_some _ (number_of 2 1 MAX_NODES text) ns e (λ n is rest. next n is (extents_of texts) rest (extents_are texts))
  where
    next : (n : ℕ) → number_of 2 1 MAX_NODES text ≡ Some n → (o : Option (List ℕ)) → option_map (λ ms. n ∷ ms) o ≡ Some ns
        → ((ms : List ℕ) → o ≡ Some ms → AreExtents texts ms) → AreExtents (text ∷ texts) ns
    next n is None e below = absurd (none-some ns e)
    next n is (Some ms) e below =
        let rest = below ms refl in
        subst (AreExtents (text ∷ texts)) (same_Some (n ∷ ms) ns e) (ap suc rest.0, All-cons (λ m. 1 ≤ m) n ms (extent_least text n is) rest.1)

-- where each piece is an extent, the grid is that of the extents, if it is one
pub grid_is : (text : Text) (ns : List ℕ) (r : Option (List ℕ)) → Some ns ≡ extents_of (slice_split is_x text) → IsSome r ↔ IsGrid ns → IfSome r (λ grid. grid ≡ ns) → r ≡ grid_of text
grid_is text ns r is exact value = go r exact value (is_small ns) refl ∙ ap (option_and_then (λ ms. if is_small ms then Some ms else None)) is
  where
    grid : is_small ns ≡ true → IsGrid ns
    grid small =
        let are = extents_are (slice_split is_x text) ns (sym is) in
        let pieces = length-slice_split is_x text in
        let within = and_parts (nat_le (length ns) MAX_RANK) _ small in
        record { some = omega (arith, are.0, pieces); few = leb-true (length ns) MAX_RANK within.0; extents = are.1; nodes = leb-true (product ns) MAX_NODES within.1 }

    go : (r : Option (List ℕ)) → IsSome r ↔ IsGrid ns → IfSome r (λ grid. grid ≡ ns) → (b : Bool) → is_small ns ≡ b → r ≡ (if is_small ns then Some ns else None)
    go None exact value true small = absurd (true≢false (sym (exact.1 (grid small))))
    go None exact value false small = ap (λ b. if b then Some ns else None) (sym small)
    go (Some g) exact value true small = ap Some value ∙ ap (λ b. if b then Some ns else None) (sym small)
    go (Some g) exact value false small =
        let is_grid = exact.0 refl in
        absurd (true≢false (sym (and_from (nat_le (length ns) MAX_RANK) _ (le-leb (length ns) MAX_RANK is_grid.few) (le-leb (product ns) MAX_NODES is_grid.nodes)) ∙ small))
