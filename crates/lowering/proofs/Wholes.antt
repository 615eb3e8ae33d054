-- The subscripts of all elements of an array: as many as dimensions, and constants alone.
use Rattle.std.proofs.Common.{◌≡◌, ℕ, suc, ◌*◌, List, [], ◌∷◌, length, map, refl, ap, arith}
use Rattle.hpf_base.specs.ElementOrder.{product}
use Rattle.expression_rules.specs.declared.dims.Dim.{Dim}
use Rattle.expression_rules.specs.Dims.{elements, extent}
use Rattle.array_meaning.specs.Resolution.{whole}
use Rattle.statement_trail.specs.TransformedElements.{indices_from}
use Rattle.lowered_expressions.specs.WellFormed.{AreScalarSubscripts, AreSubscripts}
use Rattle.lowering.specs.Ranks.{AreRankedSubscripts, subscript_count}

pub whole-scalar : (n : ℕ) (ds : List Dim) → AreScalarSubscripts n (whole ds)
whole-scalar n [] = tt
whole-scalar n (d ∷ ds) = ((tt, tt, tt), whole-scalar n ds)

pub whole-ranked : (shapes : List (List Dim)) (indices : ℕ) (ds : List Dim) → AreRankedSubscripts shapes indices (whole ds)
whole-ranked shapes indices [] = tt
whole-ranked shapes indices (d ∷ ds) = ((tt, tt, tt), whole-ranked shapes indices ds)

pub whole-counted : (ds : List Dim) → subscript_count (whole ds) ≡ length ds
whole-counted [] = refl
whole-counted (d ∷ ds) = let more = whole-counted ds in omega (arith, more)

-- there are as many elements as places
pub elements_are : (ds : List Dim) → product (map extent ds) ≡ elements ds
elements_are [] = refl
elements_are (d ∷ ds) = ap (λ n. extent d * n) (elements_are ds)

-- the indices of a target are subscripts
pub target_indexed : (n k : ℕ) (ds : List Dim) → AreSubscripts n (indices_from k ds)
target_indexed n k [] = tt
target_indexed n k (d ∷ ds) = (tt, target_indexed n (suc k) ds)
