-- The number of moves left is one number.
use Rattle.std.proofs.Common.{◌≡◌, refl, sym, ◌∙◌}
use Rattle.std.proofs.Math.Logic.{∥∥₁_elim, ∥∥₁_prop}
use Rattle.std.proofs.Math.Nat.{ℕ_set}
use Rattle.std.proofs.Math.Path.{Σ_path}
use mathlib.Core.HLevel.{is_prop→PathP}
use Rattle.node_law.specs.NodeSteps.{NodeSteps}
use Rattle.node_law.specs.Cores.{CoreState}
use Rattle.node_law.specs.Reached.{IsReached, moves_left, HasLeft, MovesLeft}
use Rattle.node_law.proofs.MovesLeft.{left-same}

module _ {N M : Type 0} (S : NodeSteps N M) where
  pub left-is : (c : CoreState N M) (l : MovesLeft S c) (w : IsReached S c) → l.0 ≡ moves_left S w
  left-is c l w = ∥∥₁_elim l.1 (ℕ_set l.0 (moves_left S w)) (λ v. sym (left-same S l.0 c v.0 w v.1))

  together : {c : CoreState N M} {x y : MovesLeft S c} → x.0 ≡ y.0 → x ≡ y
  together {c} {x} {y} p = Σ_path p (is_prop→PathP (λ i. HasLeft S c (p i)) (λ i. ∥∥₁_prop) x.1 y.1)

  pub left-prop : (c : CoreState N M) → IsProp (MovesLeft S c)
  left-prop c x y = together (∥∥₁_elim y.1 (ℕ_set x.0 y.0) (λ v. left-is c x v.0 ∙ v.1))

  pub left-made : (c : CoreState N M) → IsReached S c → MovesLeft S c
  left-made c w = (moves_left S w, ∣ (w, refl) ∣₁)
