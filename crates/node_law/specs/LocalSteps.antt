-- Of a promise.
-- Local steps of a node, one after another.
use Rattle.std.specs.Prelude.{◌≡◌, ℕ, zero, suc, ◌<◌}
use Rattle.node_law.specs.declared.act.Act.TheVariants.{Local}
use Rattle.node_law.specs.NodeSteps.{NodeSteps}

module _ {N M : Type 0} (S : NodeSteps N M) where
  -- the node after so many local steps
  abbrev pub after_locals : ℕ → N → N
  after_locals zero a = a
  after_locals (suc n) a = S.after_local (after_locals n a)

  -- local steps lead from one node to the other, none or some, and each is what the node's act names then
  pub record AreLocalSteps (a b : N) : Type 0 where
    pub count : ℕ
    pub due : (k : ℕ) → k < count → S.act (after_locals k a) ≡ Local
    pub after : b ≡ after_locals count a
