-- What nodes have after the rounds of a tree, carried over from one join to another.
use Rattle.std.proofs.Common.{◌≡◌, ◌∙◌, ℕ, zero, suc, ◌<◌, Bool, true, false, nat_lt}
use Rattle.reduction_tree.specs.declared.tree.TreeAct.{TreeAct}
use Rattle.reduction_tree.specs.declared.tree.TreeAct.TheVariants.{Idle, Send, Take}
use Rattle.reduction_tree.specs.Tree.{levels, act_of, after_act, after_rounds}
use Rattle.reduction_tree.proofs.Acts.{Within, act-within}

module _ {T : Type 0} (Among : T → Type 0) (join : T → T → T) (closed : (a b : T) → Among a → Among b → Among (join a b)) (nodes : ℕ) (items : ℕ → T)
    (each : (p : ℕ) → p < nodes → Among (items p)) where
  -- what is true of all items, and of two joined, is true of what the nodes have
  pub among-rounds : (k p : ℕ) → p < nodes → Among (after_rounds join nodes items k p)
  among-rounds zero p lt = each p lt
  among-rounds (suc k) p lt = by_act (after_rounds join nodes items k) (among-rounds k) (nat_lt k (levels nodes)) (act_of nodes k p) (act-within nodes k p lt)
    where
      by_act : (has : ℕ → T) → ((q : ℕ) → q < nodes → Among (has q)) → (up : Bool) (act : TreeAct) → Within nodes act → Among (after_act join up has p act)
      by_act has h up Idle w = h p lt
      by_act has h up (Send q) w = h p lt
      by_act has h true (Take q) w = closed (has p) (has q.0) (h p lt) (h q.0 w)
      by_act has h false (Take q) w = h q.0 w

  module _ {S : Type 0} (view : T → S) (on : S → S → S) (carries : (a b : T) → Among a → Among b → view (join a b) ≡ on (view a) (view b)) where
    -- where views are joined as what they are views of, the nodes have the views of what they would have
    pub rounds-carried : (k p : ℕ) → p < nodes → view (after_rounds join nodes items k p) ≡ after_rounds on nodes (λ q. view (items q)) k p
    rounds-carried zero p lt = λ i. view (items p)
    rounds-carried (suc k) p lt = by_act (after_rounds join nodes items k) (after_rounds on nodes (λ q. view (items q)) k) (among-rounds k) (rounds-carried k)
        (nat_lt k (levels nodes)) (act_of nodes k p) (act-within nodes k p lt)
      where
        by_act : (has : ℕ → T) (views : ℕ → S) → ((q : ℕ) → q < nodes → Among (has q)) → ((q : ℕ) → q < nodes → view (has q) ≡ views q)
            → (up : Bool) (act : TreeAct) → Within nodes act → view (after_act join up has p act) ≡ after_act on up views p act
        by_act has views h e up Idle w = e p lt
        by_act has views h e up (Send q) w = e p lt
        by_act has views h e true (Take q) w = carries (has p) (has q.0) (h p lt) (h q.0 w) ∙ (λ i. on (e p lt i) (e q.0 w i))
        by_act has views h e false (Take q) w = e q.0 w
