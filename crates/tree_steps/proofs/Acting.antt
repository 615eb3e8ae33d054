-- To whom a node sends in a round of a tree and from whom it takes, by what it does there.
use Rattle.std.proofs.Common.{◌≡◌, ℕ, ◌*◌, ◌<◌, true, [], ◌∷◌, filter, sym, ◌∙◌, ap, subst}
use Rattle.std.specs.List.{range_with_len}
use Rattle.hpf_base.specs.declared.node.NodeId.{NodeId}
use Rattle.reduction_tree.specs.declared.tree.TreeAct.TheVariants.{Send, Take}
use Rattle.reduction_tree.specs.Tree.{node_id, act_of}
use Rattle.reduction_tree.proofs.Acts.{sends-is-takes, takes-is-sends, Within, act-within}
use Rattle.machine_steps.specs.Tree.{levels_of, tree_sends}
use Rattle.node_run.proofs.TreeActs.{sends-by_act}
use Rattle.tree_steps.proofs.Passing.{one-passes, none-passes}

same-sent : (p q : NodeId) → Send p ≡ Send q → p.0 ≡ q.0
same-sent p q e = let h : p ≡ q = cc in ap (λ (n : NodeId). n.0) h

same-taken : (p q : NodeId) → Take p ≡ Take q → p.0 ≡ q.0
same-taken p q e = let h : p ≡ q = cc in ap (λ (n : NodeId). n.0) h

module _ (count round id : ℕ) (inside : id < count) (going : round < 2 * levels_of count) where
  -- what a test of a pair tells of what the node does
  sends : (q : ℕ) → q < count → tree_sends (levels_of count) round id q ≡ true → act_of count round id ≡ Send (node_id q)
  sends q lt h = (sends-by_act count round id q inside lt going).0 h

  takes : (p : ℕ) → p < count → tree_sends (levels_of count) round p id ≡ true → act_of count round id ≡ Take (node_id p)
  takes p lt h = sends-is-takes count round p id lt inside ((sends-by_act count round p id lt inside going).0 h)

  pub sends-to : (q : NodeId) → act_of count round id ≡ Send q → q.0 ∷ [] ≡ filter (tree_sends (levels_of count) round id) (range_with_len 0 count)
  sends-to q is =
      let lt : q.0 < count = subst (Within count) is (act-within count round id inside) in
      one-passes (tree_sends (levels_of count) round id) count q.0 lt ((sends-by_act count round id q.0 inside lt going).1 is)
      (λ j below h. same-sent (node_id j) q (sym (sends j below h) ∙ is))

  pub sends-to-none : ((q : NodeId) → act_of count round id ≡ Send q → ⊥) → [] ≡ filter (tree_sends (levels_of count) round id) (range_with_len 0 count)
  sends-to-none none = none-passes (tree_sends (levels_of count) round id) count (λ j below h. none (node_id j) (sends j below h))

  pub takes-from : (p : NodeId) → act_of count round id ≡ Take p → p.0 ∷ [] ≡ filter (λ p. tree_sends (levels_of count) round p id) (range_with_len 0 count)
  takes-from p is =
      let lt : p.0 < count = subst (Within count) is (act-within count round id inside) in
      one-passes (λ p. tree_sends (levels_of count) round p id) count p.0 lt
      ((sends-by_act count round p.0 id lt inside going).1 (takes-is-sends count round p.0 id lt inside is))
      (λ j below h. same-taken (node_id j) p (sym (takes j below h) ∙ is))

  pub takes-from-none : ((p : NodeId) → act_of count round id ≡ Take p → ⊥) → [] ≡ filter (λ p. tree_sends (levels_of count) round p id) (range_with_len 0 count)
  takes-from-none none = none-passes (λ p. tree_sends (levels_of count) round p id) count (λ j below h. none (node_id j) (takes j below h))
