use Rattle.std.proofs.Common.{rules, ◌≡◌, ℕ, ◌+◌, List, ◌∷◌, ◌++◌, [], length, sym, ap, ◌∙◌, refl, subst, length-append, append_assoc}
use Rattle.std.specs.Prelude.{Some, slice_get}
use Rattle.pair_mailbox.specs.Ends.{Outgoing, Incoming}
use Rattle.stations.specs.Lettered.{IsLettered}
use Rattle.stations.specs.Stations.{StationState, AreUnusedOuts, AreUnusedIns}
use Rattle.stations.proofs.Lists.{got_seam}
use Rattle.stations.proofs.Opened.{out_wide, in_wide, out_unused, in_unused, opened_more, joined_all}
use Rattle.stations.proofs.opening.open_stations.Goals as goal

pub new-requires-clause-lettered : goal.new-requires-clause-lettered
new-requires-clause-lettered g c =
    let eo : c.loop-node.outs.rest.items ≡ c.in-Some-next.out ∷ c.next-in-loop-node.new.self.rest.items = search rules in
    let ei : c.loop-node.ins.rest.items ≡ c.in-Some-next-2.inn ∷ c.next-in-Some-next.new.self.rest.items = search rules in
    let place = length c.loop-node.yielded in
    let node = c.in-Some.node in
    let there : slice_get c.args.nodes.items place ≡ Some node =
    ap (λ l. slice_get l place) (c.loop-node.invariant.2 ∙ ap (λ l. c.loop-node.yielded ++ l) c.in-Some.ensures.steps.0) ∙ got_seam c.loop-node.yielded node _ in
    let many : length c.args.nodes.items ≡ length c.into_ends.result.items = sym (ap length c.into_ends.ensures ∙ out_wide c.loop-node.invariant.0 eo ei) in
    subst (λ (y : ℕ × ℕ). IsLettered g.N.PhasedNode.steps y.0 y.1 node) (λ t. (many t, sym c.loop-node.invariant.1 t)) (c.requires.lettered place node there)

pub new-requires-clause-as_many : goal.new-requires-clause-as_many
new-requires-clause-as_many g c =
    let eo : c.loop-node.outs.rest.items ≡ c.in-Some-next.out ∷ c.next-in-loop-node.new.self.rest.items = search rules in
    let ei : c.loop-node.ins.rest.items ≡ c.in-Some-next-2.inn ∷ c.next-in-Some-next.new.self.rest.items = search rules in
    ap length c.into_ends-in-Some-next-2.ensures ∙ in_wide c.loop-node.invariant.0 eo ei ∙ sym (ap length c.into_ends.ensures ∙ out_wide c.loop-node.invariant.0 eo ei)

pub new-requires-clause-outs : goal.new-requires-clause-outs
new-requires-clause-outs g c =
    let eo : c.loop-node.outs.rest.items ≡ c.in-Some-next.out ∷ c.next-in-loop-node.new.self.rest.items = search rules in
    let ei : c.loop-node.ins.rest.items ≡ c.in-Some-next-2.inn ∷ c.next-in-Some-next.new.self.rest.items = search rules in
    subst (λ (y : ℕ × List Outgoing). AreUnusedOuts y.0 y.1) (λ t. (sym c.loop-node.invariant.1 t, sym c.into_ends.ensures t))
    (out_unused c.loop-node.invariant.0 eo ei)

pub new-requires-clause-ins : goal.new-requires-clause-ins
new-requires-clause-ins g c =
    let eo : c.loop-node.outs.rest.items ≡ c.in-Some-next.out ∷ c.next-in-loop-node.new.self.rest.items = search rules in
    let ei : c.loop-node.ins.rest.items ≡ c.in-Some-next-2.inn ∷ c.next-in-Some-next.new.self.rest.items = search rules in
    subst (λ (y : ℕ × List Incoming). AreUnusedIns y.0 y.1) (λ t. (sym c.loop-node.invariant.1 t, sym c.into_ends-in-Some-next-2.ensures t))
    (in_unused c.loop-node.invariant.0 eo ei)

pub loop-node-preserved : goal.loop-node-preserved
loop-node-preserved g c =
    let eo : c.loop-node.outs.rest.items ≡ c.in-Some-next.out ∷ c.next-in-loop-node.new.self.rest.items = search rules in
    let ei : c.loop-node.ins.rest.items ≡ c.in-Some-next-2.inn ∷ c.next-in-Some-next.new.self.rest.items = search rules in
    let is = c.new.ensures in (
      opened_more c.loop-node.invariant.0 eo ei c.in-Some.node c.new.result c.push.new.self.items (ap (λ (s : StationState _). s.id) is ∙ c.loop-node.invariant.1)
          (ap (λ (s : StationState _). s.opening) is) (ap (λ (s : StationState _). s.outs) is ∙ c.into_ends.ensures)
          (ap (λ (s : StationState _). s.ins) is ∙ c.into_ends-in-Some-next-2.ensures) (search rules),
      ap (λ k. k + 1) c.loop-node.invariant.1 ∙ sym (length-append c.loop-node.yielded (c.in-Some.node ∷ [])),
      c.loop-node.invariant.2 ∙ ap (λ l. c.loop-node.yielded ++ l) c.in-Some.ensures.steps.0 ∙ sym (append_assoc c.loop-node.yielded (c.in-Some.node ∷ []) _),
    )

pub returns : goal.returns
returns g c =
    let count : length c.loop-node.node-iterator.rest.items ≡ c.loop-node.node-iterator.rest.len = search rules in
    joined_all c.loop-node.invariant.0 c.args.nodes.items c.loop-node.node-iterator.rest.items c.loop-node.invariant.2 (count ∙ c.in-None.ensures.steps.0) refl
