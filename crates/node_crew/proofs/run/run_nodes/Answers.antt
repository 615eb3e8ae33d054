use Rattle.std.proofs.Common.{sym, subst, ap, ◌∙◌, ◌≡◌, map}
use Rattle.node_crew.proofs.Dealt.{joined_last}
use Rattle.node_crew.specs.Crews.{joined}
use Rattle.node_crew.proofs.run.run_nodes.Goals as goal
use Rattle.stations.specs.Joined.{AreJoined}
use Rattle.stations.specs.Stations.{fixed}

pub returns-clause-ends : goal.returns-clause-ends
returns-clause-ends g c =
    let same : map fixed c.in_ok-stations-3.stations.items ≡ map fixed c.in_ok-stations.stations.items =
    c.in_ok-stations-3.ensures.same ∙ c.in_ok-stations-2.ensures ∙ ap joined c.in_ok-crews-2.ensures ∙ joined_last c.in_ok-crews.crews.items c.in_ok-crews.last ∙ c.in_ok-crews.ensures.joined in
    c.in_ok-nodes.ensures.ends c.args.nodes.items (subst (AreJoined c.args.nodes.items) (sym same) c.in_ok-stations.ensures) c.requires.phased
