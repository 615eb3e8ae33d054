-- What a redistribution on a node holds, by the layouts before and after it.
use Rattle.std.proofs.Common.{◌≡◌, ◌<◌, map, refl, subst, sym}
use Rattle.std.specs.List.{range_with_len}
use Rattle.machine_steps.specs.Layout.{sizes}
use Rattle.remap_steps.specs.declared.redistribution.Redistribution.TheInside.{Inside}
use Rattle.remap_steps.specs.Made.{IsMade, view_of}
use Rattle.remap_steps.specs.Redistributions.{Redistribution, all_rounds, message_between}

pub record Seen (r : Inside) (v : Redistribution) : Type 0 where
  pub nodes : r.before.nodes ≡ v.nodes
  pub nodes_after : r.after.nodes ≡ v.nodes
  pub old : r.before.layouts ≡ v.old
  pub new : r.after.layouts ≡ v.new
  pub id : r.id ≡ v.id
  pub node : v.id < v.nodes
  pub alike : sizes v.old ≡ sizes v.new
  pub rounds : map (λ v. v.items) r.rounds.list.items ≡ all_rounds v
  pub outgoing : r.outgoing ≡ map (message_between v v.id) (range_with_len 0 v.nodes)

pub seen : (r : Inside) (v : Redistribution) → view_of r ≡ v → IsMade r → Seen r v
seen r v view is = subst (Seen r) view (record {
  nodes = refl;
  nodes_after = sym is.nodes;
  old = refl;
  new = refl;
  id = refl;
  node = is.node;
  alike = is.sizes;
  rounds = is.rounds;
  outgoing = is.outgoing;
})
