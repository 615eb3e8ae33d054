-- Of a promise.
-- What a redistribution on a node holds.
use Rattle.std.specs.Prelude.{◌≡◌, ◌<◌, map}
use Rattle.std.specs.List.{range_with_len}
use Rattle.machine_steps.specs.Layout.{sizes}
use Rattle.machine_steps.specs.Message.{remap_message}
use Rattle.machine_steps.specs.Rounds.{remap_rounds}
use Rattle.remap_steps.specs.declared.redistribution.Redistribution.TheInside.{Inside}
use Rattle.remap_steps.specs.Redistributions.{Redistribution}

abbrev pub view_of : Inside → Redistribution
view_of r = record { nodes = r.before.nodes; old = r.before.layouts; new = r.after.layouts; id = r.id }

pub record IsMade (r : Inside) : Type 0 where
  pub nodes : r.before.nodes ≡ r.after.nodes
  pub sizes : sizes r.before.layouts ≡ sizes r.after.layouts
  pub node : r.id < r.before.nodes
  pub rounds : map (λ v. v.items) r.rounds.list.items ≡ remap_rounds r.before.nodes r.before.layouts r.after.layouts
  pub outgoing : r.outgoing ≡ map (remap_message r.before.nodes r.before.layouts r.after.layouts r.id) (range_with_len 0 r.before.nodes)
