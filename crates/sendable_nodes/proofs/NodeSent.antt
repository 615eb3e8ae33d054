-- A node may be sent to a thread.
use denote.Param.Send.{IsSend, view_send}
use denote.Struct.Declared.{shape}
use Rattle.node_machine.proofs.post.Post.TheSendSync as posts
use Rattle.node_machine.specs.contracts.node.Node as Node
use Rattle.node_machine.specs.contracts.node.Node.TheInside as Inside
use Rattle.node_machine.specs.contracts.post.Post as Post
use Rattle.owner_tables.proofs.owners.Owners.TheSendSync as owners
use Rattle.owner_tables.specs.contracts.owners.Owners as Owners
use Rattle.owner_tables.specs.contracts.row.Row as Row
use Rattle.node_machine.proofs.KeptExchanges.TheSendSync as exchanges
use Rattle.node_machine.specs.KeptExchanges as KeptExchanges
use Rattle.remap_steps.proofs.redistribution.Redistribution.TheSendSync as redistributions
use Rattle.remap_steps.specs.contracts.redistribution.Redistribution as Redistribution
use Rattle.slot_values.proofs.control.Control.TheSendSync as controls
use Rattle.slot_values.proofs.kept.Kept.TheSendSync as kepts
use Rattle.slot_values.specs.contracts.control.Control as Control
use Rattle.slot_values.specs.contracts.kept.Kept as Kept
use Rattle.sendable_nodes.proofs.Programs.{program}
use Rattle.sendable_nodes.proofs.ThreadSafety.{AllThreadSafe, IsThreadSafe, recorded_safe, struct_safe, thread_safe}

control : IsThreadSafe (Control.the_field).row
control = record { send = controls.the_field_send; sync = controls.the_field_sync }

owned : IsThreadSafe Owners.the_row
owned = record { send = owners.the_send; sync = owners.the_sync }

row : IsThreadSafe Row.the_row
row = search thread_safe depth 20

kept : IsThreadSafe Kept.the_row
kept = record { send = kepts.the_send; sync = kepts.the_sync }

post : IsThreadSafe Post.the_row
post = record { send = posts.the_send; sync = posts.the_sync }

redistribution : IsThreadSafe Redistribution.the_row
redistribution = record { send = redistributions.the_send; sync = redistributions.the_sync }

exchange : IsThreadSafe (KeptExchanges.the_field).row
exchange = record { send = exchanges.the_field_send; sync = exchanges.the_field_sync }

fields : AllThreadSafe (shape Inside.the_type).fields
fields = search (thread_safe, program, control, owned, row, kept, post, redistribution, exchange) depth 26 fits 100000

inside : IsThreadSafe Inside.the_row
inside = recorded_safe _ _ (Inside.the_type).to (Inside.the_type).to_one (struct_safe (shape Inside.the_type) fields)

pub node_sent : IsSend Node.the_row
node_sent = view_send _ _ _ _ _ inside.send
