-- Expressions over slots, and expressions of the resolved program, may be sent and shared.
-- A type that holds itself has lemmas of its own for both, which ask the same of what else it holds.
use denote.Param.Send.{sendable}
use Rattle.std.proofs.Crossing.{crosses}
use Rattle.op_tables.proofs.op.Op.TheSendSync.{the_field_send, the_field_sync}
use Rattle.op_tables.specs.contracts.op.Op as Op
use Rattle.node_code.proofs.flat.Flat.TheLaws.TheKnot.{crosses as flat_crosses}
use Rattle.node_code.proofs.form.ArrayForm.TheLaws.TheKnot.{crosses as form_crosses}
use Rattle.node_code.specs.contracts.flat.Flat as Flat
use Rattle.node_code.specs.contracts.form.ArrayForm as Form
use Rattle.node_code.specs.contracts.form.Sub as Sub
use Rattle.resolved_program.proofs.terms.SectionSubscript.TheLaws.TheKnot.{crosses as term_crosses}
use Rattle.resolved_program.specs.contracts.terms.SectionSubscript as Subscript
use Rattle.resolved_program.specs.contracts.terms.Term as Term
use Rattle.sendable_nodes.proofs.ThreadSafety.{IsThreadSafe, thread_safe}

op : IsThreadSafe (Op.the_field).row
op = record { send = the_field_send; sync = the_field_sync }

pub flat : IsThreadSafe (Flat.the_field).row
flat = record { send = search (sendable, crosses, flat_crosses, op.send); sync = search (sendable, crosses, flat_crosses, op.sync) }

pub sub : IsThreadSafe Sub.the_row
sub = search (thread_safe, flat) depth 20

pub form : IsThreadSafe (Form.the_field).row
form = record { send = search (sendable, crosses, form_crosses, op.send, flat.send, sub.send); sync = search (sendable, crosses, form_crosses, op.sync, flat.sync, sub.sync) }

pub term : IsThreadSafe (Term.the_field).row
term = record { send = search (sendable, crosses, term_crosses, op.send); sync = search (sendable, crosses, term_crosses, op.sync) }

pub subscript : IsThreadSafe (Subscript.the_field).row
subscript = record { send = search (sendable, crosses, term_crosses, op.send); sync = search (sendable, crosses, term_crosses, op.sync) }
