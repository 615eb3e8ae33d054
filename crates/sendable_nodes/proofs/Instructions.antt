-- Instructions of node code may be sent and shared.
use Rattle.op_tables.proofs.join.Join.TheSendSync as joins
use Rattle.op_tables.proofs.reductions.Reduction.TheSendSync as reductions
use Rattle.op_tables.specs.contracts.join.Join as Join
use Rattle.op_tables.specs.contracts.reductions.Reduction as Reduction
use Rattle.node_code.specs.contracts.anchor.AnchorSub as AnchorSub
use Rattle.node_code.specs.contracts.anchor.FlatAnchor as FlatAnchor
use Rattle.node_code.specs.contracts.instruction.Instruction as Instruction
use Rattle.node_code.specs.contracts.instruction.NewMapping as NewMapping
use Rattle.node_code.specs.contracts.instruction.PrintItem as PrintItem
use Rattle.node_code.specs.contracts.nest.NestStatement as NestStatement
use Rattle.node_code.specs.contracts.parallel.Assignment as Assignment
use Rattle.node_code.specs.contracts.parallel.Evaluation as Evaluation
use Rattle.node_code.specs.contracts.parallel.When as When
use Rattle.sendable_nodes.proofs.ThreadSafety.{IsThreadSafe, thread_safe}
use Rattle.sendable_nodes.proofs.Expressions.{flat, form, sub}
use Rattle.sendable_nodes.proofs.Statements.{loop, statement}

join : IsThreadSafe (Join.the_field).row
join = record { send = joins.the_field_send; sync = joins.the_field_sync }

reduction : IsThreadSafe (Reduction.the_field).row
reduction = record { send = reductions.the_field_send; sync = reductions.the_field_sync }

when : IsThreadSafe When.the_row
when = search thread_safe depth 20

anchor_sub : IsThreadSafe AnchorSub.the_row
anchor_sub = search (thread_safe, flat) depth 20

flat_anchor : IsThreadSafe FlatAnchor.the_row
flat_anchor = search (thread_safe, anchor_sub) depth 20

assignment : IsThreadSafe (Assignment.the_field).row
assignment = search (thread_safe, when, sub, form, flat_anchor) depth 20

evaluation : IsThreadSafe (Evaluation.the_field).row
evaluation = search (thread_safe, sub, form, flat_anchor) depth 20

nest_statement : IsThreadSafe (NestStatement.the_field).row
nest_statement = search (thread_safe, when, sub, form, flat_anchor) depth 20

print_item : IsThreadSafe PrintItem.the_row
print_item = search (thread_safe, flat, sub) depth 20

new_mapping : IsThreadSafe NewMapping.the_row
new_mapping = search thread_safe depth 20

pub instruction : IsThreadSafe Instruction.the_row
instruction = search (thread_safe, flat, sub, join, reduction, assignment, evaluation, nest_statement, flat_anchor, print_item, new_mapping, loop, statement) depth 60 fits 100000
