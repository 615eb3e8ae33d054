-- Statements of the resolved program may be sent and shared.
use denote.Param.Send.{sendable}
use Rattle.std.proofs.Crossing.{crosses}
use Rattle.expression_rules.specs.contracts.dims.Dims as Dims
use Rattle.resolved_program.proofs.statements.Action.TheLaws.TheKnot.{crosses as statement_crosses}
use Rattle.resolved_program.specs.contracts.statements.Control as Control
use Rattle.resolved_program.specs.contracts.statements.ElementAssignment as ElementAssignment
use Rattle.resolved_program.specs.contracts.statements.Item as Item
use Rattle.resolved_program.specs.contracts.statements.Loop as Loop
use Rattle.resolved_program.specs.contracts.statements.Nest as Nest
use Rattle.resolved_program.specs.contracts.statements.SectionAssignment as SectionAssignment
use Rattle.resolved_program.specs.contracts.statements.Statement as Statement
use Rattle.resolved_program.specs.contracts.statements.Transformation as Transformation
use Rattle.resolved_program.specs.contracts.statements.WholeArray as WholeArray
use Rattle.resolved_program.specs.contracts.terms.SectionSubscript as Subscript
use Rattle.resolved_program.specs.contracts.terms.Term as Term
use Rattle.sendable_nodes.proofs.ThreadSafety.{IsThreadSafe, thread_safe}
use Rattle.sendable_nodes.proofs.Expressions.{subscript, term}

term_row : IsThreadSafe Term.the_row
term_row = search (thread_safe, term)

subscript_row : IsThreadSafe Subscript.the_row
subscript_row = search (thread_safe, subscript)

nest : IsThreadSafe Nest.the_row
nest = search thread_safe depth 20

control : IsThreadSafe (Control.the_field).row
control = search (thread_safe, term) depth 20

control_row : IsThreadSafe Control.the_row
control_row = search (thread_safe, control)

pub loop : IsThreadSafe (Loop.the_field).row
loop = search (thread_safe, control) depth 20

section_assignment : IsThreadSafe SectionAssignment.the_row
section_assignment = search (thread_safe, term, subscript) depth 20

element_assignment : IsThreadSafe ElementAssignment.the_row
element_assignment = search (thread_safe, term) depth 20

dims : IsThreadSafe (Dims.the_field).row
dims = search thread_safe depth 20

whole_array : IsThreadSafe (WholeArray.the_field).row
whole_array = search (thread_safe, dims) depth 20

transformation : IsThreadSafe (Transformation.the_field).row
transformation = search (thread_safe, term) depth 20

item : IsThreadSafe Item.the_row
item = search (thread_safe, term, subscript) depth 20

pub statement : IsThreadSafe (Statement.the_field).row
statement = record {
  send = search (
    sendable,
    crosses,
    statement_crosses,
    term.send,
    term_row.send,
    subscript_row.send,
    nest.send,
    loop.send,
    control_row.send,
    whole_array.send,
    transformation.send,
    section_assignment.send,
    element_assignment.send,
    item.send,
  ) depth 20;
  sync = search (
    sendable,
    crosses,
    statement_crosses,
    term.sync,
    term_row.sync,
    subscript_row.sync,
    nest.sync,
    loop.sync,
    control_row.sync,
    whole_array.sync,
    transformation.sync,
    section_assignment.sync,
    element_assignment.sync,
    item.sync,
  ) depth 20;
}
