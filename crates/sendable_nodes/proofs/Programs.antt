-- The program that nodes share may be sent and shared.
use Rattle.expression_rules.specs.contracts.dims.Dims as Dims
use Rattle.node_program.specs.contracts.program.NodeProgram as NodeProgram
use Rattle.owner_tables.proofs.owner_table.OwnerTable.TheSendSync.{the_send, the_sync}
use Rattle.owner_tables.specs.contracts.owner_table.OwnerTable as OwnerTable
use Rattle.sendable_nodes.proofs.Instructions.{instruction}
use Rattle.sendable_nodes.proofs.ThreadSafety.{IsThreadSafe, thread_safe}

dims : IsThreadSafe Dims.the_row
dims = search thread_safe depth 20

table : IsThreadSafe OwnerTable.the_row
table = record { send = the_send; sync = the_sync }

pub program : IsThreadSafe NodeProgram.the_row
program = search (thread_safe, dims, table, instruction) depth 20
