use Rattle.compiled_program.specs.Openings.{opening_of}
use Rattle.compiled_program.proofs.Accepted.{arrays-count, laid, mapped, opening-on-grid, some-nodes}
use Rattle.compiled_program.proofs.compile.compile_program.Goals as goal

pub compile_on-requires-clause-some : goal.compile_on-requires-clause-some
compile_on-requires-clause-some c =
    some-nodes c.args.accepted.now c.node_count.result c.node_count.ensures.valid c.node_count.ensures.value

pub compile_on-requires-clause-names : goal.compile_on-requires-clause-names
compile_on-requires-clause-names c = c.args.accepted.now.names

pub compile_on-requires-clause-valid : goal.compile_on-requires-clause-valid
compile_on-requires-clause-valid c =
    mapped c.args.accepted.now c.node_count.result c.node_count.ensures.valid c.node_count.ensures.value

pub compile_on-requires-clause-laid : goal.compile_on-requires-clause-laid
compile_on-requires-clause-laid c =
    laid c.args.accepted.now c.node_count.result c.node_count.ensures.valid c.node_count.ensures.value

pub compile_on-requires-clause-keeps : goal.compile_on-requires-clause-keeps
compile_on-requires-clause-keeps c = c.args.accepted.now.keeps.anywhere

pub compile_on-requires-clause-many : goal.compile_on-requires-clause-many
compile_on-requires-clause-many c = arrays-count c.args.accepted.now

pub returns-clause-opening : goal.returns-clause-opening
returns-clause-opening c =
    opening-on-grid c.args.accepted.now c.node_count.result c.node_count.ensures.valid c.node_count.ensures.value (opening_of c.in_ok-compiled.compiled)
    c.in_ok-compiled.ensures.opening
