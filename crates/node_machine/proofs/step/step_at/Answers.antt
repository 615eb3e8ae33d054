use Rattle.std.proofs.Common.{length, arith}
use Rattle.node_code.specs.Texts.{instruction}
use Rattle.node_program.specs.Fits.{fits_rows}
use Rattle.node_program.specs.Programs.{mappings_of}
use Rattle.node_program.proofs.FitLaws.{all-mapped}
use Rattle.node_machine.proofs.Instructions.{instr_at-end, step-is}
use Rattle.node_machine.proofs.step.step_at.Goals as goal

pub returns-then-at-len-clause-is : goal.returns-then-at-len-clause-is
returns-then-at-len-clause-is c =
    step-is c.args.program.now.nodes (mappings_of c.args.program.now.tables.items) c.args.program.now.shapes.items c.args.program.now.code.items c.args.at c.index.result.now c.args.substep c.step_of.result
    (omega (arith, c.len.ensures, c.if-at-len.true)) c.index.ensures c.step_of.ensures.does

pub returns-then-at-len-clause-fits : goal.returns-then-at-len-clause-fits
returns-then-at-len-clause-fits c = λ rows tables code. c.step_of.ensures.fits rows tables
    (all-mapped (fits_rows (length c.args.program.now.shapes.items) c.args.program.now.tables.items rows) instruction c.args.program.now.code.items c.args.at c.index.result.now
    (omega (arith, c.len.ensures, c.if-at-len.true)) c.index.ensures code)

pub returns-else-at-len-clause-is : goal.returns-else-at-len-clause-is
returns-else-at-len-clause-is c = instr_at-end c.args.program.now.nodes (mappings_of c.args.program.now.tables.items) c.args.program.now.shapes.items c.args.program.now.code.items c.args.at (omega (arith, c.len.ensures, c.if-at-len.false))
