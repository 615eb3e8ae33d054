-- Of private clauses.
-- No public clause cites this file. What takes the place of the loops of a nest, if it has statements.
use Rattle.std.specs.Prelude.{List, Option, Some, None, Vec}
use Rattle.std.specs.Global.{Global}
use Rattle.node_code.specs.declared.instruction.Instruction.{Instruction as HeldInstruction}
use Rattle.node_code.specs.Instructions.{Instruction}
use Rattle.node_code.specs.Texts.{instructions}

abbrev pub or_loops : Option (Vec HeldInstruction Global) → List Instruction → List Instruction
or_loops None loops = loops
or_loops (Some code) loops = instructions code.items
