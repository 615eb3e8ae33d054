-- Of private clauses.
-- No public clause cites this file. Copies that are made.
use Rattle.std.specs.Prelude.{◌≡◌, ℕ, ℤ, pos, List, Option}
use Rattle.array_meaning.specs.Faults.{Fault}
use Rattle.machine_steps.specs.Instr.{Instr, MakeCopy}
use Rattle.machine_steps.specs.Layout.{Layout}
use Rattle.node_code.specs.Anchors.{FlatAnchor}
use Rattle.code_meaning.specs.Anchors.{anchor_in}
use Rattle.code_meaning.specs.Beside.{aligned_layout}
use Rattle.node_code.specs.Flat.{Flat}
use Rattle.code_meaning.specs.Flat.{slots_value}
use Rattle.node_code.specs.Forms.{Sub}
use Rattle.code_meaning.specs.NestStatements.{copies_extents}
use Rattle.node_code.specs.Parallel.{Evaluation}
use Rattle.code_meaning.specs.Parallel.{evaluation_extents}

-- a copy of the extents of an array expression on so many nodes, with 0 everywhere
abbrev pub copying : (nodes copy : ℕ) → Evaluation → Instr Fault
copying nodes copy p = MakeCopy copy (λ layouts slots. aligned_layout nodes layouts (anchor_in slots p.over p.beside) (evaluation_extents p slots)) (λ slots. pos 0)

-- copies of a nest with these indices on so many nodes, all with one value
abbrev pub copying_for_nest : (nodes copy : ℕ) → List Sub → Flat → Option FlatAnchor → Instr Fault
copying_for_nest nodes copy over start beside =
    MakeCopy copy (λ layouts slots. aligned_layout nodes layouts (anchor_in slots over beside) (copies_extents over slots)) (λ slots. slots_value slots start)

-- the instruction makes this copy
pub record MakesCopy (i : Instr Fault) (copy : ℕ) : Type 0 where
  pub layout : List Layout → List ℤ → Layout
  pub start : List ℤ → ℤ
  pub is : i ≡ MakeCopy copy layout start
