-- Of private clauses.
-- One subscript of a section, as a plan holds it.
use Rattle.std.specs.Prelude.{ℕ, ◌+◌, List, [], ◌∷◌, ◌++◌}
use Rattle.resolved_program.specs.declared.terms.SectionSubscript.{SectionSubscript as HeldSubscript}
use Rattle.resolved_program.specs.declared.terms.SectionSubscript.TheBlock.{Subscript as Subscript', Triplet as Triplet'}
use Rattle.resolved_program.specs.Resolved.{term}
use Rattle.node_code.specs.Forms.{Sub, SubAt, SubAlong}
use Rattle.node_code.specs.Instructions.{Instruction, TestStride}
use Rattle.program_code.specs.ExpressionCode.{slots_of, flat_of, code_of, control_slots, control_code, triplet}

-- how many slots its code takes
abbrev pub subscript_slots : HeldSubscript → ℕ
subscript_slots (Subscript' t) = slots_of (term t)
subscript_slots (Triplet' first last step) = control_slots (triplet (term first) (term last) (term step)) + 3

-- what is left of it after the code
abbrev pub sub_of : ℕ → HeldSubscript → Sub
sub_of b (Subscript' t) = SubAt (flat_of b (term t))
sub_of b (Triplet' first last step) = SubAlong (b + control_slots (triplet (term first) (term last) (term step)))

-- its code
abbrev pub subscript_code : ℕ → ℕ → HeldSubscript → List Instruction
subscript_code line b (Subscript' t) = code_of line b (term t)
subscript_code line b (Triplet' first last step) =
    control_code line b (triplet (term first) (term last) (term step))
    ++ TestStride line (b + control_slots (triplet (term first) (term last) (term step)) + 2) ∷ []
