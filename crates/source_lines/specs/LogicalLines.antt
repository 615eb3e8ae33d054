-- Of the claim.
-- The logical lines of a text (Fortran 95, 3.3.1; HPF 2.0, 2.3).
use Rattle.std.specs.Prelude.{ℕ, ◌+◌, ◌-◌, not, nat_eq, List, [], ◌∷◌, ◌++◌, map, filter, flat_map, length, take, drop, if◌then◌else◌, bytes_eq}
use Rattle.std.specs.List.{join_with_byte, list_all, prefix_len, starts_with}
use Rattle.source_lines.specs.declared.line.LogicalLine.{LogicalLine}
use Rattle.source_lines.specs.declared.line.LineKind.{LineKind}
use Rattle.source_lines.specs.declared.line.LineKind.TheVariants as logical
use Rattle.source_lines.specs.declared.physical_lines.PhysicalKind.{PhysicalKind}
use Rattle.source_lines.specs.declared.physical_lines.PhysicalKind.TheVariants.{Directive}
use Rattle.source_lines.specs.Cut.{cut}
use Rattle.source_lines.specs.PhysicalLines.{PhysicalLine, numbered_lines, is_blank, without_blanks, without_blanks_after, first_part}
use Rattle.source_lines.specs.Breaches.{standing, is_continued}

-- what a line gives to its logical line: a `&` at its end is left out
abbrev pub body : PhysicalLine → List ℕ
body line = if is_continued line then take (length (without_blanks_after line.code) - 1) line.code else line.code

-- a `&` that is the first byte of a continuing line, blanks aside, is left out as well
abbrev pub continuing_body : PhysicalLine → List ℕ
continuing_body line = if starts_with nat_eq (without_blanks (body line)) (38 ∷ []) then drop 1 (without_blanks (body line)) else body line

-- the bytes of a line and of those that continue it, with a blank between
abbrev pub joined_bytes : PhysicalLine → List PhysicalLine → List ℕ
joined_bytes line lines = join_with_byte 32 (body line ∷ map continuing_body lines)

-- the first of some lists with a part more at its front
abbrev pub with_part : List ℕ → List (List ℕ) → List (List ℕ)
with_part part [] = part ∷ []
with_part part (statement ∷ statements) = (part ++ statement) ∷ statements

-- parts, put together between those that are `;`
abbrev pub together : List (List ℕ) → List (List ℕ)
together [] = [] ∷ []
together (part ∷ parts) = if bytes_eq part (59 ∷ []) then [] ∷ together parts else with_part part (together parts)

-- what stands between the `;` outside of text constants
abbrev pub between_semicolons : List ℕ → List (List ℕ)
between_semicolons bytes = together (cut first_part bytes)

-- statements without the empty ones
abbrev pub without_empty : List (List ℕ) → List (List ℕ)
without_empty statements = filter (λ statement. not (list_all is_blank statement)) statements

-- the statements of bytes: they stand between `;`, and empty ones are passed over
abbrev pub statements : List ℕ → List (List ℕ)
statements bytes = without_empty (between_semicolons bytes)

abbrev pub logical_line : ℕ → LineKind → List ℕ → LogicalLine
logical_line number kind bytes = record { line = number; kind = kind; bytes = bytes }

-- a directive is one logical line; of statements each is one
abbrev pub lines_of_kind : PhysicalKind → ℕ → List ℕ → List LogicalLine
lines_of_kind Directive number bytes = logical_line number logical.Directive bytes ∷ []
lines_of_kind kind number bytes = map (logical_line number logical.Statement) (statements bytes)

-- the logical lines of a line and those that continue it
abbrev pub lines_of_group : List PhysicalLine → List LogicalLine
lines_of_group [] = []
lines_of_group (line ∷ lines) = lines_of_kind line.kind line.number (joined_bytes line lines)

-- the lines that aren't passed over, each with those that continue it
abbrev pub groups : List PhysicalLine → List (List PhysicalLine)
groups lines = cut (λ rest. prefix_len is_continued rest + 1) lines

-- the logical lines of the text's lines
abbrev pub lines_in : List PhysicalLine → List LogicalLine
lines_in lines = flat_map lines_of_group (groups (standing lines))

abbrev pub logical_lines : List ℕ → List LogicalLine
logical_lines text = lines_in (numbered_lines text)
