-- Of the claim.
-- The lines of a text, each alone (Fortran 95, 3.3.1; HPF 2.0, 2.3).
use Rattle.std.specs.Prelude.{ℕ, ◌+◌, ◌-◌, ◌==◌, nat_eq, nat_lt, nat_le, min, bytes_eq, Bool, false, not, ◌&&◌, ◌||◌, List, [], ◌∷◌, map, filter, length, take, drop, codes, if◌then◌else◌}
use Rattle.std.specs.Char.{is_ascii_control, to_ascii_uppercase}
use Rattle.std.specs.List.{concat, ends_with, enumerate_from, list_all, list_any, prefix_len, starts_with, suffix_len}
use Rattle.hpf_base.specs.Text.{lines_of}
use Rattle.source_lines.specs.declared.limits.TheConstants.{MAX_LINE_BYTES}
use Rattle.source_lines.specs.declared.line.LineKind.{LineKind}
use Rattle.source_lines.specs.declared.line.LineKind.TheVariants as logical
use Rattle.source_lines.specs.declared.physical_lines.PhysicalKind.{PhysicalKind}
use Rattle.source_lines.specs.declared.physical_lines.PhysicalKind.TheVariants.{Passed, Statement, Directive}
use Rattle.source_lines.specs.Cut.{cut}

-- a carriage return at the end of a line belongs to the line's end
abbrev pub without_return : List ℕ → List ℕ
without_return line = if ends_with nat_eq line (13 ∷ []) then take (length line - 1) line else line

-- the lines of a text, without their ends
abbrev pub physical_lines : List ℕ → List (List ℕ)
physical_lines text = map without_return (lines_of text)

-- a blank, or a tab, which counts as one
abbrev pub is_blank : ℕ → Bool
is_blank b = b == 32 || b == 9

abbrev pub without_blanks : List ℕ → List ℕ
without_blanks bytes = drop (prefix_len is_blank bytes) bytes

abbrev pub without_blanks_after : List ℕ → List ℕ
without_blanks_after bytes = take (length bytes - suffix_len is_blank bytes) bytes

-- the first bytes, blanks aside, are `!HPF$` in any case
abbrev pub is_directive : List ℕ → Bool
is_directive line = starts_with nat_eq (map to_ascii_uppercase (without_blanks line)) (codes "!HPF$")

-- a line is of a directive or else of statements
abbrev pub line_kind : List ℕ → LineKind
line_kind line = if is_directive line then logical.Directive else logical.Statement

-- what stands after the five bytes of a directive line, and all of any other line
abbrev pub content : List ℕ → List ℕ
content line = if is_directive line then drop 5 (without_blanks line) else line

abbrev pub is_delimiter : ℕ → Bool
is_delimiter b = b == 39 || b == 34

-- how many bytes the part at the front takes: a text constant goes to its next delimiter or, if there is none, to the
-- end; a comment goes to the end; any other byte is a part. A doubled delimiter ends one constant and begins another,
-- which makes no difference here.
abbrev pub first_part : List ℕ → ℕ
first_part [] = 0
first_part (b ∷ bytes) =
    if is_delimiter b then 1 + min (length bytes) (prefix_len (λ c. not (c == b)) bytes + 1)
    else if b == 33 then 1 + length bytes else 1

abbrev pub is_comment : List ℕ → Bool
is_comment [] = false
is_comment (b ∷ bytes) = b == 33

-- the parts of these bytes, a comment apart
abbrev pub parts : List ℕ → List (List ℕ)
parts bytes = filter (λ part. not (is_comment part)) (cut first_part bytes)

-- what stands in these bytes, a comment apart
abbrev pub code_of : List ℕ → List ℕ
code_of bytes = concat (parts bytes)

-- a control byte other than tab
abbrev pub is_control : ℕ → Bool
is_control b = is_ascii_control b && not (b == 9)

-- a text constant that isn't closed on its line, or holds a control byte
abbrev pub is_bad_text : ℕ → List ℕ → Bool
is_bad_text delimiter bytes = not (ends_with nat_eq bytes (delimiter ∷ [])) || list_any is_control bytes

-- `;` parts statements and may not stand in a directive
abbrev pub is_barred : LineKind → ℕ → Bool
is_barred logical.Directive b = b == 59
is_barred logical.Statement b = false

-- a part with a byte that may not stand there: a control byte, and outside of text constants a byte from 128 and, in a
-- directive, `;`
abbrev pub is_bad_part : LineKind → List ℕ → Bool
is_bad_part kind [] = false
is_bad_part kind (b ∷ bytes) = if is_delimiter b then is_bad_text b bytes else is_control b || nat_le 128 b || is_barred kind b

-- the only thing on the line is `&`
abbrev pub is_lone_ampersand : List ℕ → Bool
is_lone_ampersand code = bytes_eq (without_blanks (without_blanks_after code)) (38 ∷ [])

-- the line breaks a rule, whatever stands on other lines
abbrev pub is_bad : List ℕ → Bool
is_bad line =
    nat_lt MAX_LINE_BYTES (length line) || list_any (is_bad_part (line_kind line)) (parts (content line)) || is_lone_ampersand (code_of (content line))

-- a line that is blank or holds only a comment is passed over
abbrev pub physical_kind : LineKind → List ℕ → PhysicalKind
physical_kind logical.Directive code = Directive
physical_kind logical.Statement code = if list_all is_blank code then Passed else Statement

-- what the rules ask of a line: its number, from 1, and what stands on it
pub record PhysicalLine : Type 0 where
  pub number : ℕ
  pub kind : PhysicalKind
  pub code : List ℕ
  pub bad : Bool

abbrev pub physical_line : ℕ → List ℕ → PhysicalLine
physical_line number line =
    let code = code_of (content line) in
    record { number = number; kind = physical_kind (line_kind line) code; code = code; bad = is_bad line }

abbrev pub numbered_lines : List ℕ → List PhysicalLine
numbered_lines text = map (λ x. physical_line x.0 x.1) (enumerate_from 1 (physical_lines text))
