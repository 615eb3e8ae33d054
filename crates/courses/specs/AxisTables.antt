-- Of a promise.
-- One axis of a space as a section of a line.
use Rattle.std.specs.Prelude.{◌≡◌, ℕ, ◌+◌, ◌<◌, ◌≤◌, ◌&&◌, nat_le, nat_lt, filter, map, ℤ, pos, ◌+ℤ◌, ◌*ℤ◌, Some}
use Rattle.std.specs.List.{range_with_len}
use Rattle.std.specs.Option.{is_some}
use Rattle.mappings.specs.declared.mapping.Line.{Line}
use Rattle.mappings.specs.Alignment.{agrees_at, position_at}
use Rattle.expression_rules.specs.declared.dims.Dim.{Dim}
use Rattle.array_meaning.specs.State.{offset}
use Rattle.gap_table.specs.OwnedSequence.{owned_sequence}

-- the subscript at a place of the axis
abbrev pub subscript_on : ℤ → ℤ → ℕ → ℤ
subscript_on first step x = first +ℤ (step *ℤ pos x)

-- Of the places of an axis those at which the subscript is in bounds are the m from lo on, and in the line the first of them has the position
-- `start`. Then the places at which a node owns what is named are an owned sequence, moved by lo
abbrev pub AxisTable : Type 0
AxisTable = (line : Line) (own : ℕ) (a b first step : ℤ) (d : Dim) (n lo m start : ℕ) → lo + m ≤ n
    → ((x : ℕ) → x < n → is_some (offset d (subscript_on first step x)) ≡ (nat_le lo x && nat_lt x (lo + m)))
    → (0 < m → pos start ≡ position_at line ((a *ℤ subscript_on first step lo) +ℤ b))
    → filter (λ x. is_some (offset d (subscript_on first step x)) && agrees_at line own (Some ((a *ℤ subscript_on first step x) +ℤ b))) (range_with_len 0 n)
    ≡ map (λ j. lo + j) (owned_sequence line own start (a *ℤ step) m)
