-- Of the claim.
-- The text of `messages`: what nodes send for the parts of array statements and of nests, and for redistributions.
use Rattle.std.specs.Prelude.{ℕ, ◌+◌, suc, nat_eq, if◌then◌else◌, List, [], ◌∷◌, ◌++◌, length, codes, decimal, slice_index_or, slice_get, ℤ, Option, Some, None}
use Rattle.std.specs.List.{flat_map, range_with_len}
use Rattle.storage.specs.Storage.{Spot}
use Rattle.statement_trail.specs.Trail.{Event, Trail, TrailEntry, OfNest, Redistributed}
use Rattle.array_meaning.specs.Forall.{index_extents}
use Rattle.passed_states.specs.TrailLayouts.{layouts_after}
use Rattle.machine_steps.specs.Layout.{Layout, element_index}
use Rattle.machine_steps.specs.Machine.{remapped}
use Rattle.machine_steps.specs.Message.{Part, message, remap_message}
use Rattle.letters.specs.declared.pair.Pair.{Pair}
use Rattle.machine_steps.specs.Rounds.{remap_rounds}
use Rattle.message_text.specs.Parts.{Setting, part_of, space_of, anchor_of, with_copy, with_copies, with_copied, copies_of}
use Rattle.run_report.specs.TupleText.{tuple_text}

-- ---- elements and lines

-- the scalar whose copies a row has, by rows with their scalars
abbrev pub scalar_of : (copies copied : List ℕ) → ℕ → Option ℕ
scalar_of (c ∷ cs) (k ∷ ks) row = if nat_eq c row then Some k else scalar_of cs ks row
scalar_of cs ks row = None

-- a copy of a scalar is written by its name, as in `T@(3)`; another row is a declared name, or the copy of a mask or of a condition
abbrev pub name_by : Setting → Option ℕ → ℕ → List ℕ
name_by s (Some k) row = slice_index_or s.names k [] ++ codes "@"
name_by s None row = slice_index_or s.names row (codes "?@")

abbrev pub row_name : Setting → ℕ → List ℕ
row_name s row = name_by s (scalar_of s.copies s.copied row) row

abbrev pub subscripts_text : Option Layout → ℕ → List ℕ
subscripts_text None at = []
subscripts_text (Some layout) at = tuple_text (element_index layout.shape at)

abbrev pub spot_text : Setting → List Layout → Spot → List ℕ
spot_text s layouts spot = row_name s spot.row ++ subscripts_text (slice_get layouts spot.row) spot.at

abbrev pub spots_text : Setting → List Layout → List Spot → List ℕ
spots_text s layouts = flat_map (λ spot. codes " " ++ spot_text s layouts spot)

-- the line of a message; a message without elements has none
abbrev pub message_line : List ℕ → (p q : ℕ) → Setting → List Layout → List Spot → List ℕ
message_line head p q s layouts [] = []
message_line head p q s layouts (spot ∷ spots) =
    head ++ decimal p ++ codes " -> " ++ decimal q ++ codes ":" ++ spots_text s layouts (spot ∷ spots) ++ codes "\n"

-- ---- entries

abbrev pub line_head : ℕ → List ℕ
line_head line = codes "line " ++ decimal line ++ codes ": "

-- the messages of a part of a line, by source and then by target
abbrev pub part_lines : Setting → List Layout → ℕ → Part → List ℕ
part_lines s layouts line part =
    flat_map (λ p. flat_map (λ q. message_line (line_head line) p q s layouts (message s.nodes layouts part p q)) (range_with_len 0 s.nodes)) (range_with_len 0 s.nodes)

-- those of a redistribution, by round, the first of which has this number, and then by source
abbrev pub round_lines : Setting → ℕ → (old new : List Layout) → ℕ → List Pair → List ℕ
round_lines s line old new r =
    flat_map (λ pair. message_line (line_head line ++ codes "round " ++ decimal r ++ codes ": ") pair.from.0 pair.to.0 s old
    (remap_message s.nodes old new pair.from.0 pair.to.0))

abbrev pub rounds_lines : Setting → ℕ → (old new : List Layout) → ℕ → List (List Pair) → List ℕ
rounds_lines s line old new r [] = []
rounds_lines s line old new r (round ∷ rounds) = round_lines s line old new r round ++ rounds_lines s line old new (suc r) rounds

abbrev pub redistribution_lines : Setting → ℕ → (old new : List Layout) → List ℕ
redistribution_lines s line old new = rounds_lines s line old new 1 (remap_rounds s.nodes old new)

-- the lines of an event of a line, where the declared names lie so
abbrev pub event_lines : Setting → List Layout → ℕ → List ℤ → Event → List ℕ
event_lines s layouts line scalars Redistributed = redistribution_lines s line layouts (remapped (s.moves line) layouts)
event_lines s layouts line scalars (OfNest nest asked part) =
    let ls = with_copies s layouts (length nest.assigned + nest.conditions) (anchor_of scalars (OfNest nest asked part)) (index_extents nest.axes) in
    part_lines (with_copied s (copies_of nest scalars) nest.assigned) ls line (part_of s ls scalars (OfNest nest asked part))
event_lines s layouts line scalars event =
    let ls = with_copy s layouts (anchor_of scalars event) (space_of event) in
    part_lines s ls line (part_of s ls scalars event)

abbrev pub entry_lines : Setting → List Layout → TrailEntry → List ℕ
entry_lines s layouts e = event_lines s layouts e.line e.scalars e.event

-- the lines of a trail that begins where the declared names lie so: the mappings now are those at the start with the redistributions
-- so far
abbrev pub trail_lines : Setting → List Layout → Trail → List ℕ
trail_lines s layouts [] = []
trail_lines s layouts (e ∷ es) = entry_lines s layouts e ++ trail_lines s (layouts_after s.moves e.line e.event layouts) es
