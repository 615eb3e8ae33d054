use Rattle.std.proofs.Common.{◌≡◌, ◌+◌, ◌-◌, ◌^◌, ◌≤◌, false, All, FitsSigned, IfSome, arith, eqb-true, filter, of_z, rules, sym, ◌∙◌, ap, subst, to_z}
use Rattle.std.proofs.lemmas.Int.{to_z-of_z}
use Rattle.std.specs.Int.{w64, w128}
use Rattle.std.specs.List.{range_with_len}
use Rattle.hpf_base.specs.Grid.{node_coordinates}
use Rattle.gap_table.specs.GapTable.{places_of}
use Rattle.gap_table.proofs.Tables.{filter-agree}
use Rattle.mappings.specs.Mapping.{InLine}
use Rattle.courses.specs.AxisTables.{subscript_on}
use Rattle.courses.specs.Subscripts.{along_dims, in_dim}
use Rattle.owned_places.specs.Candidates.{AreCandidates, IsTableOf}
use Rattle.owned_places.specs.Dims.{entries_asking, given_along, held_dim}
use Rattle.owned_places.proofs.AlongAxis.{InBoundsBetween, held-along, held-inside, held-within, in-bounds-between, inside-at, moved}
use Rattle.owned_places.proofs.Entries.{along-inside, bounds-fit}
use Rattle.owned_places.proofs.HeldDims.{and-parts}
use Rattle.owned_places.proofs.KeptPlaces.{candidates-from, candidates-in}
use Rattle.owned_places.proofs.LineSections.{at-first, none-asks}
use Rattle.owned_places.proofs.candidates.candidates_along.Goals as goal

pub returns-then-count-lt2 : goal.returns-then-count-lt2
returns-then-count-lt2 c =
    let dims = c.args.dims.now in
    let k = c.args.k in
    let first = c.args.first in
    let step = c.args.step in
    let begin = c.span_of-begin.result.begin in
    let end = c.span_of-begin.result.end in
    let first-is : to_z w64 (of_z w64 c.args.first) ≡ c.args.first = to_z-of_z w64 c.args.first c.ranges.first in
    let step-is : to_z w64 (of_z w64 c.args.step) ≡ c.args.step = to_z-of_z w64 c.args.step c.ranges.step in
    let places : InBoundsBetween c.args.dims.now c.args.k c.args.first c.args.step c.args.extent c.span_of-begin.result.begin c.span_of-begin.result.end =
    in-bounds-between dims k _ first _ step _ c.args.extent begin end c.requires.dim first-is step-is c.span_of-begin.ensures.places in
    let order = c.span_of-begin.ensures.order in
    let within = c.span_of-begin.ensures.within in
    let fits : c.span_of-begin.result.begin + (c.span_of-begin.result.end - c.span_of-begin.result.begin) ≤ c.args.extent = omega (arith, order, within) in
    subst (AreCandidates (λ place. held_dim dims c.args.mapping.now c.args.node k (subscript_on first step place)) c.args.extent) (sym c.places_from.ensures)
    (candidates-from (λ place. held_dim dims c.args.mapping.now c.args.node k (subscript_on first step place)) c.args.extent begin (end - begin) false fits
    (held-within dims c.args.mapping.now c.args.node k first step c.args.extent begin end places) (λ never. absurd cc))

pub narrow-i-requires : goal.narrow-i-requires
narrow-i-requires c =
    let dims = c.args.dims.now in
    let k = c.args.k in
    let first = c.args.first in
    let step = c.args.step in
    let begin = c.span_of-begin.result.begin in
    let end = c.span_of-begin.result.end in
    let first-is : to_z w64 (of_z w64 c.args.first) ≡ c.args.first = to_z-of_z w64 c.args.first c.ranges.first in
    let step-is : to_z w64 (of_z w64 c.args.step) ≡ c.args.step = to_z-of_z w64 c.args.step c.ranges.step in
    let places : InBoundsBetween c.args.dims.now c.args.k c.args.first c.args.step c.args.extent c.span_of-begin.result.begin c.span_of-begin.result.end =
    in-bounds-between dims k _ first _ step _ c.args.extent begin end c.requires.dim first-is step-is c.span_of-begin.ensures.places in
    let wide : FitsSigned w128 c.subscript_on.result = search rules in
    let i-is : to_z w128 (of_z w128 c.subscript_on.result) ≡ subscript_on c.args.first c.args.step c.span_of-begin.result.begin =
    to_z-of_z w128 c.subscript_on.result wide ∙ c.subscript_on.ensures ∙ (λ n. subscript_on (first-is n) (step-is n) begin) in
    let two = c.if-count-lt2.false in
    let within = c.span_of-begin.ensures.within in
    subst (FitsSigned w64) (sym i-is)
    (bounds-fit dims c.args.mapping.now k (subscript_on first step begin) c.requires.lie c.requires.dim
    (ap (in_dim dims k) (sym (at-first (subscript_on first step begin) step))
    ∙ inside-at dims k first step c.args.extent begin end 0 places within (omega (arith, two))))

pub table_on-requires-clause-inside : goal.table_on-requires-clause-inside
table_on-requires-clause-inside c = λ j below.
    let dims = c.args.dims.now in
    let k = c.args.k in
    let first = c.args.first in
    let step = c.args.step in
    let begin = c.span_of-begin.result.begin in
    let end = c.span_of-begin.result.end in
    let first-is : to_z w64 (of_z w64 c.args.first) ≡ c.args.first = to_z-of_z w64 c.args.first c.ranges.first in
    let step-is : to_z w64 (of_z w64 c.args.step) ≡ c.args.step = to_z-of_z w64 c.args.step c.ranges.step in
    let places : InBoundsBetween c.args.dims.now c.args.k c.args.first c.args.step c.args.extent c.span_of-begin.result.begin c.span_of-begin.result.end =
    in-bounds-between dims k _ first _ step _ c.args.extent begin end c.requires.dim first-is step-is c.span_of-begin.ensures.places in
    let wide : FitsSigned w128 c.subscript_on.result = search rules in
    let narrow-fits : FitsSigned w64 c.narrow-i.result = search rules in
    let i-is : to_z w64 (of_z w64 c.narrow-i.result) ≡ subscript_on c.args.first c.args.step c.span_of-begin.result.begin =
    to_z-of_z w64 c.narrow-i.result narrow-fits ∙ c.narrow-i.ensures ∙ to_z-of_z w128 c.subscript_on.result wide ∙ c.subscript_on.ensures
    ∙ (λ n. subscript_on (first-is n) (step-is n) begin) in
    let within = c.span_of-begin.ensures.within in
    subst (λ z. All (λ e. InLine e.line (given_along k z e.align)) c.args.mapping.now.dims) (λ n. subscript_on (sym i-is n) (sym step-is n) j)
    (along-inside dims c.args.mapping.now k (subscript_on (subscript_on first step begin) step j) c.requires.lie c.requires.dim
    (inside-at dims k first step c.args.extent begin end j places within below))

pub returns-in-None : goal.returns-in-None
returns-in-None c =
    let dims = c.args.dims.now in
    let k = c.args.k in
    let first = c.args.first in
    let step = c.args.step in
    let begin = c.span_of-begin.result.begin in
    let end = c.span_of-begin.result.end in
    let first-is : to_z w64 (of_z w64 c.args.first) ≡ c.args.first = to_z-of_z w64 c.args.first c.ranges.first in
    let step-is : to_z w64 (of_z w64 c.args.step) ≡ c.args.step = to_z-of_z w64 c.args.step c.ranges.step in
    let places : InBoundsBetween c.args.dims.now c.args.k c.args.first c.args.step c.args.extent c.span_of-begin.result.begin c.span_of-begin.result.end =
    in-bounds-between dims k _ first _ step _ c.args.extent begin end c.requires.dim first-is step-is c.span_of-begin.ensures.places in
    let order = c.span_of-begin.ensures.order in
    let within = c.span_of-begin.ensures.within in
    let fits : c.span_of-begin.result.begin + (c.span_of-begin.result.end - c.span_of-begin.result.begin) ≤ c.args.extent = omega (arith, order, within) in
    subst (AreCandidates (λ place. held_dim dims c.args.mapping.now c.args.node k (subscript_on first step place)) c.args.extent) (sym c.places_from-in-None.ensures)
    (candidates-from (λ place. held_dim dims c.args.mapping.now c.args.node k (subscript_on first step place)) c.args.extent begin (end - begin) _ fits
    (held-within dims c.args.mapping.now c.args.node k first step c.args.extent begin end places)
    (λ none j below. held-inside dims c.args.mapping.now c.args.node k first step c.args.extent begin end j places within below
    (none-asks (node_coordinates c.args.mapping.now.grid c.args.node) c.args.mapping.now.dims k (subscript_on first step (begin + j))
    (sym c.entries_asking-entries.ensures ∙ eqb-true c.entries_asking-entries.result 0 none))))

pub places_in-requires-clause-filtered : goal.places_in-requires-clause-filtered
places_in-requires-clause-filtered c =
    let table = subst (λ o. IfSome o (IsTableOf (λ j. along_dims (node_coordinates c.args.mapping.now.grid c.args.node) c.args.mapping.now.dims c.args.k
    (subscript_on (to_z w64 (of_z w64 c.narrow-i.result)) (to_z w64 (of_z w64 c.args.step)) j)) (c.span_of-begin.result.end - c.span_of-begin.result.begin)))
    c.in-Some.is c.in_ok-table_on.ensures.places in
    let few : c.span_of-begin.result.end - c.span_of-begin.result.begin ≤ 2 ^ 32 = omega (arith, c.span_of-begin.ensures.within, c.requires.few) in
    (table.test, (c.span_of-begin.result.end - c.span_of-begin.result.begin, (few, table.places)))

pub returns-in-Some : goal.returns-in-Some
returns-in-Some c =
    let dims = c.args.dims.now in
    let k = c.args.k in
    let first = c.args.first in
    let step = c.args.step in
    let begin = c.span_of-begin.result.begin in
    let end = c.span_of-begin.result.end in
    let first-is : to_z w64 (of_z w64 c.args.first) ≡ c.args.first = to_z-of_z w64 c.args.first c.ranges.first in
    let step-is : to_z w64 (of_z w64 c.args.step) ≡ c.args.step = to_z-of_z w64 c.args.step c.ranges.step in
    let places : InBoundsBetween c.args.dims.now c.args.k c.args.first c.args.step c.args.extent c.span_of-begin.result.begin c.span_of-begin.result.end =
    in-bounds-between dims k _ first _ step _ c.args.extent begin end c.requires.dim first-is step-is c.span_of-begin.ensures.places in
    let order = c.span_of-begin.ensures.order in
    let within = c.span_of-begin.ensures.within in
    let fits : c.span_of-begin.result.begin + (c.span_of-begin.result.end - c.span_of-begin.result.begin) ≤ c.args.extent = omega (arith, order, within) in
    let wide : FitsSigned w128 c.subscript_on.result = search rules in
    let narrow-fits : FitsSigned w64 c.narrow-i.result = search rules in
    let i-is : to_z w64 (of_z w64 c.narrow-i.result) ≡ subscript_on c.args.first c.args.step c.span_of-begin.result.begin =
    to_z-of_z w64 c.narrow-i.result narrow-fits ∙ c.narrow-i.ensures ∙ to_z-of_z w128 c.subscript_on.result wide ∙ c.subscript_on.ensures
    ∙ (λ n. subscript_on (first-is n) (step-is n) begin) in
    let coordinates = node_coordinates c.args.mapping.now.grid c.args.node in
    c.places_in.ensures (λ place. held_dim dims c.args.mapping.now c.args.node k (subscript_on first step place)) c.args.extent
    (candidates-in (λ place. held_dim dims c.args.mapping.now c.args.node k (subscript_on first step place)) _ c.args.extent begin (end - begin) c.in-Some.table _ fits
    (held-within dims c.args.mapping.now c.args.node k first step c.args.extent begin end places)
    (λ j held. (λ n. along_dims coordinates c.args.mapping.now.dims k (((λ l. subscript_on (i-is l) (step-is l) j) ∙ sym (moved first step begin j)) n)) ∙ (and-parts _ _ held).1)
    (subst (λ o. IfSome o (IsTableOf (λ j. along_dims coordinates c.args.mapping.now.dims k
    (subscript_on (to_z w64 (of_z w64 c.narrow-i.result)) (to_z w64 (of_z w64 c.args.step)) j)) (end - begin))) c.in-Some.is c.in_ok-table_on.ensures.places)
    (λ one. subst (λ o. IfSome o (λ t. entries_asking k c.args.mapping.now.dims ≡ 1 → places_of t ≡ filter (λ j. along_dims coordinates c.args.mapping.now.dims k
    (subscript_on (to_z w64 (of_z w64 c.narrow-i.result)) (to_z w64 (of_z w64 c.args.step)) j)) (range_with_len 0 (end - begin)))) c.in-Some.is
    c.in_ok-table_on.ensures.exact (sym c.entries_asking-entries.ensures ∙ eqb-true c.entries_asking-entries.result 1 one)
    ∙ filter-agree _ (λ j. held_dim dims c.args.mapping.now c.args.node k (subscript_on first step (begin + j))) 0 (end - begin)
    (λ j low below. (λ n. along_dims coordinates c.args.mapping.now.dims k (((λ l. subscript_on (i-is l) (step-is l) j) ∙ sym (moved first step begin j)) n))
    ∙ sym (held-along dims c.args.mapping.now c.args.node k first step c.args.extent begin end j places within (omega (arith, below))))))
