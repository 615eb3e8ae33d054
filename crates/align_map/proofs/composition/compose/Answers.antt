use Rattle.std.proofs.Common.{◌≤◌, ◌∙◌, ap, arith, map, length}
use Rattle.std.proofs.lemmas.List.{take_all}
use Rattle.mappings.specs.Alignment.{composed_entry}
use Rattle.align_map.proofs.ComposedLaws.{IsMapping-composed, IsMapping-composed_parts}
use Rattle.align_map.proofs.composition.compose.Goals as goal

pub returns-clause-valid : goal.returns-clause-valid
returns-clause-valid c = λ rank names.
    let all : length c.args.target.now.dims ≤ c.loop-entry.entry-index = omega (arith, ap length c.as_slice-entry-items.ensures) in
    IsMapping-composed_parts c.args.target.now c.args.align.now rank c.copy.result c.new.result
    c.copy.ensures
    (c.new.ensures ∙ c.loop-entry.invariant ∙ ap (map (composed_entry c.args.align.now)) (take_all c.loop-entry.entry-index c.args.target.now.dims all))
    (IsMapping-composed c.args.target.now c.args.align.now rank c.requires.target c.requires.apart names)
