use Rattle.std.proofs.Common.{◌≡◌, ◌+◌, ◌*◌, ◌≤◌, length, sym, ◌∙◌, ap, subst, arith}
use Rattle.std.specs.Int.{w64}
use Rattle.std.proofs.lemmas.Int.{to_z-of_z}
use Rattle.std.specs.List.{range_with_len}
use Rattle.std.specs.Prelude.{unsigned_abs, filter}
use Rattle.mappings.specs.declared.mapping.Form.TheVariants.{Cyclic, Gen}
use Rattle.mappings.specs.GenBlock.{size_before}
use Rattle.mappings.proofs.GenBlocks.{size_before-small}
use Rattle.hpf_base.specs.declared.limits.TheConstants.{MAX_NODES}
use Rattle.mappings.specs.declared.limits.TheConstants.{MAX_BLOCK}
use Rattle.std.proofs.Math.Nat.{mul-le-mul_right}
use Rattle.mappings.specs.Positions.{in_section}
use Rattle.mappings.specs.Mapping.{IsForm}
use Rattle.gap_table.specs.GapTable.{places_of}
use Rattle.gap_table.specs.OwnedSequence.{owned_under, position_of}
use Rattle.gap_table.proofs.Spans.{places_block, places_gen, places_whole, section_limited}
use Rattle.gap_table.proofs.table.GapTable.build.Goals as goal
use Rattle.gap_table.proofs.table.GapTable.build.Goals.{in-Whole+in_ok-table-in-Whole, in-Block+in_ok-table-in-Block, in-Cyclic+in_ok-table-in-Cyclic, in-Gen+in_ok-table-in-Gen}

pub section_table-requires-clause-section : goal.section_table-requires-clause-section
section_table-requires-clause-section g c =
    section_limited c.args.line.now c.args.start c.args.count c.args.stride _ (to_z-of_z w64 c.args.stride c.ranges.stride) c.requires.line c.requires.stride
    (omega (arith, c.if-count-eq0.false)) c.requires.section

pub section_table-requires-in-Block-clause-section : goal.section_table-requires-in-Block-clause-section
section_table-requires-in-Block-clause-section g c =
    section_limited c.args.line.now c.args.start c.args.count c.args.stride _ (to_z-of_z w64 c.args.stride c.ranges.stride) c.requires.line c.requires.stride
    (omega (arith, c.if-count-eq0.false)) c.requires.section

pub section_table-requires-in-Gen-clause-section : goal.section_table-requires-in-Gen-clause-section
section_table-requires-in-Gen-clause-section g c =
    section_limited c.args.line.now c.args.start c.args.count c.args.stride _ (to_z-of_z w64 c.args.stride c.ranges.stride) c.requires.line c.requires.stride
    (omega (arith, c.if-count-eq0.false)) c.requires.section

pub cyclic_table-requires-clause-section : goal.cyclic_table-requires-clause-section
cyclic_table-requires-clause-section g c =
    section_limited c.args.line.now c.args.start c.args.count c.args.stride _ (to_z-of_z w64 c.args.stride c.ranges.stride) c.requires.line c.requires.stride
    (omega (arith, c.if-count-eq0.false)) c.requires.section

pub overflow_add-first : goal.overflow_add-first
overflow_add-first g c =
    let line = c.args.line.now in
    let given : IsForm (Gen c.in-Gen.sizes) line.extent line.procs = subst (λ f. IsForm f line.extent line.procs) c.in-Gen.is c.requires.line.form in
    let all = size_before-small MAX_BLOCK c.in-Gen.sizes c.args.node given.1 in
    let few-sizes : length c.in-Gen.sizes ≤ MAX_NODES = omega (arith, given.0, c.requires.line.few) in
    let few : length c.in-Gen.sizes * MAX_BLOCK ≤ MAX_NODES * MAX_BLOCK = mul-le-mul_right MAX_BLOCK few-sizes in
    omega (arith, c.before-first.ensures, all, few)

pub returns-clause-places : goal.returns-clause-places
returns-clause-places g c =
    let line = c.args.line.now in
    elim c.match-line.branch [
      | in-Whole+in_ok-table-in-Whole w ↦
          let one : line.procs ≡ 1 = subst (λ f. IsForm f line.extent line.procs) w.in-Whole.is c.requires.line.form in
          ap places_of w.table-is
          ∙ w.in_ok-table-in-Whole.ensures.places
          ∙ ap (λ s. filter (λ j. in_section 1 line.extent (unsigned_abs (position_of c.args.start s j))) (range_with_len 0 c.args.count))
          (to_z-of_z w64 c.args.stride c.ranges.stride)
          ∙ places_whole line.procs c.args.node c.args.start c.args.count c.args.stride line (omega (arith, one, c.requires.node)) c.requires.section
          ∙ ap (λ f. owned_under f line.procs c.args.node c.args.start c.args.stride c.args.count) (sym w.in-Whole.is)
      | in-Block+in_ok-table-in-Block w ↦
          ap places_of w.table-is
          ∙ w.in_ok-table-in-Block.ensures.places
          ∙ ap (λ s. filter (λ j. in_section (c.args.node * w.in-Block.m + 1) ((c.args.node + 1) * w.in-Block.m) (unsigned_abs (position_of c.args.start s j)))
          (range_with_len 0 c.args.count)) (to_z-of_z w64 c.args.stride c.ranges.stride)
          ∙ places_block w.in-Block.m line.procs c.args.node c.args.start c.args.count c.args.stride line
          (subst (λ f. IsForm f line.extent line.procs) w.in-Block.is c.requires.line.form).0 c.requires.section
          ∙ ap (λ f. owned_under f line.procs c.args.node c.args.start c.args.stride c.args.count) (sym w.in-Block.is)
      | in-Cyclic+in_ok-table-in-Cyclic w ↦
          ap places_of w.table-is
          ∙ w.in_ok-table-in-Cyclic.ensures.places
          ∙ ap (λ s. owned_under (Cyclic w.in-Cyclic.k) line.procs c.args.node c.args.start s c.args.count) (to_z-of_z w64 c.args.stride c.ranges.stride)
          ∙ ap (λ f. owned_under f line.procs c.args.node c.args.start c.args.stride c.args.count) (sym w.in-Cyclic.is)
      | in-Gen+in_ok-table-in-Gen w ↦
          let given : IsForm (Gen w.in-Gen.sizes) line.extent line.procs = subst (λ f. IsForm f line.extent line.procs) w.in-Gen.is c.requires.line.form in
          ap places_of w.table-is
          ∙ w.in_ok-table-in-Gen.ensures.places
          ∙ ap (λ s. filter (λ j. in_section (w.before-first.result + 1) w.end.result (unsigned_abs (position_of c.args.start s j))) (range_with_len 0 c.args.count))
          (to_z-of_z w64 c.args.stride c.ranges.stride)
          ∙ ap (λ n. filter (λ j. in_section (n + 1) w.end.result (unsigned_abs (position_of c.args.start c.args.stride j))) (range_with_len 0 c.args.count))
          w.before-first.ensures
          ∙ ap (λ n. filter (λ j. in_section (size_before w.in-Gen.sizes c.args.node + 1) n (unsigned_abs (position_of c.args.start c.args.stride j)))
          (range_with_len 0 c.args.count)) w.end.ensures.value
          ∙ places_gen w.in-Gen.sizes line.procs c.args.node c.args.start c.args.count c.args.stride line (omega (arith, given.0, c.requires.node)) given.2
          c.requires.section
          ∙ ap (λ f. owned_under f line.procs c.args.node c.args.start c.args.stride c.args.count) (sym w.in-Gen.is)
    ]
