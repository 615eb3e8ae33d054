use Rattle.std.proofs.Common.{rules, ◌≡◌, ◌+◌, ◌++◌, ◌∙◌, List, ap, All, length, map, refl, subst, sym}
use Rattle.array_maps.specs.declared.maps.NewMap.{NewMap}
use Rattle.array_maps.specs.declared.maps.Redistribution.{Redistribution}
use Rattle.array_maps.specs.Maps.{AreNewMaps, IsNewMap}
use Rattle.nodes_lowered.specs.NewMappings.{numbered}
use Rattle.compiled_program.specs.NewTables.{new_table, new_tables}
use Rattle.compiled_program.proofs.Numbering.{count_next, holds_of, moves_next, tables_next}
use Rattle.compiled_program.proofs.moves.numbered_moves.Goals as goal

pub push_tables-requires-clause-valid : goal.push_tables-requires-clause-valid
push_tables-requires-clause-valid c =
    subst (All (IsNewMap c.args.nodes c.args.arrays.now)) (sym c.as_slice-news.ensures)
    (holds_of (λ (r : Redistribution). AreNewMaps c.args.nodes c.args.arrays.now r.maps) c.args.all.now c.loop-one.one-index c.one-item.result c.requires.valid c.loop-one-test.true c.one-item.is).each

pub loop-one-preserved : goal.loop-one-preserved
loop-one-preserved c =
    let count : c.len.result ≡ length c.loop-one.tables.items = search rules in
    record {
      tables = tables_next c.args.nodes c.args.arrays.now c.loop-one.tables.items c.push_tables.new.tables.items (new_tables c.args.nodes c.args.arrays.now c.args.all.now) c.args.all.now
          c.loop-one.one-index c.one-item.result c.loop-one-test.true c.one-item.is
          (c.in_ok-push_tables.ensures ∙ ap (λ l. c.loop-one.tables.items ++ map (new_table c.args.nodes c.args.arrays.now) l) c.as_slice-news.ensures) c.loop-one.invariant.tables;
      moves = λ line. moves_next c.args.places.now c.loop-one.moves.items c.push.new.self.items _ (length c.loop-one.tables.items) (length c.push_tables.new.tables.items)
          c.args.all.now c.loop-one.one-index c.one-item.result c.loop-one-test.true c.one-item.is c.in_ok-push.ensures.items refl
          (c.in_ok-maps.ensures ∙ (λ i. numbered c.args.places.now (count i) (c.as_slice-news.ensures i)))
          (count_next c.args.nodes c.args.arrays.now c.loop-one.tables.items c.push_tables.new.tables.items c.as_slice-news.result.now c.in_ok-push_tables.ensures
          ∙ ap (λ (l : List NewMap). length c.loop-one.tables.items + length l) c.as_slice-news.ensures)
          line (c.loop-one.invariant.moves line);
    }
