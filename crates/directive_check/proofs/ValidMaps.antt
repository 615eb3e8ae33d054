-- The mappings of a program that breaks no rule of mapping directives are valid.
use Rattle.std.proofs.Common.{ℕ, List, [], ◌++◌}
use Rattle.std.specs.List.{flat_map}
use Rattle.hpf_base.specs.ElementOrder.{product}
use Rattle.hpf_base.specs.FirstBreach.{Among}
use Rattle.hpf_base.specs.Grid.{IsGrid}
use Rattle.hpf_base.specs.Refusal.{NoBreach}
use Rattle.syntax_tree.specs.MainProgram.{MainProgram}
use Rattle.statement_walk.specs.Heads.{all_heads}
use Rattle.name_table.specs.Entries.{entries}
use Rattle.array_maps.specs.Maps.{AreMaps}
use Rattle.distribution_rules.specs.Setting.{setting}
use Rattle.directive_check.specs.MappedObjects.{dynamic_breaches, dynamic_names, dynamic_objects, mapped_objects, mapped_twice}
use Rattle.directive_check.specs.MappingRules.{chain_breaches, declared_breaches, mapping_breaches, redistribute_breaches_at}
use Rattle.directive_check.specs.ProgramMaps.{program_moves, start_maps}
use Rattle.directive_check.proofs.OwnObjects.{all_sized, arrays_own}
use Rattle.directive_check.proofs.ValidMapped.{all_good, no_breach, none_of}
use Rattle.directive_check.proofs.ValidMoves.{moves_valid}
use Rattle.directive_check.proofs.ValidStarts.{starts_valid}

pub valid_maps : (grid : List ℕ) (p : MainProgram) → IsGrid grid → NoBreach (Among (mapping_breaches grid p)) →
    AreMaps (product grid) (record { arrays = start_maps grid p; moves = program_moves grid p })
valid_maps grid p is none =
    let s = setting grid p in
    let ms = mapped_objects p.declarations in
    let names = dynamic_objects p.declarations in
    let declared = declared_breaches s p.declarations in
    let twice = mapped_twice [] ms in
    let chains = chain_breaches s ms in
    let listed = dynamic_breaches s [] (dynamic_names p.declarations) in
    let four = none_of (declared ++ twice ++ chains ++ listed) (flat_map (redistribute_breaches_at s ms names) (all_heads p.body)) (no_breach (mapping_breaches grid p) none) in
    let three = none_of (declared ++ twice ++ chains) listed four.0 in
    let two = none_of (declared ++ twice) chains three.0 in
    let one = none_of declared twice two.0 in
    let sized = all_sized grid p one.0 in
    let good = all_good s p.declarations one.0 in
    let own = arrays_own grid p in
    record {
      arrays = starts_valid s ms (entries p) is sized good two.1 own;
      moves = moves_valid s ms names (entries p) (all_heads p.body) is sized good two.1 own four.1;
    }
