-- The mappings of a program that breaks no rule are known.
use Rattle.std.proofs.Common.{◌≡◌, ℕ, List, [], ◌++◌}
use Rattle.std.specs.List.{AllByRecursion, flat_map}
use Rattle.hpf_base.specs.FirstBreach.{Among}
use Rattle.hpf_base.specs.Grid.{IsGrid}
use Rattle.hpf_base.specs.Refusal.{NoBreach}
use Rattle.syntax_tree.specs.MainProgram.{MainProgram}
use Rattle.expression_rules.specs.Symbols.{SymbolTable}
use Rattle.statement_walk.specs.Heads.{all_heads}
use Rattle.declarations.specs.Declarations.{items, symbol_table}
use Rattle.declarations.specs.DeclarationRules.{item_breaches}
use Rattle.name_table.specs.Entries.{entries}
use Rattle.name_table.specs.KnownSymbols.{AllAreKnown}
use Rattle.name_table.specs.NameRules.{directive_breaches_at, name_breaches}
use Rattle.name_table.specs.RankRules.{declaration_breaches_at, rank_breaches, rank_breaches_at}
use Rattle.name_table.specs.Resolved.{HasNoBreach}
use Rattle.distribution_rules.specs.Setting.{arrays, setting}
use Rattle.directive_check.specs.MappedObjects.{dynamic_breaches, dynamic_names, dynamic_objects, mapped_objects, mapped_twice}
use Rattle.directive_check.specs.MappingRules.{chain_breaches, declared_breaches, mapping_breaches, redistribute_breaches_at}
use Rattle.directive_check.specs.ProgramMaps.{program_moves, start_maps}
use Rattle.known_mappings.specs.StartMappings.{LiesAtStart}
use Rattle.known_mappings.specs.NewMappings.{AreMovesOf, redistributions}
use Rattle.name_table.proofs.Tests.{empties, no_breach}
use Rattle.known_mappings.proofs.Objects.{objects_right, ranks_few}
use Rattle.known_mappings.proofs.Programs.{all_good, found_known, objects_good}
use Rattle.known_mappings.proofs.Starts.{IsFine, arrays_lie}
use Rattle.known_mappings.proofs.Moves.{moves_lie}

-- what is in the lists of breaches
record Parts (grid : List ℕ) (p : MainProgram) : Type 0 where
  fine : IsFine (setting grid p) (mapped_objects p.declarations)
  moves : flat_map (redistribute_breaches_at (setting grid p) (mapped_objects p.declarations) (dynamic_objects p.declarations)) (all_heads p.body) ≡ []
  ranks : flat_map (rank_breaches_at (symbol_table p.declarations)) (all_heads p.body) ≡ []

parts_of : (grid : List ℕ) (p : MainProgram) → AllAreKnown p → IsGrid grid → HasNoBreach p → NoBreach (Among (mapping_breaches grid p)) → Parts grid p
parts_of grid p all_known is rules none =
    let s = setting grid p in
    let t : SymbolTable = symbol_table p.declarations in
    let ms = mapped_objects p.declarations in
    let known = found_known t (all_known rules.names rules.ranks) in
    let names = empties (item_breaches [] (items p.declarations)) (flat_map (directive_breaches_at t) p.declarations)
    (empties _ _ (empties _ _ (empties _ _ (no_breach (name_breaches p) rules.names)).0).0).0 in
    let ranks = empties (flat_map (declaration_breaches_at t) p.declarations) (flat_map (rank_breaches_at t) (all_heads p.body)) (no_breach (rank_breaches p) rules.ranks) in
    let declared = declared_breaches s p.declarations in
    let twice = mapped_twice [] ms in
    let chains = chain_breaches s ms in
    let listed = dynamic_breaches s [] (dynamic_names p.declarations) in
    let four = empties (declared ++ twice ++ chains ++ listed) (flat_map (redistribute_breaches_at s ms (dynamic_objects p.declarations)) (all_heads p.body))
    (no_breach (mapping_breaches grid p) none) in
    let three = empties (declared ++ twice ++ chains) listed four.0 in
    let two = empties (declared ++ twice) chains three.0 in
    let one = empties declared twice two.0 in
    let good = all_good s p.declarations one.0 ranks.0 names.1 (ranks_few p.declarations names.0) in
    record {
      fine = record { grid = is; known = known; right = objects_right grid p known good; good = objects_good s p.declarations good; chains = two.1 };
      moves = four.1;
      ranks = ranks.1;
    }

pub starts_known : (grid : List ℕ) (p : MainProgram) → AllAreKnown p → IsGrid grid → HasNoBreach p → NoBreach (Among (mapping_breaches grid p)) →
    AllByRecursion (λ a. LiesAtStart (setting grid p) (mapped_objects p.declarations) a.name a.start) (start_maps grid p)
starts_known grid p all_known is rules none =
    arrays_lie (setting grid p) (mapped_objects p.declarations) (parts_of grid p all_known is rules none).fine (entries p)

pub moves_known : (grid : List ℕ) (p : MainProgram) → AllAreKnown p → IsGrid grid → HasNoBreach p → NoBreach (Among (mapping_breaches grid p)) →
    AreMovesOf (setting grid p) (mapped_objects p.declarations) (arrays (entries p)) (redistributions p) (program_moves grid p)
moves_known grid p all_known is rules none =
    let parts = parts_of grid p all_known is rules none in
    moves_lie (setting grid p) (mapped_objects p.declarations) parts.fine (dynamic_objects p.declarations) (arrays (entries p)) (all_heads p.body) parts.moves parts.ranks
