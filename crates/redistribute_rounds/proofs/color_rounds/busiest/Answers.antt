use Rattle.std.proofs.Common.{◌≡◌, ◌≢◌, List, [], length, sym, ap, subst}
use Rattle.letters.specs.declared.pair.Pair.{Pair}
use Rattle.redistribute_rounds.specs.Rounds.{IsBusiest}
use Rattle.redistribute_rounds.proofs.Busiest.{is-busiest, some-nodes}
use Rattle.redistribute_rounds.proofs.Legal.{pairs-between}
use Rattle.redistribute_rounds.proofs.color_rounds.busiest.Goals as goal

pub busiest_node-requires-clause-between : goal.busiest_node-requires-clause-between
busiest_node-requires-clause-between c = pairs-between c.args.nodes c.args.pairs.now c.requires.between

pub returns : goal.returns
returns c =
    let pairs = c.args.pairs.now in
    let some : pairs ≢ [] = λ none. let count : length pairs ≡ 0 = ap (λ (ps : List Pair). length ps) none in c.if-pairs-eq0.false count in
    (some, subst (IsBusiest c.args.nodes pairs) (sym c.busiest_node.ensures) (is-busiest c.args.nodes pairs (some-nodes c.args.nodes pairs c.requires.between some)))
