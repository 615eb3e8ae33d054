use Rattle.std.proofs.Common.{◌≤◌, map, sym, subst, arith}
use Rattle.round_color.specs.Table.{ends}
use Rattle.round_color.proofs.Results.{sends-few, takes-few, edges-distinct, edges-between}
use Rattle.round_color.proofs.loads.load.Goals as goal

pub overflow_cast-sends : goal.overflow_cast-sends
overflow_cast-sends c =
    let few : c.sends.result ≤ c.args.nodes = subst (λ n. n ≤ c.args.nodes) (sym c.sends.ensures)
    (sends-few c.args.nodes (map ends c.args.edges.now) (edges-between c.args.nodes c.args.edges.now c.requires.between)
    (edges-distinct c.args.edges.now c.requires.distinct) c.args.node) in
    let fits = c.ranges.nodes.fits in
    omega (arith, few, fits)

pub overflow_cast-takes : goal.overflow_cast-takes
overflow_cast-takes c =
    let few : c.takes.result ≤ c.args.nodes = subst (λ n. n ≤ c.args.nodes) (sym c.takes.ensures)
    (takes-few c.args.nodes (map ends c.args.edges.now) (edges-between c.args.nodes c.args.edges.now c.requires.between)
    (edges-distinct c.args.edges.now c.requires.distinct) c.args.node) in
    let fits = c.ranges.nodes.fits in
    omega (arith, few, fits)
