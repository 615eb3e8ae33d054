use Rattle.std.proofs.Common.{◌≡◌, ℕ, map, take, ◌∙◌, sym, ap, subst}
use Rattle.std.proofs.lemmas.List.{take_all}
use Rattle.std.specs.Option.{unwrap_or}
use Rattle.round_color.specs.Coloring.{Colors, degree, coloring}
use Rattle.round_color.specs.Proper.{IsColoring}
use Rattle.round_color.specs.Table.{seen, ends}
use Rattle.round_color.proofs.Results.{is-coloring, edges-distinct, edges-between}
use Rattle.round_color.proofs.coloring.color.Goals as goal

pub returns-clause-proper : goal.returns-clause-proper
returns-clause-proper c =
    let es = map ends c.args.edges.now in
    let all : take c.loop-edge.edge-index c.args.edges.now ≡ c.args.edges.now = take_all c.loop-edge.edge-index c.args.edges.now c.loop-edge-test.false in
    let value : c.loop-edge.colors.items ≡ coloring c.args.nodes es =
    c.loop-edge.invariant
    ∙ ap (λ l. map (λ (e : ℕ × ℕ). unwrap_or (seen c.args.nodes c.in_ok-table.table.items e.0 e.1) 0) (map ends l)) all
    ∙ ap (λ (f : Colors). map (λ (e : ℕ × ℕ). unwrap_or (f e.0 e.1) 0) es) c.in_ok-table.ensures.value in
    subst (IsColoring es (degree c.args.nodes es)) (sym value)
    (is-coloring c.args.nodes es (edges-between c.args.nodes c.args.edges.now c.requires.between) (edges-distinct c.args.edges.now c.requires.distinct))
