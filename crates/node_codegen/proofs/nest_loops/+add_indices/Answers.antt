use Rattle.std.proofs.Common.{◌≡◌, ◌-◌, [], ◌∷◌, ◌++◌, OnOk, append_assoc, map, sym, ap, ◌∙◌, subst}
use Rattle.resolved_program.specs.Resolved.{block_of, inner_loops, loop_of}
use Rattle.node_codegen.proofs.InnerLoops.{loops_more}
use Rattle.node_codegen.proofs.nest_loops.+add_indices.Goals as goal

pub returns-in_ok-push-in-Some : goal.returns-in_ok-push-in-Some
returns-in_ok-push-in-Some t c =
    let inner = c.in-Some.inner in
    let later = inner_loops (c.args.n - 1) (block_of inner.body.now.items) in
    let whole = loops_more c.args.n (block_of c.args.body.now.items) (loop_of inner.head.now) (λ m. inner_loops m (block_of inner.body.now.items)) c.if-n-eq0.false c.in-Some.ensures.loops in
    subst (λ l. OnOk c.add_indices.result (c.add_indices.new.indices.items ≡ l))
    (ap (λ l. l ++ map (λ l. l.index) later) c.in_ok-push-in-Some.ensures.items
    ∙ append_assoc c.args.indices.now.items (inner.head.now.index ∷ []) (map (λ l. l.index) later)
    ∙ ap (λ ls. c.args.indices.now.items ++ map (λ l. l.index) ls) (sym whole))
    c.add_indices.ensures
