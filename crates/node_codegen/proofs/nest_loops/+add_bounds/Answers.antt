use Rattle.std.proofs.Common.{◌≡◌, ◌+◌, ◌-◌, [], ◌∷◌, ◌++◌, OnOk, append_assoc, sym, ap, ◌∙◌, subst}
use Rattle.node_code.specs.Texts.{instructions}
use Rattle.resolved_program.specs.Resolved.{block_of, inner_loops, loop_of}
use Rattle.program_code.specs.NestCode.{bounds_code}
use Rattle.node_codegen.proofs.InnerLoops.{loops_more}
use Rattle.node_codegen.proofs.nest_loops.+add_bounds.Goals as goal

pub returns-in_ok-add_loop_bounds-in-Some : goal.returns-in_ok-add_loop_bounds-in-Some
returns-in_ok-add_loop_bounds-in-Some t c =
    let inner = c.in-Some.inner in
    let line = c.args.line in
    let before = instructions c.args.code.now.items in
    let later = inner_loops (c.args.n - 1) (block_of inner.body.now.items) in
    let own = bounds_code line c.args.v (loop_of inner.head.now ∷ []) in
    let whole = loops_more c.args.n (block_of c.args.body.now.items) (loop_of inner.head.now) (λ m. inner_loops m (block_of inner.body.now.items)) c.if-n-eq0.false c.in-Some.ensures.loops in
    subst (λ w. OnOk c.add_bounds.result (instructions c.add_bounds.new.code.items ≡ w))
    ((λ i. c.in_ok-add_loop_bounds-in-Some.ensures i ++ ap (λ v. bounds_code line v later) c.in_ok-next-in-Some.ensures i)
    ∙ append_assoc before own (bounds_code line (c.args.v + 4) later)
    ∙ ap (λ ls. before ++ bounds_code line c.args.v ls) (sym whole))
    c.add_bounds.ensures
