use Rattle.std.proofs.Common.{◌≡◌, ℕ, suc, ◌+◌, ◌-◌, ◌*◌, IfOk, length, arith, ap, subst}
use Rattle.resolved_program.specs.Resolved.{block_of, inner_loops, loop_of}
use Rattle.node_codegen.proofs.InnerLoops.{loops_more}
use Rattle.node_codegen.proofs.nest_loops.+loops_slots.Goals as goal

-- four more
slots_next : (slots more count : ℕ) → slots ≡ 4 * more → count ≡ suc more → slots + 4 ≡ 4 * count
slots_next slots more count is number = omega (arith, is, number)

pub returns-in_ok-loops_slots-in-Some : goal.returns-in_ok-loops_slots-in-Some
returns-in_ok-loops_slots-in-Some t c =
    let inner = c.in-Some.inner in
    let later = inner_loops (c.args.n - 1) (block_of inner.body.now.items) in
    let whole = loops_more c.args.n (block_of c.args.body.now.items) (loop_of inner.head.now) (λ m. inner_loops m (block_of inner.body.now.items)) c.if-n-eq0.false c.in-Some.ensures.loops in
    subst (λ k. IfOk c.plus.result (λ m. m ≡ k))
    (slots_next c.in_ok-loops_slots-in-Some.field-0 (length later) (length (inner_loops c.args.n (block_of c.args.body.now.items))) c.in_ok-loops_slots-in-Some.ensures (ap length whole)) c.plus.ensures
