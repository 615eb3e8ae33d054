use Rattle.std.proofs.Common.{sym, arith}
use Rattle.std.proofs.lemmas.List.Sums.{prefix_len_is}
use Rattle.token_scan.specs.Pieces.{is_in}
use Rattle.token_scan.proofs.run.run_len.Goals as goal

pub returns-then-not-is_in-clause-count : goal.returns-then-not-is_in-clause-count
returns-then-not-is_in-clause-count c = sym (prefix_len_is (is_in c.args.run) c.args.bytes.now c.loop-i.i 0 (omega arith) c.loop-i.invariant (λ _. cc))

pub returns-clause-count : goal.returns-clause-count
returns-clause-count c = sym (prefix_len_is (is_in c.args.run) c.args.bytes.now _ 0 (omega arith) (λ k h. c.loop-i.invariant k (omega arith)) (λ h. absurd (omega arith)))
