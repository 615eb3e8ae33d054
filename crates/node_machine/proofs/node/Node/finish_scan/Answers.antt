use Rattle.std.proofs.Common.{◌≡◌, OnOk, subst}
use Rattle.node_machine.proofs.ScanSteps.{scan-done}
use Rattle.node_machine.proofs.node.Node.finish_scan.Goals as goal

pub returns-clause-ok : goal.returns-clause-ok
returns-clause-ok c =
    let a = c.args.self.now in
    let s = c.args.scan in
    subst (λ x. OnOk c.scan_round.result (c.scan_round.new.self ≡ x))
    (scan-done a.nodes a _ s.copy _ s.op c.requires.is _ _ _ _ c.in_ok-round.ensures c.scan_came-came.ensures c.in_ok-numbers.ensures c.scan_taken-taken.ensures)
    c.scan_round.ensures.ok
