use Rattle.std.proofs.Common.{◌≡◌, OnOk, ◌∙◌, subst}
use Rattle.node_machine.proofs.ScanSteps.{scan-begun, scan-passed}
use Rattle.node_machine.proofs.node.Node.begin_scan.Goals as goal

pub returns-in_ok-numbers-clause-ok : goal.returns-in_ok-numbers-clause-ok
returns-in_ok-numbers-clause-ok c =
    let a = c.args.self.now in
    let s = c.args.scan in
    subst (λ x. OnOk c.scan_round.result (c.scan_round.new.self ≡ x))
    (scan-begun a.nodes a _ s.copy _ s.op c.requires.is _ _ c.in_ok-alone.ensures c.if-alone.true c.in_ok-numbers.ensures)
    c.scan_round.ensures.ok

pub returns-else-alone-clause-ok : goal.returns-else-alone-clause-ok
returns-else-alone-clause-ok c =
    let a = c.args.self.now in
    let s = c.args.scan in
    c.pass_scan.ensures ∙ scan-passed a.nodes a _ s.copy _ s.op c.requires.is _ c.in_ok-alone.ensures c.if-alone.false
