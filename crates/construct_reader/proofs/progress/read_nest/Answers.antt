use Rattle.std.proofs.Common.{◌≡◌, [], arith, length, subst}
use Rattle.construct_rules.specs.ProgramLine.{lines_of}
use Rattle.construct_reader.proofs.Lists.{nil_length}
use Rattle.construct_reader.specs.Progress.{IsProgress}
use Rattle.construct_reader.proofs.progress.read_nest.Goals as goal
use Rattle.construct_reader.proofs.progress.read_nest.Goals.{In-None}

pub further-requires : goal.further-requires
further-requires c =
    let ls = lines_of c.args.lines.items in
    record {
      held = (
        ls,
        c.requires.0,
        lines_of c.next.new.self.rest.items,
        subst (λ xs. IsProgress ls c.requires.0 c.loop-line.so_far (lines_of xs)) c.in-Some.ensures.steps.0 (c.loop-line.invariant c.requires.0 c.requires.1),
      );
    }

pub loop-line-preserved : goal.loop-line-preserved
loop-line-preserved c last h =
    let ls = lines_of c.args.lines.items in
    c.in_ok-so_far.ensures ls last (lines_of c.next.new.self.rest.items)
    (subst (λ xs. IsProgress ls last c.loop-line.so_far (lines_of xs)) c.in-Some.ensures.steps.0 (c.loop-line.invariant last h))

ended : (c : In-None) → IsProgress (lines_of c.args.lines.items) c.requires.0 c.loop-line.so_far []
ended c =
    let rest = c.loop-line.line-iterator.rest in
    let none : length rest.items ≡ 0 = omega (arith, rest.ok.0, c.in-None.ensures.steps.0) in
    subst (λ xs. IsProgress (lines_of c.args.lines.items) c.requires.0 c.loop-line.so_far (lines_of xs)) (nil_length rest.items none)
    (c.loop-line.invariant c.requires.0 c.requires.1)

pub tree-requires : goal.tree-requires
tree-requires c = record { held = (lines_of c.args.lines.items, c.requires.0, ended (goal.at.tree-requires c).In-None) }

pub returns-clause-spelled : goal.returns-clause-spelled
returns-clause-spelled c = (c.tree.ensures (lines_of c.args.lines.items) c.requires.0 (ended (goal.at.returns-clause-spelled c).In-None)).0

pub returns-clause-formed : goal.returns-clause-formed
returns-clause-formed c = (c.tree.ensures (lines_of c.args.lines.items) c.requires.0 (ended (goal.at.returns-clause-formed c).In-None)).1
