use Rattle.hpf_run.specs.Outcome.{port}
use Rattle.hpf_run.specs.Reply.{outcome_of}
use Rattle.hpf_run.proofs.TopLaws.{delivered-all, delivered-err, delivered-out}
use Rattle.hpf_run.proofs.delivery.deliver.Goals as goal

pub returns-in_default : goal.returns-in_default
returns-in_default g c =
    delivered-out (outcome_of c.args.reply)
    (port (g.O.Sink.held c.args.out.now) (g.O.Sink.faults c.args.out.now))
    (port (g.O.Sink.held c.write_all.new.out) (g.O.Sink.faults c.write_all.new.out))
    (port (g.E.Sink.held c.args.err.now) (g.E.Sink.faults c.args.err.now))
    c.out.result.now c.out.ensures c.in_default.ensures.failed c.in_default.ensures.prefix

pub returns-in_default-write_all : goal.returns-in_default-write_all
returns-in_default-write_all g c =
    delivered-err (outcome_of c.args.reply)
    (port (g.O.Sink.held c.args.out.now) (g.O.Sink.faults c.args.out.now))
    (port (g.O.Sink.held c.write_all.new.out) (g.O.Sink.faults c.write_all.new.out))
    (port (g.E.Sink.held c.args.err.now) (g.E.Sink.faults c.args.err.now))
    (port (g.E.Sink.held c.write_all-2.new.out) (g.E.Sink.faults c.write_all-2.new.out))
    c.out.result.now c.err.result.now c.out.ensures c.err.ensures c.in-Ok.ensures.ok c.in_default-write_all.ensures.failed c.in_default-write_all.ensures.prefix

pub returns : goal.returns
returns g c =
    delivered-all (outcome_of c.args.reply)
    (port (g.O.Sink.held c.args.out.now) (g.O.Sink.faults c.args.out.now))
    (port (g.O.Sink.held c.write_all.new.out) (g.O.Sink.faults c.write_all.new.out))
    (port (g.E.Sink.held c.args.err.now) (g.E.Sink.faults c.args.err.now))
    (port (g.E.Sink.held c.write_all-2.new.out) (g.E.Sink.faults c.write_all-2.new.out))
    c.out.result.now c.err.result.now c.status-status.result c.into_ran.result c.out.ensures c.err.ensures c.status-status.ensures c.into_ran.ensures c.in-Ok.ensures.ok c.in-Ok-write_all.ensures.ok
