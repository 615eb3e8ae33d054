use Rattle.hpf_run.specs.Outcome.{port}
use Rattle.hpf_run.specs.Reply.{outcome_of}
use Rattle.hpf_run.proofs.TopLaws.{alone-answer}
use Rattle.hpf_run.proofs.alone.hpf_alone.Goals as goal

pub returns : goal.returns
returns g c = λ words command.
    alone-answer words
    (port (g.S.Source.left c.args.src.now) (g.S.Source.faults c.args.src.now))
    (port (g.S.Source.left c.reply_alone-reply.new.src) (g.S.Source.faults c.reply_alone-reply.new.src))
    (port (g.O.Sink.held c.args.out.now) (g.O.Sink.faults c.args.out.now))
    (port (g.O.Sink.held c.deliver-answer.new.out) (g.O.Sink.faults c.deliver-answer.new.out))
    (port (g.E.Sink.held c.args.err.now) (g.E.Sink.faults c.args.err.now))
    (port (g.E.Sink.held c.deliver-answer.new.err) (g.E.Sink.faults c.deliver-answer.new.err))
    c.args.job.now (outcome_of c.reply_alone-reply.result) c.deliver-answer.result command c.requires (c.reply_alone-reply.ensures words command) c.deliver-answer.ensures
