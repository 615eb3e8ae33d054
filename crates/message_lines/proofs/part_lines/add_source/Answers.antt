use Rattle.std.proofs.Common.{◌<◌, ap, subst, sym}
use Rattle.message_lines.proofs.part_lines.add_source.Goals as goal

pub exchange_of-requires : goal.exchange_of-requires
exchange_of-requires c = subst (λ n. c.args.from < n) (sym (ap (λ o. o.nodes) c.requires.over)) c.requires.from
