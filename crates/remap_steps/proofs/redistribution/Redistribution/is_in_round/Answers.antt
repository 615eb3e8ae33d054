use Rattle.std.proofs.Common.{[], get_or, map, ◌∙◌, ap}
use Rattle.std.specs.List.{list_any}
use Rattle.machine_steps.specs.Rounds.{is_pair}
use Rattle.remap_steps.proofs.Made.{seen}
use Rattle.remap_steps.proofs.Nodes.{got, stands-sends}
use Rattle.remap_steps.proofs.redistribution.Redistribution.is_in_round.Goals as goal

pub returns-then-round-len : goal.returns-then-round-len
returns-then-round-len c =
    let v = c.args.self.now in
    let s = seen c.self.inside v c.self.view_is c.self.invariant in
    c.is_among.ensures
    ∙ ap (list_any (is_pair c.args.from c.args.to)) (got (map (λ v. v.items) c.self.inside.rounds.list.items) c.args.round c.pairs.result.now [] c.pairs.ensures ∙ ap (λ rounds. get_or rounds c.args.round []) s.rounds)
    ∙ stands-sends v.nodes v.old v.new c.args.round c.args.from c.args.to
