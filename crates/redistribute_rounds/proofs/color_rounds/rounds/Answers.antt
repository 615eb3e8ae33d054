use Rattle.std.proofs.Common.{List, length, ◌∙◌, sym, ap, subst}
use Rattle.letters.specs.declared.pair.Pair.{Pair}
use Rattle.redistribute_rounds.specs.Rounds.{AreLegal}
use Rattle.redistribute_rounds.proofs.Full.{count-rounds}
use Rattle.redistribute_rounds.proofs.Legal.{colors-legal}
use Rattle.round_color.proofs.Members.{length-mapped}
use Rattle.redistribute_rounds.proofs.color_rounds.rounds.Goals as goal

pub returns-clause-legal : goal.returns-clause-legal
returns-clause-legal c = subst (AreLegal c.args.pairs.now) (sym c.in_ok-list.ensures) (colors-legal c.args.nodes c.args.pairs.now c.requires.between c.requires.distinct)

pub returns-clause-fewest : goal.returns-clause-fewest
returns-clause-fewest c =
    sym (length-mapped (λ v. v.items) c.in_ok-list.list.items) ∙ ap (λ (rounds : List (List Pair)). length rounds) c.in_ok-list.ensures
    ∙ count-rounds c.args.nodes c.args.pairs.now
