use Rattle.std.proofs.Common.{List, length, sym, ap, ◌∙◌, subst}
use Rattle.crossbeam_queue.specs.Passes.{ruled_capacity}
use Rattle.pair_mailbox.specs.declared.route.Route.{Route}
use Rattle.letters.specs.declared.letter.Letter.{Letter}
use Rattle.pair_mailbox.specs.declared.rule.View.{View}
use Rattle.pair_mailbox.specs.Rule.{IsNextLetter}
use Rattle.pair_mailbox.specs.Ends.{Outgoing}
use Rattle.pair_mailbox.proofs.Steps.{pushes, full}
use Rattle.pair_mailbox.proofs.ends.OutEnd.send.Goals as goal

pub push_as-requires-clause-rule : goal.push_as-requires-clause-rule
push_as-requires-clause-rule g c =
    let may = ap (λ (v : View). v.sends) c.self.invariant.2 in
    let route = sym (ap (λ (o : Outgoing). o.route) c.self.view_is) ∙ sym (ap (λ (v : View). v.route) c.self.invariant.2) in
    let sent = sym (ap (λ (o : Outgoing). o.sent) c.self.view_is) in (
      pushes _ _ _ _ (ap ruled_capacity c.deref.ensures ∙ c.self.invariant.1) may
          (subst (λ (y : Route × List Letter). IsNextLetter y.0 (length y.1) c.args.letter) (λ i. (route i, sent i)) c.requires),
      full _ _ may,
    )
