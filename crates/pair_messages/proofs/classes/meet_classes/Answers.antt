use Rattle.std.proofs.Common.{None, Some, sym, ◌∙◌, ap, subst}
use Rattle.congruences.specs.Progressions.{IsProgression}
use Rattle.pair_messages.proofs.ClassLaws.{common-first, common-none, common-of, common-small, common-some, is-progression, progression}
use Rattle.pair_messages.proofs.classes.meet_classes.Goals as goal

pub meet-requires-clause-p : goal.meet-requires-clause-p
meet-requires-clause-p c = subst IsProgression (sym c.progression_of.ensures) (is-progression c.args.a c.requires.one)

pub meet-requires-clause-q : goal.meet-requires-clause-q
meet-requires-clause-q c = subst IsProgression (sym c.progression_of-2.ensures) (is-progression c.args.b c.requires.other)

pub class_from-requires-clause-first : goal.class_from-requires-clause-first
class_from-requires-clause-first c =
    common-first c.args.a c.args.b c.in-Some.common
    (common-of c.args.a c.args.b _ _ _ (Some c.in-Some.common) c.progression_of.ensures c.progression_of-2.ensures c.in-Some.is c.meet.ensures)

pub class_from-requires-clause-small : goal.class_from-requires-clause-small
class_from-requires-clause-small c =
    common-small c.args.a c.args.b c.in-Some.common c.requires.one
    (common-of c.args.a c.args.b _ _ _ (Some c.in-Some.common) c.progression_of.ensures c.progression_of-2.ensures c.in-Some.is c.meet.ensures)

pub returns-in-Some : goal.returns-in-Some
returns-in-Some c =
    common-some c.args.a c.args.b c.class_from.result
    (common-of c.args.a c.args.b _ _ _ (Some (progression c.class_from.result)) c.progression_of.ensures c.progression_of-2.ensures
    (c.in-Some.is ∙ ap Some c.class_from.ensures) c.meet.ensures)

pub returns-in-None : goal.returns-in-None
returns-in-None c =
    common-none c.args.a c.args.b (common-of c.args.a c.args.b _ _ _ None c.progression_of.ensures c.progression_of-2.ensures c.in-None.is c.meet.ensures)
