use Rattle.std.proofs.Common.{◌||◌, ◌<◌, length, map, All, None, Some, sym, ◌∙◌, ap, subst}
use Rattle.std.proofs.lemmas.List.{length-map}
use Rattle.std.specs.Option.{option_map}
use Rattle.hpf_base.specs.ElementOrder.{product}
use Rattle.storage.specs.Spots.{spot_of}
use Rattle.message_elements.specs.Elements.{is_among}
use Rattle.axis_products.specs.Tests.{Test, and_test}
use Rattle.axis_walks.specs.Lists.{AreBelow}
use Rattle.courses.specs.References.{Named}
use Rattle.course_forms.specs.Views.{named_of}
use Rattle.visited_tuples.specs.Own.{listed_tuples}
use Rattle.visited_tuples.specs.Owned.{owns_named}
use Rattle.pair_messages.specs.Enough.{AreEnough, moves_on}
use Rattle.pair_messages.specs.Sent.{is_named_among}
use Rattle.pair_messages.proofs.Enough.{enough-long, enough-passing, first_places, picked}
use Rattle.pair_messages.proofs.Sending.{listed-below, sent-listed, unsent}
use Rattle.pair_messages.proofs.pair.Pair.add_sent.Goals as goal

pub returns-then-not-sends : goal.returns-then-not-sends
returns-then-not-sends c s =
    let self = c.args.self.now in
    let lies = c.requires.lies in
    let computed : Test = owns_named self.takers.now.layouts self.to (named_of self.left.now) in
    sym (ap (λ b. b || is_among (map spot_of c.args.spots.now.items) s)
    (unsent self.owners.now.nodes self.owners.now.layouts self.extents.now (named_of c.args.read.now) lies.0 self.from self.to lies.1 c.requires.dealt
    c.sends.result (c.sends.ensures lies.0 lies.1.row) computed s c.if-not-sends.true))

pub returns-in_default : goal.returns-in_default
returns-in_default c s =
    let self = c.args.self.now in
    let lies = c.requires.lies in
    let read : Named = named_of c.args.read.now in
    let computed : Test = owns_named self.takers.now.layouts self.to (named_of self.left.now) in
    let both : Test = and_test computed (owns_named self.owners.now.layouts self.from read) in
    sym (ap (λ b. b || is_among (map spot_of c.args.spots.now.items) s)
    (sent-listed self.owners.now.nodes self.owners.now.layouts self.extents.now read lies.0 self.from self.to lies.1 c.requires.dealt
    c.sends.result (c.sends.ensures lies.0 lies.1.row) computed None s c.if-not-sends.false
    (subst (λ o. AreEnough (moves_on (named_of c.args.read.now).courses) both self.extents.now (option_map (λ lists. map (λ v. v.items) lists.items) o))
    c.in_default.is c.in_ok-places.ensures)))

pub tuples_of-requires-clause-axes : goal.tuples_of-requires-clause-axes
tuples_of-requires-clause-axes c =
    let self = c.args.self.now in
    let ns = self.extents.now in
    let asked = moves_on (named_of c.args.read.now).courses in
    let lists = map (λ v. v.items) c.in-Some.places.items in
    let both : Test = and_test (owns_named self.takers.now.layouts self.to (named_of self.left.now)) (owns_named self.owners.now.layouts self.from (named_of c.args.read.now)) in
    let are : AreEnough asked both ns (Some lists) =
    subst (λ o. AreEnough asked both ns (option_map (λ lists. map (λ v. v.items) lists.items) o)) c.in-Some.is c.in_ok-places.ensures in
    ap length c.deref.ensures.value ∙ sym (length-map c.in-Some.places.items (λ v. v.items)) ∙ enough-long asked both.at 0 ns lists are.1

pub tuples_of-requires-clause-places : goal.tuples_of-requires-clause-places
tuples_of-requires-clause-places c =
    let self = c.args.self.now in
    let ns = self.extents.now in
    let asked = moves_on (named_of c.args.read.now).courses in
    let lists = map (λ v. v.items) c.in-Some.places.items in
    let both : Test = and_test (owns_named self.takers.now.layouts self.to (named_of self.left.now)) (owns_named self.owners.now.layouts self.from (named_of c.args.read.now)) in
    let are : AreEnough asked both ns (Some lists) =
    subst (λ o. AreEnough asked both ns (option_map (λ lists. map (λ v. v.items) lists.items) o)) c.in-Some.is c.in_ok-places.ensures in
    subst (AreBelow ns) (sym (ap (map (λ v. v.items)) c.deref.ensures.value ∙ enough-passing asked both.at ns lists are.1))
    (c.passing_below.ensures (picked asked both.at (first_places lists)) 0 ns)

pub add_named-requires : goal.add_named-requires
add_named-requires c =
    let self = c.args.self.now in
    let ns = self.extents.now in
    let lists = map (λ v. v.items) c.in-Some.places.items in
    let both : Test = and_test (owns_named self.takers.now.layouts self.to (named_of self.left.now)) (owns_named self.owners.now.layouts self.from (named_of c.args.read.now)) in
    let are : AreEnough (moves_on (named_of c.args.read.now).courses) both ns (Some lists) =
    subst (λ o. AreEnough (moves_on (named_of c.args.read.now).courses) both ns (option_map (λ lists. map (λ v. v.items) lists.items) o)) c.in-Some.is c.in_ok-places.ensures in
    subst (All (λ t. t < product ns)) (sym (c.deref-2.ensures.value ∙ c.in_ok-tuples.ensures ∙ ap (λ l. listed_tuples ns (Some (map (λ v. v.items) l))) c.deref.ensures.value))
    (listed-below (moves_on (named_of c.args.read.now).courses) both ns lists are)

pub returns : goal.returns
returns c s =
    let self = c.args.self.now in
    let ns = self.extents.now in
    let lies = c.requires.lies in
    let read : Named = named_of c.args.read.now in
    let lists = map (λ v. v.items) c.in-Some.places.items in
    let computed : Test = owns_named self.takers.now.layouts self.to (named_of self.left.now) in
    let both : Test = and_test computed (owns_named self.owners.now.layouts self.from read) in
    let are : AreEnough (moves_on (named_of c.args.read.now).courses) both ns (Some lists) =
    subst (λ o. AreEnough (moves_on (named_of c.args.read.now).courses) both ns (option_map (λ lists. map (λ v. v.items) lists.items) o)) c.in-Some.is c.in_ok-places.ensures in
    c.in_ok-add_named.ensures s
    ∙ ap (λ ts. is_named_among ns read ts s || is_among (map spot_of c.args.spots.now.items) s)
    (c.deref-2.ensures.value ∙ c.in_ok-tuples.ensures ∙ ap (λ l. listed_tuples ns (Some (map (λ v. v.items) l))) c.deref.ensures.value)
    ∙ sym (ap (λ b. b || is_among (map spot_of c.args.spots.now.items) s)
    (sent-listed self.owners.now.nodes self.owners.now.layouts ns read lies.0 self.from self.to lies.1 c.requires.dealt
    c.sends.result (c.sends.ensures lies.0 lies.1.row) computed (Some lists) s c.if-not-sends.false are))
