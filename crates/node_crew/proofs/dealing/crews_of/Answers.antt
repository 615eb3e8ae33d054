use Rattle.std.proofs.Common.{◌≡◌, ◌<◌, ◌+◌, ◌*◌, ◌/◌, [], ◌∷◌, ◌++◌, length, map, ap, ◌∙◌, subst, sym, length-append}
use Rattle.node_crew.specs.Crews.{joined}
use Rattle.stations.specs.Stations.{fixed}
use Rattle.node_crew.proofs.Dealt.{one_more, crew_ended, some_left, one_left, one_on}
use Rattle.node_crew.proofs.dealing.crews_of.Goals as goal
use Rattle.node_crew.proofs.dealing.crews_of.Goals.{then-place-first_of+in_ok-end_crew, else-place-first_of}

pub loop-station-preserved : goal.loop-station-preserved
loop-station-preserved c =
    let l = c.loop-station in
    let now = c.if-place-first_of in
    let rest = l.station-iterator.rest.items in
    let kept : joined now.crews.items ++ map fixed now.crew.items ≡ map fixed l.yielded = elim now.branch [
      | then-place-first_of+in_ok-end_crew w ↦
          ap (λ v. joined v.items ++ map fixed now.crew.items) w.crews-is
          ∙ ap (λ v. joined w.end_crew.new.crews.items ++ map fixed v.items) w.crew-is
          ∙ crew_ended fixed l.crews.items w.end_crew.new.crews.items l.crew.items w.end_crew.new.crew.items w.in_ok-end_crew.ensures.crews w.in_ok-end_crew.ensures.crew
          ∙ l.invariant.0
      | else-place-first_of w ↦
          ap (λ v. joined v.items ++ map fixed now.crew.items) w.crews-is ∙ ap (λ v. joined l.crews.items ++ map fixed v.items) w.crew-is ∙ l.invariant.0
    ] in
    let near : l.place < c.len-all.result =
    one_left c.args.stations.items l.yielded rest _ c.in-Some.station l.place c.len-all.result
    l.invariant.1 l.invariant.3 c.in-Some.ensures.steps.0 (c.len-all.ensures ∙ c.args.stations.ok.0) in
    let fewer : length now.crews.items < c.args.count = elim now.branch [
      | then-place-first_of+in_ok-end_crew w ↦
          let at : l.place ≡ (length l.crews.items + 1) * c.len-all.result / c.args.count =
          w.if-place-first_of.true ∙ c.first_of.ensures ∙ ap (λ n. (n + 1) * c.len-all.result / c.args.count) (c.len.ensures ∙ l.crews.ok.0) in
          some_left l.crews.items now.crews.items (map fixed l.crew.items) l.place c.len-all.result c.args.count c.requires.count.0 at near
          (ap (λ v. v.items) w.crews-is ∙ w.in_ok-end_crew.ensures.crews)
      | else-place-first_of w ↦ subst (λ v. length v.items < c.args.count) (sym w.crews-is) l.invariant.2
    ] in (
      one_more fixed (joined now.crews.items) now.crew.items c.push.new.self.items l.yielded c.in-Some.station c.in_ok-push.ensures.items kept,
      ap (λ n. n + 1) l.invariant.1 ∙ sym (length-append l.yielded (c.in-Some.station ∷ [])),
      fewer,
      one_on c.args.stations.items l.yielded rest _ c.in-Some.station l.invariant.3 c.in-Some.ensures.steps.0,
    )
