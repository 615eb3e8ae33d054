use Rattle.std.proofs.Common.{ℕ, Bool, map, sym, subst}
use Rattle.std.specs.Option.{IfSome, option_map}
use Rattle.machine_steps.specs.Layout.{in_bounds}
use Rattle.machine_steps.specs.Message.{computes_left}
use Rattle.courses.specs.References.{named_spot}
use Rattle.course_forms.specs.Views.{named_of, names_of}
use Rattle.visited_tuples.specs.Own.{IsOwn}
use Rattle.visited_tuples.specs.Visited.{Suffice}
use Rattle.part_visits.proofs.visits.assigned_visits.Goals as goal

pub returns-in_ok-found-in-Some : goal.returns-in_ok-found-in-Some
returns-in_ok-found-in-Some c =
    let ns = c.args.extents.now in
    let layouts = c.args.owners.now.layouts in
    let rs = names_of c.args.reads.now in
    let who : ℕ → ℕ → Bool = λ node t. computes_left layouts node (in_bounds layouts (named_spot ns t (named_of c.args.left.now))) in
    let own : IsOwn who c.args.owners.now.nodes ns c.args.id (option_map (λ lists. map (λ v. v.items) lists.items) c.in-Some.own.lists) c.in-Some.own.beside.items =
    subst (λ o. IfSome o (λ o. IsOwn who c.args.owners.now.nodes ns c.args.id (option_map (λ lists. map (λ v. v.items) lists.items) o.lists) o.beside.items)) c.in-Some.is c.in_ok-own.ensures.own in
    c.in_ok-found-in-Some.ensures who own rs
    (subst (λ few. Suffice who layouts ns rs (names_of few)) (sym c.deref.ensures.value) c.in_ok-few-in-Some.ensures.few)
