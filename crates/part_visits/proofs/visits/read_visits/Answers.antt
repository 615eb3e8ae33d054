use Rattle.std.proofs.Common.{◌≡◌, ◌==◌, ℕ, Bool, length, map, sym, ◌∙◌, ap, subst, arith, inl}
use Rattle.std.proofs.lemmas.Bool.{eqb-false}
use Rattle.std.specs.Option.{IfSome, option_map}
use Rattle.machine_steps.specs.Layout.{in_bounds}
use Rattle.machine_steps.specs.Message.{first_read, least_or_zero}
use Rattle.courses.specs.References.{IsAlongAxes, named_spot}
use Rattle.course_forms.specs.Views.{named_of, names_of}
use Rattle.visited_tuples.specs.Own.{IsOwn}
use Rattle.part_visits.proofs.Items.{all-item, first-of-reads, if-some-map}
use Rattle.part_visits.proofs.visits.read_visits.Goals as goal

pub own_of_read-requires : goal.own_of_read-requires
own_of_read-requires c =
    let some : length c.args.reads.now ≡ 0 → ⊥ = eqb-false (length c.args.reads.now) 0 (sym c.is_empty.ensures ∙ c.if-is_empty.false) in
    all-item (IsAlongAxes (length c.args.extents.now)) named_of c.args.reads.now 0 c.index-reads-0.result c.requires.reads (omega (arith, some)) c.index-reads-0.is

pub returns : goal.returns
returns c =
    let ns = c.args.extents.now in
    let layouts = c.args.owners.now.layouts in
    let nodes = c.args.owners.now.nodes in
    let rs = names_of c.args.reads.now in
    let some : length c.args.reads.now ≡ 0 → ⊥ = eqb-false (length c.args.reads.now) 0 (sym c.is_empty.ensures ∙ c.if-is_empty.false) in
    let first : (t : ℕ) → first_read (map (named_spot ns t) rs) ≡ named_spot ns t (named_of c.index-reads-0.result) = λ t.
    first-of-reads (named_spot ns t) named_of c.args.reads.now c.index-reads-0.result some c.index-reads-0.is in
    let who : ℕ → ℕ → Bool = λ node t. least_or_zero nodes layouts (in_bounds layouts (named_spot ns t (named_of c.index-reads-0.result))) == node in
    let own : IsOwn who nodes ns c.args.id (option_map (λ lists. map (λ v. v.items) lists.items) c.in-Some.own.lists) c.in-Some.own.beside.items =
    subst (λ o. IfSome o (λ o. IsOwn who nodes ns c.args.id (option_map (λ lists. map (λ v. v.items) lists.items) o.lists) o.beside.items)) c.in-Some.is c.in_ok-own.ensures in
    if-some-map c.in_ok-found.found
    (λ v are part of. are part (record {
      tuples = of.tuples;
      reads = of.reads;
      computes = λ node t small. of.computes node t small ∙ ap (λ o. least_or_zero nodes layouts (in_bounds layouts o) == node) (first t);
    })) (c.in_ok-found.ensures who own rs (λ t spot small named. inl named))
