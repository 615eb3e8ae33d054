use Rattle.std.proofs.Common.{◌≡◌, ℕ, Bool, [], ◌∷◌, ◌++◌, All, length, take, sym, ◌∙◌, ap, subst}
use Rattle.std.proofs.lemmas.List.{map-append}
use Rattle.std.proofs.lemmas.List.Elements.{All-append, All-cons, All-nil}
use Rattle.machine_steps.specs.Layout.{in_bounds}
use Rattle.machine_steps.specs.Message.{computes_left}
use Rattle.courses.specs.References.{IsAlongAxes, named_spot}
use Rattle.course_forms.specs.Views.{named_of, names_of}
use Rattle.visited_tuples.specs.Visited.{Suffice}
use Rattle.visited_tuples.proofs.Fewer.{alike-held}
use Rattle.part_visits.proofs.Items.{all-item, names-next}
use Rattle.part_visits.proofs.MoreReads.{suffice-held, suffice-more}
use Rattle.part_visits.proofs.visitor.Visitor.apart.Goals as goal

pub loop-read-preserved-then-are_alike : goal.loop-read-preserved-then-are_alike
loop-read-preserved-then-are_alike c =
    let ns = c.args.self.now.extents.now in
    let layouts = c.args.self.now.owners.now.layouts in
    let l = named_of c.args.l.now in
    let r = named_of c.read-item.result in
    let done = names_of (take c.loop-read.read-index c.args.reads.now) in
    let few = names_of c.loop-read.few.items in
    let who : ℕ → ℕ → Bool = λ node t. computes_left layouts node (in_bounds layouts (named_spot ns t l)) in (
      c.loop-read.invariant.0,
      subst (λ rs. Suffice who layouts ns rs few)
          (sym (names-next named_of c.args.reads.now c.loop-read.read-index c.read-item.result c.loop-read-test.true c.read-item.is))
          (suffice-held who layouts ns done few r c.loop-read.invariant.1
          (alike-held layouts ns l r c.requires.lies.0 c.requires.lies.1 (c.are_alike.ensures c.if-are_alike.true))),
    )

pub loop-read-preserved : goal.loop-read-preserved
loop-read-preserved c =
    let ns = c.args.self.now.extents.now in
    let layouts = c.args.self.now.owners.now.layouts in
    let l = named_of c.args.l.now in
    let r = named_of c.read-item.result in
    let done = names_of (take c.loop-read.read-index c.args.reads.now) in
    let few = names_of c.loop-read.few.items in
    let who : ℕ → ℕ → Bool = λ node t. computes_left layouts node (in_bounds layouts (named_spot ns t l)) in
    let grown : names_of c.push.new.self.items ≡ few ++ r ∷ [] =
    ap names_of c.in_ok-push.ensures.items ∙ map-append named_of c.loop-read.few.items (c.in_ok-copy.copy ∷ []) ∙ ap (λ x. few ++ x ∷ []) c.in_ok-copy.ensures in
    let along = IsAlongAxes (length ns) in (
      subst (All along) (sym grown)
          (All-append along few (r ∷ []) c.loop-read.invariant.0
          (All-cons along r [] (all-item along named_of c.args.reads.now c.loop-read.read-index c.read-item.result c.requires.reads c.loop-read-test.true c.read-item.is) (All-nil along))),
      subst (λ rs. Suffice who layouts ns rs (names_of c.push.new.self.items))
          (sym (names-next named_of c.args.reads.now c.loop-read.read-index c.read-item.result c.loop-read-test.true c.read-item.is))
          (subst (Suffice who layouts ns (done ++ r ∷ [])) (sym grown) (suffice-more who layouts ns done few r c.loop-read.invariant.1)),
    )
