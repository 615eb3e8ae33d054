use Rattle.std.proofs.Common.{◌≡◌, ℕ, ◌<◌, true, sym, ◌∙◌, subst, arith}
use Rattle.std.proofs.lemmas.Bool.{eqb-true}
use Rattle.std.proofs.lemmas.Option.{same_Some}
use Rattle.machine_steps.specs.Layout.{owned_by, size_of}
use Rattle.part_visits.proofs.Counts.{all-pass}
use Rattle.part_visits.proofs.visitor.Visitor.owns_row.Goals as goal

pub returns-in-Some : goal.returns-in-Some
returns-in-Some c all =
    let id = c.args.self.now.id in
    let own = c.in-Some.table.now.layout in
    let every : (at : ℕ) → at < size_of own → owned_by own id at ≡ true = λ at below.
    all-pass (owned_by own id) 0 (size_of own) at (sym c.owned.ensures ∙ eqb-true c.owned.result c.size.result all ∙ c.size.ensures) (omega arith) (omega (arith, below)) in (
      c.requires.0,
      c.requires.1,
      subst (λ layout. (at : ℕ) → at < size_of layout → owned_by layout id at ≡ true)
          (same_Some own c.requires.0 (c.in-Some.ensures.layout ∙ c.requires.1.row)) every,
    )
