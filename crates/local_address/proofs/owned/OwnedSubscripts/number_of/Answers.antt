use Rattle.std.proofs.Common.{rules, ◌≡◌, ◌↔◌, ℕ, pos, ◌+ℤ◌, FitsSigned, of_z, to_z, sym, ◌∙◌, ap, subst, Option, Some, None, slice_get}
use Rattle.std.proofs.lemmas.Int.{to_z-of_z}
use Rattle.std.specs.Int.{w64}
use Rattle.local_address.proofs.OwnedLaws.{subscript-none, subscript-number}
use Rattle.local_address.proofs.owned.OwnedSubscripts.number_of.Goals as goal

pub returns-in_err-place : goal.returns-in_err-place
returns-in_err-place c =
    let lower : to_z w64 (of_z w64 c.self.inside.lower) ≡ c.self.inside.lower = (let fits : FitsSigned w64 c.self.inside.lower = search rules in to_z-of_z w64 c.self.inside.lower fits) in
    let i : to_z w64 (of_z w64 c.args.subscript) ≡ c.args.subscript = to_z-of_z w64 c.args.subscript c.ranges.subscript in
    subst (λ o. (n : ℕ) → (o ≡ Some n) ↔ (slice_get c.args.self.now n ≡ Some c.args.subscript)) (sym c.from_residual.ensures)
    (subst (λ xs. (n : ℕ) → (◌≡◌ {A = Option ℕ} None (Some n)) ↔ (slice_get xs n ≡ Some c.args.subscript)) c.self.view_is
    (subscript-none c.self.inside.lower c.args.subscript c.self.inside.places
    (λ place is. c.in_err-place.ensures.none place (i ∙ is ∙ ap (λ z. z +ℤ pos place) (sym lower)))))

pub returns : goal.returns
returns c =
    let lower : to_z w64 (of_z w64 c.self.inside.lower) ≡ c.self.inside.lower = (let fits : FitsSigned w64 c.self.inside.lower = search rules in to_z-of_z w64 c.self.inside.lower fits) in
    let i : to_z w64 (of_z w64 c.args.subscript) ≡ c.args.subscript = to_z-of_z w64 c.args.subscript c.ranges.subscript in
    subst (λ xs. (n : ℕ) → (c.number_of_place.result ≡ Some n) ↔ (slice_get xs n ≡ Some c.args.subscript)) c.self.view_is
    (subscript-number c.self.inside.lower c.args.subscript c.self.inside.places c.in_ok-place.place c.number_of_place.result
    (sym i ∙ c.in_ok-place.ensures.some ∙ ap (λ z. z +ℤ pos c.in_ok-place.place) lower) c.number_of_place.ensures)
