use Rattle.std.proofs.Common.{rules, ◌<◌, pos, ◌+ℤ◌, FitsSigned, sym, ◌∙◌, ap, subst, arith, length, Some, slice_get}
use Rattle.std.proofs.lemmas.Int.{to_z-of_z}
use Rattle.std.specs.Int.{w64}
use Rattle.hpf_base.specs.declared.limits.TheConstants.{MAX_ELEMENTS}
use Rattle.local_address.proofs.OwnedLaws.{length-subscripts, nth-none, nth-some, place_below, subscripts-get}
use Rattle.local_address.proofs.owned.OwnedSubscripts.nth.Goals as goal

pub moved-requires-clause-place : goal.moved-requires-clause-place
moved-requires-clause-place c =
    let found = nth-some c.self.inside.places c.args.n c.in-Some.place c.in-Some.ensures in
    subst (λ place. place < MAX_ELEMENTS) found.1 (place_below c.self.inside.lower c.self.inside.places c.args.n c.self.invariant found.0)

pub unreachable-requires : goal.unreachable-requires
unreachable-requires c =
    let past = nth-none c.self.inside.places c.args.n c.in-None.ensures in
    omega (arith, past, c.requires, ap length c.self.view_is, length-subscripts c.self.inside.lower c.self.inside.places)

pub returns : goal.returns
returns c =
    let found = nth-some c.self.inside.places c.args.n c.in-Some.place c.in-Some.ensures in
    let fits : FitsSigned w64 c.moved.result = search rules in
    let inside : FitsSigned w64 c.self.inside.lower = search rules in
    sym (ap (λ xs. slice_get xs c.args.n) c.self.view_is) ∙ subscripts-get c.self.inside.lower c.self.inside.places c.args.n found.0
    ∙ ap (λ place. Some (c.self.inside.lower +ℤ pos place)) found.1
    ∙ ap (λ z. Some (z +ℤ pos c.in-Some.place)) (sym (to_z-of_z w64 c.self.inside.lower inside))
    ∙ ap Some (sym c.moved.ensures ∙ sym (to_z-of_z w64 c.moved.result fits))
