use Rattle.std.proofs.Common.{◌≡◌, ◌↔◌, ℕ, sym, subst, Option, Some, None, slice_get}
use Rattle.local_address.proofs.AddressLaws.{none_unowned}
use Rattle.local_address.proofs.PieceLaws.{addresses-none, addresses-of}
use Rattle.local_address.proofs.piece.Piece.address.Goals as goal

pub returns-then-not-self-clause-none : goal.returns-then-not-self-clause-none
returns-then-not-self-clause-none c =
    none_unowned c.args.self.now c.args.index.now None
    (subst (λ xs. (q : ℕ) → (◌≡◌ {A = Option ℕ} None (Some q)) ↔ (slice_get xs q ≡ Some c.args.index.now)) c.self.view_is
    (addresses-none c.self.inside.agrees c.self.inside.dims.items c.args.index.now c.if-not-self.true))

pub returns-in_err-number-clause-none : goal.returns-in_err-number-clause-none
returns-in_err-number-clause-none c =
    none_unowned c.args.self.now c.args.index.now c.from_residual.result
    (subst (λ o. (q : ℕ) → (o ≡ Some q) ↔ (slice_get c.args.self.now q ≡ Some c.args.index.now)) (sym c.from_residual.ensures)
    (subst (λ xs. (q : ℕ) → (◌≡◌ {A = Option ℕ} None (Some q)) ↔ (slice_get xs q ≡ Some c.args.index.now)) c.self.view_is
    (addresses-of c.self.inside.agrees c.self.inside.dims.items c.deref.result.now c.args.index.now c.numbers.result.now None c.if-not-self.false
    c.deref.ensures.value c.numbers.ensures.value c.in_err-number.ensures)))

pub returns-clause-none : goal.returns-clause-none
returns-clause-none c =
    none_unowned c.args.self.now c.args.index.now (Some c.in_ok-number.number)
    (subst (λ xs. (q : ℕ) → (Some c.in_ok-number.number ≡ Some q) ↔ (slice_get xs q ≡ Some c.args.index.now)) c.self.view_is
    (addresses-of c.self.inside.agrees c.self.inside.dims.items c.deref.result.now c.args.index.now c.numbers.result.now (Some c.in_ok-number.number) c.if-not-self.false
    c.deref.ensures.value c.numbers.ensures.value c.in_ok-number.ensures))
