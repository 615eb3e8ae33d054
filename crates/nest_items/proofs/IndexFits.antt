-- Scalars stay numbers of 64 bits where indices are set.
use Rattle.std.proofs.Common.{ℕ, suc, ◌/◌, ◌%◌, List, [], ◌∷◌, length, get_or, set, sym, subst, pos, arith, ⊎_elim, FitsSigned, w64, length-set, get_or-set_same, get_or-set_other}
use Rattle.std.proofs.lemmas.Bool.{cases_lt, cases_eq}
use Rattle.std.proofs.lemmas.List.{get_or_past}
use Rattle.std.proofs.lemmas.Int.{SFits-int_wrap}
use Rattle.std.proofs.Math.Facts.{sfits_lit}
use Rattle.array_meaning.specs.State.{State, scalar, set_scalar}
use Rattle.array_meaning.specs.declared.sections.Sequence.{Sequence}
use Rattle.array_meaning.specs.Sections.{nth}
use Rattle.array_meaning.specs.Forall.{indices_at}
use Rattle.array_meaning.specs.Iterations.{turn_value, with_indices}

pub zero_fits : FitsSigned w64 (pos 0)
zero_fits = sfits_lit tt

pub set_fits : (s : State) (x : ℕ) (p : Sequence) (j : ℕ) → ((k : ℕ) → FitsSigned w64 (scalar s k)) → (k : ℕ) → FitsSigned w64 (scalar (set_scalar s x (turn_value p j)) k)
set_fits s x p j h k = ⊎_elim
    (λ e. ⊎_elim
    (λ lt. subst (λ q. FitsSigned w64 (get_or (set s.scalars x (turn_value p j)) q (pos 0))) e
    (subst (FitsSigned w64) (sym (get_or-set_same s.scalars x (turn_value p j) (pos 0) lt)) (SFits-int_wrap w64 (nth p (pos (suc j))))))
    (λ le. subst (FitsSigned w64) (sym (get_or_past (set s.scalars x (turn_value p j)) k (pos 0) (omega (arith, le, e, length-set s.scalars x (turn_value p j))))) zero_fits)
    (cases_lt x (length s.scalars)))
    (λ n. subst (FitsSigned w64) (sym (get_or-set_other s.scalars x k (turn_value p j) (pos 0) (λ e. n (sym e)))) (h k))
    (cases_eq x k)

pub indices_fit : (xs : List ℕ) (ps : List Sequence) (i : ℕ) (s : State) → ((k : ℕ) → FitsSigned w64 (scalar s k)) → (k : ℕ) → FitsSigned w64 (scalar (with_indices xs (indices_at ps i) s) k)
indices_fit [] ps i s h = h
indices_fit (x ∷ xs) [] i s h = h
indices_fit (x ∷ xs) (p ∷ ps) i s h = set_fits (with_indices xs (indices_at ps (i / p.count)) s) x p (i % p.count) (indices_fit xs ps (i / p.count) s h)
