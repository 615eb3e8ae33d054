-- Indices on which subscripts depend.
use Rattle.std.proofs.Common.{◌≡◌, ℕ, suc, ◌+◌, ◌<◌, true, false, List, [], ◌∷◌, length, get_or, drop, map, refl, sym, ap, ◌∙◌, arith}
use Rattle.std.specs.Prelude.{nat_le, ◌&&◌, ◌||◌}
use Rattle.std.specs.List.{list_any}
use Rattle.std.proofs.Math.Seq.{drop-cons}
use Rattle.array_meaning.specs.Terms.{Terms, NoTerm, More, list_of}
use Rattle.array_meaning.specs.State.{State}
use Rattle.array_meaning.specs.Forall.{linear, linears, depends_on, is_one_to_one}
use Rattle.forall_conditions.specs.declared.linear_forms.LinearForm.{LinearForm}
use Rattle.forall_conditions.specs.Linears.{is_covered, linear_of}

any_map : (k : ℕ) (xs : List LinearForm) → list_any (λ x. depends_on k (linear_of x)) xs ≡ list_any (depends_on k) (map linear_of xs)
any_map k [] = refl
any_map k (x ∷ xs) = ap (λ b. depends_on k (linear_of x) || b) (any_map k xs)

any_term : (k : ℕ) (s : State) (ts : Terms) → list_any (depends_on k) (linears s ts) ≡ list_any (λ t. depends_on k (linear s t)) (list_of ts)
any_term k s NoTerm = refl
any_term k s (More t ts) = ap (λ b. depends_on k (linear s t) || b) (any_term k s ts)

-- the test of an index, by the forms
one_index : (s : State) (ts : Terms) (xs : List LinearForm) (ns : List ℕ) (k : ℕ) → k < length ns → map linear_of xs ≡ linears s ts →
    is_one_to_one s (list_of ts) k (drop k ns) ≡ (is_covered xs k (get_or ns k 0) && is_one_to_one s (list_of ts) (suc k) (drop (suc k) ns))
one_index s ts xs ns k lt forms =
    ap (is_one_to_one s (list_of ts) k) (drop-cons ns k 0 lt)
    ∙ ap (λ b. (nat_le (get_or ns k 0) 1 || b) && is_one_to_one s (list_of ts) (suc k) (drop (suc k) ns))
    (sym (any_map k xs ∙ ap (list_any (depends_on k)) forms ∙ any_term k s ts))

pub covered : (s : State) (ts : Terms) (xs : List LinearForm) (ns : List ℕ) (k : ℕ) → k < length ns → map linear_of xs ≡ linears s ts →
    is_covered xs k (get_or ns k 0) ≡ true → is_one_to_one s (list_of ts) k (drop k ns) ≡ is_one_to_one s (list_of ts) (k + 1) (drop (k + 1) ns)
covered s ts xs ns k lt forms holds =
    one_index s ts xs ns k lt forms
    ∙ ap (λ b. b && is_one_to_one s (list_of ts) (suc k) (drop (suc k) ns)) holds
    ∙ ap (λ k. is_one_to_one s (list_of ts) k (drop k ns)) (let e : suc k ≡ k + 1 = omega arith in e)

pub uncovered : (s : State) (ts : Terms) (xs : List LinearForm) (ns : List ℕ) (k : ℕ) → k < length ns → map linear_of xs ≡ linears s ts →
    is_covered xs k (get_or ns k 0) ≡ false → is_one_to_one s (list_of ts) k (drop k ns) ≡ false
uncovered s ts xs ns k lt forms fails =
    one_index s ts xs ns k lt forms ∙ ap (λ b. b && is_one_to_one s (list_of ts) (suc k) (drop (suc k) ns)) fails
