-- Lists that say which colours are free.
use Rattle.std.proofs.Common.{◌≡◌, ℕ, zero, suc, ◌+◌, ◌==◌, ◌&&◌, Bool, true, false, not, if◌then◌else◌, refl, sym, ◌∙◌, ap, subst, add-one, arith, eq-eqb}
use Rattle.std.proofs.lemmas.Bool.{ne_eqb, and_left, and_right}
use Rattle.round_color.specs.Coloring.{Colors, first_passing, is_color, is_free}

-- one number more where none passes
none-more : (P : ℕ → Bool) (lo len : ℕ) → ((first_passing P lo len == lo + len) && not (P (lo + len))) ≡ (first_passing P lo (suc len) == lo + suc len)
none-more P lo zero = by_test (P lo) refl
  where
    by_test : (b : Bool) → P lo ≡ b → ((lo == lo + 0) && not (P (lo + 0))) ≡ ((if b then lo else lo + 1) == lo + 1)
    by_test true is =
        let at : P (lo + 0) ≡ true = subst (λ n. P n ≡ true) (omega arith) is in
        and_right (lo == lo + 0) (not (P (lo + 0))) (ap not at) ∙ sym (ne_eqb lo (lo + 1) (omega arith))
    by_test false is =
        let at : P (lo + 0) ≡ false = subst (λ n. P n ≡ false) (omega arith) is in
        ap (λ b. b && not (P (lo + 0))) (eq-eqb lo (lo + 0) (omega arith)) ∙ ap not at ∙ sym (eq-eqb (lo + 1) (lo + 1) refl)
none-more P lo (suc len) = by_test (P lo) (none-more P (lo + 1) len)
  where
    further : lo + 1 + len ≡ lo + suc len
    further = omega arith

    last : lo + 1 + suc len ≡ lo + suc (suc len)
    last = omega arith

    by_test : (b : Bool)
        → ((first_passing P (lo + 1) len == lo + 1 + len) && not (P (lo + 1 + len))) ≡ (first_passing P (lo + 1) (suc len) == lo + 1 + suc len)
        → (((if b then lo else first_passing P (lo + 1) len) == lo + suc len) && not (P (lo + suc len)))
        ≡ ((if b then lo else first_passing P (lo + 1) (suc len)) == lo + suc (suc len))
    by_test true ih = and_left (lo == lo + suc len) (not (P (lo + suc len))) (ne_eqb lo (lo + suc len) (omega arith)) ∙ sym (ne_eqb lo (lo + suc (suc len)) (omega arith))
    by_test false ih =
        ap (λ n. (first_passing P (lo + 1) len == n) && not (P n)) (sym further) ∙ ih
        ∙ ap (λ n. first_passing P (lo + 1) (suc len) == n) last

-- so far a list says what was free and is free at an end with edges to so many nodes; one node more
pub free-more : (colors : Colors) (node other color : ℕ) (was before after : Bool) → before ≡ (was && is_free other colors node color)
    → after ≡ (before && not (is_color color (colors node other))) → after ≡ (was && is_free (other + 1) colors node color)
free-more colors node other color was before after so_far step =
    let P : ℕ → Bool = λ o. is_color color (colors node o) in
    let first : 0 + other ≡ other = omega arith in
    let last : 0 + suc other ≡ other + 1 = omega arith in
    let more : ((first_passing P 0 other == other) && not (P other)) ≡ (first_passing P 0 (other + 1) == other + 1) =
    ap (λ n. (first_passing P 0 other == n) && not (P n)) (sym first) ∙ none-more P 0 other
    ∙ ap (λ n. first_passing P 0 (suc other) == n) last ∙ ap (λ n. first_passing P 0 n == other + 1) (sym (add-one other)) in
    step ∙ ap (λ b. b && not (P other)) so_far ∙ regroup was (first_passing P 0 other == other) (not (P other)) ∙ ap (λ b. was && b) more
  where
    regroup : (a b c : Bool) → ((a && b) && c) ≡ (a && (b && c))
    regroup true b c = refl
    regroup false b c = refl
