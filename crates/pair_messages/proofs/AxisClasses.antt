-- Classes of places, an axis after the other.
use Rattle.std.proofs.Common.{◌≡◌, ℕ, zero, suc, ◌+◌, ◌<◌, ◌&&◌, Bool, true, false, List, [], ◌∷◌, ◌++◌, get_or, length, refl, ap, subst, arith}
use Rattle.axis_products.specs.Tests.{Test}
use Rattle.pair_messages.specs.declared.classes.Class.{Class}
use Rattle.pair_messages.specs.Classes.{AreCommonFrom, AreCommonOn}

-- one axis more
pub common-more : (axis : ℕ) (es : List ℕ) (a b : Test) (css : List (List Class)) (e : ℕ) (cs : List Class) → AreCommonFrom axis es a b css
    → AreCommonOn e (axis + length es) a b cs
    → AreCommonFrom axis (es ++ e ∷ []) a b (css ++ cs ∷ [])
common-more axis [] a b [] e cs are on = let h : axis + 0 ≡ axis = omega arith in (subst (λ n. AreCommonOn e n a b cs) h on, tt)
common-more axis [] a b (ds ∷ css) e cs are on = absurd are
common-more axis (d ∷ es) a b [] e cs are on = absurd are
common-more axis (d ∷ es) a b (ds ∷ css) e cs are on =
    let h : axis + suc (length es) ≡ axis + 1 + length es = omega arith in
    (are.0, common-more (axis + 1) es a b css e cs are.1 (subst (λ n. AreCommonOn e n a b cs) h on))

pub common-long : (axis : ℕ) (es : List ℕ) (a b : Test) (css : List (List Class)) → AreCommonFrom axis es a b css → length css ≡ length es
common-long axis [] a b [] are = refl
common-long axis [] a b (cs ∷ css) are = absurd are
common-long axis (e ∷ es) a b [] are = absurd are
common-long axis (e ∷ es) a b (cs ∷ css) are = ap suc (common-long (axis + 1) es a b css are.1)

-- those of an axis
common-from : (axis : ℕ) (es : List ℕ) (a b : Test) (css : List (List Class)) (j : ℕ) → AreCommonFrom axis es a b css → j < length es
    → AreCommonOn (get_or es j 0) (axis + j) a b (get_or css j [])
common-from axis [] a b css j are within = absurd (omega arith)
common-from axis (e ∷ es) a b [] j are within = absurd are
common-from axis (e ∷ es) a b (cs ∷ css) zero are within = let h : axis ≡ axis + 0 = omega arith in subst (λ n. AreCommonOn e n a b cs) h are.0
common-from axis (e ∷ es) a b (cs ∷ css) (suc j) are within =
    let h : axis + 1 + j ≡ axis + suc j = omega arith in
    subst (λ n. AreCommonOn (get_or es j 0) n a b (get_or css j [])) h (common-from (axis + 1) es a b css j are.1 (omega (arith, within)))

pub common-on : (es : List ℕ) (a b : Test) (css : List (List Class)) (axis : ℕ) → AreCommonFrom 0 es a b css → axis < length es
    → AreCommonOn (get_or es axis 0) axis a b (get_or css axis [])
common-on es a b css axis are within =
    let h : 0 + axis ≡ axis = omega arith in
    subst (λ n. AreCommonOn (get_or es axis 0) n a b (get_or css axis [])) h (common-from 0 es a b css axis are within)

-- where there is no class no place passes
pub none-common : (extent axis : ℕ) (a b : Test) → AreCommonOn extent axis a b [] → (x : ℕ) → x < extent → (a.at axis x && b.at axis x) ≡ false
none-common extent axis a b are x below = by_both (a.at axis x) refl (b.at axis x) refl
  where
    by_both : (p : Bool) → a.at axis x ≡ p → (q : Bool) → b.at axis x ≡ q → (p && q) ≡ false
    by_both true one true other = absurd (are.every x below one other)
    by_both true one false other = refl
    by_both false one q other = refl

pub no-class : (cs : List Class) → length cs ≡ 0 → cs ≡ []
no-class [] none = refl
no-class (c ∷ cs) none = absurd (omega (arith, none))
