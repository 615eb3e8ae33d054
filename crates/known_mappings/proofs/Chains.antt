-- Chains of alignments in which no object is aligned with itself end, within as many alignments as there are names.
use Rattle.std.proofs.Common.{◌≡◌, ◌≤◌, ℕ, zero, suc, Bool, true, false, true≢false, bytes_eq, List, [], ◌∷◌, length, Option, Some, None, refl, sym, ap, ◌∙◌, arith}
use Rattle.std.specs.Prelude.{◌||◌, cond, is_some, filter, not}
use Rattle.std.specs.List.{AllByRecursion}
use Rattle.std.proofs.lemmas.Slice.Eq.{bytes_eq-Decides}
use Rattle.expression_rules.specs.Symbols.{Name, SymbolTable, find, is_among, is_declared}
use Rattle.expression_rules.specs.declared.symbols.Symbol.{Symbol}
use Rattle.name_table.specs.Uses.{repeats}
use Rattle.directive_check.specs.MappedObjects.{MappedObject}
use Rattle.directive_check.specs.Chains.{is_aligned, meets, root_from, target_of}
use Rattle.name_table.proofs.Tests.{neither, no_value}

-- ---- names of which none stands twice are no more than those that are declared

-- without a name
abbrev other : Name → List Name → List Name
other x xs = filter (λ y. not (bytes_eq x y)) xs

other_same : (x : Name) (xs : List Name) → is_among x xs ≡ false → other x xs ≡ xs
other_same x [] h = refl
other_same x (y ∷ ys) h = by (bytes_eq x y) h (other_same x ys)
  where
    by : (b : Bool) → (b || is_among x ys) ≡ false → (is_among x ys ≡ false → other x ys ≡ ys) → cond (not b) (y ∷ other x ys) (other x ys) ≡ y ∷ ys
    by true h more = absurd (true≢false h)
    by false h more = ap (λ l. y ∷ l) (more h)

among_other : (x z : Name) (xs : List Name) → is_among z xs ≡ false → is_among z (other x xs) ≡ false
among_other x z [] h = refl
among_other x z (y ∷ ys) h = let two = neither (bytes_eq z y) (is_among z ys) h in by (bytes_eq x y) two.0 (among_other x z ys two.1)
  where
    by : (b : Bool) → bytes_eq z y ≡ false → is_among z (other x ys) ≡ false → is_among z (cond (not b) (y ∷ other x ys) (other x ys)) ≡ false
    by true own more = more
    by false own more = (λ i. own i || more i)

repeats_other : (x : Name) (xs : List Name) → repeats xs ≡ false → repeats (other x xs) ≡ false
repeats_other x [] h = refl
repeats_other x (y ∷ ys) h = let two = neither (is_among y ys) (repeats ys) h in by (bytes_eq x y) (among_other x y ys two.0) (repeats_other x ys two.1)
  where
    by : (b : Bool) → is_among y (other x ys) ≡ false → repeats (other x ys) ≡ false → repeats (cond (not b) (y ∷ other x ys) (other x ys)) ≡ false
    by true own more = more
    by false own more = (λ i. own i || more i)

-- a name that stands once at most is one at most
one_less : (x : Name) (xs : List Name) → repeats xs ≡ false → length xs ≤ suc (length (other x xs))
one_less x [] h = omega arith
one_less x (y ∷ ys) h = let two = neither (is_among y ys) (repeats ys) h in by (bytes_eq x y) refl two.0 (one_less x ys two.1)
  where
    by : (b : Bool) → bytes_eq x y ≡ b → is_among y ys ≡ false → length ys ≤ suc (length (other x ys)) →
        suc (length ys) ≤ suc (length (cond (not b) (y ∷ other x ys) (other x ys)))
    by true is own more =
        let same : length (other x ys) ≡ length ys = ap length (other_same x ys (ap (λ z. is_among z ys) ((bytes_eq-Decides x y).0 is) ∙ own)) in omega (arith, same)
    by false is own more = omega (arith, more)

abbrev pub AreDeclared : SymbolTable → List Name → Type 0
AreDeclared t xs = AllByRecursion (λ x. is_declared x t ≡ true) xs

declared_other : (e : Name × Symbol) (t : SymbolTable) (xs : List Name) → AreDeclared (e ∷ t) xs → AreDeclared t (other e.0 xs)
declared_other e t [] h = tt
declared_other e t (y ∷ ys) h = by (bytes_eq e.0 y) refl h.0 (declared_other e t ys h.1)
  where
    later : (b : Bool) → b ≡ false → is_some (cond b (Some e.1) (find y t)) ≡ true → is_declared y t ≡ true
    later true is h = absurd (true≢false is)
    later false is h = h

    differs : bytes_eq e.0 y ≡ false → bytes_eq y e.0 ≡ false
    differs is = turned (bytes_eq y e.0) refl
      where
        turned : (b : Bool) → bytes_eq y e.0 ≡ b → b ≡ false
        turned false same = refl
        turned true same = absurd (true≢false (sym ((bytes_eq-Decides e.0 y).1 (sym ((bytes_eq-Decides y e.0).0 same))) ∙ is))

    by : (b : Bool) → bytes_eq e.0 y ≡ b → is_declared y (e ∷ t) ≡ true → AreDeclared t (other e.0 ys) → AreDeclared t (cond (not b) (y ∷ other e.0 ys) (other e.0 ys))
    by true is own more = more
    by false is own more = (later (bytes_eq y e.0) (differs is) own, more)

no_more : (t : SymbolTable) (xs : List Name) → repeats xs ≡ false → AreDeclared t xs → length xs ≤ length t
no_more [] [] h declared = omega arith
no_more [] (x ∷ xs) h declared = absurd (no_value declared.0)
no_more (e ∷ t) xs h declared =
    let less = one_less e.0 xs h in
    let more = no_more t (other e.0 xs) (repeats_other e.0 xs h) (declared_other e t xs declared) in
    omega (arith, less, more)

-- ---- the objects of a chain

-- from a target on, within so many alignments
abbrev trail : ℕ → List MappedObject → Option Name → List Name
trail zero ms y = []
trail (suc n) ms None = []
trail (suc n) ms (Some y) = y ∷ trail n ms (target_of ms y)

-- a chain ends within so many alignments
abbrev pub ends : ℕ → List MappedObject → Option Name → Bool
ends zero ms None = true
ends zero ms (Some y) = false
ends (suc n) ms None = true
ends (suc n) ms (Some y) = ends n ms (target_of ms y)

met_trail : (n : ℕ) (ms : List MappedObject) (x : Name) (y : Option Name) → is_among x (trail n ms y) ≡ meets n ms x y
met_trail zero ms x y = refl
met_trail (suc n) ms x None = refl
met_trail (suc n) ms x (Some y) = ap (λ b. bytes_eq x y || b) (met_trail n ms x (target_of ms y))

met_less : (n m : ℕ) (ms : List MappedObject) (x : Name) (y : Option Name) → n ≤ m → meets m ms x y ≡ false → meets n ms x y ≡ false
met_less zero m ms x y less h = refl
met_less (suc n) zero ms x y less h = absurd (omega (arith, less))
met_less (suc n) (suc m) ms x None less h = refl
met_less (suc n) (suc m) ms x (Some y) less h =
    let two = neither (bytes_eq x y) (meets m ms x (target_of ms y)) h in
    (λ i. two.0 i || met_less n m ms x (target_of ms y) (omega (arith, less)) two.1 i)

module _ (ms : List MappedObject) (t : SymbolTable) (free : (x y : Name) → target_of ms x ≡ Some y → meets (length t) ms x (target_of ms x) ≡ false)
    (declared : (x y : Name) → target_of ms x ≡ Some y → is_declared x t ≡ true) where
  -- a chain that goes on after so many alignments has that many objects, each of them declared and none of them twice
  record IsLong (n : ℕ) (y : Option Name) : Type 0 where
    count : length (trail n ms y) ≡ n
    once : repeats (trail n ms y) ≡ false
    names : AreDeclared t (trail n ms y)

  goes_on : (n : ℕ) (y : Option Name) → ends n ms y ≡ false → (z : Name) × (y ≡ Some z)
  goes_on zero None h = absurd (true≢false h)
  goes_on zero (Some y) h = (y, refl)
  goes_on (suc n) None h = absurd (true≢false h)
  goes_on (suc n) (Some y) h = (y, refl)

  long : (n : ℕ) (y : Option Name) → n ≤ length t → ends n ms y ≡ false → IsLong n y
  long zero y less h = record { count = refl; once = refl; names = tt }
  long (suc n) None less h = absurd (true≢false h)
  long (suc n) (Some y) less h =
      let more = long n (target_of ms y) (omega (arith, less)) h in
      let next = goes_on n (target_of ms y) h in
      let new : is_among y (trail n ms (target_of ms y)) ≡ false = met_trail n ms y (target_of ms y)
      ∙ met_less n (length t) ms y (target_of ms y) (omega (arith, less)) (free y next.0 next.1) in
      record {
        count = ap suc more.count;
        once = λ i. new i || more.once i;
        names = (declared y next.0 next.1, more.names);
      }

  pub all_end : (x : Name) → ends (length t) ms (target_of ms x) ≡ true
  all_end x = by (ends (length t) ms (target_of ms x)) refl
    where
      by : (b : Bool) → ends (length t) ms (target_of ms x) ≡ b → b ≡ true
      by true h = refl
      by false h =
          let rest = long (length t) (target_of ms x) (omega arith) h in
          let next = goes_on (length t) (target_of ms x) h in
          let new : is_among x (trail (length t) ms (target_of ms x)) ≡ false = met_trail (length t) ms x (target_of ms x) ∙ free x next.0 next.1 in
          let most = no_more t (x ∷ trail (length t) ms (target_of ms x)) (λ i. new i || rest.once i) (declared x next.0 next.1, rest.names) in
          let count = rest.count in
          absurd (omega (arith, most, count))

-- what a chain that ends ends at isn't aligned
pub root_free : (n : ℕ) (ms : List MappedObject) (x : Name) (y : Option Name) → target_of ms x ≡ y → ends n ms y ≡ true → is_aligned ms (root_from n ms x y) ≡ false
root_free zero ms x None is h = ap is_some is
root_free zero ms x (Some y) is h = absurd (no_value h)
root_free (suc n) ms x None is h = ap is_some is
root_free (suc n) ms x (Some y) is h = root_free n ms y (target_of ms y) refl h
