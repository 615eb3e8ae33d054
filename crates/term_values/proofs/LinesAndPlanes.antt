-- The values of an array expression over a space of one or two dimensions, one tuple after the other.
use Rattle.std.proofs.Common.{◌≡◌, ◌∙◌, ℕ, zero, suc, ◌+◌, ◌*◌, ◌/◌, ◌%◌, ◌<◌, ◌≤◌, List, [], ◌∷◌, ◌++◌, length, ℤ, pos, ap, sym, refl, Result, Ok, Err, arith, ◌⊎◌, inl, inr}
use Rattle.std.specs.Prelude.{slice_index_or}
use Rattle.std.proofs.Math.Nat.{mod-eq_of_lt}
use Rattle.std.proofs.lemmas.Nat.{mod-mul-add, div-mul-add}
use Rattle.std.proofs.lemmas.Bool.{cases_lt}
use Rattle.op_tables.specs.declared.op.Op.{Op}
use Rattle.op_tables.specs.Operators.{wrapped}
use Rattle.array_meaning.specs.Elementals.{Elemental, Same, Selected, Operation, Operand, NoOperand, each, operated, value_at, values_over}
use Rattle.array_meaning.specs.Faults.{Cause, ◌>>=◌, with_more, at_tuple}
use Rattle.array_meaning.specs.Sections.{nth, positions}
use Rattle.array_meaning.specs.State.{State, element}
use Rattle.array_meaning.specs.declared.sections.Sequence.{Sequence}
use Rattle.array_meaning.specs.declared.sections.Selection.TheVariants.{Along}
use Rattle.term_values.proofs.ValuesOver.{one_value_more}

-- ---- each of the results

-- the results at the first n + 1 tuples are those at the first n, and one more
record Split {A : Type 0} (tuple : ℕ → List ℤ) (f : ℕ → Result A Cause) (n : ℕ) (vs : List A) : Type 0 where
  first : List A
  last : A
  before : each tuple f n ≡ Ok first
  here : f n ≡ Ok last
  joined : first ++ last ∷ [] ≡ vs

length_more : {A : Type 0} (xs : List A) (x : A) → length (xs ++ x ∷ []) ≡ suc (length xs)
length_more [] x = refl
length_more (y ∷ xs) x = ap suc (length_more xs x)

at_front : {A : Type 0} (xs : List A) (x d : A) (t : ℕ) → t < length xs → slice_index_or (xs ++ x ∷ []) t d ≡ slice_index_or xs t d
at_front [] x d t h = let f : ⊥ = omega (arith, h) in absurd f
at_front (y ∷ xs) x d zero h = refl
at_front (y ∷ xs) x d (suc t) h = at_front xs x d t (let f : t < length xs = omega (arith, h) in f)

at_end : {A : Type 0} (xs : List A) (x d : A) (t : ℕ) → t ≡ length xs → slice_index_or (xs ++ x ∷ []) t d ≡ x
at_end [] x d zero h = refl
at_end [] x d (suc t) h = let f : ⊥ = omega (arith, h) in absurd f
at_end (y ∷ xs) x d zero h = let f : ⊥ = omega (arith, h) in absurd f
at_end (y ∷ xs) x d (suc t) h = at_end xs x d t (let f : t ≡ length xs = omega (arith, h) in f)

ok_is : {B : Type 0} (a b : B) → (let x : Result B Cause = Ok a in x) ≡ Ok b → a ≡ b
ok_is a b e = cc

no_ok : {B : Type 0} (c : Cause) (b : B) → (let x : Result B Cause = Err c in x) ≡ Ok b → ⊥
no_ok c b e = cc

module _ {A : Type 0} (tuple : ℕ → List ℤ) (f : ℕ → Result A Cause) where
  split_here : (n : ℕ) (first vs : List A) (r : Result A Cause) → r ≡ f n → each tuple f n ≡ Ok first → (at_tuple (tuple n) r >>= (λ v. Ok (first ++ v ∷ []))) ≡ Ok vs → Split tuple f n vs
  split_here n first vs (Ok v) is before h = record { first = first; last = v; before = before; here = sym is; joined = ok_is (first ++ v ∷ []) vs h }
  split_here n first vs (Err c) is before h = absurd (no_ok _ vs h)

  split_before : (n : ℕ) (vs : List A) (r : Result (List A) Cause) → r ≡ each tuple f n → (r >>= (λ vs. at_tuple (tuple n) (f n) >>= (λ v. Ok (vs ++ v ∷ [])))) ≡ Ok vs → Split tuple f n vs
  split_before n vs (Ok first) is h = split_here n first vs (f n) refl (sym is) h
  split_before n vs (Err c) is h = absurd (no_ok c vs h)

  split : (n : ℕ) (vs : List A) → each tuple f (suc n) ≡ Ok vs → Split tuple f n vs
  split n vs h = split_before n vs (each tuple f n) refl h

  each_length : (n : ℕ) (vs : List A) → each tuple f n ≡ Ok vs → length vs ≡ n
  each_length zero vs h = ap length (sym (ok_is [] vs h))
  each_length (suc n) vs h =
      let p = split n vs h in
      ap length (sym p.joined) ∙ length_more p.first p.last ∙ ap suc (each_length n p.first p.before)

  at_one : (n : ℕ) (vs : List A) (t : ℕ) (d : A) (p : Split tuple f n vs) → length p.first ≡ n → (t < n → f t ≡ Ok (slice_index_or p.first t d)) → t < suc n → (t < n) ⊎ (n ≤ t) →
      f t ≡ Ok (slice_index_or vs t d)
  at_one n vs t d p long more lt (inl below) =
      more below ∙ ap Ok (sym (at_front p.first p.last d t (let g : t < length p.first = omega (arith, long, below) in g))) ∙ ap (λ xs. Ok (slice_index_or xs t d)) p.joined
  at_one n vs t d p long more lt (inr above) =
      ap f (let g : t ≡ n = omega (arith, lt, above) in g) ∙ p.here
      ∙ ap Ok (sym (at_end p.first p.last d t (let g : t ≡ length p.first = omega (arith, long, lt, above) in g))) ∙ ap (λ xs. Ok (slice_index_or xs t d)) p.joined

  each_at : (n : ℕ) (vs : List A) (t : ℕ) (d : A) → each tuple f n ≡ Ok vs → t < n → f t ≡ Ok (slice_index_or vs t d)
  each_at zero vs t d h lt = let g : ⊥ = omega (arith, lt) in absurd g
  each_at (suc n) vs t d h lt =
      let p = split n vs h in at_one n vs t d p (each_length n p.first p.before) (λ below. each_at n p.first t d p.before below) lt (cases_lt t n)

-- ---- one value more

module _ (s : State) (ns : List ℕ) where
  pub one_same : (v : ℤ) (t : ℕ) (vs : List ℤ) → values_over s ns (Same v) t ≡ Ok vs → values_over s ns (Same v) (suc t) ≡ Ok (vs ++ v ∷ [])
  one_same v t vs before = one_value_more s ns (Same v) t vs v before refl

  pub one_operated : (o : Op) (x y : Elemental) (us ws : List ℤ) (n t : ℕ) (d v : ℤ) (vs : List ℤ) → values_over s ns x n ≡ Ok us → values_over s ns y n ≡ Ok ws → t < n →
      operated o (slice_index_or us t d ∷ slice_index_or ws t d ∷ []) ≡ Ok v →
      values_over s ns (Operation o (Operand x (Operand y NoOperand))) t ≡ Ok vs → values_over s ns (Operation o (Operand x (Operand y NoOperand))) (suc t) ≡ Ok (vs ++ v ∷ [])
  one_operated o x y us ws n t d v vs first second lt here before =
      one_value_more s ns (Operation o (Operand x (Operand y NoOperand))) t vs v before (
      ap (λ r. with_more r (with_more (value_at s (positions ns t) y) (Ok [])) >>= operated o) (each_at (positions ns) (λ t. value_at s (positions ns t) x) n us t d first lt)
      ∙ ap (λ r. with_more (Ok (slice_index_or us t d)) (with_more r (Ok [])) >>= operated o) (each_at (positions ns) (λ t. value_at s (positions ns t) y) n ws t d second lt)
      ∙ here)

module _ (s : State) (n : ℕ) where
  pub one_selected : (a : ℕ) (p : Sequence) (t : ℕ) (x i v : ℤ) (vs : List ℤ) → t < n → x ≡ pos (t + 1) → i ≡ wrapped (nth p x) → element s a (i ∷ []) ≡ Ok v →
      values_over s (n ∷ []) (Selected a (Along p ∷ [])) t ≡ Ok vs → values_over s (n ∷ []) (Selected a (Along p ∷ [])) (suc t) ≡ Ok (vs ++ v ∷ [])
  one_selected a p t x i v vs lt is at found before =
      one_value_more s (n ∷ []) (Selected a (Along p ∷ [])) t vs v before (
      ap (λ k. element s a (wrapped (nth p (pos (suc k))) ∷ [])) (mod-eq_of_lt lt)
      ∙ ap (λ k. element s a (wrapped (nth p (pos k)) ∷ [])) (let g : suc t ≡ t + 1 = omega arith in g)
      ∙ ap (λ x. element s a (wrapped (nth p x) ∷ [])) (sym is)
      ∙ ap (λ i. element s a (i ∷ [])) (sym at)
      ∙ found)

-- ---- one value more of a section of two dimensions

module _ (s : State) (n m : ℕ) where
  pub one_of_plane : (a : ℕ) (p q : Sequence) (x y : ℕ) (u w i j v : ℤ) (vs : List ℤ) → x < n → y < m → u ≡ pos (x + 1) → w ≡ pos (y + 1) → i ≡ wrapped (nth p u) → j ≡ wrapped (nth q w) →
      element s a (i ∷ j ∷ []) ≡ Ok v →
      values_over s (n ∷ m ∷ []) (Selected a (Along p ∷ Along q ∷ [])) (y * n + x) ≡ Ok vs → values_over s (n ∷ m ∷ []) (Selected a (Along p ∷ Along q ∷ [])) (y * n + (x + 1)) ≡ Ok (vs ++ v ∷ [])
  one_of_plane a p q x y u w i j v vs below within is_u is_w is_i is_j found before =
      let next : suc (y * n + x) ≡ y * n + (x + 1) = omega arith in
      let one_u : suc x ≡ x + 1 = omega arith in
      let one_w : suc y ≡ y + 1 = omega arith in
      ap (values_over s (n ∷ m ∷ []) (Selected a (Along p ∷ Along q ∷ []))) (sym next)
      ∙ one_value_more s (n ∷ m ∷ []) (Selected a (Along p ∷ Along q ∷ [])) (y * n + x) vs v before (
      ap (λ k. element s a (wrapped (nth p (pos (suc k))) ∷ wrapped (nth q (pos (suc ((y * n + x) / n % m)))) ∷ [])) (mod-mul-add y n x below)
      ∙ ap (λ k. element s a (wrapped (nth p (pos (suc x))) ∷ wrapped (nth q (pos (suc (k % m)))) ∷ [])) (div-mul-add y n x below)
      ∙ ap (λ k. element s a (wrapped (nth p (pos (suc x))) ∷ wrapped (nth q (pos (suc k))) ∷ [])) (mod-eq_of_lt within)
      ∙ ap (λ k. element s a (wrapped (nth p (pos k)) ∷ wrapped (nth q (pos (suc y))) ∷ [])) one_u
      ∙ ap (λ k. element s a (wrapped (nth p (pos (x + 1))) ∷ wrapped (nth q (pos k)) ∷ [])) one_w
      ∙ ap (λ u. element s a (wrapped (nth p u) ∷ wrapped (nth q (pos (y + 1))) ∷ [])) (sym is_u)
      ∙ ap (λ w. element s a (wrapped (nth p u) ∷ wrapped (nth q w) ∷ [])) (sym is_w)
      ∙ ap (λ i. element s a (i ∷ wrapped (nth q w) ∷ [])) (sym is_i)
      ∙ ap (λ j. element s a (i ∷ j ∷ [])) (sym is_j)
      ∙ found)
