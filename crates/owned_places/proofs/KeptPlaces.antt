-- Lists of places that leave out none that passes a test.
use Rattle.std.proofs.Common.{◌≡◌, ℕ, zero, suc, ◌+◌, ◌-◌, ◌<◌, ◌≤◌, ◌⊎◌, inl, inr, ◌&&◌, Bool, true, false, cond, List, [], ◌∷◌, ◌++◌, length, get_or, map, filter, All, Option, Some, None, IfSome, refl, sym, ◌∙◌, ap, subst, arith}
use Rattle.std.proofs.lemmas.List.{append-nil}
use Rattle.std.proofs.lemmas.List.Elements.{All-filter, All-get_or, filter-append}
use Rattle.std.proofs.lemmas.List.FromFn.{get_or-map-range_with_len, length-map-range_with_len, length-range_with_len}
use Rattle.std.proofs.lemmas.Simd.{map-map}
use Rattle.std.proofs.lemmas.List.Sums.{count_by-le-length, length-filter}
use Rattle.std.specs.List.{range_with_len}
use Rattle.hpf_base.proofs.Ranges.{All-range, map-range_shifted, range_with_len-add}
use Rattle.gap_table.proofs.AscendingLists.{Rising, filter-rising}
use Rattle.gap_table.proofs.Tables.{filter-agree}
use Rattle.gap_table.specs.GapTable.{GapView, nth_of, places_of}
use Rattle.owned_places.specs.declared.candidates.Candidates.{Candidates}
use Rattle.owned_places.specs.Candidates.{AreCandidates, IsFiltered, IsTableOf, KeepsPassing, all_candidates, candidate}
use Rattle.owned_places.proofs.HeldDims.{and-parts, and-true}

-- a filter after one that keeps all that passes
twice : (p s : ℕ → Bool) (xs : List ℕ) → ((x : ℕ) → p x ≡ true → s x ≡ true) → filter p (filter s xs) ≡ filter p xs
twice p s [] tells = refl
twice p s (x ∷ xs) tells = by_case (twice p s xs tells) (s x) refl (p x) refl
  where
    by_case : filter p (filter s xs) ≡ filter p xs → (t : Bool) → s x ≡ t → (u : Bool) → p x ≡ u
        → filter p (cond t (x ∷ filter s xs) (filter s xs)) ≡ cond u (x ∷ filter p xs) (filter p xs)
    by_case rest true is true held = ap (λ b. cond b (x ∷ filter p (filter s xs)) (filter p (filter s xs))) held ∙ ap (λ ys. x ∷ ys) rest
    by_case rest true is false fails = ap (λ b. cond b (x ∷ filter p (filter s xs)) (filter p (filter s xs))) fails ∙ rest
    by_case rest false is true held = absurd (let no : false ≡ true = sym is ∙ tells x held in cc)
    by_case rest false is false fails = rest

kept-weaker : (p s : ℕ → Bool) (extent : ℕ) (xs : List ℕ) → ((x : ℕ) → p x ≡ true → s x ≡ true) → KeepsPassing s extent xs → KeepsPassing p extent xs
kept-weaker p s extent xs tells kept = sym (twice p s xs tells) ∙ ap (filter p) kept ∙ twice p s (range_with_len 0 extent) tells

filter-mapped : (p : ℕ → Bool) (f : ℕ → ℕ) (xs : List ℕ) → filter p (map f xs) ≡ map f (filter (λ x. p (f x)) xs)
filter-mapped p f [] = refl
filter-mapped p f (x ∷ xs) = ap (λ ys. cond (p (f x)) (f x ∷ ys) ys) (filter-mapped p f xs) ∙ by_case (p (f x)) (filter (λ x. p (f x)) xs)
  where
    by_case : (b : Bool) (ys : List ℕ) → cond b (f x ∷ map f ys) (map f ys) ≡ map f (cond b (x ∷ ys) ys)
    by_case true ys = refl
    by_case false ys = refl

none-passes : (p : ℕ → Bool) (a n : ℕ) → ((x : ℕ) → a ≤ x → x < a + n → p x ≡ false) → filter p (range_with_len a n) ≡ []
none-passes p a zero none = refl
none-passes p a (suc n) none =
    ap (λ b. cond b (a ∷ filter p (range_with_len (a + 1) n)) (filter p (range_with_len (a + 1) n))) (none a (omega arith) (omega arith))
    ∙ none-passes p (a + 1) n (λ x low high. none x (omega (arith, low)) (omega (arith, high)))

-- all that passes stands among so many places from a first one on
abbrev pub PassesWithin : (ℕ → Bool) → ℕ → ℕ → ℕ → Type 0
PassesWithin p extent begin count = (x : ℕ) → x < extent → p x ≡ true → (begin ≤ x) × (x < begin + count)

fails-outside : (p : ℕ → Bool) (extent begin count : ℕ) → PassesWithin p extent begin count → (x : ℕ) → x < extent → (x < begin) ⊎ (begin + count ≤ x) → p x ≡ false
fails-outside p extent begin count within x below out = by_case (p x) refl out
  where
    by_case : (t : Bool) → p x ≡ t → (x < begin) ⊎ (begin + count ≤ x) → t ≡ false
    by_case true held (inl before) = absurd (let h = within x below held in omega (arith, h.0, before))
    by_case true held (inr behind) = absurd (let h = within x below held in omega (arith, h.1, behind))
    by_case false fails out = refl

-- the places inside alone
inside-only : (p : ℕ → Bool) (extent begin count : ℕ) → begin + count ≤ extent → PassesWithin p extent begin count
    → filter p (range_with_len 0 extent) ≡ map (λ j. begin + j) (filter (λ j. p (begin + j)) (range_with_len 0 count))
inside-only p extent begin count fits within =
    let rest = extent - (begin + count) in
    let whole : extent ≡ begin + (count + rest) = omega (arith, fits) in
    let at : 0 + begin ≡ begin = omega arith in
    ap (λ n. filter p (range_with_len 0 n)) whole
    ∙ ap (filter p) (range_with_len-add 0 begin (count + rest))
    ∙ filter-append p (range_with_len 0 begin) (range_with_len (0 + begin) (count + rest))
    ∙ ap (λ xs. xs ++ filter p (range_with_len (0 + begin) (count + rest)))
    (none-passes p 0 begin (λ x low high. let before : x < begin = omega (arith, high) in fails-outside p extent begin count within x (omega (arith, before, fits)) (inl before)))
    ∙ ap (λ a. filter p (range_with_len a (count + rest))) at
    ∙ ap (filter p) (range_with_len-add begin count rest)
    ∙ filter-append p (range_with_len begin count) (range_with_len (begin + count) rest)
    ∙ ap (λ xs. filter p (range_with_len begin count) ++ xs)
    (none-passes p (begin + count) rest (λ x low high. fails-outside p extent begin count within x (omega (arith, high, fits)) (inr low)))
    ∙ append-nil (filter p (range_with_len begin count))
    ∙ ap (filter p) (sym (map-range_shifted 0 begin count (λ j. begin + j) (λ j low high. omega arith)))
    ∙ filter-mapped p (λ j. begin + j) (range_with_len 0 count)

kept-inside : (p : ℕ → Bool) (extent begin count len : ℕ) (f : ℕ → ℕ) → begin + count ≤ extent → PassesWithin p extent begin count
    → KeepsPassing (λ j. p (begin + j)) count (map f (range_with_len 0 len)) → KeepsPassing p extent (map (λ n. begin + f n) (range_with_len 0 len))
kept-inside p extent begin count len f fits within kept =
    ap (filter p) (sym (map-map (λ j. begin + j) f (range_with_len 0 len))) ∙ filter-mapped p (λ j. begin + j) (map f (range_with_len 0 len))
    ∙ ap (map (λ j. begin + j)) kept ∙ sym (inside-only p extent begin count fits within)

same-range : (n : ℕ) → map (λ j. j) (range_with_len 0 n) ≡ range_with_len 0 n
same-range n = map-range_shifted 0 0 n (λ j. j) (λ j low high. omega arith)

exact-inside : (p : ℕ → Bool) (extent begin count len : ℕ) (f : ℕ → ℕ) → begin + count ≤ extent → PassesWithin p extent begin count
    → map f (range_with_len 0 len) ≡ filter (λ j. p (begin + j)) (range_with_len 0 count) → map (λ n. begin + f n) (range_with_len 0 len) ≡ filter p (range_with_len 0 extent)
exact-inside p extent begin count len f fits within is =
    sym (map-map (λ j. begin + j) f (range_with_len 0 len)) ∙ ap (map (λ j. begin + j)) is ∙ sym (inside-only p extent begin count fits within)

all-kept : (p : ℕ → Bool) (a n : ℕ) → ((x : ℕ) → a ≤ x → x < a + n → p x ≡ true) → filter p (range_with_len a n) ≡ range_with_len a n
all-kept p a zero all = refl
all-kept p a (suc n) all =
    ap (λ b. cond b (a ∷ filter p (range_with_len (a + 1) n)) (filter p (range_with_len (a + 1) n))) (all a (omega arith) (omega arith))
    ∙ ap (λ xs. a ∷ xs) (all-kept p (a + 1) n (λ x low high. all x (omega (arith, low)) (omega (arith, high))))

first_or_later : (x a : ℕ) → a ≤ x → (x ≡ a) ⊎ (a + 1 ≤ x)
first_or_later x a low = grind arith

-- where as many pass as there are
all-pass : (p : ℕ → Bool) (a n : ℕ) → n ≤ length (filter p (range_with_len a n)) → (x : ℕ) → a ≤ x → x < a + n → p x ≡ true
all-pass p a zero many x low high = absurd (omega (arith, low, high))
all-pass p a (suc n) many x low high = by_test (λ most later. all-pass p (a + 1) n most x later (omega (arith, high))) (p a) refl many
  where
    rest : List ℕ
    rest = filter p (range_with_len (a + 1) n)

    by_place : (n ≤ length rest → a + 1 ≤ x → p x ≡ true) → p a ≡ true → n ≤ length rest → (x ≡ a) ⊎ (a + 1 ≤ x) → p x ≡ true
    by_place after here most (inl first) = ap p first ∙ here
    by_place after here most (inr later) = after most later

    by_test : (n ≤ length rest → a + 1 ≤ x → p x ≡ true) → (t : Bool) → p a ≡ t → suc n ≤ length (cond t (a ∷ rest) rest) → p x ≡ true
    by_test after true here most =
        let long : length (a ∷ rest) ≡ suc (length rest) = refl in
        by_place after here (omega (arith, most, long)) (first_or_later x a low)
    by_test after false here most =
        absurd (omega (arith, most, length-filter p (range_with_len (a + 1) n), count_by-le-length p (range_with_len (a + 1) n), length-range_with_len (a + 1) n))

-- places that follow one another
pub candidates-from : (p : ℕ → Bool) (extent begin count : ℕ) (exact : Bool) → begin + count ≤ extent → PassesWithin p extent begin count
    → (exact ≡ true → (j : ℕ) → j < count → p (begin + j) ≡ true) → AreCandidates p extent record { begin = begin; count = count; exact = exact; table = None }
candidates-from p extent begin count exact fits within all = record {
  length = tt {0};
  below = λ n below. omega (arith, below, fits);
  kept = kept-inside p extent begin count count (λ n. n) fits within (ap (filter (λ j. p (begin + j))) (same-range count));
  exact = λ is. exact-inside p extent begin count count (λ n. n) fits within
      (same-range count ∙ sym (all-kept (λ j. p (begin + j)) 0 count (λ x low high. all is x (omega (arith, high)))));
}

pub candidates-all : (p : ℕ → Bool) (extent : ℕ) (exact : Bool) → (exact ≡ true → (x : ℕ) → x < extent → p x ≡ true)
    → AreCandidates p extent record { begin = 0; count = extent; exact = exact; table = None }
candidates-all p extent exact all =
    candidates-from p extent 0 extent exact (omega arith) (λ x below held. (omega arith, omega (arith, below)))
    (λ is j below. let at : 0 + j ≡ j = omega arith in ap p at ∙ all is j below)

-- those of a table
pub table-below : (p : ℕ → Bool) (count : ℕ) (t : GapView) → IsTableOf p count t → (n : ℕ) → n < t.len → nth_of t n < count
table-below p count t table = λ n below.
    let inside : n < length (places_of t) = omega (arith, below, length-map-range_with_len (nth_of t) 0 t.len) in
    let at : 0 + n ≡ n = omega arith in
    subst (λ x. x < count) (get_or-map-range_with_len (nth_of t) 0 t.len n n 0 below at)
    (All-get_or (λ x. x < count) (places_of t) n 0 inside (subst (All (λ x. x < count)) (sym table.places)
    (All-filter table.test (λ x. x < count) (range_with_len 0 count) (All-range (λ x. x < count) 0 count (λ x low high. omega (arith, high))))))

pub candidates-in : (p r : ℕ → Bool) (extent begin count : ℕ) (t : GapView) (exact : Bool) → begin + count ≤ extent → PassesWithin p extent begin count
    → ((j : ℕ) → p (begin + j) ≡ true → r j ≡ true) → IsTableOf r count t → (exact ≡ true → IsFiltered (λ j. p (begin + j)) count t)
    → AreCandidates p extent record { begin = begin; count = t.len; exact = exact; table = Some t }
candidates-in p r extent begin count t exact fits within tells table all = record {
  length = refl;
  below = λ n below. let h : nth_of t n < count = table-below r count t table n below in omega (arith, h, fits);
  kept = kept-inside p extent begin count t.len (nth_of t) fits within
      (ap (filter (λ j. p (begin + j))) table.places ∙ twice (λ j. p (begin + j)) table.test (range_with_len 0 count) (λ j held. table.all j (tells j held)));
  exact = λ is. exact-inside p extent begin count t.len (nth_of t) fits within (all is);
}

-- ascending numbers that follow one another
rising-last : (x : ℕ) (xs : List ℕ) → Rising (x + 1) xs → x + length xs ≤ get_or (x ∷ xs) (length xs) 0
rising-last x [] rises = omega arith
rising-last x (y ∷ ys) rises =
    let next : x + 1 ≤ y = rises.0 in
    let last : y + length ys ≤ get_or (y ∷ ys) (length ys) 0 = rising-last y ys rises.1 in
    omega (arith, next, last)

rising-range : (x : ℕ) (xs : List ℕ) → Rising (x + 1) xs → get_or (x ∷ xs) (length xs) 0 ≤ x + length xs → x ∷ xs ≡ range_with_len x (suc (length xs))
rising-range x [] rises few = refl
rising-range x (y ∷ ys) rises few =
    let next : x + 1 ≤ y = rises.0 in
    let last : y + length ys ≤ get_or (y ∷ ys) (length ys) 0 = rising-last y ys rises.1 in
    let long : length (y ∷ ys) ≡ suc (length ys) = refl in
    let same : y ≡ x + 1 = omega (arith, next, last, few, long) in
    ap (λ zs. x ∷ zs) (rising-range y ys rises.1 (omega (arith, next, few, long)) ∙ ap (λ z. range_with_len z (suc (length ys))) same)

all-follow : (xs : List ℕ) (n first : ℕ) → Rising 0 xs → length xs ≡ suc n → get_or xs 0 0 ≡ first → get_or xs n 0 ≡ first + n → xs ≡ range_with_len first (suc n)
all-follow [] n first rises long begins ends = absurd (omega (arith, long))
all-follow (x ∷ xs) n first rises long begins ends =
    let whole : length (x ∷ xs) ≡ suc (length xs) = refl in
    let as-many : n ≡ length xs = omega (arith, long, whole) in
    let last : get_or (x ∷ xs) (length xs) 0 ≡ get_or (x ∷ xs) n 0 = ap (λ m. get_or (x ∷ xs) m 0) (sym as-many) in
    rising-range x xs rises.1 (omega (arith, last, ends, begins, as-many)) ∙ (λ i. range_with_len (begins i) (suc (sym as-many i)))

pub table-follows : (test : ℕ → Bool) (count : ℕ) (t : GapView) (first last : ℕ) → IsFiltered test count t → 0 < t.len → first ≡ nth_of t 0 → last ≡ nth_of t (t.len - 1)
    → last ≡ first + (t.len - 1) → places_of t ≡ range_with_len first t.len
table-follows test count t first last is some first-is last-is spread =
    let least : 0 + 0 ≡ 0 = omega arith in
    let most : 0 + (t.len - 1) ≡ t.len - 1 = omega arith in
    let whole : suc (t.len - 1) ≡ t.len = omega (arith, some) in
    all-follow (places_of t) (t.len - 1) first (subst (Rising 0) (sym is) (filter-rising test 0 count))
    (length-map-range_with_len (nth_of t) 0 t.len ∙ sym whole)
    (get_or-map-range_with_len (nth_of t) 0 t.len 0 0 0 some least ∙ sym first-is)
    (get_or-map-range_with_len (nth_of t) 0 t.len (t.len - 1) (t.len - 1) 0 (omega (arith, some)) most ∙ sym last-is ∙ spread)
    ∙ ap (range_with_len first) whole

pub candidates-follow : (p : ℕ → Bool) (extent begin first : ℕ) (exact : Bool) (t : GapView) → places_of t ≡ range_with_len first t.len
    → AreCandidates p extent record { begin = begin; count = t.len; exact = exact; table = Some t }
    → AreCandidates p extent record { begin = begin + first; count = t.len; exact = exact; table = None }
candidates-follow p extent begin first exact t is are = record {
  length = tt {0};
  below = λ n below.
      let at : 0 + n ≡ n = omega arith in
      let same : begin + nth_of t n ≡ begin + first + n =
      sym (get_or-map-range_with_len (λ n. begin + nth_of t n) 0 t.len n n 0 below at) ∙ ap (λ xs. get_or xs n 0) places
      ∙ get_or-map-range_with_len (λ n. begin + first + n) 0 t.len n n 0 below at in
      let h : begin + nth_of t n < extent = are.below n below in
      omega (arith, h, same);
  kept = ap (filter p) (sym places) ∙ are.kept;
  exact = λ is. sym places ∙ are.exact is;
}
  where
    places : map (λ n. begin + nth_of t n) (range_with_len 0 t.len) ≡ map (λ n. begin + first + n) (range_with_len 0 t.len)
    places =
        sym (map-map (λ j. begin + j) (nth_of t) (range_with_len 0 t.len)) ∙ ap (map (λ j. begin + j)) is
        ∙ map-range_shifted first (begin + first) t.len (λ j. begin + j) (λ j low high. omega arith)
        ∙ sym (map-range_shifted 0 (begin + first) t.len (λ n. begin + first + n) (λ n low high. omega arith))

pub candidates-same : (p s : ℕ → Bool) (extent : ℕ) (c : Candidates) → ((x : ℕ) → p x ≡ s x) → AreCandidates s extent c → AreCandidates p extent c
candidates-same p s extent c same are = subst (λ test. AreCandidates test extent c) (λ i x. sym (same x) i) are

-- the first of two, for what passes by both
pub candidates-both : (p q : ℕ → Bool) (extent : ℕ) (few many : Candidates) (exact : Bool)
    → (exact ≡ true → (few.exact ≡ true) × (many.exact ≡ true) × (many.count ≡ extent)) → AreCandidates p extent few → AreCandidates q extent many
    → AreCandidates (λ x. p x && q x) extent record { begin = few.begin; count = few.count; exact = exact; table = few.table }
candidates-both p q extent few many exact tells a b = record {
  length = a.length;
  below = a.below;
  kept = kept-weaker (λ x. p x && q x) p extent (all_candidates few) (λ x held. (and-parts _ _ held).0) a.kept;
  exact = λ is.
      let told = tells is in
      let as-many : length (all_candidates many) ≡ many.count = length-map-range_with_len (candidate many) 0 many.count in
      let same : length (all_candidates many) ≡ length (filter q (range_with_len 0 extent)) = ap length (b.exact told.1) in
      let whole : many.count ≡ extent = told.2 in
      a.exact told.0
      ∙ filter-agree p (λ x. p x && q x) 0 extent
      (λ x low high. sym (ap (λ t. p x && t) (all-pass q 0 extent (omega (arith, as-many, same, whole)) x low high) ∙ and-true (p x)));
}

-- a table of what passes
pub table-of : (p r : ℕ → Bool) (count : ℕ) (t : GapView) → ((x : ℕ) → p x ≡ true → r x ≡ true) → IsFiltered r count t → IsTableOf p count t
table-of p r count t tells is = record { test = r; all = tells; places = is }

-- two facts of what an option holds
pub if-both : {X : Type 0} {P Q R : X → Type 0} (o : Option X) → IfSome o P → IfSome o Q → ((x : X) → P x → Q x → R x) → IfSome o R
if-both None p q both = tt {0}
if-both (Some x) p q both = both x p q
