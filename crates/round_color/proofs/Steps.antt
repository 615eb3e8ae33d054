-- One edge more is coloured.
use Rattle.std.proofs.Common.{◌≡◌, ℕ, zero, suc, ◌<◌, ◌≤◌, ◌==◌, ◌&&◌, ◌⊎◌, inl, inr, Bool, true, false, if◌then◌else◌, nat_lt, List, ◌∷◌, length, map, filter, Option, Some, None, refl, sym, ◌∙◌, ap, subst, arith, eq-eqb, eqb-true}
use Rattle.std.proofs.lemmas.Bool.{cases_lt, false_from_ne_true, ltb-true, ltb-false, and_parts, and_from}
use Rattle.std.specs.Option.{is_some, unwrap_or}
use Rattle.round_color.specs.Proper.{IsEdge, IsFree, IsProper, IsBelow, IsWithin, IsExchanged}
use Rattle.round_color.specs.Coloring.{Colors, is_color, turned, put, mate, is_free, free_at_both, free_at, exchange, color_by_exchange, color_edge, sends, takes}
use Rattle.round_color.proofs.FirstPassing.{first_passing-bound, first_passing-passes, first_passing-before}
use Rattle.round_color.proofs.Members.{true-false, In, in-map, in-row, length-mapped, without}
use Rattle.round_color.proofs.Exchange.{IsAmong, put_by, put-proper, turned-proper, mate-none, mate-some, exchanged-among, color-colored, turned-listed, swapped}

-- ---- some colour is free

pub color-value : (c : ℕ) (v : Option ℕ) → is_color c v ≡ true → v ≡ Some c
color-value c None h = absurd (true-false (sym h))
color-value c (Some k) h = ap (λ n. Some n) (eqb-true k c h)

none-value : (v : Option ℕ) → is_some v ≡ false → v ≡ None
none-value None h = refl
none-value (Some c) h = absurd (true-false h)

abbrev IsSome : Option ℕ → Type 0
IsSome None = ⊥
IsSome (Some c) = Unit {0}

-- a list that has each colour below d has d items
pigeons : (d : ℕ) (os : List (Option ℕ)) → ((c : ℕ) → c < d → In (Some c) os) → d ≤ length os
pigeons zero os h = omega arith
pigeons (suc d) os h =
    let w = without (Some d) os (h d (omega arith)) in
    let s = w.shorter in
    let ih : d ≤ length w.rest = pigeons d w.rest (λ c below. w.others (Some c) (λ e. let same : c ≡ d = ap (λ o. unwrap_or o d) e in absurd (omega arith)) (h c (omega arith))) in
    omega arith

-- an end that has an edge without a colour, and d edges at most, has a free colour below d
free-below : (nodes d : ℕ) (f : Colors) (x y : ℕ) (row : List ℕ) → ((m : ℕ) → is_some (f x m) ≡ true → In m row) → IsWithin nodes f
    → In y row → is_some (f x y) ≡ false → length row ≤ d → free_at nodes d f x < d
free-below nodes d f x y row listed within has bare short = by_order (cases_lt (free_at nodes d f x) d)
  where
    by_order : (free_at nodes d f x < d) ⊎ (d ≤ free_at nodes d f x) → free_at nodes d f x < d
    by_order (inl below) = below
    by_order (inr full) =
        let os = map (f x) row in
        let w = without None os (subst (λ v. In v os) (none-value (f x y) bare) (in-map (f x) y row has)) in
        let s = w.shorter in
        let size = length-mapped (f x) row in
        let each : (c : ℕ) → c < d → In (Some c) w.rest = λ c below.
        let taken : is_free nodes f x c ≡ false = first_passing-before (is_free nodes f x) 0 d c (omega arith) (omega arith) in
        let m = mate nodes f x c in
        let bound = (first_passing-bound (λ z. is_color c (f x z)) 0 nodes).1 in
        let apart : m ≡ nodes → ⊥ = λ e. true-false (sym (eq-eqb m nodes e) ∙ taken) in
        let is : is_color c (f x m) ≡ true = mate-some nodes f within x c (omega (arith, apart)) in
        w.others (Some c) (λ e. subst IsSome e tt)
        (subst (λ v. In v os) (color-value c (f x m) is) (in-map (f x) m row (listed m (color-colored c (f x m) is)))) in
        let enough = pigeons d w.rest each in
        absurd (omega arith)

free-is : (nodes : ℕ) (f : Colors) (x c : ℕ) → IsWithin nodes f → is_free nodes f x c ≡ true → IsFree f x c
free-is nodes f x c within h = let e = eqb-true (mate nodes f x c) nodes h in mate-none nodes f within x c (omega arith)

turned-within : (nodes : ℕ) (f : Colors) → IsWithin nodes f → IsWithin nodes (turned f)
turned-within nodes f h x y is = let edge = h y x is in record { from = edge.to; to = edge.from }

-- ---- one edge more

-- just the edges so far have a colour, below the limit, and two of one colour share no end
pub record IsDone (nodes d : ℕ) (edges : List (ℕ × ℕ)) (f : Colors) : Type 0 where
  pub proper : IsProper f
  pub below : IsBelow d f
  pub within : IsWithin nodes f
  pub listed : IsAmong edges f
  pub all : (x y : ℕ) → In (x, y) edges → is_some (f x y) ≡ true

-- an edge gets a colour that is free at both its ends
pub put-colored : (nodes d : ℕ) (done : List (ℕ × ℕ)) (f : Colors) (x y c : ℕ) → IsDone nodes d done f → x < nodes → y < nodes → c < d
    → IsFree f x c → IsFree (turned f) y c → IsDone nodes d ((x, y) ∷ done) (put f x y (Some c))
put-colored nodes d done f x y c h from to below free-from free-to = record {
  proper = put-proper f x y c h.proper free-from free-to;
  below = λ p q k. put_by (λ v. is_color k v ≡ true → k < d) f x y (Some c) p q
      (λ e g is. subst (λ n. n < d) (eqb-true c k is) below) (λ ne is. h.below p q k is);
  within = λ p q. put_by (λ v. is_some v ≡ true → IsEdge nodes (p, q)) f x y (Some c) p q
      (λ e g is. record { from = subst (λ n. n < nodes) (sym e) from; to = subst (λ n. n < nodes) (sym g) to }) (λ ne is. h.within p q is);
  listed = λ p q. put_by (λ v. is_some v ≡ true → In (p, q) ((x, y) ∷ done)) f x y (Some c) p q
      (λ e g is. inl (λ i. (e i, g i))) (λ ne is. inr (h.listed p q is));
  all = λ p q is. put_by (λ v. is_some v ≡ true) f x y (Some c) p q (λ e g. refl) (λ ne. earlier_edge p q ne is);
}
  where
    earlier_edge : (p q : ℕ) → ((p ≡ x) × (q ≡ y) → ⊥) → In (p, q) ((x, y) ∷ done) → is_some (f p q) ≡ true
    earlier_edge p q ne (inl e) = absurd (ne (ap (λ z. z.0) e, ap (λ z. z.1) e))
    earlier_edge p q ne (inr is) = h.all p q is

-- what an exchange at the target leaves
kept-colored : (nodes d : ℕ) (done : List (ℕ × ℕ)) (f G : Colors) (y a b : ℕ) → IsDone nodes d done f → a < d → b < d
    → IsExchanged (turned f) G y a b → IsDone nodes d done (turned G)
kept-colored nodes d done f G y a b h a-below b-below E = record {
  proper = turned-proper G E.proper;
  below = λ p q k is. E.below d a-below b-below (λ r s c is'. h.below s r c is') q p k is;
  within = λ p q is. h.within p q (sym (E.same_edges q p) ∙ is);
  listed = λ p q is. h.listed p q (sym (E.same_edges q p) ∙ is);
  all = λ p q is. E.same_edges q p ∙ h.all p q is;
}

-- an edge from x to y that is next, among edges of which some are coloured already; of all there are at most d from x and at most d to y
pub record IsNext (nodes n d : ℕ) (full done : List (ℕ × ℕ)) (f : Colors) (x y : ℕ) : Type 0 where
  pub so_far : IsDone nodes d done f
  pub from : x < nodes
  pub to : y < nodes
  pub new : In (x, y) done → ⊥
  pub given : In (x, y) full
  pub part : (e : ℕ × ℕ) → In e done → In e full
  pub short : length done ≤ n
  pub sent : sends full x ≤ d
  pub taken : takes full y ≤ d

-- it gets a colour, and so all edges so far and it have one
pub next-colored : (nodes n d : ℕ) (full done : List (ℕ × ℕ)) (f : Colors) (x y : ℕ) → IsNext nodes n d full done f x y
    → IsDone nodes d ((x, y) ∷ done) (color_edge nodes n d f (x, y))
next-colored nodes n d full done f x y h = by_test (nat_lt (free_at_both nodes d f x y) d) refl
  where
    by_test : (t : Bool) → nat_lt (free_at_both nodes d f x y) d ≡ t
        → IsDone nodes d ((x, y) ∷ done) (if t then put f x y (Some (free_at_both nodes d f x y)) else color_by_exchange nodes n d f x y)
    by_test true is =
        let c = free_at_both nodes d f x y in
        let below = ltb-true c d is in
        let both = and_parts (is_free nodes f x c) (is_free nodes (turned f) y c)
        (first_passing-passes (λ k. is_free nodes f x k && is_free nodes (turned f) y k) 0 d (omega arith)) in
        put-colored nodes d done f x y c h.so_far h.from h.to below (free-is nodes f x c h.so_far.within both.0)
        (free-is nodes (turned f) y c (turned-within nodes f h.so_far.within) both.1)
    by_test false is =
        let none-both = ltb-false (free_at_both nodes d f x y) d is in
        let a = free_at nodes d f x in
        let b = free_at nodes d (turned f) y in
        let bare : is_some (f x y) ≡ false = false_from_ne_true (is_some (f x y)) (λ e. h.new (h.so_far.listed x y e)) in
        let sent = h.sent in
        let taken = h.taken in
        let targets = map (λ (e : ℕ × ℕ). e.1) (filter (λ (e : ℕ × ℕ). e.0 == x) full) in
        let sources = map (λ (e : ℕ × ℕ). e.0) (filter (λ (e : ℕ × ℕ). e.1 == y) full) in
        let in-targets : (m : ℕ) → In (x, m) full → In m targets = λ m is. in-row (λ e. e.0 == x) (λ e. e.1) (x, m) full (eq-eqb x x refl) is in
        let in-sources : (m : ℕ) → In (m, y) full → In m sources = λ m is. in-row (λ e. e.1 == y) (λ e. e.0) (m, y) full (eq-eqb y y refl) is in
        let targets-size = length-mapped (λ (e : ℕ × ℕ). e.1) (filter (λ (e : ℕ × ℕ). e.0 == x) full) in
        let sources-size = length-mapped (λ (e : ℕ × ℕ). e.0) (filter (λ (e : ℕ × ℕ). e.1 == y) full) in
        let a-below : a < d = free-below nodes d f x y targets (λ m is. in-targets m (h.part (x, m) (h.so_far.listed x m is))) h.so_far.within
        (in-targets y h.given) bare (omega arith) in
        let b-below : b < d = free-below nodes d (turned f) y x sources (λ m is. in-sources m (h.part (m, y) (h.so_far.listed m y is)))
        (turned-within nodes f h.so_far.within) (in-sources x h.given) bare (omega arith) in
        let a-free : is_free nodes f x a ≡ true = first_passing-passes (is_free nodes f x) 0 d (omega arith) in
        let b-free : is_free nodes (turned f) y b ≡ true = first_passing-passes (is_free nodes (turned f) y) 0 d (omega arith) in
        let apart : a ≡ b → ⊥ = λ same. true-false
        (sym (and_from (is_free nodes f x a) (is_free nodes (turned f) y a) a-free (subst (λ c. is_free nodes (turned f) y c ≡ true) (sym same) b-free))
        ∙ first_passing-before (λ k. is_free nodes f x k && is_free nodes (turned f) y k) 0 d a (omega arith) (omega arith)) in
        let size = length-mapped swapped done in
        let short = h.short in
        let E = exchanged-among nodes n (turned f) y a b (map swapped done) (turned-proper f h.so_far.proper) apart
        (free-is nodes (turned f) y b (turned-within nodes f h.so_far.within) b-free) (turned-within nodes f h.so_far.within)
        (turned-listed done f h.so_far.listed) (omega arith) in
        let a-is-free = free-is nodes f x a h.so_far.within a-free in
        put-colored nodes d done (turned (exchange nodes n (turned f) y a b)) x y a
        (kept-colored nodes d done f (exchange nodes n (turned f) y a b) y a b h.so_far a-below b-below E) h.from h.to a-below
        (E.across x a a-is-free a-is-free) E.freed
