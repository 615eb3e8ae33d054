-- Colours along a path are exchanged: still no two edges of one colour share an end, and the first of them is free where the path begins.
use Rattle.std.proofs.Common.{◌≡◌, ℕ, zero, suc, ◌<◌, ◌≤◌, ◌==◌, ◌&&◌, ◌⊎◌, inl, inr, Bool, true, false, if◌then◌else◌, nat_lt, List, [], ◌∷◌, length, map, Option, Some, None, refl, sym, ◌∙◌, ap, subst, arith, eq-eqb, eqb-true}
use Rattle.std.proofs.lemmas.Bool.{ne_eqb, cases_eq, false_from_ne_true, ltb-true, ltb-false}
use Rattle.std.specs.Option.{is_some}
use Rattle.round_color.specs.Proper.{IsFree, IsProper, IsWithin, IsListed, IsExchanged}
use Rattle.round_color.specs.Coloring.{Colors, is_color, turned, put, mate, exchange_edge, exchange}
use Rattle.round_color.proofs.FirstPassing.{first_passing-before, first_passing-passes}
use Rattle.round_color.proofs.Members.{true-false, In, contains-in, in-map, length-mapped, without}

-- ---- colours

pub color-colored : (c : ℕ) (v : Option ℕ) → is_color c v ≡ true → is_some v ≡ true
color-colored c None h = absurd (true-false (sym h))
color-colored c (Some k) h = refl

-- a property of what is written at a place, and of what stands at every other
pub put_by : (P : Option ℕ → Type 0) (f : Colors) (x y : ℕ) (v : Option ℕ) (p q : ℕ)
    → (p ≡ x → q ≡ y → P v) → (((p ≡ x) × (q ≡ y) → ⊥) → P (f p q)) → P (put f x y v p q)
put_by P f x y v p q here elsewhere = by_both (cases_eq p x) (cases_eq q y)
  where
    by_both : (p ≡ x) ⊎ (p ≡ x → ⊥) → (q ≡ y) ⊎ (q ≡ y → ⊥) → P (if p == x && q == y then v else f p q)
    by_both (inl e) (inl g) =
        subst (λ b. P (if b then v else f p q)) (sym (ap (λ b. b && (q == y)) (eq-eqb p x e) ∙ eq-eqb q y g)) (here e g)
    by_both (inl e) (inr ne) =
        subst (λ b. P (if b then v else f p q)) (sym (ap (λ b. b && (q == y)) (eq-eqb p x e) ∙ ne_eqb q y ne)) (elsewhere (λ h. ne h.1))
    by_both (inr ne) w =
        subst (λ b. P (if b then v else f p q)) (sym (ap (λ b. b && (q == y)) (ne_eqb p x ne))) (elsewhere (λ h. ne h.0))

-- ---- edges that come and go

pub turned-proper : (f : Colors) → IsProper f → IsProper (turned f)
turned-proper f h = record { one_target = h.one_source; one_source = h.one_target }

-- an edge that is taken out
module _ (f : Colors) (x y : ℕ) where
  pub out-kept : (c p q : ℕ) → is_color c (put f x y None p q) ≡ true → is_color c (f p q) ≡ true
  out-kept c p q = put_by (λ v. is_color c v ≡ true → is_color c (f p q) ≡ true) f x y None p q (λ e g h. absurd (true-false (sym h))) (λ ne h. h)

  pub out-colored : (p q : ℕ) → is_some (put f x y None p q) ≡ true → is_some (f p q) ≡ true
  out-colored p q = put_by (λ v. is_some v ≡ true → is_some (f p q) ≡ true) f x y None p q (λ e g h. absurd (true-false (sym h))) (λ ne h. h)

  pub out-free : (z c : ℕ) → IsFree f z c → IsFree (put f x y None) z c
  out-free z c free q = put_by (λ v. is_color c v ≡ false) f x y None z q (λ e g. refl) (λ ne. free q)

  pub out-free-to : (z c : ℕ) → IsFree (turned f) z c → IsFree (turned (put f x y None)) z c
  out-free-to z c free q = put_by (λ v. is_color c v ≡ false) f x y None q z (λ e g. refl) (λ ne. free q)

  pub out-proper : IsProper f → IsProper (put f x y None)
  out-proper h = record {
    one_target = λ p q r c e g. h.one_target p q r c (out-kept c p q e) (out-kept c p r g);
    one_source = λ p q r c e g. h.one_source p q r c (out-kept c q p e) (out-kept c r p g);
  }

  -- where it has a colour, that colour is free behind it
  module _ (a : ℕ) (h : IsProper f) (has : is_color a (f x y) ≡ true) where
    pub freed-from : IsFree (put f x y None) x a
    freed-from q = put_by (λ v. is_color a v ≡ false) f x y None x q (λ e g. refl)
        (λ ne. false_from_ne_true (is_color a (f x q)) (λ is. ne (refl, h.one_target x q y a is has)))

    pub freed-to : IsFree (turned (put f x y None)) y a
    freed-to q = put_by (λ v. is_color a v ≡ false) f x y None q y (λ e g. refl)
        (λ ne. false_from_ne_true (is_color a (f q y)) (λ is. ne (h.one_source y q x a is has, refl)))

-- an edge that gets a colour that is free at both ends
pub put-proper : (f : Colors) (x y c : ℕ) → IsProper f → IsFree f x c → IsFree (turned f) y c → IsProper (put f x y (Some c))
put-proper f x y c h from to = record {
  one_target = λ p q r k.
      put_by (λ v. is_color k v ≡ true → is_color k (put f x y (Some c) p r) ≡ true → q ≡ r) f x y (Some c) p q
      (λ e g is.
      let same : c ≡ k = eqb-true c k is in
      put_by (λ w. is_color k w ≡ true → q ≡ r) f x y (Some c) p r
      (λ e' g' is'. g ∙ sym g')
      (λ ne is'. absurd (true-false (sym is' ∙ ap (λ n. is_color k (f n r)) e ∙ ap (λ n. is_color n (f x r)) (sym same) ∙ from r))))
      (λ ne is.
      put_by (λ w. is_color k w ≡ true → q ≡ r) f x y (Some c) p r
      (λ e' g' is'.
      let same : c ≡ k = eqb-true c k is' in
      absurd (true-false (sym is ∙ ap (λ n. is_color k (f n q)) e' ∙ ap (λ n. is_color n (f x q)) (sym same) ∙ from q)))
      (λ ne' is'. h.one_target p q r k is is'));
  one_source = λ p q r k.
      put_by (λ v. is_color k v ≡ true → is_color k (put f x y (Some c) r p) ≡ true → q ≡ r) f x y (Some c) q p
      (λ e g is.
      let same : c ≡ k = eqb-true c k is in
      put_by (λ w. is_color k w ≡ true → q ≡ r) f x y (Some c) r p
      (λ e' g' is'. e ∙ sym e')
      (λ ne is'. absurd (true-false (sym is' ∙ ap (λ n. is_color k (f r n)) g ∙ ap (λ n. is_color n (f r y)) (sym same) ∙ to r))))
      (λ ne is.
      put_by (λ w. is_color k w ≡ true → q ≡ r) f x y (Some c) r p
      (λ e' g' is'.
      let same : c ≡ k = eqb-true c k is' in
      absurd (true-false (sym is ∙ ap (λ n. is_color k (f q n)) g' ∙ ap (λ n. is_color n (f q y)) (sym same) ∙ to q)))
      (λ ne' is'. h.one_source p q r k is is'));
}

-- ---- the edges that have a colour

-- only the listed edges have one
abbrev pub IsAmong : List (ℕ × ℕ) → Colors → Type 0
IsAmong edges f = (x y : ℕ) → is_some (f x y) ≡ true → In (x, y) edges

abbrev pub swapped : ℕ × ℕ → ℕ × ℕ
swapped e = (e.1, e.0)

pub turned-listed : (edges : List (ℕ × ℕ)) (f : Colors) → IsAmong edges f → IsAmong (map swapped edges) (turned f)
turned-listed edges f h x y is = in-map swapped (y, x) edges (h y x is)

-- ---- the path

-- nothing to exchange
unchanged : (f : Colors) (x a b : ℕ) → IsProper f → IsFree f x a → IsExchanged f f x a b
unchanged f x a b h free = record {
  proper = h;
  freed = free;
  across = λ y c none it. it;
  beside = λ z c ne none it. it;
  same_edges = λ p q. refl;
  below = λ d a' b' it. it;
}

module _ (nodes : ℕ) (f : Colors) (within : IsWithin nodes f) (x a : ℕ) where
  pub mate-none : nodes ≤ mate nodes f x a → IsFree f x a
  mate-none none y = false_from_ne_true (is_color a (f x y)) (λ is.
      let below = (within x y (color-colored a (f x y) is)).to in
      true-false (sym is ∙ first_passing-before (λ z. is_color a (f x z)) 0 nodes y (omega arith) (omega arith)))

  pub mate-some : mate nodes f x a < nodes → is_color a (f x (mate nodes f x a)) ≡ true
  mate-some some = first_passing-passes (λ z. is_color a (f x z)) 0 nodes (omega arith)

-- one edge with the colour a at x, behind which the rest of the path has its colours exchanged
module _ (f G : Colors) (x y a b : ℕ) (h : IsProper f) (apart : a ≡ b → ⊥) (free : IsFree f x b) (has : is_color a (f x y) ≡ true)
    (E : IsExchanged (turned (put f x y None)) G y b a) where
  edge-exchanged : IsExchanged f (put (turned G) x y (Some b)) x a b
  edge-exchanged =
      let out = put f x y None in
      let b-out : IsFree out x b = out-free f x y x b free in
      record {
        proper = put-proper (turned G) x y b (turned-proper G E.proper) (E.across x b b-out b-out) E.freed;
        freed = λ z. put_by (λ v. is_color a v ≡ false) (turned G) x y (Some b) x z
            (λ e g. ne_eqb b a (λ same. apart (sym same)))
            (λ ne. E.across x a b-out (freed-from f x y a h has) z);
        across = λ w c none it z. put_by (λ v. is_color c v ≡ false) (turned G) x y (Some b) z w
            (λ e g. absurd (true-false (sym has ∙ ap (λ n. is_color a (f x n)) (sym g) ∙ none x)))
            (λ ne. E.beside w c (λ g. true-false (sym has ∙ ap (λ n. is_color a (f x n)) (sym g) ∙ none x))
            (out-free-to f x y w a none) (out-free-to f x y w c it) z);
        beside = λ z c other none it q. put_by (λ v. is_color c v ≡ false) (turned G) x y (Some b) z q
            (λ e g. absurd (other e))
            (λ ne. E.across z c (out-free f x y z b none) (out-free f x y z c it) q);
        same_edges = λ p q. put_by (λ v. is_some v ≡ is_some (f p q)) (turned G) x y (Some b) p q
            (λ e g. sym (ap (λ n. is_some (f n q)) e ∙ ap (λ n. is_some (f x n)) g ∙ color-colored a (f x y) has))
            (λ ne. E.same_edges q p ∙ put_by (λ v. is_some v ≡ is_some (f p q)) f x y None p q (λ e g. absurd (ne (e, g))) (λ ne'. refl));
        below = λ d a' b' it p q c. put_by (λ v. is_color c v ≡ true → c < d) (turned G) x y (Some b) p q
            (λ e g is. let same : b ≡ c = eqb-true b c is in omega arith)
            (λ ne is. E.below d b' a' (λ r s k is'. it s r k (out-kept f x y k s r is')) q p c is);
      }

-- a path is no longer than the list of the edges that have a colour
pub exchanged-among : (nodes n : ℕ) (f : Colors) (x a b : ℕ) (edges : List (ℕ × ℕ)) → IsProper f → (a ≡ b → ⊥) → IsFree f x b → IsWithin nodes f
    → IsAmong edges f → length edges ≤ n → IsExchanged f (exchange nodes n f x a b) x a b
exchanged-among nodes zero f x a b edges h apart free within listed short = unchanged f x a b h (none-listed edges listed short)
  where
    none-listed : (edges : List (ℕ × ℕ)) → IsAmong edges f → length edges ≤ 0 → IsFree f x a
    none-listed [] listed short y = false_from_ne_true (is_color a (f x y)) (λ is. listed x y (color-colored a (f x y) is))
    none-listed (e ∷ es) listed short y = absurd (omega arith)
exchanged-among nodes (suc n) f x a b edges h apart free within listed short = by_mate (nat_lt (mate nodes f x a) nodes) refl (λ g y es. exchanged-among nodes n g y b a es)
  where
    by_mate : (t : Bool) → nat_lt (mate nodes f x a) nodes ≡ t
        → ((g : Colors) (y : ℕ) (es : List (ℕ × ℕ)) → IsProper g → (b ≡ a → ⊥) → IsFree g y a → IsWithin nodes g → IsAmong es g → length es ≤ n
        → IsExchanged g (exchange nodes n g y b a) y b a)
        → IsExchanged f (if t then exchange_edge (λ g. exchange nodes n g (mate nodes f x a) b a) f x (mate nodes f x a) b else f) x a b
    by_mate true is ih =
        let y = mate nodes f x a in
        let has : is_color a (f x y) ≡ true = mate-some nodes f within x a (ltb-true y nodes is) in
        let out = put f x y None in
        let w = without (x, y) edges (listed x y (color-colored a (f x y) has)) in
        let s = w.shorter in
        let left : IsAmong w.rest out = λ p q. put_by (λ v. is_some v ≡ true → In (p, q) w.rest) f x y None p q
        (λ e g h. absurd (true-false (sym h)))
        (λ ne h. w.others (p, q) (λ e. ne (ap (λ z. z.0) e, ap (λ z. z.1) e)) (listed p q h)) in
        let size = length-mapped swapped w.rest in
        edge-exchanged f (exchange nodes n (turned out) y b a) x y a b h apart free has
        (ih (turned out) y (map swapped w.rest) (turned-proper out (out-proper f x y h)) (λ e. apart (sym e))
        (freed-to f x y a h has)
        (λ p q is. let edge = within q p (out-colored f x y q p is) in record { from = edge.to; to = edge.from })
        (turned-listed w.rest out left) (omega arith))
    by_mate false is ih = unchanged f x a b h (mate-none nodes f within x a (ltb-false (mate nodes f x a) nodes is))

pub exchanged : (nodes n : ℕ) (f : Colors) (x a b : ℕ) (edges : List (ℕ × ℕ)) → IsProper f → (a ≡ b → ⊥) → IsFree f x b → IsWithin nodes f
    → IsListed edges f → length edges ≤ n → IsExchanged f (exchange nodes n f x a b) x a b
exchanged nodes n f x a b edges h apart free within listed short =
    exchanged-among nodes n f x a b edges h apart free within (λ p q is. contains-in (p, q) edges (listed p q is)) short
