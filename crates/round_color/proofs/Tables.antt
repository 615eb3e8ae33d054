-- A write to the table gives one edge its colour; and the steps of the functions that work on it.
use Rattle.std.proofs.Common.{◌≡◌, ℕ, suc, ◌+◌, ◌*◌, ◌/◌, ◌%◌, ◌<◌, ◌≤◌, ◌⊎◌, inl, inr, Bool, true, false, not, if◌then◌else◌, max, List, get_or, set, length, Option, Some, None, refl, sym, ◌∙◌, ap, arith}
use Rattle.std.proofs.lemmas.Bool.{cases_lt, lt-ltb, le-ltb}
use Rattle.std.proofs.lemmas.List.{get_or-set_same, get_or-set_other}
use Rattle.std.proofs.lemmas.Nat.{div-mul-add, mod-mul-add, mul-add-lt}
use Rattle.round_color.specs.Coloring.{Colors, turned, put, mate, exchange_edge, exchange, free_at_both, color_by_exchange, color_edge, greatest_of}
use Rattle.round_color.specs.Table.{seen, sided}
use Rattle.round_color.proofs.Exchange.{put_by}

pub seen-at : (nodes : ℕ) (table : List (Option ℕ)) (x y : ℕ) → y < nodes → seen nodes table x y ≡ get_or table (x * nodes + y) None
seen-at nodes table x y below = ap (λ b. if b then get_or table (x * nodes + y) None else None) (lt-ltb y nodes below)

pub seen-outside : (nodes : ℕ) (table : List (Option ℕ)) (x y : ℕ) → nodes ≤ y → seen nodes table x y ≡ None
seen-outside nodes table x y above = ap (λ b. if b then get_or table (x * nodes + y) None else None) (le-ltb y nodes above)

module _ (nodes : ℕ) (table : List (Option ℕ)) (x y : ℕ) (v : Option ℕ) (from : x < nodes) (to : y < nodes) (size : length table ≡ nodes * nodes) where
  seen-set_at : (p q : ℕ) → seen nodes (set table (x * nodes + y) v) p q ≡ put (seen nodes table) x y v p q
  seen-set_at p q = by_order (cases_lt q nodes)
    where
      by_order : (q < nodes) ⊎ (nodes ≤ q) → seen nodes (set table (x * nodes + y) v) p q ≡ put (seen nodes table) x y v p q
      by_order (inl below) = put_by (λ w. seen nodes (set table (x * nodes + y) v) p q ≡ w) (seen nodes table) x y v p q
          (λ e g. seen-at nodes (set table (x * nodes + y) v) p q below ∙ ap (λ n. get_or (set table (x * nodes + y) v) (n * nodes + q) None) e
          ∙ ap (λ n. get_or (set table (x * nodes + y) v) (x * nodes + n) None) g
          ∙ get_or-set_same table (x * nodes + y) v None (let w = mul-add-lt x nodes y nodes from to in omega arith))
          (λ ne. seen-at nodes (set table (x * nodes + y) v) p q below
          ∙ get_or-set_other table (x * nodes + y) (p * nodes + q) v None
          (λ same. ne (
            sym (div-mul-add p nodes q below) ∙ ap (λ n. n / nodes) same ∙ div-mul-add x nodes y to,
            sym (mod-mul-add p nodes q below) ∙ ap (λ n. n % nodes) same ∙ mod-mul-add x nodes y to,
          ))
          ∙ sym (seen-at nodes table p q below))
      by_order (inr above) = put_by (λ w. seen nodes (set table (x * nodes + y) v) p q ≡ w) (seen nodes table) x y v p q
          (λ e g. absurd (omega arith))
          (λ ne. seen-outside nodes (set table (x * nodes + y) v) p q above ∙ sym (seen-outside nodes table p q above))

  pub seen-set : seen nodes (set table (x * nodes + y) v) ≡ put (seen nodes table) x y v
  seen-set = λ i p q. seen-set_at p q i

turned-put_at : (f : Colors) (x y : ℕ) (v : Option ℕ) (p q : ℕ) → put f y x v q p ≡ put (turned f) x y v p q
turned-put_at f x y v p q = put_by (λ w. w ≡ put (turned f) x y v p q) f y x v q p
    (λ e g. sym (put_by (λ w. w ≡ v) (turned f) x y v p q (λ e' g'. refl) (λ ne. absurd (ne (g, e)))))
    (λ ne. sym (put_by (λ w. w ≡ f q p) (turned f) x y v p q (λ e g. absurd (ne (g, e))) (λ ne'. refl)))

pub turned-put : (f : Colors) (x y : ℕ) (v : Option ℕ) → turned (put f y x v) ≡ put (turned f) x y v
turned-put f x y v = λ i p q. turned-put_at f x y v p q i

pub other-side : (to : Bool) (f : Colors) → sided (not to) f ≡ turned (sided to f)
other-side true f = refl
other-side false f = refl

pub same-side : (to : Bool) (f : Colors) → turned (sided (not to) f) ≡ sided to f
same-side true f = refl
same-side false f = refl

-- ---- an exchange

pub exchange-end : (nodes n m : ℕ) (f : Colors) (x a b y : ℕ) → n ≡ suc m → y ≡ mate nodes f x a → nodes ≤ y → exchange nodes n f x a b ≡ f
exchange-end nodes n m f x a b y is found above =
    ap (λ k. exchange nodes k f x a b) is
    ∙ ap (λ t. if t then exchange_edge (λ g. exchange nodes m g (mate nodes f x a) b a) f x (mate nodes f x a) b else f) (le-ltb (mate nodes f x a) nodes (omega arith))

pub exchange-next : (nodes n m : ℕ) (f : Colors) (x a b y : ℕ) → n ≡ suc m → y ≡ mate nodes f x a → y < nodes
    → exchange nodes n f x a b ≡ exchange_edge (λ g. exchange nodes m g y b a) f x y b
exchange-next nodes n m f x a b y is found below =
    ap (λ k. exchange nodes k f x a b) is
    ∙ ap (λ t. if t then exchange_edge (λ g. exchange nodes m g (mate nodes f x a) b a) f x (mate nodes f x a) b else f) (lt-ltb (mate nodes f x a) nodes (omega arith))
    ∙ ap (λ z. exchange_edge (λ g. exchange nodes m g z b a) f x z b) (sym found)

-- ---- one edge more

pub color_edge-by_exchange : (nodes n d : ℕ) (f : Colors) (x y c : ℕ) → c ≡ free_at_both nodes d f x y → d ≤ c → color_edge nodes n d f (x, y) ≡ color_by_exchange nodes n d f x y
color_edge-by_exchange nodes n d f x y c is above =
    ap (λ t. if t then put f x y (Some (free_at_both nodes d f x y)) else color_by_exchange nodes n d f x y) (le-ltb (free_at_both nodes d f x y) d (omega arith))

-- ---- the greatest value

pub greatest-next : (value : ℕ → ℕ) (before lo len more new v : ℕ) → more ≡ suc len → v ≡ value lo → new ≡ max before v
    → max before (greatest_of value lo more) ≡ max new (greatest_of value (lo + 1) len)
greatest-next value before lo len more new v is at made =
    let rest = greatest_of value (lo + 1) len in
    let step : max before (max (value lo) rest) ≡ max new rest = ap (λ k. max before (max k rest)) (sym at) ∙ (omega arith) in
    ap (λ k. max before (greatest_of value lo k)) is ∙ step
