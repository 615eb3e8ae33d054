-- Rows that a part doesn't name play no part in its lines.
use Rattle.std.proofs.Common.{◌≡◌, ℕ, zero, suc, ◌+◌, ◌<◌, ◌≤◌, nat_eq, List, [], ◌∷◌, ◌++◌, length, map, filter, slice_index_or, Bool, true, false, Option, Some, None, refl, sym, ap, ◌∙◌, subst, arith, append_assoc, append-nil}
use Rattle.std.specs.Prelude.{◌&&◌, ◌||◌, ◌==◌, not, cond, codes, decimal, nat_lt, if◌then◌else◌}
use Rattle.std.specs.Cmp.{first_so}
use Rattle.std.specs.List.{slice_get, flat_map, range_with_len}
use Rattle.std.proofs.lemmas.Bool.{true≢false}
use Rattle.std.proofs.lemmas.Bool.Decides.{nat_tests}
use Rattle.std.proofs.lemmas.List.{length-map, map-append, get_or_append_left}
use Rattle.std.proofs.lemmas.List.Elements.{filter-append}
use Rattle.storage.specs.Storage.{Spot, is_same_spot}
use Rattle.machine_steps.specs.Layout.{Layout, size_of, sizes, owned_in, owns_spot, least_owner_of, first, in_bounds}
use Rattle.machine_steps.specs.Message.{Part, spots_from, all_spots, computes_left, names_spot, any_below, needs, message}
use Rattle.message_text.specs.Parts.{Setting}
use Rattle.message_text.specs.MessageText.{row_name, subscripts_text, spots_text, message_line, line_head, part_lines}

-- ---- rows of elements

abbrev AllRows : (ℕ → Type 0) → List Spot → Type 0
AllRows R [] = Unit {0}
AllRows R (x ∷ xs) = R x.row × AllRows R xs

-- the rows of what is read
abbrev pub ReadsIn : (ℕ → Type 0) → List (Option Spot) → Type 0
ReadsIn R [] = Unit {0}
ReadsIn R (None ∷ reads) = ReadsIn R reads
ReadsIn R (Some x ∷ reads) = R x.row × ReadsIn R reads

pub reads-both : (R : ℕ → Type 0) (xs ys : List (Option Spot)) → ReadsIn R xs → ReadsIn R ys → ReadsIn R (xs ++ ys)
reads-both R [] ys h g = g
reads-both R (None ∷ xs) ys h g = reads-both R xs ys h g
reads-both R (Some x ∷ xs) ys h g = (h.0, reads-both R xs ys h.1 g)

all-both : (R : ℕ → Type 0) (xs ys : List Spot) → AllRows R xs → AllRows R ys → AllRows R (xs ++ ys)
all-both R [] ys h g = g
all-both R (x ∷ xs) ys h g = (h.0, all-both R xs ys h.1 g)

all-but : (R Q : ℕ → Type 0) (xs : List Spot) → ((row : ℕ) → R row → Q row) → AllRows R xs → AllRows Q xs
all-but R Q [] f h = tt
all-but R Q (x ∷ xs) f h = (f x.row h.0, all-but R Q xs f h.1)

one-row : (R : ℕ → Type 0) (row : ℕ) (ats : List ℕ) → R row → AllRows R (map (λ at. record { row = row; at = at }) ats)
one-row R row [] h = tt
one-row R row (a ∷ ats) h = (h, one-row R row ats h)

abbrev Between : ℕ → ℕ → ℕ → Type 0
Between lo hi row = (lo ≤ row) × (row < hi)

spots-in : (row : ℕ) (ns : List ℕ) → AllRows (Between row (row + length ns)) (spots_from row ns)
spots-in row [] = tt
spots-in row (n ∷ ns) =
    all-both (Between row (row + suc (length ns))) (map (λ at. record { row = row; at = at }) (range_with_len 0 n)) (spots_from (row + 1) ns)
    (one-row (Between row (row + suc (length ns))) row (range_with_len 0 n) (omega arith, omega arith))
    (all-but (Between (row + 1) (row + 1 + length ns)) (Between row (row + suc (length ns))) (spots_from (row + 1) ns) (λ r h. (let a = h.0 in omega (arith, a), let b = h.1 in omega (arith, b)))
    (spots-in (row + 1) ns))

spots-both : (row : ℕ) (ns ms : List ℕ) → spots_from row (ns ++ ms) ≡ spots_from row ns ++ spots_from (row + length ns) ms
spots-both row [] ms = let e : row ≡ row + 0 = omega arith in ap (λ r. spots_from r ms) e
spots-both row (n ∷ ns) ms =
    let own : List Spot = map (λ at. record { row = row; at = at }) (range_with_len 0 n) in
    let e : row + 1 + length ns ≡ row + suc (length ns) = omega arith in
    ap (λ l. own ++ l) (spots-both (row + 1) ns ms ∙ ap (λ r. spots_from (row + 1) ns ++ spots_from r ms) e)
    ∙ sym (append_assoc own (spots_from (row + 1) ns) (spots_from (row + suc (length ns)) ms))

-- ---- filters

filter-same : (R : ℕ → Type 0) (f g : Spot → Bool) (xs : List Spot) → AllRows R xs → ((x : Spot) → R x.row → f x ≡ g x) → filter f xs ≡ filter g xs
filter-same R f g [] h same = refl
filter-same R f g (x ∷ xs) h same = λ i. let rest = filter-same R f g xs h.1 same i in cond (same x h.0 i) (x ∷ rest) rest

filter-none : (R : ℕ → Type 0) (f : Spot → Bool) (xs : List Spot) → AllRows R xs → ((x : Spot) → R x.row → f x ≡ false) → filter f xs ≡ []
filter-none R f [] h off = refl
filter-none R f (x ∷ xs) h off = (λ i. cond (off x h.0 i) (x ∷ filter f xs) (filter f xs)) ∙ filter-none R f xs h.1 off

filter-rows : (R : ℕ → Type 0) (f : Spot → Bool) (xs : List Spot) → ((x : Spot) → f x ≡ true → R x.row) → AllRows R (filter f xs)
filter-rows R f [] so = tt
filter-rows R f (x ∷ xs) so = by_test (f x) refl (filter-rows R f xs so)
  where
    by_test : (t : Bool) → f x ≡ t → AllRows R (filter f xs) → AllRows R (cond t (x ∷ filter f xs) (filter f xs))
    by_test true e h = (so x e, h)
    by_test false e h = h

-- ---- what is needed is read

same-row : (x y : Spot) → is_same_spot x y ≡ true → x.row ≡ y.row
same-row x y h = let e = first_so (nat_eq x.row y.row) (nat_eq x.at y.at) h in grind (arith, nat_tests, e)

either-true : {Z : Type 0} (a b : Bool) → (a || b) ≡ true → (a ≡ true → Z) → (b ≡ true → Z) → Z
either-true true b h f g = f refl
either-true false b h f g = g h

names-in : (R : ℕ → Type 0) (reads : List (Option Spot)) → ReadsIn R reads → (x : Spot) → names_spot reads x ≡ true → R x.row
names-in R [] h x e = absurd (true≢false (sym e))
names-in R (None ∷ reads) h x e = names-in R reads h x e
names-in R (Some y ∷ reads) h x e =
    either-true (is_same_spot y x) (names_spot reads x) e (λ same. subst R (same-row y x same) h.0) (λ later. names-in R reads h.1 x later)

module _ (nodes : ℕ) (tuples : ℕ) (reads : ℕ → List (Option Spot)) (R : ℕ → Type 0) (reads_in : (t : ℕ) → ReadsIn R (reads t)) where
  below-in : (computes : ℕ → Bool) (x : Spot) (n : ℕ) → any_below (λ t. computes t && names_spot (reads t) x) n ≡ true → R x.row
  below-in computes x zero e = absurd (true≢false (sym e))
  below-in computes x (suc n) e =
      either-true (computes n && names_spot (reads n) x) (any_below (λ t. computes t && names_spot (reads t) x) n) e
      (λ here. names-in R (reads n) (reads_in n) x (second (computes n) (names_spot (reads n) x) here)) (λ later. below-in computes x n later)
    where
      second : (a b : Bool) → (a && b) ≡ true → b ≡ true
      second true b h = h
      second false b h = absurd (true≢false (sym h))

  module _ (left : ℕ → Option Spot) (ls more : List Layout) (below : (row : ℕ) → R row → row < length ls) (left_below : (t : ℕ) (x : Spot) → left t ≡ Some x → x.row < length ls) where
    abbrev pub part_over : List Layout → Part
    part_over layouts = record { tuples = tuples; reads = reads; computes = λ node t. computes_left layouts node (in_bounds layouts (left t)) }

    owned-same : (xs : List Layout) (row : ℕ) → row < length xs → owned_in (xs ++ more) row ≡ owned_in xs row
    owned-same [] row lt = absurd (omega (arith, lt))
    owned-same (x ∷ xs) zero lt = refl
    owned-same (x ∷ xs) (suc row) lt = owned-same xs row (omega (arith, lt))

    size-same : (row : ℕ) → row < length ls → slice_index_or (sizes (ls ++ more)) row 0 ≡ slice_index_or (sizes ls) row 0
    size-same row lt =
        ap (λ ns. slice_index_or ns row 0) (map-append size_of ls more) ∙ get_or_append_left (sizes ls) (sizes more) 0 row (let l = length-map ls size_of in omega (arith, l, lt))

    owns-same : (node : ℕ) (x : Spot) → x.row < length ls → owns_spot (ls ++ more) node x ≡ owns_spot ls node x
    owns-same node x lt = ap (λ (f : ℕ → ℕ → Bool). f node x.at) (owned-same ls x.row lt)

    bounds-same : (o : Option Spot) → ((x : Spot) → o ≡ Some x → x.row < length ls) → (node : ℕ) → computes_left (ls ++ more) node (in_bounds (ls ++ more) o) ≡ computes_left ls node (in_bounds ls o)
    bounds-same None lt node = refl
    bounds-same (Some x) lt node =
        ap (λ n. computes_left (ls ++ more) node (if nat_lt x.at n then Some x else None)) (size-same x.row (lt x refl)) ∙ by_test (nat_lt x.at (slice_index_or (sizes ls) x.row 0))
      where
        by_test : (t : Bool) → computes_left (ls ++ more) node (if t then Some x else None) ≡ computes_left ls node (if t then Some x else None)
        by_test true = owns-same node x (lt x refl)
        by_test false = refl

    part-same : part_over (ls ++ more) ≡ part_over ls
    part-same = λ i. record { tuples = tuples; reads = reads; computes = λ node t. bounds-same (left t) (left_below t) node i }

    -- a message doesn't either
    message-same : (p q : ℕ) → message nodes (ls ++ more) (part_over (ls ++ more)) p q ≡ message nodes ls (part_over ls) p q
    message-same p q =
        ap (λ part. message nodes (ls ++ more) part p q) part-same
        ∙ ap (filter test) (ap (spots_from 0) (map-append size_of ls more) ∙ spots-both 0 (sizes ls) (sizes more))
        ∙ filter-append test (spots_from 0 (sizes ls)) (spots_from (0 + length (sizes ls)) (sizes more))
        ∙ ap (λ l. filter test (spots_from 0 (sizes ls)) ++ l) (filter-none (λ row. length ls ≤ row) test (spots_from (0 + length (sizes ls)) (sizes more)) beyond none)
        ∙ append-nil (filter test (spots_from 0 (sizes ls)))
        ∙ filter-same (λ row. row < length ls) test own (spots_from 0 (sizes ls)) before same
      where
        part : Part
        part = part_over ls

        test : Spot → Bool
        test x = needs part q x && (not (owns_spot (ls ++ more) q x) && (least_owner_of nodes (ls ++ more) x == p))

        own : Spot → Bool
        own x = needs part q x && (not (owns_spot ls q x) && (least_owner_of nodes ls x == p))

        long : length (sizes ls) ≡ length ls
        long = length-map ls size_of

        beyond : AllRows (λ row. length ls ≤ row) (spots_from (0 + length (sizes ls)) (sizes more))
        beyond =
            all-but (Between (0 + length (sizes ls)) (0 + length (sizes ls) + length (sizes more))) (λ row. length ls ≤ row) (spots_from (0 + length (sizes ls)) (sizes more))
            (λ row h. let l = long in let a = h.0 in omega (arith, l, a)) (spots-in (0 + length (sizes ls)) (sizes more))

        before : AllRows (λ row. row < length ls) (spots_from 0 (sizes ls))
        before =
            all-but (Between 0 (0 + length (sizes ls))) (λ row. row < length ls) (spots_from 0 (sizes ls)) (λ row h. let l = long in let a = h.1 in omega (arith, l, a)) (spots-in 0 (sizes ls))

        none : (x : Spot) → length ls ≤ x.row → test x ≡ false
        none x le = by_needs (needs part q x) refl
          where
            by_needs : (t : Bool) → needs part q x ≡ t → (t && (not (owns_spot (ls ++ more) q x) && (least_owner_of nodes (ls ++ more) x == p))) ≡ false
            by_needs true e = let lt = below x.row (below-in (λ t. part.computes q t) x tuples e) in absurd (omega (arith, lt, le))
            by_needs false e = refl

        least-same : (x : Spot) → x.row < length ls → (lo n : ℕ) → first (λ node. owns_spot (ls ++ more) node x) lo n ≡ first (λ node. owns_spot ls node x) lo n
        least-same x lt lo zero = refl
        least-same x lt lo (suc n) = λ i. if owns-same lo x lt i then lo else least-same x lt (lo + 1) n i

        same : (x : Spot) → x.row < length ls → test x ≡ own x
        same x lt = λ i. needs part q x && (not (owns-same q x lt i) && (least-same x lt 0 nodes i == p))

    -- ---- lines

    module _ (s z : Setting) (names : (row : ℕ) → R row → row_name s row ≡ row_name z row) where
      layout-same : (xs : List Layout) (row : ℕ) → row < length xs → slice_get (xs ++ more) row ≡ slice_get xs row
      layout-same [] row lt = absurd (omega (arith, lt))
      layout-same (x ∷ xs) zero lt = refl
      layout-same (x ∷ xs) (suc row) lt = layout-same xs row (omega (arith, lt))

      spots-same : (xs : List Spot) → AllRows R xs → spots_text s (ls ++ more) xs ≡ spots_text z ls xs
      spots-same [] h = refl
      spots-same (x ∷ xs) h =
          λ i. (codes " " ++ (names x.row h.0 i ++ subscripts_text (layout-same ls x.row (below x.row h.0) i) x.at)) ++ spots-same xs h.1 i

      line-same : (head : List ℕ) (p q : ℕ) (xs : List Spot) → AllRows R xs → message_line head p q s (ls ++ more) xs ≡ message_line head p q z ls xs
      line-same head p q [] h = refl
      line-same head p q (x ∷ xs) h = λ i. head ++ decimal p ++ codes " -> " ++ decimal q ++ codes ":" ++ spots-same (x ∷ xs) h i ++ codes "\n"

      message-rows : (p q : ℕ) → AllRows R (message nodes ls (part_over ls) p q)
      message-rows p q =
          filter-rows R (λ x. needs (part_over ls) q x && (not (owns_spot ls q x) && (least_owner_of nodes ls x == p))) (all_spots ls)
          (λ x e. below-in (λ t. (part_over ls).computes q t) x tuples (first_so (needs (part_over ls) q x) (not (owns_spot ls q x) && (least_owner_of nodes ls x == p)) e))

      lines-of : (head : List ℕ) (p q : ℕ) → message_line head p q s (ls ++ more) (message nodes (ls ++ more) (part_over (ls ++ more)) p q)
          ≡ message_line head p q z ls (message nodes ls (part_over ls) p q)
      lines-of head p q = ap (message_line head p q s (ls ++ more)) (message-same p q) ∙ line-same head p q (message nodes ls (part_over ls) p q) (message-rows p q)

      pub part-lines-same : (line : ℕ) → s.nodes ≡ nodes → z.nodes ≡ nodes → part_lines s (ls ++ more) line (part_over (ls ++ more)) ≡ part_lines z ls line (part_over ls)
      part-lines-same line e f =
          ap (λ c. over_nodes c (λ p q. message_line (line_head line) p q s (ls ++ more) (message c (ls ++ more) (part_over (ls ++ more)) p q))) e
          ∙ (λ i. over_nodes nodes (λ p q. lines-of (line_head line) p q i))
          ∙ sym (ap (λ c. over_nodes c (λ p q. message_line (line_head line) p q z ls (message c ls (part_over ls) p q))) f)
        where
          over_nodes : ℕ → (ℕ → ℕ → List ℕ) → List ℕ
          over_nodes c f = flat_map (λ p. flat_map (λ q. f p q) (range_with_len 0 c)) (range_with_len 0 c)
