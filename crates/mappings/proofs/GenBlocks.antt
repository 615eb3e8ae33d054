-- Blocks of given sizes follow one another, and each position up to their sum lies in exactly one.
use Rattle.std.proofs.Common.{◌≡◌, ℕ, zero, suc, ◌+◌, ◌*◌, ◌<◌, ◌≤◌, ◌⊎◌, inl, inr, true, false, nat_le, nat_lt, List, [], ◌∷◌, sym, ◌∙◌, ap, arith, length, sum, take, get_or, take-take}
use Rattle.std.proofs.lemmas.Bool.{cases_lt}
use Rattle.std.proofs.lemmas.Bool.Decides.{nat_tests}
use Rattle.std.proofs.lemmas.List.{take_all}
use Rattle.std.proofs.lemmas.List.Elements.{All-head, All-tail}
use Rattle.std.proofs.lemmas.List.FromFn.{length-map-range_with_len, get_or-map-range_with_len}
use Rattle.std.proofs.lemmas.List.Sums.{sum_by_more, sum_by-cons, sum_by-take-le, sum_by-le, position_or_len_is, fails_before_first, passes_at_first}
use Rattle.std.specs.Prelude.{All}
use Rattle.std.specs.List.{position_or_len}
use Rattle.std.specs.List.Sorted.{IsNonDecreasing, IsPartitionPoint}
use Rattle.mappings.specs.GenBlock.{block_ends, size_before}

-- one block further
pub size_before-more : (sizes : List ℕ) (c d : ℕ) → c < length sizes → size_before sizes (c + 1) ≡ size_before sizes c + get_or sizes c d
size_before-more sizes c d inside = sum_by_more (λ x. x) sizes c d inside

pub size_before-le : (sizes : List ℕ) (b c : ℕ) → b ≤ c → size_before sizes b ≤ size_before sizes c
size_before-le sizes b c order =
    let part : size_before (take c sizes) b ≤ sum (take c sizes) = sum_by-take-le (λ x. x) (take c sizes) b in
    let same : size_before (take c sizes) b ≡ size_before sizes b = ap sum (take-take b c sizes order) in
    omega (arith, part, same)

pub size_before-all : (sizes : List ℕ) → size_before sizes (length sizes) ≡ sum sizes
size_before-all sizes = ap sum (take_all (length sizes) sizes (omega arith))

-- no sum is above that of as many of the greatest size
pub size_before-small : (most : ℕ) (sizes : List ℕ) (c : ℕ) → All (λ n. n ≤ most) sizes → size_before sizes c ≤ length sizes * most
size_before-small most sizes c small = let whole = sum_by-le (λ x. x) most sizes small in omega (arith, whole, sum_by-take-le (λ x. x) sizes c)

pub length-block_ends : (sizes : List ℕ) → length (block_ends sizes) ≡ length sizes
length-block_ends sizes = length-map-range_with_len (λ c. size_before sizes (c + 1)) 0 (length sizes)

pub get-block_ends : (sizes : List ℕ) (c d : ℕ) → c < length sizes → get_or (block_ends sizes) c d ≡ size_before sizes (c + 1)
get-block_ends sizes c d inside = get_or-map-range_with_len (λ c. size_before sizes (c + 1)) 0 (length sizes) c c d inside (omega arith)

upto : (j n : ℕ) → nat_le j n ≡ true → j ≤ n
upto j n h = grind (arith, nat_tests)

past : (j n : ℕ) → nat_le j n ≡ false → n < j
past j n h = grind (arith, nat_tests)

is_upto : (j n : ℕ) → j ≤ n → nat_le j n ≡ true
is_upto j n h = grind (arith, nat_tests)

is_past : (j n : ℕ) → n < j → nat_le j n ≡ false
is_past j n h = grind (arith, nat_tests)

-- a position lies in the block of its coordinate
pub gen-within : (sizes : List ℕ) (j : ℕ) → 1 ≤ j → j ≤ sum sizes
    → (position_or_len (nat_le j) (block_ends sizes) < length sizes)
    × (size_before sizes (position_or_len (nat_le j) (block_ends sizes)) < j)
    × (j ≤ size_before sizes (position_or_len (nat_le j) (block_ends sizes) + 1))
gen-within sizes j begins ends = found (cases_lt c (length sizes))
  where
    c : ℕ
    c = position_or_len (nat_le j) (block_ends sizes)

    -- all blocks before a processor end before the position
    fails : (k : ℕ) → k < c → k < length sizes → size_before sizes (k + 1) < j
    fails k before inside =
        past j _ (ap (nat_le j) (sym (get-block_ends sizes k 0 inside)) ∙ fails_before_first (nat_le j) (block_ends sizes) k 0 before)

    opens : (q : ℕ) → q ≤ c → q ≤ length sizes → size_before sizes q < j
    opens zero low high = begins
    opens (suc q) low high =
        let at : q + 1 ≡ suc q = omega arith in let before = fails q low high in omega (arith, before, ap (size_before sizes) at)

    found : (c < length sizes) ⊎ (length sizes ≤ c) → (c < length sizes) × (size_before sizes c < j) × (j ≤ size_before sizes (c + 1))
    found (inl inside) =
        let passes = passes_at_first (nat_le j) (block_ends sizes) 0 (omega (arith, inside, length-block_ends sizes)) in
        (inside, opens c (omega arith) (omega (arith, inside)), upto j _ (ap (nat_le j) (sym (get-block_ends sizes c 0 inside)) ∙ passes))
    found (inr outside) = absurd (let low = opens (length sizes) outside (omega arith) in omega (arith, low, ends, size_before-all sizes))

-- a position in a block has the block's coordinate
pub gen-unique : (sizes : List ℕ) (j c : ℕ) → c < length sizes → size_before sizes c < j → j ≤ size_before sizes (c + 1)
    → position_or_len (nat_le j) (block_ends sizes) ≡ c
gen-unique sizes j c inside above below =
    position_or_len_is (nat_le j) (block_ends sizes) c 0 (omega (arith, inside, length-block_ends sizes))
    (λ k before. ap (nat_le j) (get-block_ends sizes k 0 (omega (arith, before, inside)))
    ∙ is_past j _ (omega (arith, above, size_before-le sizes (k + 1) c (omega (arith, before)))))
    (λ h. ap (nat_le j) (get-block_ends sizes c 0 inside) ∙ is_upto j _ below)

-- where all sizes are m, the first ones have so many positions
pub size_before-equal : (m : ℕ) (sizes : List ℕ) (c : ℕ) → All (λ n. n ≡ m) sizes → c ≤ length sizes → size_before sizes c ≡ c * m
size_before-equal m sizes zero all inside = omega arith
size_before-equal m [] (suc c) all inside = absurd (omega (arith, inside))
size_before-equal m (n ∷ sizes) (suc c) all inside =
    let first : n ≡ m = All-head (λ n. n ≡ m) n sizes all in
    let rest = size_before-equal m sizes c (All-tail (λ n. n ≡ m) n sizes all) (omega (arith, inside)) in
    sum_by-cons (λ x. x) n (take c sizes) ∙ omega (arith, first, rest)

-- the last positions don't fall
pub block_ends-rise : (sizes : List ℕ) → IsNonDecreasing (block_ends sizes)
block_ends-rise sizes i j d order inside =
    let within : j < length sizes = omega (arith, inside, length-block_ends sizes) in
    let low = get-block_ends sizes i d (omega (arith, order, within)) in
    let high = get-block_ends sizes j d within in
    omega (arith, low, high, size_before-le sizes (i + 1) (j + 1) (omega (arith, order)))

-- where the numbers below a position stop, the first stands that is no less
pub first_at_point : (j : ℕ) (xs : List ℕ) (i : ℕ) → i ≤ length xs
    → IsPartitionPoint (λ x. nat_lt x j ≡ true) (λ x. nat_lt x j ≡ false) xs i → i ≡ position_or_len (nat_le j) xs
first_at_point j xs i within point = sym (position_or_len_is (nat_le j) xs i 0 within
    (λ k before. below j _ (point.0 k 0 (omega arith) before)) (λ inside. above j _ (point.1 i 0 (omega arith) inside)))
  where
    below : (j n : ℕ) → nat_lt n j ≡ true → nat_le j n ≡ false
    below j n h = grind (arith, nat_tests)

    above : (j n : ℕ) → nat_lt n j ≡ false → nat_le j n ≡ true
    above j n h = grind (arith, nat_tests)
