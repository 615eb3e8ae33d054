-- The example nest's scalars may have copies.
use Rattle.std.proofs.Common.{◌≡◌, ℕ, zero, suc, ◌+◌, ◌<◌, List, [], ◌∷◌, length, get_or, Bool, true, false, Ok, if◌then◌else◌, refl, ap, sym, ◌∙◌, subst, arith, ℤ, pos}
use Rattle.std.specs.Prelude.{int_lt, int_div, FitsSigned}
use Rattle.std.specs.Int.{int_wrap}
use mir.Syntax.{w64}
use Rattle.std.specs.List.{Contains, AllByRecursion}
use Rattle.std.proofs.lemmas.Int.{SFits-int_wrap}
use Rattle.std.proofs.Math.Facts.{sfits_lit}
use Rattle.storage.specs.Storage.{Storage, Spot, row_of, read}
use Rattle.storage.specs.Effect.{Skip, Put, Fail}
use Rattle.nest_order.specs.Items.{EachIn}
use Rattle.storage.specs.Truth.{is_set}
use Rattle.op_tables.specs.declared.join.Join.{Join}
use Rattle.op_tables.specs.declared.join.Join.TheVariants.{Sum}
use Rattle.op_tables.specs.Joins.{IsOverNumbers}
use Rattle.nest_order.specs.Reduction.{OnRight, IsOf, value_in}
use Rattle.nest_syntax.specs.NestKinds.{Shared, New, Assigned, Reduced, has_copies}
use Rattle.nest_order.specs.Copies.{scalar_at}
use Rattle.nest_order.specs.Scalars.{AllFit, MayName, MayNameAll, ReadsLate, IsAction, IsCondition, MayCopy}
use Rattle.nest_order.specs.Example.{Set, Add, Divide, Exceeds, interpretation, spots_written, a_at, b_at, kinds, body_of_scalars, reads, reducing, fine_scalars}

fits_row : (xs : List ℤ) (k : ℕ) → AllByRecursion (FitsSigned w64) xs → FitsSigned w64 (get_or xs k (pos 0))
fits_row [] k all = sfits_lit tt
fits_row (x ∷ xs) zero all = all.0
fits_row (x ∷ xs) (suc k) all = fits_row xs k all.1

fits_rows : (m : Storage) (row at : ℕ) → AllByRecursion (AllByRecursion (FitsSigned w64)) m → FitsSigned w64 (get_or (get_or m row []) at (pos 0))
fits_rows [] row at all = sfits_lit tt
fits_rows (r ∷ m) zero at all = fits_row r at all.0
fits_rows (r ∷ m) (suc row) at all = fits_rows m row at all.1

start_fits : AllFit fine_scalars
start_fits spot = fits_rows fine_scalars spot.row spot.at
    (((sfits_lit tt, (sfits_lit tt, (sfits_lit tt, tt))), ((sfits_lit tt, (sfits_lit tt, (sfits_lit tt, (sfits_lit tt, tt)))), ((sfits_lit tt, tt), ((sfits_lit tt, tt), tt)))))

one_spot : (a spot : Spot) → Contains (a ∷ []) spot → a ≡ spot
one_spot a spot (zero, lt, e) = e
one_spot a spot (suc k, lt, e) = absurd (omega arith)

may_one : (a : Spot) → MayName (kinds a.row) a → MayNameAll kinds (a ∷ [])
may_one a may spot c = subst (λ l. MayName (kinds l.row) l) (one_spot a spot c) may

may_two : (a b : Spot) → MayName (kinds a.row) a → MayName (kinds b.row) b → MayNameAll kinds (a ∷ b ∷ [])
may_two a b may_a may_b spot (zero, lt, e) = subst (λ l. MayName (kinds l.row) l) e may_a
may_two a b may_a may_b spot (suc zero, lt, e) = subst (λ l. MayName (kinds l.row) l) e may_b
may_two a b may_a may_b spot (suc (suc k), lt, e) = absurd (omega arith)

set_is : (to from : Spot) → MayName (kinds to.row) to → MayName (kinds from.row) from → IsAction interpretation kinds reads spots_written reducing fine_scalars (Set to from)
set_is to from may_to may_from = (
  may_one from may_from,
  record {
    near = λ m m' h g agree. ap (Put to) (agree from (0, omega arith, refl));
    stores = λ m spot value put. let e : to ≡ spot = cc in (0, omega arith, e);
    ends = λ m e. cc;
    writable = may_one to may_to;
    fits = λ m spot value fit put. let e : read m from ≡ value = cc in subst (FitsSigned w64) e (fit from);
  },
)

divide_is : (line : ℕ) (to from : Spot) → MayName (kinds to.row) to → MayName (kinds from.row) from
    → IsAction interpretation kinds reads spots_written reducing fine_scalars (Divide line to from)
divide_is line to from may_to may_from = (
  may_two to from may_to may_from,
  record {
    near = λ m m' h g agree.
        ap (λ d. if is_set d then Put to (int_wrap w64 (int_div (read m to) d)) else Fail line) (agree from (1, omega arith, refl))
        ∙ ap (λ v. if is_set (read m' from) then Put to (int_wrap w64 (int_div v (read m' from))) else Fail line) (agree to (0, omega arith, refl));
    stores = λ m spot value put. (0, omega arith, (divided (is_set (read m from)) (int_wrap w64 (int_div (read m to) (read m from))) spot value put).0);
    ends = λ m e. never (is_set (read m from)) (int_wrap w64 (int_div (read m to) (read m from))) e;
    writable = may_one to may_to;
    fits = λ m spot value fit put.
        subst (FitsSigned w64) (divided (is_set (read m from)) (int_wrap w64 (int_div (read m to) (read m from))) spot value put).1
        (SFits-int_wrap w64 (int_div (read m to) (read m from)));
  },
)
  where
    divided : (b : Bool) (v : ℤ) (spot : Spot) (value : ℤ) → (if b then Put to v else Fail line) ≡ Put spot value → (to ≡ spot) × (v ≡ value)
    divided true v spot value h = (cc, cc)
    divided false v spot value h = absurd cc

    never : (b : Bool) (v : ℤ) → (if b then Put to v else Fail line) ≡ Skip → ⊥
    never true v h = cc
    never false v h = cc

add_is : (from : Spot) → MayName (kinds from.row) from → IsAction interpretation kinds reads spots_written reducing fine_scalars (Add (scalar_at 3) from)
add_is from may_from = (
  may_one from may_from,
  record {
    op = Sum;
    kind = refl;
    near = λ m m' h g agree. ap (λ v. Ok (OnRight v)) (agree from (0, omega arith, refl));
    is = λ m fits value_fits. refl;
    good = λ m statement fit e. let same : OnRight (read m from) ≡ statement = cc in subst (λ s. IsOf Sum s × FitsSigned w64 (value_in s)) same (tt, fit from);
    stores = (0, omega arith, refl);
  },
)

is_condition : (element : Spot) (bound : ℤ) → MayName (kinds element.row) element
    → IsCondition interpretation kinds reads spots_written reducing fine_scalars (Exceeds element bound)
is_condition element bound may = record {
  readable = may_one element may;
  near = λ m m' h g agree. ap (λ v. Ok (int_lt bound v)) (agree element (0, omega arith, refl));
}

-- no NEW variable is read
none_read : (a : Spot) (before : ℕ → Bool) → kinds a.row ≡ Shared → (spot : Spot) → Contains (a ∷ []) spot → kinds spot.row ≡ New → before spot.row ≡ true
none_read a before shared spot c e = let z : Shared ≡ New = sym shared ∙ ap (λ l. kinds l.row) (one_spot a spot c) ∙ e in absurd cc

none_read_two : (a b : Spot) (before : ℕ → Bool) → kinds a.row ≡ Shared → kinds b.row ≡ Shared → (spot : Spot) → Contains (a ∷ b ∷ []) spot
    → kinds spot.row ≡ New → before spot.row ≡ true
none_read_two a b before first second spot (zero, lt, c) e = let z : Shared ≡ New = sym first ∙ ap (λ l. kinds l.row) c ∙ e in absurd cc
none_read_two a b before first second spot (suc zero, lt, c) e = let z : Shared ≡ New = sym second ∙ ap (λ l. kinds l.row) c ∙ e in absurd cc
none_read_two a b before first second spot (suc (suc k), lt, c) e = absurd (omega arith)

not_assigned : (row : ℕ) → kinds row ≡ Assigned → ⊥
not_assigned zero e = cc
not_assigned (suc zero) e = cc
not_assigned (suc (suc zero)) e = cc
not_assigned (suc (suc (suc zero))) e = cc
not_assigned (suc (suc (suc (suc row)))) e = cc

scalar_rows : (row : ℕ) → has_copies (kinds row) ≡ true → length (row_of fine_scalars row) ≡ 1
scalar_rows zero e = absurd cc
scalar_rows (suc zero) e = absurd cc
scalar_rows (suc (suc zero)) e = refl
scalar_rows (suc (suc (suc zero))) e = refl
scalar_rows (suc (suc (suc (suc row)))) e = absurd cc

texts : (i : ℕ)
    → EachIn (IsAction interpretation kinds reads spots_written reducing fine_scalars)
    (IsCondition interpretation kinds reads spots_written reducing fine_scalars) (body_of_scalars i)
texts i =
    let set = set_is (scalar_at 2) (b_at i) refl tt in
    let first = divide_is 4 (a_at i) (b_at (i + 1)) tt tt in
    let second = divide_is 6 (a_at i) (b_at (i + 1)) tt tt in
    let add = add_is (b_at i) tt in
    ((is_condition (b_at i) (pos 1) tt, (set, (first, tt)), (tt, (second, tt), tt)), ((λ k lt. (add, tt)), tt))

late : (i : ℕ) → ReadsLate kinds reads spots_written (body_of_scalars i) (λ row. false)
late i = (
  (
    none_read (b_at i) (λ row. false) refl,
    (none_read (b_at i) (λ row. false) refl, (none_read_two (a_at i) (b_at (i + 1)) _ refl refl, tt)),
    (λ spot c e. absurd (let lt : c.0 < 0 = c.1 in omega arith), (none_read_two (a_at i) (b_at (i + 1)) (λ row. false) refl refl, tt), tt),
  ),
  ((λ x lt. (none_read (b_at i) _ refl, tt)), tt),
)

numbers : (row : ℕ) (op : Join) → kinds row ≡ Reduced op → IsOverNumbers op
numbers zero op e = absurd cc
numbers (suc zero) op e = absurd cc
numbers (suc (suc zero)) op e = absurd cc
numbers (suc (suc (suc zero))) op e =
    let z : Reduced Sum ≡ Reduced op = e in
    let same : Sum ≡ op = cc in
    subst IsOverNumbers same tt
numbers (suc (suc (suc (suc row)))) op e = absurd cc

pub may_copy : MayCopy interpretation kinds reads spots_written reducing fine_scalars 3 body_of_scalars
may_copy = record {
  scalars = scalar_rows;
  numbers = numbers;
  fit = start_fits;
  texts = λ i lt. texts i;
  known = λ i lt. (((λ v e. absurd cc), (tt, (tt, tt)), (tt, (tt, tt), tt)), ((λ k ltk. (tt, tt)), tt));
  late = λ i lt. late i;
  apart = λ i i' row lt lt' other assigned w t. absurd (not_assigned row assigned);
}
