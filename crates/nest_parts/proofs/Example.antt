-- A small nest that is entered: what the laws ask can be met at once.
use Rattle.std.proofs.Common.{◌≡◌, ℕ, zero, suc, ◌<◌, get_or, FitsSigned, w64, [], ◌∷◌, replicate, nat_eq, Bool, true, false, ◌||◌, if◌then◌else◌, Ok, refl, ap₂, sym, ◌∙◌, pos, arith, inl, inr, true≢false}
use Rattle.std.specs.Int.{int_wrap}
use Rattle.std.proofs.lemmas.Bool.Decides.{nat_tests}
use Rattle.std.proofs.Math.Facts.{sfits_lit}
use Rattle.op_tables.specs.declared.op.Op.TheVariants as op
use Rattle.op_tables.specs.declared.join.Join.TheVariants.{Sum}
use Rattle.nest_syntax.specs.NestKinds.{Kind, Shared, New, Assigned, Reduced, has_copies, kind_of}
use Rattle.array_meaning.specs.Terms.{Number, Scalar, Element, Apply, NoTerm, More}
use Rattle.array_meaning.specs.Statements.{Loop, Nest, Block, Done, Then, AssignScalar, AssignElement}
use Rattle.array_meaning.specs.State.{State, scalar, array, no_array}
use Rattle.nest_parts.specs.NestParts.{IsGood, IsEntered, opened}
use Rattle.nest_items.proofs.NameKinds.{kinds_of_nest}
use Rattle.nest_parts.proofs.Opening.{opening, opened_fits}
use Rattle.array_meaning.specs.Iterations.{is_in}
use Rattle.array_meaning.specs.NestEntry.{check_nest}
use Rattle.nest_items.specs.Settled.{without}
use Rattle.nest_items.specs.Standing.{BlockStands, NestStands}

-- ---- the nest. In the comment a bar stands for the end of a line

-- INTEGER :: A(3), I, T, S|!HPF$ INDEPENDENT, NEW(T), REDUCTION(S)|DO I = 1, 3|T = A(I) + I|S = S + T|A(I) = T|END DO|END
abbrev loop : Loop
loop = record { index = 1; control = record { first = Number (pos 1); last = Number (pos 3); step = Number (pos 1) } }

abbrev nest : Nest
nest = record { line = 2; loops = loop ∷ []; new = 2 ∷ []; reduction = 3 ∷ [] }

abbrev body : Block
body = Then 4 (AssignScalar 2 (Apply op.Add (More (Element 0 (More (Scalar 1) NoTerm)) (More (Scalar 1) NoTerm))))
    (Then 5 (AssignScalar 3 (Apply op.Add (More (Scalar 3) (More (Scalar 2) NoTerm))))
    (Then 6 (AssignElement 0 (More (Scalar 1) NoTerm) (Scalar 2)) Done))

abbrev entry : State
entry = record {
  scalars = pos 0 ∷ pos 0 ∷ pos 0 ∷ pos 7 ∷ [];
  arrays = record { dims = record { lower = pos 1; upper = pos 3 } ∷ []; elements = replicate 3 (pos 0) } ∷ no_array ∷ no_array ∷ no_array ∷ [];
  printed = [];
}

abbrev kinds : ℕ → Kind
kinds = kind_of (λ k. Sum) nest body

abbrev all : ℕ → Bool
all k = nat_eq k 1

body_stands : (s : State) → BlockStands kinds (without all 1) s body
body_stands s = (
  (refl, ((refl, ((refl, refl), tt)), ((refl, inl refl), tt)), tt),
  (
    (
      refl,
      ((refl, inr refl), ((refl, inl refl), tt)),
      record { by = op.Add; other = Scalar 2; is_first = true; shape = refl; operator = refl; order = refl; stands = (refl, inl refl) },
    ),
    (
      (refl, ((refl, refl), tt), (refl, inl refl)),
      tt,
    ),
  ),
)

-- an index isn't assigned
quiet_names : (k : ℕ) → has_copies (kinds k) ≡ true → all k ≡ false
quiet_names (suc zero) c = absurd (true≢false (sym c))
quiet_names zero c = refl
quiet_names (suc (suc k)) c = grind (arith, nat_tests)

nest_passes : check_nest nest body entry ≡ Ok entry
unfolding int_wrap
nest_passes = refl

nest_stands : NestStands kinds all entry nest loop body body
unfolding int_wrap
nest_stands = record {
  inner = [];
  loops = refl;
  index = refl;
  unseen = refl;
  quiet = quiet_names;
  known = refl;
  fits = refl;
  tight = λ x lt. (refl, body_stands entry);
  same = tt;
  inside = without all 1;
  each = λ i lt. body_stands entry;
}

few : (k : ℕ) → has_copies (kinds k) ≡ true → k < 4
few zero c = omega arith
few (suc zero) c = omega arith
few (suc (suc zero)) c = omega arith
few (suc (suc (suc zero))) c = omega arith
few (suc (suc (suc (suc k)))) c =
    let x : ℕ = suc (suc (suc (suc k))) in
    let not_two : nat_eq x 2 ≡ false = grind (arith, nat_tests) in
    let not_three : nat_eq x 3 ≡ false = grind (arith, nat_tests) in
    absurd (true≢false (sym c ∙ ap₂ (λ a b. has_copies (if a || (b || false) then (if is_in x nest.reduction then Reduced Sum else if is_in x nest.new then New else Assigned) else Shared)) not_two not_three))

scalars_fit : (k : ℕ) → FitsSigned w64 (scalar entry k)
scalars_fit zero = sfits_lit tt
scalars_fit (suc zero) = sfits_lit tt
scalars_fit (suc (suc zero)) = sfits_lit tt
scalars_fit (suc (suc (suc zero))) = sfits_lit tt
scalars_fit (suc (suc (suc (suc k)))) = sfits_lit tt

elements_fit : (a k : ℕ) → FitsSigned w64 (get_or (array entry a).elements k (pos 0))
elements_fit zero zero = sfits_lit tt
elements_fit zero (suc zero) = sfits_lit tt
elements_fit zero (suc (suc zero)) = sfits_lit tt
elements_fit zero (suc (suc (suc k))) = sfits_lit tt
elements_fit (suc zero) k = sfits_lit tt
elements_fit (suc (suc zero)) k = sfits_lit tt
elements_fit (suc (suc (suc zero))) k = sfits_lit tt
elements_fit (suc (suc (suc (suc a)))) k = sfits_lit tt

good : IsGood kinds entry
good = record { fit = scalars_fit; there = few }

-- all premises of the law can be met at once
pub entered : IsEntered kinds all entry nest loop body body (opened kinds entry 0 3) 4 3
unfolding int_wrap
entered = record {
  stands = nest_stands;
  kinds_are = kinds_of_nest (λ k. Sum) nest body (λ k. tt) not_index;
  passed = nest_passes;
  opening = opening kinds entry refl few 0 3;
  fit = opened_fits kinds entry refl few 0 3 good elements_fit;
  good = good;
  paths = ((tt, ((λ e. absurd cc), tt)), (((λ e. absurd cc), ((λ e. refl), tt)), ((λ e. refl), tt)));
  room = record {
    rows = λ i number lt less. absurd (omega (arith, less));
    below = ((omega arith, ((omega arith, (omega arith, tt)), (omega arith, tt))), ((omega arith, (omega arith, (omega arith, tt))), ((omega arith, omega arith), tt)));
  };
  enough = λ i lt. omega arith;
} where
  not_index : (k : ℕ) → is_in k (2 ∷ 3 ∷ []) ≡ true → is_in k (1 ∷ []) ≡ false
  not_index zero e = refl
  not_index (suc zero) e = absurd (true≢false (sym e))
  not_index (suc (suc k)) e = grind (arith, nat_tests)
