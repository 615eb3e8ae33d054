-- Circular shifts, transposes and prefix sums, by what they store.
use Rattle.std.proofs.Common.{◌≡◌, ℕ, zero, suc, ◌+◌, List, ℤ, Bool, true, false, if◌then◌else◌, map, refl, ap, Some, Result, Ok, Err}
use Rattle.std.specs.List.{range_with_len}
use Rattle.hpf_base.specs.ElementOrder.{product}
use Rattle.array_meaning.specs.declared.faults.FaultKind.TheVariants.{Shape}
use Rattle.array_meaning.specs.Faults.{Cause, ◌>>=◌, fails}
use Rattle.array_meaning.specs.State.{State, array, store, store_all}
use Rattle.array_meaning.specs.Statements.{WholeArray, Transformation}
use Rattle.array_meaning.specs.Transformations.{extents_of, has_shape, shift_of, transform, transformed, transformed_value}
use Rattle.term_values.specs.Runs.{store_run}
use Rattle.serial_run.specs.TransformedValues.{all_values, transformed_values}

-- a value for each place from one on is stored as a run
run_stored : (a : ℕ) (f : ℕ → ℤ) (n first : ℕ) (s : State)
    → store_run s a first (map f (range_with_len first n)) ≡ store_all s a (map (λ t. Some record { place = t; value = f t }) (range_with_len first n))
run_stored a f zero first s = refl
run_stored a f (suc n) first s = run_stored a f n (first + 1) (store s a first (f first))

pub transform_is : (x y : WholeArray) (how : Transformation) (s : State)
    → transformed_values x y how s >>= (λ values. Ok (store_run s x.array 0 values)) ≡ transform x y how s
transform_is x y how s = by (shift_of s how) where
  values : ℤ → List ℤ
  values k = all_values how k (extents_of x) (array s y.array).elements

  shaped : (k : ℤ) (fits : Bool)
      → (if fits then Ok (values k) else fails Shape) >>= (λ vs. Ok (store_run s x.array 0 vs)) ≡ (if fits then Ok (store_all s x.array (transformed x y how k s)) else fails Shape)
  shaped k true = ap Ok (run_stored x.array (λ t. transformed_value how k (extents_of x) (array s y.array).elements t) (product (extents_of x)) 0 s)
  shaped k false = refl

  by : (r : Result ℤ Cause)
      → (r >>= (λ k. if has_shape x y how then Ok (values k) else fails Shape)) >>= (λ vs. Ok (store_run s x.array 0 vs))
      ≡ r >>= (λ k. if has_shape x y how then Ok (store_all s x.array (transformed x y how k s)) else fails Shape)
  by (Ok k) = shaped k (has_shape x y how)
  by (Err c) = refl
