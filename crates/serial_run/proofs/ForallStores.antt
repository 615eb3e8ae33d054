-- What the assignments of a FORALL store.
use Rattle.std.proofs.Common.{◌≡◌, ℕ, ◌+◌, ◌<◌, List, ℤ, subst, Ok}
use Rattle.array_meaning.specs.Terms.{Term}
use Rattle.array_meaning.specs.Statements.{ElementAssignment}
use Rattle.array_meaning.specs.Faults.{◌>>=◌, at_tuple}
use Rattle.array_meaning.specs.declared.sections.Sequence.{Sequence}
use Rattle.array_meaning.specs.declared.sections.Store.{Store}
use Rattle.array_meaning.specs.State.{State}
use Rattle.array_meaning.specs.ArrayAssignments.{Mask}
use Rattle.array_meaning.specs.Elementals.{each}
use Rattle.array_meaning.specs.Expressions.{value}
use Rattle.array_meaning.specs.Forall.{assign_forall, indices_at}
use Rattle.term_values.specs.declared.stops.Stop.{Stop}
use Rattle.term_values.specs.Stops.{IsStop}
use Rattle.term_values.proofs.Each.{each_stop}
use Rattle.serial_run.specs.SectionStores.{Keeps, stored_each}
use Rattle.serial_run.specs.ForallParts.{forall_stores, masked_forall_store}
use Rattle.serial_run.proofs.Stores.{keep_next, keep_stop}
use Rattle.serial_run.proofs.StoredSections.{kept_stored}

pub forall_is : (axes : List Sequence) (n : ℕ) (mask : Mask) (b : ElementAssignment) (s : State) →
    forall_stores axes n mask b s >>= (λ stores. Ok (stored_each s b.array stores)) ≡ assign_forall axes n mask b s
forall_is axes n mask b s = kept_stored b.array s (each (indices_at axes) (λ t. masked_forall_store s mask b t (indices_at axes t)) n)

-- the stores of one more tuple
pub forall_next : (axes : List Sequence) (mask : Mask) (b : ElementAssignment) (s : State) (t : ℕ) (x : List ℤ) (old new : List Store) →
    x ≡ indices_at axes t → forall_stores axes t mask b s ≡ Ok old → Keeps (masked_forall_store s mask b t x) old new →
    forall_stores axes (t + 1) mask b s ≡ Ok new
forall_next axes mask b s t x old new at before here =
    keep_next (indices_at axes) (λ t. masked_forall_store s mask b t (indices_at axes t)) t old new before
    (subst (λ x. Keeps (masked_forall_store s mask b t x) old new) at here)

-- a stop at the next tuple stops all
pub forall_stop : (axes : List Sequence) (mask : Mask) (b : ElementAssignment) (s : State) (t n : ℕ) (x : List ℤ) (old : List Store) (e : Stop) →
    x ≡ indices_at axes t → t < n → forall_stores axes t mask b s ≡ Ok old → IsStop (at_tuple x (masked_forall_store s mask b t x)) e →
    IsStop (each (indices_at axes) (λ t. masked_forall_store s mask b t (indices_at axes t)) n) e
forall_stop axes mask b s t n x old e at lt before here =
    keep_stop (indices_at axes) (λ t. masked_forall_store s mask b t (indices_at axes t)) t n old e lt before
    (subst (λ x. IsStop (at_tuple x (masked_forall_store s mask b t x)) e) at here)

-- a stop of the mask at the next tuple stops the mask at all tuples
pub mask_stop : (axes : List Sequence) (s : State) (mask : Term) (t n : ℕ) (x vs : List ℤ) (e : Stop) →
    x ≡ indices_at axes t → t < n → each (indices_at axes) (λ t. value (indices_at axes t) s mask) t ≡ Ok vs → IsStop (at_tuple x (value x s mask)) e →
    IsStop (each (indices_at axes) (λ t. value (indices_at axes t) s mask) n) e
mask_stop axes s mask t n x vs e at lt before here =
    each_stop (indices_at axes) (λ t. value (indices_at axes t) s mask) t n vs e lt before (subst (λ x. IsStop (at_tuple x (value x s mask)) e) at here)
