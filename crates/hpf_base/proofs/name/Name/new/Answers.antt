use Rattle.std.proofs.Common.{rules, ◌≡◌, ℕ, List, ◌++◌, length, take, drop, refl, ap}
use Rattle.std.specs.Prelude.{replicate}
use Rattle.std.proofs.lemmas.List.{drop-replicate}
use Rattle.std.proofs.Math.Seq.{take-append_seam}
use Rattle.hpf_base.specs.Name.{IsName, IsHeld}
use Rattle.hpf_base.proofs.name.Name.new.Goals as goal

-- a name that was written over 31 zeros
name_over_zeros : (name written : List ℕ) → written ≡ name → IsName name → IsHeld (record { bytes = written ++ drop (length name) (replicate 31 0); len = length name })
name_over_zeros name written e is =
    let front : take (length name) (name ++ drop (length name) (replicate 31 0)) ≡ name = take-append_seam name _ in
    record {
      name = rw (e, front) is;
      whole = rw e (ap length front);
      padded = rw (e, front, drop-replicate {X = ℕ} (length name) 31 0) refl;
    }

pub invariant_of-result : goal.invariant_of-result
invariant_of-result c =
    name_over_zeros c.args.bytes.now c.copy_from_slice.new.self (search rules) (record { some = search rules; few = c.if-bytes-gt-NAME_CAPACITY.false; each = search rules })
