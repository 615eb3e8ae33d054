-- Of a promise.
-- Kept faults by their keys.
use Rattle.std.specs.Prelude.{◌≡◌, ℕ, Option, Some, None, option_map}
use Rattle.reduction_tree.specs.declared.kept_fault.KeptFault.{KeptFault}
use Rattle.machine_steps.specs.Machine.{Kept}

-- the key of a fault, with whatever number it is given of its own
abbrev pub fault_key : {F : Type 0} → (Kept F → ℕ) → Kept F → KeptFault
fault_key number k = record { tuple = k.tuple; place = k.part; fault = number k }

abbrev pub fault_keys : {F : Type 0} → (Kept F → ℕ) → Option (Kept F) → Option KeptFault
fault_keys number = option_map (fault_key number)

-- one key, one fault: a part computes a tuple to one outcome, so a tuple of a part has one fault, on whichever nodes it is kept. Two whose
-- keys differ are so, and so are two of which one is missing
abbrev pub HaveOwnKeys : {F : Type 0} → Option (Kept F) → Option (Kept F) → Type 0
HaveOwnKeys None b = Unit {0}
HaveOwnKeys (Some x) None = Unit {0}
HaveOwnKeys (Some x) (Some y) = x.tuple ≡ y.tuple → x.part ≡ y.part → x ≡ y
