-- Of a promise.
-- Names (Fortran 95, 3.2.1).
use Rattle.std.specs.Prelude.{◌≡◌, ℕ, ◌-◌, ◌==◌, ◌≤◌, ◌||◌, Bool, IsTrue, List, ◌++◌, length, take, replicate}
use Rattle.std.specs.Char.{is_ascii_digit, is_ascii_uppercase}
use Rattle.std.specs.List.{list_all}
use Rattle.hpf_base.specs.declared.name.TheConstants.{NAME_CAPACITY}
use Rattle.hpf_base.specs.declared.name.Name.TheInside.{Inside}

-- an upper-case letter, a digit or an underscore
abbrev pub is_name_byte : ℕ → Bool
is_name_byte b = is_ascii_uppercase b || is_ascii_digit b || b == 95

-- 1 to 31 such bytes
pub record IsName (bytes : List ℕ) : Type 0 where
  pub some : 1 ≤ length bytes
  pub few : length bytes ≤ NAME_CAPACITY
  pub each : IsTrue (list_all is_name_byte bytes)

-- the bytes that are held, at the front
abbrev pub held : Inside → List ℕ
held n = take n.len n.bytes

-- a name is held, with zeros after it
pub record IsHeld (n : Inside) : Type 0 where
  pub name : IsName (held n)
  pub whole : length (held n) ≡ n.len
  pub padded : held n ++ replicate (NAME_CAPACITY - length (held n)) 0 ≡ n.bytes

-- what holds these bytes
abbrev pub holding : List ℕ → Inside
holding bytes = record { bytes = bytes ++ replicate (NAME_CAPACITY - length bytes) 0; len = length bytes }

-- it gives its fields back
pub holding-held : (n : Inside) → IsHeld n → holding (held n) ≡ n
holding-held n is = λ i. record { bytes = is.padded i; len = is.whole i }
