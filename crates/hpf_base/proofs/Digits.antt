-- Texts of decimal digits.
use Rattle.std.proofs.Common.{◌≡◌, ℕ, ◌+◌, ◌*◌, ◌<◌, ◌≤◌, List, [], ◌∷◌, length, get_or, take, true, ◌&&◌, refl, ap, arith}
use Rattle.std.proofs.lemmas.Int.Digits.{digits_value_more}
use Rattle.std.proofs.lemmas.Str.{digit_value_digit}
use Rattle.std.proofs.lemmas.Str.Parse.{IsNumeralModel, digit_at, digits_value-take-le, numerals_by_value, tells_all_ascii_digits}
use Rattle.std.specs.Char.{is_ascii_digit}
use Rattle.std.specs.List.{list_all}
use Rattle.std.specs.Str.{all_ascii_digits}
use Rattle.std.specs.Str.Parse.{digits_value}

-- what `parse` reads are the digits, and the number that it gives is theirs
pub decimals : IsNumeralModel (λ ds. all_ascii_digits ds ≡ true) (digits_value 10)
decimals = numerals_by_value _ tells_all_ascii_digits

-- a test of each byte
pub list_all-digits : (bytes : List ℕ) → list_all is_ascii_digit bytes ≡ all_ascii_digits bytes
list_all-digits [] = refl
list_all-digits (b ∷ bytes) = ap (λ t. is_ascii_digit b && t) (list_all-digits bytes)

-- a digit is from `0` on
pub digit_below : (digits : List ℕ) (i : ℕ) → all_ascii_digits digits ≡ true → i < length digits → 48 ≤ get_or digits i 0
digit_below digits i all lt = (digit_at digits i (decimals.to digits all) lt).0

-- one digit more
pub value_step : (digits : List ℕ) (i : ℕ) → all_ascii_digits digits ≡ true → i < length digits →
    digits_value 10 (take (i + 1) digits) + 48 ≡ digits_value 10 (take i digits) * 10 + get_or digits i 0
value_step digits i all lt = omega (arith, digits_value_more 10 digits i lt, digit_value_digit (get_or digits i 0) (digit_at digits i (decimals.to digits all) lt))

-- fewer digits stand for no more
pub value_within : (digits : List ℕ) (i : ℕ) → digits_value 10 (take i digits) ≤ digits_value 10 digits
value_within digits i = digits_value-take-le 10 digits i (omega arith)
