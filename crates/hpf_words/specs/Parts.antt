-- Of the claim.
-- What the words of a command line give, from left to right.
use Rattle.std.specs.Prelude.{ℕ, Bool, false, ◌==◌, if◌then◌else◌, List, [], ◌∷◌, map, find, Option, Some, None, codes}
use Rattle.std.specs.Prelude.{option_map}
use Rattle.std.specs.List.{list_any, before_first, after_first}
use Rattle.std.specs.Option.{option_map_or}
use Rattle.std.specs.Str.{bytes_eq}

abbrev pub Text : Type 0
Text = List ℕ

-- the options that take a value
pub data Valued : Type 0 where
  grid : Valued
  threads : Valued
  size : Valued

-- the options that take none
pub data Flag : Type 0 where
  arrays : Flag
  fixed : Flag

-- what can be given
pub data Field : Type 0 where
  value_of : Valued → Field
  flag : Flag → Field
  action : Field

-- an option goes by its name after the two dashes
abbrev pub name_of : Field → Text
name_of (value_of grid) = codes "grid"
name_of (value_of threads) = codes "threads"
name_of (value_of size) = codes "size"
name_of (flag arrays) = codes "arrays"
name_of (flag fixed) = codes "fixed"
name_of action = codes "action"

abbrev pub options : List Field
options = value_of grid ∷ value_of threads ∷ value_of size ∷ flag arrays ∷ flag fixed ∷ []

abbrev pub option_named : Text → Option Field
option_named name = find (λ f. bytes_eq (name_of f) name) options

-- a thing that is given, with its text; a flag has none
abbrev pub Part : Type 0
Part = Field × Text

-- what a word is, before a first word `--`
pub data Word : Type 0 where
  -- `--`
  ending : Word
  -- `--grid=2x2`, `--arrays`
  given : Part → Word
  -- `--grid`, whose value is the next word
  waiting : Valued → Word
  -- a word that doesn't begin with `-`
  plain : Word
  -- any other word that begins with `-`
  wrong : Word

-- an option, and the text after `=` where there is one
abbrev pub option_word : Field → Option Text → Word
option_word (value_of v) None = waiting v
option_word (value_of v) (Some text) = given (value_of v, text)
option_word (flag g) None = given (flag g, [])
option_word _ _ = wrong

-- `=`
abbrev pub is_equals : ℕ → Bool
is_equals b = b == 61

abbrev pub name_in : Text → Text
name_in = before_first is_equals

abbrev pub value_in : Text → Option Text
value_in text = if list_any is_equals text then Some (after_first is_equals text) else None

-- a word, by what stands after its two dashes, after its one dash, and whole
abbrev pub after_two : Text → Word
after_two [] = ending
after_two (b ∷ bs) = option_map_or (λ f. option_word f (value_in (b ∷ bs))) (option_named (name_in (b ∷ bs))) wrong

abbrev pub after_one : Text → Word
after_one [] = wrong
after_one (b ∷ bs) = if b == 45 then after_two bs else wrong

abbrev pub word_of : Text → Word
word_of [] = plain
word_of (b ∷ bs) = if b == 45 then after_one bs else plain

abbrev pub begins_with_dash : Text → Bool
begins_with_dash [] = false
begins_with_dash (b ∷ bs) = b == 45

abbrev pub positional : Text → Part
positional word = (action, word)

abbrev pub joined : Part → Option (List Part) → Option (List Part)
joined p = option_map (λ ps. p ∷ ps)

-- after `--` every word is positional
abbrev pub parts_with : Word → Text → List Text → Option (List Part) → (Valued → Option (List Part)) → Option (List Part)
parts_with ending word rest next value = Some (map positional rest)
parts_with (given p) word rest next value = joined p next
parts_with (waiting v) word rest next value = value v
parts_with plain word rest next value = joined (positional word) next
parts_with wrong word rest next value = None

-- what the words give, where an option may wait for its value; None where they can't be read
abbrev pub parts_from : Option Valued → List Text → Option (List Part)
parts_from None [] = Some []
parts_from (Some v) [] = None
parts_from None (word ∷ rest) = parts_with (word_of word) word rest (parts_from None rest) (λ v. parts_from (Some v) rest)
parts_from (Some v) (word ∷ rest) =
    if begins_with_dash word then None else joined (value_of v, word) (parts_from None rest)

abbrev pub parts_of : List Text → Option (List Part)
parts_of = parts_from None
