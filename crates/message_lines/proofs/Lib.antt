mod Growing
mod Inside
mod Moves
mod PartLaws
mod RemapLaws
mod Rounds
mod RowLaws
mod SameLines
