-- Of a promise.
-- What a parallel statement names at the tuples of its space, by courses.
use Rattle.std.specs.Prelude.{◌≡◌, ℕ, ◌<◌, List, length, map, All, Option, Some, None, IfSome}
use Rattle.hpf_base.specs.ElementOrder.{product}
use Rattle.storage.specs.Storage.{Spot}
use Rattle.machine_steps.specs.Message.{names_spot}
use Rattle.courses.specs.References.{IsAlongAxes, Named, named_spot}
use Rattle.tuple_values.specs.Statements.{Statement, tuple_count, tuple_left, tuple_reads}

-- what is assigned at the tuple with a number, where something is
abbrev pub spot_if : List ℕ → ℕ → Option Named → Option Spot
spot_if ns t None = None
spot_if ns t (Some r) = named_spot ns t r

-- These are the extents of its space, in which there are tuples, what is assigned, and references that name the elements which are read. Each
-- has a course for each dimension, along the axes of the space
pub record AreReferences (w : Statement) (ns : List ℕ) (l : Option Named) (rs : List Named) : Type 0 where
  pub extents : ns ≡ w.extents
  pub some : 0 < product ns
  pub count : product ns ≡ tuple_count w
  pub left : (t : ℕ) → t < product ns → tuple_left w t ≡ spot_if ns t l
  pub reads : (t : ℕ) (spot : Spot) → t < product ns → names_spot (tuple_reads w t) spot ≡ names_spot (map (named_spot ns t) rs) spot
  pub along_left : IfSome l (IsAlongAxes (length ns))
  pub along_reads : All (IsAlongAxes (length ns)) rs

-- one reference for each read, in order
abbrev pub AreInOrder : Statement → List ℕ → List Named → Type 0
AreInOrder w ns rs = (t : ℕ) → t < product ns → tuple_reads w t ≡ map (named_spot ns t) rs
