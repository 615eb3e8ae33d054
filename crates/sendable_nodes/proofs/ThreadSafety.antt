-- Types whose values may be sent to a thread, and shared between threads. A struct, an enum or a `Vec` has either where its parts
-- have it, so both are one statement, and a type is gone through once for the two.
use mathlib.Core.List.{List, [], ◌∷◌}
use mathlib.Core.Path.{◌≡◌}
use mir.Syntax.{Ty}
use mir.Val.{Val}
use base.Stored.{Coded}
use base.Fml.{Fml}
use denote.Pure.{Pure}
use denote.Plain.{plain_type}
use denote.RattleType.{RattleType}
use denote.Struct.Struct as struct
use denote.Struct.Recorded.{Recorded}
use denote.Enum.Enum as enum
use denote.Model.{View}
use denote.Param.Send.{IsSend, IsSync, AllSend, AllSync, EachSend, EachSync, plain_send, plain_sync, struct_send, struct_sync, enum_send, enum_sync, recorded_send, recorded_sync, view_send, view_sync}
use Rattle.std.proofs.Crossing.{Arc-send, Arc-sync, Vec-send, Vec-sync, send, sync}
use Rattle.std.specs.contracts.alloc.Global as Global
use Rattle.std.specs.contracts.impls.GlobalAllocator.TheImpl.{ghosts}
use Rattle.std.specs.contracts.sync.Arc as Arc
use Rattle.std.specs.contracts.vec.Vec as Vec

pub record IsThreadSafe (R : RattleType) : Type 0 where
  pub send : IsSend R
  pub sync : IsSync R

abbrev pub AllThreadSafe : List RattleType → Type 0
AllThreadSafe [] = Unit {0}
AllThreadSafe (R ∷ Ts) = IsThreadSafe R × AllThreadSafe Ts

abbrev pub EachThreadSafe : List (List RattleType) → Type 0
EachThreadSafe [] = Unit {0}
EachThreadSafe (Ts ∷ Tss) = AllThreadSafe Ts × EachThreadSafe Tss

all_send : (Ts : List RattleType) → AllThreadSafe Ts → AllSend Ts
all_send [] c = tt
all_send (R ∷ Ts) c = (c.0.send, all_send Ts c.1)

all_sync : (Ts : List RattleType) → AllThreadSafe Ts → AllSync Ts
all_sync [] c = tt
all_sync (R ∷ Ts) c = (c.0.sync, all_sync Ts c.1)

each_send : (Tss : List (List RattleType)) → EachThreadSafe Tss → EachSend Tss
each_send [] c = tt
each_send (Ts ∷ Tss) c = (all_send Ts c.0, each_send Tss c.1)

each_sync : (Tss : List (List RattleType)) → EachThreadSafe Tss → EachSync Tss
each_sync [] c = tt
each_sync (Ts ∷ Tss) c = (all_sync Ts c.0, each_sync Tss c.1)

-- ---- numbers, structs, enums, and types with a model
pub plain_safe : (X : Type 0) (c : Coded X) (τs : List Ty) (P : X → List Val → Fml) (p : (x : X) (vs : List Val) → Pure (P x vs)) → IsThreadSafe (plain_type X c τs P p)
plain_safe X c τs P p = record { send = plain_send X c τs P p; sync = plain_sync X c τs P p }

pub struct_safe : (S : struct.Shape) → AllThreadSafe S.fields → IsThreadSafe (struct.Struct S)
struct_safe S c = record { send = struct_send S (all_send S.fields c); sync = struct_sync S (all_sync S.fields c) }

pub enum_safe : (S : enum.Shape) → EachThreadSafe S.variants → IsThreadSafe (enum.Enum S)
enum_safe S c = record { send = enum_send S (each_send S.variants c); sync = enum_sync S (each_sync S.variants c) }

pub recorded_safe : (R : RattleType) (D : Type 0) (to : D → R.Denot) (one : (x y : D) → to x ≡ to y → x ≡ y) → IsThreadSafe R → IsThreadSafe (Recorded R D to one)
recorded_safe R D to one c = record { send = recorded_send R D to one c.send; sync = recorded_sync R D to one c.sync }

pub view_safe : (F : RattleType) (D : Type 0) (c : Coded D) (view : F.Denot → D) (holds : F.Denot → Type 0) → IsThreadSafe F → IsThreadSafe (View F D c view holds)
view_safe F D c view holds f = record { send = view_send F D c view holds f.send; sync = view_sync F D c view holds f.sync }

-- ---- what owns or shares values on the heap
pub heap_safe : IsThreadSafe Global.the_row
heap_safe = record { send = send; sync = sync }

pub vec_safe : (T : RattleType) → IsThreadSafe T → IsThreadSafe (Vec.the_row T Global.the_row ghosts)
vec_safe T c = record { send = Vec-send T c.send; sync = Vec-sync T c.sync }

pub arc_safe : (T : RattleType) → IsThreadSafe T → IsThreadSafe (Arc.the_row T Global.the_row ghosts)
arc_safe T c = record { send = Arc-send T c.send c.sync; sync = Arc-sync T c.send c.sync }

-- `search` goes through a type by its parts with these. A struct or an enum that is a part of another one is its `the_field` there,
-- and its `the_row` as an element of a `Vec` or an `Option`. The second follows from the first.
pub ruleset thread_safe = (tt, plain_safe, struct_safe, enum_safe, recorded_safe, view_safe, heap_safe, vec_safe, arc_safe)
