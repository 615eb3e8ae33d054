-- Of a promise.
-- Sources and sinks over memory: what a caller sees of them, and what their next call does.
use Rattle.std.specs.Prelude.{ℕ, ◌-◌, ◌==◌, nat_le, ◌||◌, min, Bool, List, length}
use Rattle.std.specs.List.{list_any}
use Rattle.hpf_ports.specs.Ports.{next_count}

-- a source over memory: the bytes left, the most bytes of a call, the numbers of the calls that fail, and the counts
pub record SourceState : Type 0 where
  pub left : List ℕ
  pub piece : ℕ
  pub fails : List ℕ
  pub calls : ℕ
  pub faults : ℕ

-- a sink over memory: the bytes held, how many it has room for in all, and the rest as for a source
pub record SinkState : Type 0 where
  pub held : List ℕ
  pub room : ℕ
  pub piece : ℕ
  pub fails : List ℕ
  pub calls : ℕ
  pub faults : ℕ

-- whether the call after this many calls stands among the calls that fail
abbrev pub is_failing : List ℕ → ℕ → Bool
is_failing fails calls = list_any (λ number. number == next_count calls) fails

-- whether the next read fails: its number stands in `fails`
abbrev pub read_fails : SourceState → Bool
read_fails source = is_failing source.fails source.calls

-- whether the next write fails: its number stands in `fails`, or no room is left
abbrev pub write_fails : SinkState → Bool
write_fails sink = is_failing sink.fails sink.calls || nat_le sink.room (length sink.held)

-- how many bytes a read into a buffer of this length gives: a piece, as far as the buffer and what is left go
abbrev pub read_len : SourceState → ℕ → ℕ
read_len source len = min (min source.piece len) (length source.left)

-- how many of this many bytes a write takes: a piece, as far as they and the room go
abbrev pub write_len : SinkState → ℕ → ℕ
write_len sink len = min (min sink.piece len) (sink.room - length sink.held)
