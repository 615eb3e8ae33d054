use Rattle.std.proofs.Common.{◌+◌, ◌-◌, ◌≤◌, ◌<◌, vec_len}
use Rattle.hpf_ports.specs.declared.limits.TheConstants.{MAX_SOURCE_BYTES}
use Rattle.hpf_ports.specs.Ports.{Gave}
use Rattle.hpf_ports.proofs.read.read_all.Given as goal

-- the source gave the text, which is at most a byte past the limit
abbrev pub invariant-loop-src : goal.invariant-loop-src
invariant-loop-src g l = record {
  gave : Gave (g.S.Source.left l.initial.src) (g.S.Source.left l.src) l.text.items;
  within : vec_len l.text ≤ MAX_SOURCE_BYTES + 1;
  chunk : 0 < vec_len l.chunk;
  count : g.S.Source.faults l.initial.src ≤ g.S.Source.faults l.src;
}

abbrev pub decreases-loop-src : goal.decreases-loop-src
decreases-loop-src g l = MAX_SOURCE_BYTES + 1 - vec_len l.text
