use Rattle.std.proofs.Common.{◌+◌, ◌≤◌, length, drop, refl, ◌∙◌, ap, arith}
use Rattle.std.proofs.lemmas.List.{length-take-le, take_rest}
use Rattle.hpf_ports.specs.Mem.{SourceState}
use Rattle.hpf_ports.proofs.Pieces.{piece_left}
use Rattle.hpf_ports.proofs.mem.MemSourceSource.read.Goals as goal

pub returns-clause-gave : goal.returns-clause-gave
returns-clause-gave c =
    let within : c.min-len.result ≤ length c.args.buf.now = omega arith in (
      drop (c.self.inside.given + c.min-len.result) c.self.inside.bytes.items,
      refl,
      piece_left c.self.inside.bytes.items _ _ _ c.self.inside.given _
          (ap (λ (source : SourceState). source.left) c.self.view_is)
          (c.copy_from_slice.ensures.len ∙ length-take-le c.min-len.result c.args.buf.now within)
          (rw (take_rest, c.as_slice-2.ensures.value) at c.copy_from_slice.ensures.after),
    )
