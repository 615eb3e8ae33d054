use Rattle.construct_rules.specs.ProgramLine.{line_of}
use Rattle.construct_reader.proofs.Further.{inner_progress, takes_inner}
use Rattle.construct_reader.proofs.progress.inner.Goals as goal

pub after-requires : goal.after-requires
after-requires c =
    let held = c.requires.held in
    let p = held.3 in
    record {
      sound = p.sound;
      takes = takes_inner held.0 held.1 (line_of c.args.line) held.2 c.args.so_far.name c.args.so_far.decls c.args.so_far.draft c.args.so_far.over c.requires.inside p;
    }

pub returns : goal.returns
returns c ls last rest p =
    inner_progress ls last (line_of c.args.line) rest c.args.so_far.name c.args.so_far.decls c.args.so_far.draft c.args.so_far.over c.requires.inside
    p c.in_ok-draft.draft c.in_ok-draft.ensures
