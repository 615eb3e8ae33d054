-- Why a text isn't accepted.
use Rattle.std.proofs.Common.{ℕ, List}
use Rattle.hpf_base.specs.declared.refusal.StaticError.{StaticError}
use Rattle.hpf_base.specs.declared.refusal.StaticError.TheVariants.{Refused, Memory}
use Rattle.syntax_tree.specs.MainProgram.{MainProgram}
use Rattle.hpf_reader.specs.ProgramText as reader
use Rattle.hpf_reader.specs.ProgramText.{IsMeantBy}
use Rattle.hpf_reader.specs.declared.source_form.SourceForm.{SourceForm}
use Rattle.accepted_program.specs.Accepted as program
use Rattle.hpf_run.specs.Accepted.{IsError, by_program, by_text}

-- a text that isn't read
pub unread : (form : SourceForm) (grid text : List ℕ) (e : StaticError) → reader.IsProgramRefusal form text e → IsError form grid text e
unread form grid text (Refused r) is = by_text is
unread form grid text Memory is = tt {0}

-- a text whose program breaks a rule
pub unaccepted : (form : SourceForm) (grid text : List ℕ) (p : MainProgram) (e : StaticError) → reader.HasNoBreach form text → IsMeantBy form text p → program.IsProgramRefusal grid p e
    → IsError form grid text e
unaccepted form grid text p (Refused r) read means is = by_program p read means is
unaccepted form grid text p Memory read means is = tt {0}
