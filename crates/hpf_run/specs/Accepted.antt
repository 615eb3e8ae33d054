-- Of the claim.
-- Which texts are accepted, and what the others are refused for.
use Rattle.std.specs.Prelude.{ℕ, List}
use Rattle.hpf_base.specs.declared.refusal.Refusal.{Refusal}
use Rattle.hpf_base.specs.declared.refusal.StaticError.{StaticError}
use Rattle.hpf_base.specs.declared.refusal.StaticError.TheVariants.{Refused, Memory}
use Rattle.syntax_tree.specs.MainProgram.{MainProgram}
use Rattle.hpf_reader.specs.ProgramText as reader
use Rattle.hpf_reader.specs.ProgramText.{IsMeantBy}
use Rattle.hpf_reader.specs.declared.source_form.SourceForm.{SourceForm}
use Rattle.accepted_program.specs.Accepted as program
use Rattle.accepted_program.specs.Accepted.{KeepsRulesOn}

-- a text in a source form is accepted on a grid: it has no breach as a text, and means the program, which keeps the rules
pub record IsAccepted (form : SourceForm) (grid text : List ℕ) (p : MainProgram) : Type 0 where
  pub read : reader.HasNoBreach form text
  pub means : IsMeantBy form text p
  pub keeps : KeepsRulesOn grid p

-- a text is refused as a text or, where it has no breach as one, as the program that it means
pub data IsRefused (form : SourceForm) (grid text : List ℕ) (r : Refusal) : Type 0 where
  by_text : reader.IsRefused form text r → IsRefused form grid text r
  by_program : (p : MainProgram) → reader.HasNoBreach form text → IsMeantBy form text p → program.IsRefused grid p r → IsRefused form grid text r

-- why a text isn't accepted; want of memory has no cause in it
abbrev pub IsError : SourceForm → List ℕ → List ℕ → StaticError → Type 0
IsError form grid text (Refused r) = IsRefused form grid text r
IsError form grid text Memory = Unit {0}
