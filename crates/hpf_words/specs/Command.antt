-- Of private clauses.
-- No public clause cites this file.
-- The command that is given to `clap`, as its contracts see it.
use Rattle.std.specs.Prelude.{true, Some, codes}
use Rattle.hpf_words.specs.Parts.{Text}
use Rattle.clap.specs.Words.{App, Rule, new_app, new_rule, with_rule}
use Rattle.clap.specs.Simple.{on_top}
use Rattle.clap.specs.declared.builder.action.ArgAction.TheVariants.{Set, SetTrue}

abbrev pub value_rule : Text → Rule
value_rule name = record (new_rule name) { long = Some name; action = Some Set }

abbrev pub flag_rule : Text → Rule
flag_rule name = record (new_rule name) { long = Some name; action = Some SetTrue }

abbrev pub hpf_app : App
hpf_app = with_rule (with_rule (with_rule (with_rule (with_rule (with_rule
    (on_top (λ s. record s { no_binary_name = true; disable_help_flag = true }) (new_app (codes "hpf")))
    (value_rule (codes "grid"))) (value_rule (codes "threads"))) (value_rule (codes "size")))
    (flag_rule (codes "arrays"))) (flag_rule (codes "fixed"))) (new_rule (codes "action"))
