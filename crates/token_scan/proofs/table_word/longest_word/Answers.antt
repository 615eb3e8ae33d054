use Rattle.std.proofs.Common.{◌∙◌, length, min, ap, arith}
use Rattle.token_scan.proofs.TableWords.{no_word_longer}
use Rattle.token_scan.proofs.table_word.longest_word.Goals as goal

pub loop-len-init : goal.loop-len-init
loop-len-init c =
    let bytes = c.args.bytes.now in record {
      within = omega (arith, c.min-len.ensures);
      none = no_word_longer c.args.words bytes c.min-len.result (c.min-len.ensures ∙ ap (min (length bytes)) c.most_bytes.ensures);
    }
