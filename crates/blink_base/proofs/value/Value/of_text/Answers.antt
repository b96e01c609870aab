use Rattle.std.proofs.Common.{refl, length}
use Rattle.std.proofs.lemmas.Bool.{le-leb}
use Rattle.blink_base.proofs.TextLemmas.{text_yes}
use Rattle.blink_base.proofs.value.Value.of_text.Goals as goal

pub returns-clause-good : goal.returns-clause-good
returns-clause-good c =
    let word = c.args.word in
    let few = rw c.as_str.ensures at c.if-as_str-gt-LONGEST_TEXT.false in
    rw (text_yes word (rw c.as_str.ensures at c.as_str.utf8), le-leb (length word) 255 few) refl
