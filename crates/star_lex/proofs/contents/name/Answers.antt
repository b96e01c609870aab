use Rattle.star_lex.proofs.ContentLemmas.{name_text}
use Rattle.star_lex.proofs.contents.name.Goals as goal

pub unreachable-requires : goal.unreachable-requires
unreachable-requires c =
    let word = rw (c.deref.ensures.value, c.in_ok-lower.ensures, name_text c.args.bytes.now c.requires) at c.in_ok-word.ensures in
    let none = c.in-None.is in
    cc
