use Rattle.std.proofs.Common.{◌≡◌, ◌∙◌, sym, length}
use Rattle.std.specs.Prelude.{Ok}
use Rattle.star_lex.specs.Lex.{lexed}
use Rattle.star_lex.specs.Kinds.{kinds_or_fault}
use Rattle.blink_run.proofs.PieceStatementLemmas.{few_tokens, says_statement, not_passed}
use Rattle.blink_run.proofs.script.piece_text.said_by.Goals as goal

pub returns-in-Ok-statement_of-clause-says : goal.returns-in-Ok-statement_of-clause-says
returns-in-Ok-statement_of-clause-says c =
    let text = c.args.text.now in
    let kinds = c.in-Ok.tokens in
    let are : Ok kinds ≡ kinds_or_fault (lexed text) = c.in-Ok.ensures.lexed (λ is. cc is) in (
      not_passed text kinds are (λ (none : length kinds ≡ 0). c.if-len-eq0.false (c.len.ensures ∙ none)),
      says_statement text kinds c.in-Ok-statement_of.statement are c.in-Ok-statement_of.ensures.shallow c.in-Ok-statement_of.ensures.spelled,
    )

pub returns-in-Ok-statement_of-clause-few : goal.returns-in-Ok-statement_of-clause-few
returns-in-Ok-statement_of-clause-few c s is =
    let same : c.in-Ok-statement_of.statement ≡ s = cc is in
    few_tokens c.args.text.now c.in-Ok.tokens s c.in-Ok.ensures.few c.requires (rw same at c.in-Ok-statement_of.ensures.spelled)
