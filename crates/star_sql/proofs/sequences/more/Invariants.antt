use Rattle.std.proofs.Common.{◌≡◌, ◌-◌, length}
use Rattle.star_sql.specs.Parsers.{is_mark, with_first, more_at}
use Rattle.star_sql.proofs.LoopLemmas.{with_earlier}
use Rattle.star_sql.proofs.sequences.more.Given as goal
use Rattle.star_lex.specs.declared.token.Mark.TheVariants as mark

abbrev pub invariant-loop : goal.invariant-loop
invariant-loop g l = with_earlier l.items (more_at (is_mark mark.Comma) g.T.Parse.parses (length l.fn.tokens - l.counter) l.rest) ≡ with_first l.fn.first (more_at (is_mark mark.Comma) g.T.Parse.parses (length l.fn.tokens) l.fn.tokens)
