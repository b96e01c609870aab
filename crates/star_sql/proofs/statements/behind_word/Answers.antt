use Rattle.std.proofs.Common.{refl}
use Rattle.std.specs.Prelude.{codes}
use Rattle.star_sql.specs.StatementParsers.{behind_word}
use Rattle.star_sql.proofs.TokenLemmas.{other_word}
use Rattle.star_sql.proofs.statements.behind_word.Goals as goal

pub returns-in_default : goal.returns-in_default
unfolding behind_word
returns-in_default c =
    rw (
      other_word c.args.verb.now (codes "create") c.in_default.not-create,
      other_word c.args.verb.now (codes "drop") c.in_default.not-drop,
      other_word c.args.verb.now (codes "load") c.in_default.not-load,
      other_word c.args.verb.now (codes "append") c.in_default.not-append,
      other_word c.args.verb.now (codes "insert") c.in_default.not-insert,
      other_word c.args.verb.now (codes "reorganize") c.in_default.not-reorganize,
      other_word c.args.verb.now (codes "select") c.in_default.not-select,
      other_word c.args.verb.now (codes "describe") c.in_default.not-describe,
      other_word c.args.verb.now (codes "explain") c.in_default.not-explain,
      other_word c.args.verb.now (codes "export") c.in_default.not-export,
      other_word c.args.verb.now (codes "import") c.in_default.not-import,
    ) refl
