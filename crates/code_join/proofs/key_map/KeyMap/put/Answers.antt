use Rattle.std.proofs.Common.{ap, ◌∙◌, ◌++◌, ◌∷◌, []}
use Rattle.code_join.specs.Keys.{place_of_key}
use Rattle.code_join.proofs.KeyLemmas.{put_behind}
use Rattle.code_join.proofs.key_map.KeyMap.put.Goals as goal

pub returns-clause-ok : goal.returns-clause-ok
returns-clause-ok c =
    c.in_ok-insert.ensures.entries
    ∙ put_behind c.self.inside.entries.entries c.args.key c.args.payload (ap (λ es. place_of_key es c.args.key) c.self.view_is ∙ c.requires.absent)
    ∙ ap (λ es. es ++ (c.args.key, c.args.payload) ∷ []) c.self.view_is
