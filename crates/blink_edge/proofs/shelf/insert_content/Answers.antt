use Rattle.std.proofs.Common.{◌∙◌, ap}
use Rattle.blink_edge.specs.Memory.{files_of}
use Rattle.blink_edge.proofs.FileLemmas.{files_insert_entry}
use Rattle.blink_edge.proofs.shelf.insert_content.Goals as goal

pub returns-clause-set : goal.returns-clause-set
returns-clause-set c =
    let inserted = ap files_of c.in_ok-insert.ensures.entries ∙ files_insert_entry c.args.files.now.entries c.in_ok-name.name c.args.content in
    rw c.in_ok-name.ensures.ok at inserted
