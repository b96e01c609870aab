use Rattle.std.proofs.Common.{◌∙◌, ℕ, Vec, Option, option_map, ap}
use Rattle.std.specs.declared.alloc.Global.{Global}
use Rattle.blink_edge.proofs.FileLemmas.{get_files}
use Rattle.blink_edge.proofs.shelf.content_of.Goals as goal

pub returns-in-Some : goal.returns-in-Some
returns-in-Some c =
    rw c.as_slice.ensures.value (ap (λ (o : Option (Vec ℕ Global)). option_map (λ v. v.items) o) c.in-Some.ensures.value
    ∙ get_files c.args.files.now.entries c.args.name.now)

pub returns-in-None : goal.returns-in-None
returns-in-None c =
    ap (λ (o : Option (Vec ℕ Global)). option_map (λ v. v.items) o) c.in-None.ensures.value
    ∙ get_files c.args.files.now.entries c.args.name.now
