use Rattle.std.proofs.Common.{sym, ◌∙◌}
use Rattle.code_group.proofs.GroupLemmas.{put-place-if}
use Rattle.code_group.proofs.tuple_groups.TupleGroups.place.Goals as goal

pub returns-in-None-clause-place : goal.returns-in-None-clause-place
returns-in-None-clause-place c =
    put-place-if c.push.result c.args.measures.now c.args.tuple.now c.args.self.now.0 c.push.new.self.0 (sym c.find.ensures ∙ c.in-None.is) c.push.ensures.place c.push.ensures.groups
