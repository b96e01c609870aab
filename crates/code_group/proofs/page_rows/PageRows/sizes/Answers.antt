use Rattle.code_group.proofs.PageLemmas.{facts}
use Rattle.code_group.specs.PageGroups.{page_of}
use Rattle.code_group.proofs.page_rows.PageRows.sizes.Goals as goal

pub size_of-requires-clause-classes : goal.size_of-requires-clause-classes
size_of-requires-clause-classes g c =
    let i = c.self.inside in
    (facts (page_of i.image.now i.cell i.page i.bits.now i.keys.now i.plan.now) i.maps.now c.self.invariant).classes
