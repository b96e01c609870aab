use Rattle.code_group.proofs.ImageGroupLemmas.{image-groups}
use Rattle.code_group.proofs.laws.groups_of_an_image.Goals as goal

pub returns : goal.returns
returns c = image-groups c.entries_by_place.ensures c.places_by_code.ensures c.coded_rows_group.ensures c.rows_group.ensures c.spilled_group.ensures
