use Rattle.star_select.proofs.ImageAnswerLemmas.{answers_by_codes}
use Rattle.star_select.proofs.laws.answers_by_codes.Goals as goal

pub returns : goal.returns
returns c = answers_by_codes c.answers_by_groups.ensures c.selects_by_codes.ensures c.groups_of_an_image.ensures c.images_may_be_asked.ensures c.fact_named.ensures
