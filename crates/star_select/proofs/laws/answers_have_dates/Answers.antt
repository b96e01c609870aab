use Rattle.star_select.proofs.GoodDateLemmas.{answers_have_dates as the_law}
use Rattle.star_select.proofs.laws.answers_have_dates.Goals as goal

pub returns : goal.returns
returns c = the_law
