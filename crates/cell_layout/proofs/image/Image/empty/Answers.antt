use Rattle.cell_layout.proofs.RowFitLemmas.{empty_image_valid}
use Rattle.cell_layout.proofs.image.Image.empty.Goals as goal

pub returns-clause-valid : goal.returns-clause-valid
returns-clause-valid g c = empty_image_valid c.places_decode_to_their_values.ensures c.args.schema c.as_slice.result.now c.in_ok-dicts.dicts c.new.result.0 c.new-2.result.0 c.requires c.as_slice.ensures c.in_ok-dicts.ensures c.new.ensures.list c.new-2.ensures.list
