use Rattle.row_bits.proofs.WordLemmas.{put_here, put_elsewhere}
use Rattle.row_bits.proofs.words.put.Goals as goal

pub returns-clause-here : goal.returns-clause-here
returns-clause-here c = put_here c.args.value c.args.words.now c.from.result c.args.place c.requires c.from.ensures

pub returns-clause-others : goal.returns-clause-others
returns-clause-others c k ne = put_elsewhere c.args.value c.args.words.now c.from.result c.args.place k c.requires c.from.ensures ne
