use Rattle.bank_pack.proofs.StandLemmas.{stands_push}
use Rattle.bank_pack.proofs.bank.Bank.push.Goals as goal

pub returns-clause-stands : goal.returns-clause-stands
returns-clause-stands g c =
    stands_push c.args.tag c.args.pool.now c.begin_page.new.pool c.put_lane.new.pool c.args.self.now c.begin_page.new.self c.put_lane.new.self c.args.codes.now c.lane-lane.result
    c.requires.pages c.begin_page.ensures c.put_lane.ensures.packed c.put_lane.ensures.shape c.put_lane.ensures.blocks c.put_lane.ensures.rows c.requires.codes c.lane-lane.ensures.value
