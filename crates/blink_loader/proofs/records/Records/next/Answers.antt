use Rattle.csv.specs.Records.{fields_of}
use Rattle.blink_loader.specs.RecordsLeft.{IsBetween}
use Rattle.blink_loader.proofs.RecordsLeftLemmas.{after_read}
use Rattle.blink_loader.proofs.records.Records.next.Goals as goal

pub invariant_of-self-2 : goal.invariant_of-self-2
invariant_of-self-2 c =
    let at : IsBetween c.self.inside.reader = rw c.if-self.false at c.self.invariant in
    (after_read c.self.inside.reader c.read_byte_record.new.self c.in-Ok.found (fields_of c.read_byte_record.new.row) at (c.in-Ok.ensures.reads at.trims at.ready) (c.in-Ok.ensures.ready at.trims)).0

pub returns : goal.returns
returns c =
    let at : IsBetween c.self.inside.reader = rw c.if-self.false at c.self.invariant in
    let view = rw c.if-self.false at c.self.view_is in
    rw (← view) (after_read c.self.inside.reader c.read_byte_record.new.self c.in-Ok.found (fields_of c.read_byte_record.new.row) at (c.in-Ok.ensures.reads at.trims at.ready) (c.in-Ok.ensures.ready at.trims)).1
