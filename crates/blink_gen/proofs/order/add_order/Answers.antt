use Rattle.std.proofs.Common.{append_assoc}
use Rattle.blink_gen.proofs.order.add_order.Goals as goal

pub returns : goal.returns
returns c =
    rw (
      c.in_ok-add_number-8.ensures,
      c.in_ok-add_number-7.ensures,
      c.in_ok-add_number-6.ensures,
      c.in_ok-add_number-5.ensures,
      c.in_ok-add_number-4.ensures,
      c.in_ok-add_number-3.ensures,
      c.in_ok-add_number-2.ensures,
      c.in_ok-add_number.ensures,
    ) (simp append_assoc)
