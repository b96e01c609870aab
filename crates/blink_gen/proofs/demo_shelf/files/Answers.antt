use Rattle.blink_gen.proofs.demo_shelf.files.Goals as goal

pub returns : goal.returns
returns c =
    rw (
      c.in_ok-set-4.ensures.ok,
      c.in_ok-set-3.ensures.ok,
      c.in_ok-set-2.ensures.ok,
      c.in_ok-set.ensures.ok,
      c.in_ok-order_file.ensures,
      c.in_ok-part_file.ensures,
      c.in_ok-customer_file.ensures,
      c.in_ok-month_file.ensures,
      c.new-shelf.ensures,
      c.new.ensures.items,
    )
