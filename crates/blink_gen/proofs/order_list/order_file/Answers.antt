use Rattle.std.proofs.Common.{rules, ◌++◌, ◌+◌, ◌∙◌, ap}
use Rattle.blink_gen.specs.Demo.{order_file}
use Rattle.blink_gen.specs.Orders.{drawn_order, order_record, record_behind}
use Rattle.blink_gen.proofs.FileLemmas.{order_file-suc}
use Rattle.blink_gen.proofs.GeneratorLemmas.{eight_steps_more}
use Rattle.blink_gen.proofs.order_list.order_file.Goals as goal

pub loop-before-init : goal.loop-before-init
unfolding order_file
loop-before-init c = record { written = search rules; state = c.new-generator.ensures }

pub loop-before-preserved : goal.loop-before-preserved
loop-before-preserved c =
    let file = c.loop-before.file.items in
    let before = c.loop-before.before in
    let seed = c.args.seed in
    record {
      written =
          c.in_ok-add_order.ensures
          ∙ ap (λ o. file ++ order_record o) c.draw_order-order.ensures.order
          ∙ ap (λ x. file ++ order_record (drawn_order (before + 1) x)) c.loop-before.invariant.state
          ∙ ap (λ l. l ++ record_behind seed before) c.loop-before.invariant.written
          ∙ order_file-suc seed before;
      state = rw (c.draw_order-order.ensures.state, c.loop-before.invariant.state) (eight_steps_more before seed);
    }
