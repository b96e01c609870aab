use Rattle.std.proofs.Common.{◌<◌, ap, sym, ◌∙◌, subst, false, true, true≢false, length, replicate, slice_set}
use Rattle.std.specs.Option.{is_some}
use Rattle.order_codes.specs.Dictionary.{class_at}
use Rattle.code_join.proofs.KeyLemmas.{some-same}
use Rattle.code_join.proofs.KeyCodeLemmas.{no_bits, bit_set, bits_kept}
use Rattle.code_join.proofs.key_codes.key_bits.Goals as goal
use Rattle.code_join.proofs.key_codes.key_bits.Goals.{in-Some, in_default}

pub loop-at-init : goal.loop-at-init
loop-at-init g c = c.in_ok-bits.ensures ∙ ap (λ n. replicate n false) c.size.ensures ∙ no_bits (class_at c.args.dict.now c.args.class)

pub loop-at-preserved : goal.loop-at-preserved
loop-at-preserved g c =
    let within : c.loop-at.at < length c.args.keys.now = subst (λ n. c.loop-at.at < n) c.len-at-end.ensures.number c.loop-at-test.true in
    elim c.match-code_of.branch [
      | in-Some w ↦
          w.bits-is ∙ w.set.ensures ∙ ap (λ bs. slice_set bs w.in-Some.code true) c.loop-at.invariant
          ∙ bit_set c.args.keys.now c.loop-at.at c.key.result.now (class_at c.args.dict.now c.args.class) within c.key.ensures w.in-Some.code ((c.code_of.ensures.code w.in-Some.code).1 w.in-Some.is)
          (λ other h. some-same other w.in-Some.code (sym ((c.code_of.ensures.code other).0 h) ∙ w.in-Some.is))
      | in_default w ↦
          w.bits-is ∙ c.loop-at.invariant
          ∙ bits_kept c.args.keys.now c.loop-at.at c.key.result.now (class_at c.args.dict.now c.args.class) within c.key.ensures
          (λ code h. true≢false (sym (ap is_some (sym w.in_default.is ∙ (c.code_of.ensures.code code).0 h))))
    ]
