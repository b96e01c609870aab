use Rattle.std.proofs.Common.{◌≡◌, ◌-◌, ◌*◌, drop, get_or, sym, ◌∙◌, ap, arith}
use Rattle.code_group.specs.Slots.{number_of}
use Rattle.code_group.proofs.SlotLemmas.{within-length, number-end, number-more, number-few, number-below}
use Rattle.code_group.proofs.slots.number_of.Goals as goal

pub loop-at-init : goal.loop-at-init
loop-at-init c = (omega arith, sym (number-end c.args.sizes.now c.args.entries.now c.requires.within))

pub bounds-sizes-at : goal.bounds-sizes-at
bounds-sizes-at c =
    let same = within-length c.args.sizes.now c.args.entries.now c.requires.within in
    let at = c.loop-at.invariant.0 in
    omega (arith, same, at)

pub overflow_mul-number : goal.overflow_mul-number
overflow_mul-number c =
    let k = c.loop-at.at - 1 in
    let within = c.loop-at.invariant.0 in
    let few = number-few c.args.sizes.now c.args.entries.now c.requires.within c.requires.few c.loop-at.at (c.loop-at.at - 1) (omega arith) (omega (arith, within)) in
    let number = ap (λ n. n * get_or c.args.sizes.now (c.loop-at.at - 1) 0) c.loop-at.invariant.1 in
    omega (arith, few, number)

pub overflow_add-number : goal.overflow_add-number
overflow_add-number c =
    let within = c.loop-at.invariant.0 in
    let few = number-few c.args.sizes.now c.args.entries.now c.requires.within c.requires.few c.loop-at.at (c.loop-at.at - 1) (omega arith) (omega (arith, within)) in
    let number = ap (λ n. n * get_or c.args.sizes.now (c.loop-at.at - 1) 0) c.loop-at.invariant.1 in
    let entry = c.from.ensures in
    omega (arith, few, number, entry)

pub loop-at-preserved : goal.loop-at-preserved
loop-at-preserved c =
    let within = c.loop-at.invariant.0 in
    let more = number-more c.args.sizes.now c.args.entries.now c.requires.within c.requires.few c.loop-at.at (c.loop-at.at - 1) (omega arith) (omega (arith, within)) in
    let number = ap (λ n. n * get_or c.args.sizes.now (c.loop-at.at - 1) 0) c.loop-at.invariant.1 in
    let entry = c.from.ensures in
    (omega (arith, within), omega (arith, more, number, entry))

pub returns-clause-below : goal.returns-clause-below
returns-clause-below c =
    let none : c.loop-at.at ≡ 0 = omega arith in
    let all = c.loop-at.invariant.1 ∙ ap (λ n. number_of (drop n c.args.sizes.now) (drop n c.args.entries.now)) none in
    let below = number-below c.args.sizes.now c.args.entries.now c.requires.within in
    omega (arith, all, below)
