use Rattle.std.proofs.Common.{ap, sym, ◌∙◌, ◌==◌, ◌-◌, ◌/◌, ◌^◌, bit_and, flat_map, arith, ◌<◌, ◌*◌, length}
use Rattle.std.specs.Int.{bit_at}
use Rattle.masked_compare.specs.Fields.{lane_count}
use Rattle.masked_compare.specs.Rounds.{outside_rounds}
use Rattle.lane_scan.proofs.MaskLemmas.{first_not_at, first_not_behind}
use Rattle.lane_scan.proofs.RoundLemmas.{few_outside, outside_lies, clean_rounds}
use Rattle.lane_scan.proofs.parts.inside_in.Goals as goal

pub outside_in-requires-clause-bounds : goal.outside_in-requires-clause-bounds
outside_in-requires-clause-bounds c = clean_rounds c.args.shape c.args.rounds.now c.requires.bounds

pub returns-clause-inside : goal.returns-clause-inside
returns-clause-inside c i lt =
    ap (λ m. bit_at (bit_and ((2 ^ 64 - 1) - m) ((2 ^ 64 - 1) / 2 ^ (64 - c.args.rows))) i == 1) c.outside_in.ensures
    ∙ first_not_at (flat_map (outside_rounds c.args.shape c.args.rounds.now) c.args.words.now) c.args.rows i (few_outside c.args.shape c.args.rounds.now c.args.words.now c.requires.few) c.requires.some c.requires.within lt
    ∙ outside_lies c.args.shape c.args.rounds.now c.args.words.now i c.requires.bounds (omega (arith, lt, c.requires.enough))

pub returns-clause-none : goal.returns-clause-none
returns-clause-none c i le =
    ap (λ m. bit_at (bit_and ((2 ^ 64 - 1) - m) ((2 ^ 64 - 1) / 2 ^ (64 - c.args.rows))) i == 1) c.outside_in.ensures
    ∙ first_not_behind (flat_map (outside_rounds c.args.shape c.args.rounds.now) c.args.words.now) c.args.rows i c.requires.some c.requires.within le
