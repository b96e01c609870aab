use Rattle.std.proofs.Common.{ℕ, ◌≡◌, ◌/◌, replicate, sym, ◌∙◌, ap, subst}
use Rattle.masked_compare.specs.Fields.{lane_bits, lane_count}
use Rattle.masked_compare.specs.Words.{stacked, rows_in, IsClean}
use Rattle.masked_compare.proofs.WordLemmas.{spread_back, spread_word}
use Rattle.masked_compare.proofs.shape.Shape.spread.Goals as goal

pub returns-clause-value : goal.returns-clause-value
returns-clause-value c =
    let ones : c.lowest_bits-ones.result ≡ stacked (lane_bits c.args.self) (replicate (lane_count c.args.self) 1)
    = c.lowest_bits-ones.ensures.value ∙ ap (λ (t : ℕ). stacked t (replicate (64 / t) 1)) c.bits.ensures.value in
    rw (c.lane.ensures.value, ones) (sym (spread_word c.args.self c.args.values.now))

pub returns-clause-clean : goal.returns-clause-clean
returns-clause-clean c = subst (IsClean c.args.self) (sym (returns-clause-value c)) (spread_back c.args.self c.args.values.now c.bits.ensures.shape c.requires).0

pub returns-clause-codes : goal.returns-clause-codes
returns-clause-codes c = ap (rows_in c.args.self) (returns-clause-value c) ∙ (spread_back c.args.self c.args.values.now c.bits.ensures.shape c.requires).1
