use Rattle.std.proofs.Common.{arith, length, sym, ap, ◌∙◌}
use Rattle.row_bits.specs.Bits.{is_set}
use Rattle.page_synopsis.proofs.BitSetLemmas.{size_is, bit_is}
use Rattle.page_synopsis.proofs.code_bits.CodeBits.test.Goals as goal

pub is_set-requires : goal.is_set-requires
is_set-requires c =
    let long = size_is c.self.inside.size c.self.inside.words.items c.args.self.now c.self.view_is in
    omega (arith, long, c.requires, c.self.invariant.long, ap length c.deref.ensures.value)

pub returns : goal.returns
returns c =
    let long = size_is c.self.inside.size c.self.inside.words.items c.args.self.now c.self.view_is in
    c.is_set.ensures ∙ ap (λ l. is_set l c.args.code) c.deref.ensures.value
    ∙ sym (bit_is c.self.inside.size c.self.inside.words.items c.args.self.now c.self.view_is c.args.code (omega (arith, long, c.requires)))
