-- The laws of banks.
use Rattle.std.proofs.Common.{ℕ, ◌≡◌, ◌∙◌, sym, ap, subst, arith, true, is_some, false, List, [], ◌∷◌, length, Option, Some, None, IsSome, refl}
use Rattle.std.proofs.lemmas.List.{length-map}
use Rattle.word_pool.specs.declared.pool.BlockId.{BlockId}
use Rattle.word_pool.specs.Region.{block_at, words_of}
use Rattle.bank_pack.specs.Banks.{pages_for}
use Rattle.bank_pack.specs.BankRepr.{blocks_of_rows, AreWhole, AreLive, AreClean}
use Rattle.bank_pack.specs.BankRows.{ids_of, StandsFor}
use Rattle.bank_pack.specs.BankLaws.{OtherBlocksKeepBanks, BanksHaveTheirBlocks, BanksAreClean}
use Rattle.bank_pack.proofs.BlockLemmas.{same-words, same-whole}
use Rattle.bank_pack.proofs.PackedLemmas.{packed_clean}

pub other_blocks_keep_banks : OtherBlocksKeepBanks
other_blocks_keep_banks bank before after rows same stands =
    let held = stands.holds.packed in
    record {
      count = stands.count;
      holds = record {
        pages = stands.holds.pages;
        packed = record {
          apart = held.apart;
          whole = same-whole before after (ids_of bank) same held.whole;
          coded = held.coded;
          words = same-words before after (ids_of bank) same ∙ held.words;
        };
      };
    }

live_block : (block : Option (ℕ × List ℕ)) → length (words_of block) ≡ 128 → IsSome block
live_block None whole = absurd (omega arith)
live_block (Some b) whole = refl

whole_live : (slots : List (Option (ℕ × List ℕ))) (ids : List ℕ) → AreWhole slots ids → AreLive slots ids
whole_live slots [] whole = tt
whole_live slots (i ∷ is) whole = (live_block (block_at slots i) whole.0, whole_live slots is whole.1)

pub banks_have_their_blocks : BanksHaveTheirBlocks
banks_have_their_blocks bank slots rows stands = (
  sym (length-map bank.blocks.0 (λ (id : BlockId). id.0)) ∙ (stands.holds.pages ∙ ap (blocks_of_rows bank.shape) stands.count),
  whole_live slots (ids_of bank) stands.holds.packed.whole,
  stands.holds.packed.apart,
)

pub banks_are_clean : BanksAreClean
banks_are_clean bank slots rows shape stands =
    subst (λ (l : List ℕ). AreClean bank.shape l) (sym stands.holds.packed.words) (packed_clean bank.shape _ rows shape stands.holds.packed.coded)
