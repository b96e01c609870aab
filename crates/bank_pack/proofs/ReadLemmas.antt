-- Words and codes of a bank, read from its blocks.
use Rattle.std.proofs.Common.{ℕ, ◌+◌, ◌-◌, ◌*◌, ◌/◌, ◌%◌, ◌≡◌, ◌≤◌, ◌<◌, refl, sym, ◌∙◌, ap, arith, IsTrue, List, [], ◌∷◌, length, take, drop, get_or, Option}
use Rattle.std.proofs.lemmas.Nat.{div_below, mod_below}
use Rattle.std.proofs.Math.Nat.{mul_comm}
use Rattle.std.proofs.lemmas.List.{take-take, get_or-take, get_or-drop}
use Rattle.masked_compare.specs.Fields.{is_shape, lane_count}
use Rattle.masked_compare.specs.Words.{word_of, rows_in}
use Rattle.word_pool.specs.Region.{block_at, words_of}
use Rattle.bank_pack.specs.Banks.{pages_for}
use Rattle.bank_pack.specs.BankRepr.{blocks_of_page, blocks_of_rows, packed, bank_words, rows_before, IsBank, AreClean}
use Rattle.bank_pack.proofs.PackedLemmas.{packed-part, packed-at, packed_clean, rows-drop, row_in}
use Rattle.bank_pack.proofs.BlockLemmas.{block-words}
use Rattle.bank_pack.proofs.PlaceLemmas.{some_lanes, page_lanes, page_block, block_within, rows_fit}

-- the first words of a block of a page are those of its rows
pub words_lent : (ws : List ℕ) (slots : List (Option (ℕ × List ℕ))) (ids : List ℕ) (rows : List (List ℕ)) (page block used count id : ℕ) (words : List ℕ) → IsBank ws slots ids rows → block < blocks_of_page ws → 1024 * page + rows_before ws block < length rows → used ≤ 128
    → id ≡ get_or ids (page * blocks_of_page ws + block) 0 → count ≡ used → words ≡ take count (words_of (block_at slots id)) → words ≡ packed ws (lane_count ws) used (drop (1024 * page + rows_before ws block) rows)
words_lent ws slots ids rows page block used count id words bank low begun few id_is count_is words_is =
    let n : ℕ = lane_count ws in
    let q : ℕ = page * blocks_of_page ws + block in
    let within : q < length ids = omega (arith, page_block ws (length rows) page block low (omega arith), bank.pages) in
    let first : n * (128 * q) ≡ 1024 * page + rows_before ws block = omega (arith, page_lanes ws page) in
    words_is ∙ (ap (λ n. take n (words_of (block_at slots id))) count_is ∙ (ap (λ i. take used (words_of (block_at slots i))) id_is
    ∙ (ap (take used) (block-words slots ids q bank.packed.whole within)
    ∙ (take-take used 128 (drop (128 * q) (bank_words slots ids)) few
    ∙ (ap (λ l. take used (drop (128 * q) l)) bank.packed.words
    ∙ (packed-part ws n (128 * q) used (128 * length ids) rows (omega arith)
    ∙ ap (λ k. packed ws n used (drop k rows)) first))))))

pub lent_clean : (ws : List ℕ) (used first : ℕ) (rows : List (List ℕ)) (slots : List (Option (ℕ × List ℕ))) (ids : List ℕ) → IsTrue (is_shape ws) → IsBank ws slots ids rows → AreClean ws (packed ws (lane_count ws) used (drop first rows))
lent_clean ws used first rows slots ids shape bank = packed_clean ws used (drop first rows) shape (rows-drop ws first rows bank.packed.coded)

-- the code of a row in a field
pub code_read : (ws : List ℕ) (slots : List (Option (ℕ × List ℕ))) (ids : List ℕ) (rows : List (List ℕ)) (row lanes field id word code : ℕ) → IsTrue (is_shape ws) → IsBank ws slots ids rows → row < length rows → lanes ≡ lane_count ws
    → id ≡ get_or ids (row / lane_count ws / 128) 0 → word ≡ get_or (words_of (block_at slots id)) (row / lanes % 128) 0 → code ≡ get_or (get_or (rows_in ws word) (row % lanes) []) field 0
    → code ≡ get_or (get_or rows row []) field 0
code_read ws slots ids rows row lanes field id word code shape bank within lanes_is id_is word_was code_was =
    let n : ℕ = lane_count ws in
    let w : ℕ = row / n in
    let q : ℕ = w / 128 in
    let word_is : word ≡ get_or (words_of (block_at slots id)) (w % 128) 0 = rw lanes_is at word_was in
    let code_is : code ≡ get_or (get_or (rows_in ws word) (row % n) []) field 0 = rw lanes_is at code_was in
    let some = some_lanes ws in
    let fit = rows_fit ws (length rows) (length ids) bank.pages in
    let inside : row < n * (128 * length ids) = omega arith in
    let turned : row < 128 * length ids * n = omega (arith, mul_comm n (128 * length ids)) in
    let words : w < 128 * length ids = div_below row n (128 * length ids) some turned in
    let block : q < length ids = block_within n row (length ids) some inside in
    let place : 128 * q + w % 128 ≡ w = omega arith in
    let read : word ≡ word_of ws (take n (drop (n * w) rows)) =
    word_is ∙ (ap (λ i. get_or (words_of (block_at slots i)) (w % 128) 0) id_is
    ∙ (ap (λ l. get_or l (w % 128) 0) (block-words slots ids q bank.packed.whole block)
    ∙ (get_or-take 128 (drop (128 * q) (bank_words slots ids)) (w % 128) 0 (omega arith)
    ∙ (get_or-drop (128 * q) (bank_words slots ids) (w % 128) 0
    ∙ (ap (λ k. get_or (bank_words slots ids) k 0) place
    ∙ (ap (λ l. get_or l w 0) bank.packed.words
    ∙ packed-at ws n (128 * length ids) w rows words)))))) in
    code_is ∙ (ap (λ x. get_or (get_or (rows_in ws x) (row % n) []) field 0) read
    ∙ ap (λ r. get_or r field 0) (row_in ws rows w (row % n) row shape bank.packed.coded (omega arith) (mod_below row n some) within))
