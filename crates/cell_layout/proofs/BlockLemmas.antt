-- How many banks a cell has, and how many blocks a page of a bank takes.
use Rattle.std.proofs.Common.{◌≡◌, ◌≤◌, ℕ, ◌+◌, Bool, true, false, List, [], ◌∷◌, map, fold, length, nat_le, sum_by, All, refl, sym, ap, ◌∙◌, arith}
use Rattle.std.proofs.lemmas.List.{length-map}
use Rattle.std.specs.List.{zip}
use Rattle.std.proofs.lemmas.Slice.Zip.{length-zip}
use Rattle.std.proofs.lemmas.List.Elements.{All-head, All-tail}
use Rattle.std.proofs.lemmas.List.Sums.{sum_by-cons}
use Rattle.blink_lists.specs.Lists.{numbered}
use Rattle.masked_compare.specs.Fields.{lane_holding, fields_bits}
use Rattle.bank_pack.specs.Banks.{BankColumn, BankColumns, has_room, put_in_first, banks_of, page_blocks, widths_of, blocks_for}
use Rattle.blink_base.specs.declared.schema.Schema.{Schema}
use Rattle.blink_base.specs.Values.{Row}
use Rattle.order_codes.specs.Dictionary.{Classes, class_width}
use Rattle.cell_layout.specs.declared.cell.Cell.{Cell}
use Rattle.cell_layout.specs.Blocks.{cell_widths, cell_blocks}
use Rattle.cell_layout.specs.CellRepr.{IsCellRepr, image_of, cell_image}
use Rattle.blink_lists.specs.declared.limits.TheConstants.{MOST_COLUMNS}
use Rattle.cell_layout.proofs.CellReprLemmas.{length-rows}
use Rattle.blink_lists.proofs.NumberLemmas.{length-numbered}

lane-few : (bits : ℕ) → lane_holding bits ≤ 32
lane-few bits = by (nat_le bits 8) (nat_le bits 16) refl refl
  where
    by : (b c : Bool) → nat_le bits 8 ≡ b → nat_le bits 16 ≡ c → lane_holding bits ≤ 32
    by true c e k = rw e (omega arith)
    by false true e k = rw (e, k) (omega arith)
    by false false e k = rw (e, k) (omega arith)

pub page_few : (bank : BankColumns) → page_blocks bank ≤ 4
page_few bank = let few = lane-few (fields_bits (widths_of bank)) in omega arith

length-put : (banks : List BankColumns) (c : BankColumn) → length (put_in_first banks c) ≤ length banks + 1
length-put [] c = omega arith
length-put (bank ∷ banks) c = by (has_room bank c) refl (length-put banks c)
  where
    by : (b : Bool) → has_room bank c ≡ b → length (put_in_first banks c) ≤ length banks + 1 → length (put_in_first (bank ∷ banks) c) ≤ length (bank ∷ banks) + 1
    by true e rest = rw (put_in_first, e) (omega arith)
    by false e rest = rw (put_in_first, e) (omega arith)

length-filled : (banks : List BankColumns) (cs : List BankColumn) → length (fold put_in_first banks cs) ≤ length banks + length cs
length-filled banks [] = omega arith
length-filled banks (c ∷ cs) = let one = length-put banks c in let rest = length-filled (put_in_first banks c) cs in omega arith

-- no more banks than columns
pub banks_few : (widths : List ℕ) → length (banks_of widths) ≤ length widths
banks_few widths =
    let column : ℕ × ℕ → BankColumn = λ p. record { column = p.0; width = p.1 } in
    let all = length-filled [] (map (λ (p : ℕ × ℕ). record { column = p.0; width = p.1 }) (numbered widths)) in
    let n = length-map (numbered widths) column in
    let m = length-numbered 0 widths in
    omega arith

-- a cell in memory has few banks
pub plan_few : (columns : List Classes) (cell : Cell) → IsCellRepr columns cell → length columns ≤ MOST_COLUMNS → length cell.plan ≤ MOST_COLUMNS
plan_few columns cell repr few =
    let banks = banks_few (cell_widths columns cell.classes) in
    let widths = length-map (zip columns cell.classes) (λ (p : Classes × ℕ). class_width p.0 p.1) in
    let both = length-zip columns cell.classes in
    let plan = ap length repr.plan in
    omega arith

abbrev pub blocks_in : Cell → ℕ
blocks_in cell = blocks_for cell.plan cell.rows

-- the blocks of cells in memory
pub blocks-image : (schema : Schema) (columns : List Classes) (rest : List Row) (others cells : List Cell) → All (IsCellRepr columns) cells
    → sum_by (cell_blocks (image_of schema columns others rest)) (map cell_image cells) ≡ sum_by blocks_in cells
blocks-image schema columns rest others [] all = refl
blocks-image schema columns rest others (c ∷ cells) all =
    let repr = All-head (IsCellRepr columns) c cells all in
    let more = blocks-image schema columns rest others cells (All-tail (IsCellRepr columns) c cells all) in
    let here : cell_blocks (image_of schema columns others rest) (cell_image c) ≡ blocks_in c = rw (← repr.plan, length-rows c.codes c.rows) refl in
    let left = sum_by-cons (cell_blocks (image_of schema columns others rest)) (cell_image c) (map cell_image cells) in
    let right = sum_by-cons blocks_in c cells in
    left ∙ (λ i. here i + more i) ∙ sym right
