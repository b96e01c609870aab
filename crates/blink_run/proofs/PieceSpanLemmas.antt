-- The pieces of a script lie within it.
use Rattle.std.proofs.Common.{◌≡◌, ◌≤◌, ◌<◌, ◌+◌, ℕ, zero, suc, Bool, true, false, List, [], ◌∷◌, length, take, drop, ap, refl, arith, length-append, take-append-drop}
use Rattle.std.specs.Prelude.{All}
use Rattle.std.proofs.lemmas.List.Elements.{All-nil, All-cons}
use Rattle.star_lex.specs.Pieces.{part_length, parts, parts_of, ends_piece, places_from, pieces_of}
use Rattle.report_text.specs.Texts.{Bytes}
use Rattle.blink_run.specs.PieceSpans.{IsWithin}

-- how many bytes there are together
abbrev pub total : List Bytes → ℕ
total [] = 0
total (text ∷ texts) = length text + total texts

-- a list is its first elements and the rest
pub length_parts : (n : ℕ) (text : List ℕ) → length (take n text) + length (drop n text) ≡ length text
length_parts n text = (let long = length-append (take n text) (drop n text) in let same = ap length (take-append-drop n text) in omega arith)

-- the parts of a script are together no longer than it
pub total-parts : (more : ℕ) (text : List ℕ) → total (parts more text) ≤ length text
total-parts zero text = omega arith
total-parts (suc more) [] = omega arith
total-parts (suc more) (b ∷ rest) =
    let n = part_length (b ∷ rest) in
    let tail = total-parts more (drop n (b ∷ rest)) in
    let whole = length_parts n (b ∷ rest) in
    let step : length (take n (b ∷ rest)) + total (parts more (drop n (b ∷ rest))) ≤ length (b ∷ rest) = omega arith in
    step

-- a part that ends a piece is a byte
pub ends_piece-some : (part : Bytes) → ends_piece part ≡ true → 0 < length part
ends_piece-some [] ends = cc ends
ends_piece-some (b ∷ part) ends = omega arith

-- the pieces that parts make lie within the script
pub places_from-within : (script : Bytes) (start at : ℕ) (ps : List Bytes) → start ≤ at → at + total ps ≤ length script → All (IsWithin script) (places_from start at ps)
places_from-within script start at [] before within =
    All-cons (IsWithin script) (record { start = start; end = at }) [] (before, omega arith) (All-nil (IsWithin script))
places_from-within script start at (part ∷ rest) before within =
    by_end (λ s a early short. places_from-within script s a rest early short) (ends_piece part) refl
  where
    by_end : ((s a : ℕ) → s ≤ a → a + total rest ≤ length script → All (IsWithin script) (places_from s a rest))
        → (b : Bool) → ends_piece part ≡ b
        → All (IsWithin script) (elim b [ true ↦ record { start = start; end = at } ∷ places_from (at + 1) (at + 1) rest | false ↦ places_from start (at + length part) rest ])
    by_end later true ends =
        let some = ends_piece-some part ends in
        All-cons (IsWithin script) (record { start = start; end = at }) (places_from (at + 1) (at + 1) rest) (before, omega arith)
        (later (at + 1) (at + 1) (omega arith) (omega arith))
    by_end later false goes = later start (at + length part) (omega arith) (omega arith)

-- the pieces of a script lie within it
pub pieces_within : (script : Bytes) → All (IsWithin script) (pieces_of script)
pieces_within script = let short = total-parts (length script) script in places_from-within script 0 0 (parts_of script) (omega arith) (omega arith)
