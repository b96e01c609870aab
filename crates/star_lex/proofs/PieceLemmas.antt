-- A script that is cut up to a place.
use Rattle.std.proofs.Common.{◌≡◌, ◌≢◌, ◌≤◌, ◌<◌, ◌+◌, ◌∙◌, ℕ, zero, suc, Bool, true, false, not, ◌&&◌, List, [], ◌∷◌, ◌++◌, length, take, drop, get_or, eqb, ap, sym, refl, arith}
use Rattle.std.specs.List.{position_or_len}
use Rattle.std.proofs.lemmas.Bool.{ne_eqb}
use Rattle.std.proofs.lemmas.List.{append_assoc, length-take, length-take-le, drop-drop, drop_all, drop_more}
use Rattle.std.proofs.lemmas.List.Sums.{prefix_len-le-length}
use Rattle.star_lex.specs.declared.token.Place.{Place}
use Rattle.star_lex.specs.Pieces.{part_length, parts, ends_piece, places_from, pieces_of}

-- the pieces that were found and those that are still to come are all pieces
abbrev pub IsCutTo : List ℕ → List Place → ℕ → ℕ → Type 0
IsCutTo text places start at = (more : ℕ) × (length text ≤ at + more) × (places ++ places_from start at (parts more (drop at text)) ≡ pieces_of text)

-- a part is not empty, and within the script
pub part_fits : (b : ℕ) (rest : List ℕ) → (1 ≤ part_length (b ∷ rest)) × (part_length (b ∷ rest) ≤ length (b ∷ rest))
part_fits b [] = (omega arith, omega arith)
part_fits b (c ∷ rest) = by (eqb b 39)
  where
    Fits : ℕ → Type 0
    Fits n = (1 ≤ n) × (n ≤ length (b ∷ c ∷ rest))

    comment : (t : Bool) → (1 ≤ (elim t [ true ↦ 2 + position_or_len (λ x. eqb x 10) rest | false ↦ 1 ])) × ((elim t [ true ↦ 2 + position_or_len (λ x. eqb x 10) rest | false ↦ 1 ]) ≤ length (b ∷ c ∷ rest))
    comment true = let most = prefix_len-le-length (λ x. not (eqb x 10)) rest in (omega arith, omega arith)
    comment false = (omega arith, omega arith)

    by : (t : Bool) → (1 ≤ (elim t [ true ↦ 1 + length (take (position_or_len (λ x. eqb x 39) (c ∷ rest) + 1) (c ∷ rest)) | false ↦ elim (eqb b 45 && eqb c 45) [ true ↦ 2 + position_or_len (λ x. eqb x 10) rest | false ↦ 1 ] ])) × ((elim t [ true ↦ 1 + length (take (position_or_len (λ x. eqb x 39) (c ∷ rest) + 1) (c ∷ rest)) | false ↦ elim (eqb b 45 && eqb c 45) [ true ↦ 2 + position_or_len (λ x. eqb x 10) rest | false ↦ 1 ] ]) ≤ length (b ∷ c ∷ rest))
    by true = let len = length-take (position_or_len (λ x. eqb x 39) (c ∷ rest) + 1) (c ∷ rest) in (omega arith, omega arith)
    by false = comment (eqb b 45 && eqb c 45)

-- a part that begins with no semicolon ends no piece
no_end : (b n : ℕ) (rest : List ℕ) → b ≢ 59 → 1 ≤ n → ends_piece (take n (b ∷ rest)) ≡ false
no_end b zero rest other some = absurd (omega arith)
no_end b (suc n) rest other some = by (take n rest)
  where
    by : (xs : List ℕ) → ends_piece (b ∷ xs) ≡ false
    by [] = ne_eqb b 59 other
    by (c ∷ xs) = refl

part_of_end : (rest : List ℕ) → part_length (59 ∷ rest) ≡ 1
part_of_end [] = refl
part_of_end (c ∷ rest) = refl

end_next : (more start at : ℕ) (rest : List ℕ) → places_from start at (parts (suc more) (59 ∷ rest)) ≡ record { start = start; end = at } ∷ places_from (at + 1) (at + 1) (parts more rest)
end_next more start at rest = rw (part_of_end rest) refl

on_part : (start at : ℕ) (part : List ℕ) (rest : List (List ℕ)) → ends_piece part ≡ false → places_from start at (part ∷ rest) ≡ places_from start (at + length part) rest
on_part start at part rest e = rw (places_from, e) refl

on_next : (more start at b : ℕ) (rest : List ℕ) → b ≢ 59
    → places_from start at (parts (suc more) (b ∷ rest)) ≡ places_from start (at + part_length (b ∷ rest)) (parts more (drop (part_length (b ∷ rest)) (b ∷ rest)))
on_next more start at b rest other =
    let fits = part_fits b rest in
    let n = part_length (b ∷ rest) in
    on_part start at (take n (b ∷ rest)) (parts more (drop n (b ∷ rest))) (no_end b n rest other fits.0)
    ∙ ap (λ m. places_from start (at + m) (parts more (drop n (b ∷ rest)))) (length-take-le n (b ∷ rest) fits.1)

pub cut_end : (text : List ℕ) (places : List Place) (start at : ℕ) → IsCutTo text places start at → at < length text → get_or text at 0 ≡ 59
    → IsCutTo text (places ++ record { start = start; end = at } ∷ []) (at + 1) (at + 1)
cut_end text places start at (zero, enough, all) l is = absurd (omega arith)
cut_end text places start at (suc more, enough, all) l is =
    let front : drop at text ≡ 59 ∷ drop (at + 1) text = drop_more text at 0 l ∙ ap (λ b. b ∷ drop (at + 1) text) is in
    let next = ap (λ xs. places_from start at (parts (suc more) xs)) front ∙ end_next more start at (drop (at + 1) text) in
    (more, omega arith, append_assoc places _ _ ∙ ap (λ (p : List Place). places ++ p) (sym next) ∙ all)

pub cut_on : (text : List ℕ) (places : List Place) (start at : ℕ) → IsCutTo text places start at → at < length text → get_or text at 0 ≢ 59
    → IsCutTo text places start (at + part_length (drop at text))
cut_on text places start at (zero, enough, all) l other = absurd (omega arith)
cut_on text places start at (suc more, enough, all) l other =
    let b = get_or text at 0 in
    let rest = drop (at + 1) text in
    let front : drop at text ≡ b ∷ rest = drop_more text at 0 l in
    let fits = part_fits b rest in
    let behind : drop (at + part_length (b ∷ rest)) text ≡ drop (part_length (b ∷ rest)) (b ∷ rest) = sym (drop-drop (part_length (b ∷ rest)) at text) ∙ ap (drop (part_length (b ∷ rest))) front in
    let next = ap (λ xs. places_from start at (parts (suc more) xs)) front ∙ on_next more start at b rest other in
    rw front (more, omega arith, rw behind (ap (λ (p : List Place). places ++ p) (sym next) ∙ all))

pub cut_all : (text : List ℕ) (places : List Place) (start at : ℕ) → IsCutTo text places start at → length text ≤ at
    → places ++ record { start = start; end = at } ∷ [] ≡ pieces_of text
cut_all text places start at (more, enough, all) l = let none = drop_all at text l in rw (← all, none) (by more)
  where
    by : (more : ℕ) → places ++ record { start = start; end = at } ∷ [] ≡ places ++ places_from start at (parts more [])
    by zero = refl
    by (suc more) = refl
