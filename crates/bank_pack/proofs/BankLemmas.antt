-- Columns put into banks one by one.
use Rattle.std.proofs.Common.{◌≡◌, ◌<◌, ℕ, zero, suc, ◌+◌, Bool, true, false, List, [], ◌∷◌, ◌++◌, map, fold, length, get_or, set, refl, sym, ap, ◌∙◌, arith}
use Rattle.std.specs.List.{position_or_len}
use Rattle.std.proofs.lemmas.List.{map-append}
use Rattle.std.proofs.lemmas.List.Sums.{fold-append}
use Rattle.blink_lists.specs.Lists.{numbered, numbered_from}
use Rattle.bank_pack.specs.Banks.{BankColumn, BankColumns, has_room, put_in_first, banks_of}

-- a width with its number, as a column
abbrev numbered_column : ℕ × ℕ → BankColumn
numbered_column p = record { column = p.0; width = p.1 }

numbered_from-push : {X : Type 0} (n : ℕ) (xs : List X) (x : X) → numbered_from n (xs ++ x ∷ []) ≡ numbered_from n xs ++ (n + length xs, x) ∷ []
numbered_from-push n [] x = let e : n + 0 ≡ n = omega arith in rw e refl
numbered_from-push n (y ∷ ys) x =
    let e : (n + 1) + length ys ≡ n + length (y ∷ ys) = omega arith in
    ap (λ l. (n, y) ∷ l) (numbered_from-push (n + 1) ys x ∙ rw e refl)

-- a further column goes behind the others
pub banks-push : (ws : List ℕ) (w : ℕ) → banks_of (ws ++ w ∷ []) ≡ put_in_first (banks_of ws) (record { column = length ws; width = w })
banks-push ws w =
    let zero : 0 + length ws ≡ length ws = omega arith in
    let split = ap (map numbered_column) (numbered_from-push 0 ws w) ∙ map-append numbered_column (numbered ws) ((0 + length ws, w) ∷ []) in
    ap (fold put_in_first []) split ∙ fold-append put_in_first [] (map numbered_column (numbered ws)) (record { column = 0 + length ws; width = w } ∷ [])
    ∙ ap (λ n. put_in_first (banks_of ws) (record { column = n; width = w })) zero

-- what follows a bank without room
next-place : (bank : BankColumns) (banks : List BankColumns) (c : BankColumn) → has_room bank c ≡ false
    → position_or_len (λ b. has_room b c) (bank ∷ banks) ≡ suc (position_or_len (λ b. has_room b c) banks)
next-place bank banks c e = rw (position_or_len, e) (omega arith)

-- the first bank with room takes the column
pub put-found : (banks : List BankColumns) (c : BankColumn) (i : ℕ) → position_or_len (λ bank. has_room bank c) banks ≡ i → i < length banks
    → put_in_first banks c ≡ set banks i (get_or banks i [] ++ c ∷ [])
put-found [] c i at within = absurd (omega (arith, within))
put-found (bank ∷ banks) c i at within = by (has_room bank c) i refl at within (put-found banks c)
  where
    by : (b : Bool) (i : ℕ) → has_room bank c ≡ b → position_or_len (λ b. has_room b c) (bank ∷ banks) ≡ i → i < length (bank ∷ banks)
        → ((j : ℕ) → position_or_len (λ b. has_room b c) banks ≡ j → j < length banks → put_in_first banks c ≡ set banks j (get_or banks j [] ++ c ∷ []))
        → put_in_first (bank ∷ banks) c ≡ set (bank ∷ banks) i (get_or (bank ∷ banks) i [] ++ c ∷ [])
    by true zero e at within rest = rw (put_in_first, e) refl
    by true (suc i) e at within rest = absurd (let p = rw (position_or_len, e) at at in omega (arith, p))
    by false zero e at within rest = absurd (let p = sym (next-place bank banks c e) ∙ at in omega (arith, p))
    by false (suc i) e at within rest =
        let p = sym (next-place bank banks c e) ∙ at in
        rw (put_in_first, e) (ap (λ l. bank ∷ l) (rest i (omega (arith, p)) (omega (arith, within))))

-- where there is none, a new bank does
pub put-new : (banks : List BankColumns) (c : BankColumn) → position_or_len (λ bank. has_room bank c) banks ≡ length banks → put_in_first banks c ≡ banks ++ (c ∷ []) ∷ []
put-new [] c at = refl
put-new (bank ∷ banks) c at = by (has_room bank c) refl at (put-new banks c)
  where
    by : (b : Bool) → has_room bank c ≡ b → position_or_len (λ b. has_room b c) (bank ∷ banks) ≡ length (bank ∷ banks)
        → (position_or_len (λ b. has_room b c) banks ≡ length banks → put_in_first banks c ≡ banks ++ (c ∷ []) ∷ []) → put_in_first (bank ∷ banks) c ≡ (bank ∷ banks) ++ (c ∷ []) ∷ []
    by true e at rest = absurd (let p = rw (position_or_len, e) at at in omega (arith, p))
    by false e at rest =
        let p = sym (next-place bank banks c e) ∙ at in
        rw (put_in_first, e) (ap (λ l. bank ∷ l) (rest (omega (arith, p))))
