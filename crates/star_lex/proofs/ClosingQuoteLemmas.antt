-- The search for the quote that closes a text, up to a place.
use Rattle.std.proofs.Common.{◌≡◌, ◌≢◌, ◌≤◌, ◌<◌, ◌+◌, ◌∙◌, ◌⊎◌, ℕ, List, [], ◌∷◌, length, drop, get_or, Option, Some, None, ap, inl, inr, refl, arith}
use Rattle.std.specs.Option.{option_map}
use Rattle.std.proofs.lemmas.Bool.{ne_eqb, cases_lt}
use Rattle.std.proofs.lemmas.List.{drop_more, drop_all}
use Rattle.star_lex.specs.Lex.{closed_length}

-- the length is that of what is left, and the bytes before it
abbrev pub IsReadTo : List ℕ → ℕ → Type 0
IsReadTo bytes at = (at ≤ length bytes) × (closed_length bytes ≡ option_map (λ n. n + at) (closed_length (drop at bytes)))

added : (o : Option ℕ) (at more : ℕ) → option_map (λ n. n + at) (option_map (λ n. n + more) o) ≡ option_map (λ n. n + (at + more)) o
added None at more = refl
added (Some n) at more = let e : n + more + at ≡ n + (at + more) = omega arith in rw e refl

byte_first : (b : ℕ) (rest : List ℕ) → b ≢ 39 → closed_length (b ∷ rest) ≡ option_map (λ n. n + 1) (closed_length rest)
byte_first b [] other = rw (closed_length, ne_eqb b 39 other) refl
byte_first b (c ∷ rest) other = rw (closed_length, ne_eqb b 39 other) refl

front_at : (bytes : List ℕ) (at b : ℕ) → at < length bytes → get_or bytes at 0 ≡ b → drop at bytes ≡ b ∷ drop (at + 1) bytes
front_at bytes at b l is = drop_more bytes at 0 l ∙ ap (λ x. x ∷ drop (at + 1) bytes) is

pub read_none : (bytes : List ℕ) → IsReadTo bytes 0
read_none bytes = (omega arith, by (closed_length bytes))
  where
    by : (o : Option ℕ) → o ≡ option_map (λ n. n + 0) o
    by None = refl
    by (Some n) = let e : n + 0 ≡ n = omega arith in rw e refl

pub read_byte : (bytes : List ℕ) (at : ℕ) → IsReadTo bytes at → at < length bytes → get_or bytes at 0 ≢ 39 → IsReadTo bytes (at + 1)
read_byte bytes at read l other =
    let front = front_at bytes at (get_or bytes at 0) l refl in
    (omega arith, read.1 ∙ ap (λ xs. option_map (λ n. n + at) (closed_length xs)) front ∙ ap (option_map (λ n. n + at)) (byte_first (get_or bytes at 0) (drop (at + 1) bytes) other) ∙ added (closed_length (drop (at + 1) bytes)) at 1)

pub read_pair : (bytes : List ℕ) (at : ℕ) → IsReadTo bytes at → at + 1 < length bytes → get_or bytes at 0 ≡ 39 → get_or bytes (at + 1) 0 ≡ 39 → IsReadTo bytes (at + 2)
read_pair bytes at read l is next =
    let two : at + 1 + 1 ≡ at + 2 = omega arith in
    let front = front_at bytes at 39 (omega arith) is ∙ ap (λ xs. 39 ∷ xs) (front_at bytes (at + 1) 39 l next) in
    (omega arith, rw two at (read.1 ∙ ap (λ xs. option_map (λ n. n + at) (closed_length xs)) front ∙ added (closed_length (drop (at + 1 + 1) bytes)) at 2))

pub read_close : (bytes : List ℕ) (at : ℕ) → IsReadTo bytes at → at < length bytes → get_or bytes at 0 ≡ 39 → (length bytes ≤ at + 1) ⊎ (get_or bytes (at + 1) 0 ≢ 39)
    → closed_length bytes ≡ Some (at + 1)
read_close bytes at read l is last =
    read.1 ∙ ap (λ xs. option_map (λ n. n + at) (closed_length xs)) (front_at bytes at 39 l is) ∙ ap (option_map (λ n. n + at)) (by last) ∙ rw sum refl
  where
    sum : 1 + at ≡ at + 1
    sum = omega arith

    by : (length bytes ≤ at + 1) ⊎ (get_or bytes (at + 1) 0 ≢ 39) → closed_length (39 ∷ drop (at + 1) bytes) ≡ Some 1
    by (inl end) = rw (drop_all (at + 1) bytes end) refl
    by (inr other) = elim (cases_lt (at + 1) (length bytes)) [
      | inl more ↦ rw (front_at bytes (at + 1) (get_or bytes (at + 1) 0) more refl, closed_length, ne_eqb (get_or bytes (at + 1) 0) 39 other) refl
      | inr end ↦ rw (drop_all (at + 1) bytes end) refl
    ]

pub read_all : (bytes : List ℕ) (at : ℕ) → IsReadTo bytes at → length bytes ≤ at → closed_length bytes ≡ None
read_all bytes at read end = read.1 ∙ rw (drop_all at bytes end) refl
