-- The form at the front of some bytes, and that no longer part has one.
use Rattle.std.proofs.Common.{◌≡◌, ◌≤◌, ◌<◌, ◌+◌, ℕ, zero, suc, Bool, true, false, not, ◌&&◌, List, [], ◌∷◌, length, take, drop, cond, ◌||◌, Option, Some, None, is_some, eqb, leb, inl, inr, ◌⊎◌, sym, ◌∙◌, refl, arith}
use Rattle.std.specs.List.{list_all, prefix_len, position_or_len}
use Rattle.std.specs.Option.{option_or, option_map, option_map_or}
use Rattle.std.specs.Char.{is_ascii_digit, is_ascii_lowercase, is_ascii_uppercase}
use Rattle.std.proofs.lemmas.Bool.{ne_eqb, and_left, and_right, or_cases, eqb-true, leb-true, lt-leb, and_parts}
use Rattle.std.proofs.lemmas.List.Sums.{prefix_len-le-length}
use Rattle.blink_base.specs.Numbers.{is_digits}
use Rattle.blink_base.specs.Identifiers.{begins_name, is_name_byte}
use Rattle.star_lex.specs.declared.token.Mark.{Mark}
use Rattle.star_lex.specs.Forms.{blank, a_name, a_number, a_text, form_if, mark_form, mark_of_bytes, is_blank, is_blank_byte, is_name_form, form_of, is_text_form, closes_text, begins_with_quote}
use Rattle.star_lex.specs.Lex.{front_length, closed_length, other_length}
use Rattle.star_lex.proofs.PrefixLemmas.{all_within, all_past}

-- whether a text ends k bytes behind its first quote
abbrev pub closes_at : ℕ → List ℕ → Bool
closes_at k rest = closes_text (take k rest) && not (begins_with_quote (drop k rest))

abbrev pub EndsText : List ℕ → Option ℕ → Type 0
EndsText rest None = (k : ℕ) → k ≤ length rest → closes_at k rest ≡ false
EndsText rest (Some n) = (1 ≤ n) × (n ≤ length rest) × (closes_at n rest ≡ true) × ((k : ℕ) → n < k → k ≤ length rest → closes_at k rest ≡ false)

quote_first : (b c : ℕ) (xs : List ℕ) → eqb b 39 ≡ true → closes_text (b ∷ c ∷ xs) ≡ (eqb c 39 && closes_text xs)
quote_first b c xs e = rw (closes_text, e) refl

byte_first : (b c : ℕ) (xs : List ℕ) → eqb b 39 ≡ false → closes_text (b ∷ c ∷ xs) ≡ closes_text (c ∷ xs)
byte_first b c xs e = rw (closes_text, e) refl

-- a pair of quotes in front
pair_closes : (b c k : ℕ) (rest : List ℕ) → eqb b 39 ≡ true → eqb c 39 ≡ true → closes_at (suc (suc k)) (b ∷ c ∷ rest) ≡ closes_at k rest
pair_closes b c k rest e f = rw (quote_first b c (take k rest) e, f) refl

pair_ends : (b c : ℕ) (rest : List ℕ) (o : Option ℕ) → eqb b 39 ≡ true → eqb c 39 ≡ true → EndsText rest o → EndsText (b ∷ c ∷ rest) (option_map (λ n. n + 2) o)
pair_ends b c rest None e f all = by
  where
    by : (k : ℕ) → k ≤ length (b ∷ c ∷ rest) → closes_at k (b ∷ c ∷ rest) ≡ false
    by zero h = refl
    by (suc zero) h = rw (e, f) refl
    by (suc (suc k)) h = rw (pair_closes b c k rest e f) (all k (omega arith))
pair_ends b c rest (Some n) e f all =
    let more : n + 2 ≡ suc (suc n) = omega arith in
    (omega arith, omega arith, rw (more, pair_closes b c n rest e f) all.2, past)
  where
    past : (k : ℕ) → n + 2 < k → k ≤ length (b ∷ c ∷ rest) → closes_at k (b ∷ c ∷ rest) ≡ false
    past zero h l = refl
    past (suc zero) h l = absurd (omega arith)
    past (suc (suc k)) h l = rw (pair_closes b c k rest e f) (all.3 k (omega arith) (omega arith))

-- a byte that is no quote in front
byte_closes : (b c k : ℕ) (rest : List ℕ) → eqb b 39 ≡ false → closes_at (suc (suc k)) (b ∷ c ∷ rest) ≡ closes_at (suc k) (c ∷ rest)
byte_closes b c k rest e = rw (byte_first b c (take k rest) e) refl

byte_ends : (b c : ℕ) (rest : List ℕ) (o : Option ℕ) → eqb b 39 ≡ false → EndsText (c ∷ rest) o → EndsText (b ∷ c ∷ rest) (option_map (λ n. n + 1) o)
byte_ends b c rest None e all = by
  where
    by : (k : ℕ) → k ≤ length (b ∷ c ∷ rest) → closes_at k (b ∷ c ∷ rest) ≡ false
    by zero h = refl
    by (suc zero) h = rw e refl
    by (suc (suc k)) h = rw (byte_closes b c k rest e) (all (suc k) (omega arith))
byte_ends b c rest (Some zero) e all = absurd (omega arith)
byte_ends b c rest (Some (suc n)) e all =
    let more : suc n + 1 ≡ suc (suc n) = omega arith in
    (omega arith, omega arith, rw (more, byte_closes b c n rest e) all.2, past)
  where
    past : (k : ℕ) → suc n + 1 < k → k ≤ length (b ∷ c ∷ rest) → closes_at k (b ∷ c ∷ rest) ≡ false
    past zero h l = refl
    past (suc zero) h l = absurd (omega arith)
    past (suc (suc k)) h l = rw (byte_closes b c k rest e) (all.3 (suc k) (omega arith) (omega arith))

-- a quote that no quote follows
quote_ends : (b c : ℕ) (rest : List ℕ) → eqb b 39 ≡ true → eqb c 39 ≡ false → EndsText (b ∷ c ∷ rest) (Some 1)
quote_ends b c rest e f = (omega arith, omega arith, rw (e, f) refl, past)
  where
    past : (k : ℕ) → 1 < k → k ≤ length (b ∷ c ∷ rest) → closes_at k (b ∷ c ∷ rest) ≡ false
    past zero h l = refl
    past (suc zero) h l = absurd (omega arith)
    past (suc (suc k)) h l = rw (quote_first b c (take k rest) e, f) refl

last_ends : (b : ℕ) → EndsText (b ∷ []) (closed_length (b ∷ []))
last_ends b =
    elim (eqb b 39) as (λ t. eqb b 39 ≡ t → EndsText (b ∷ []) (elim t [ true ↦ Some 1 | false ↦ None ])) [
      | true ↦ λ e. (omega arith, omega arith, rw e refl, λ k h l. absurd (omega arith))
      | false ↦ λ e. none e
    ] refl
  where
    none : eqb b 39 ≡ false → (k : ℕ) → k ≤ 1 → closes_at k (b ∷ []) ≡ false
    none e zero h = refl
    none e (suc zero) h = rw e refl
    none e (suc (suc k)) h = absurd (omega arith)

none_ends : (k : ℕ) → k ≤ 0 → closes_at k [] ≡ false
none_ends zero h = refl
none_ends (suc k) h = refl

-- a text ends at the length that is computed, and nowhere further on
pub ends_text : (rest : List ℕ) → EndsText rest (closed_length rest)
ends_text [] = none_ends
ends_text (b ∷ []) = last_ends b
ends_text (b ∷ c ∷ rest) =
    elim (eqb b 39) as (λ t. eqb b 39 ≡ t → EndsText (b ∷ c ∷ rest) (elim t [ true ↦ elim (eqb c 39) [ true ↦ option_map (λ n. n + 2) (closed_length rest) | false ↦ Some 1 ] | false ↦ option_map (λ n. n + 1) (closed_length (c ∷ rest)) ])) [
      | true ↦ λ e. elim (eqb c 39) as (λ t. eqb c 39 ≡ t → EndsText (b ∷ c ∷ rest) (elim t [ true ↦ option_map (λ n. n + 2) (closed_length rest) | false ↦ Some 1 ])) [
        | true ↦ λ f. pair_ends b c rest (closed_length rest) e f (ends_text rest)
        | false ↦ λ f. quote_ends b c rest e f
      ] refl
      | false ↦ λ e. byte_ends b c rest (closed_length (c ∷ rest)) e (ends_text (c ∷ rest))
    ] refl

-- no form where no test is passed
no_form : (bytes behind : List ℕ) → is_blank bytes ≡ false → is_name_form bytes ≡ false → is_digits bytes ≡ false → is_text_form bytes behind ≡ false
    → mark_of_bytes bytes ≡ None → form_of bytes behind ≡ None
no_form bytes behind a b c d e = passed _ _ _ _ _ a b c d e
  where
    passed : (p q r s : Bool) (m : Option Mark) → p ≡ false → q ≡ false → r ≡ false → s ≡ false → m ≡ None
        → option_or (form_if p blank) (option_or (form_if q a_name) (option_or (form_if r a_number) (option_or (form_if s a_text) (mark_form m)))) ≡ None
    passed p q r s m a b c d e = rw (a, b, c, d, e) refl

-- bytes from the digits on are no white space
no_blank : (b : ℕ) (xs : List ℕ) → 48 ≤ b → is_blank (b ∷ xs) ≡ false
no_blank b [] h = rw (ne_eqb b 32 (λ e. omega arith), ne_eqb b 9 (λ e. omega arith), ne_eqb b 10 (λ e. omega arith), ne_eqb b 13 (λ e. omega arith)) refl
no_blank b (c ∷ xs) h = rw (ne_eqb b 45 (λ e. omega arith)) refl

-- and several of them no mark, where the first is no comparison
no_mark : (b c : ℕ) (xs : List ℕ) → eqb b 60 ≡ false → eqb b 62 ≡ false → mark_of_bytes (b ∷ c ∷ xs) ≡ None
no_mark b c [] e f = rw (e, f) refl
no_mark b c (d ∷ xs) e f = refl

pub no_name : (b : ℕ) (xs : List ℕ) → (begins_name b ≡ false) ⊎ (list_all is_name_byte xs ≡ false) → is_name_form (b ∷ xs) ≡ false
no_name b xs (inl e) = and_left _ _ e
no_name b xs (inr e) = and_right _ _ e

pub no_digits : (b : ℕ) (xs : List ℕ) → (is_ascii_digit b ≡ false) ⊎ (list_all is_ascii_digit xs ≡ false) → is_digits (b ∷ xs) ≡ false
no_digits b xs (inl e) = and_right _ _ (and_left _ _ e)
no_digits b xs (inr e) = and_right _ _ (and_right _ _ e)

is_digits_all : (b : ℕ) (xs : List ℕ) → is_digits (b ∷ xs) ≡ list_all is_ascii_digit (b ∷ xs)
is_digits_all b xs = rw (ne_eqb (length (b ∷ xs)) 0 (λ e. omega arith)) refl

pub no_text : (b : ℕ) (xs behind : List ℕ) → eqb b 39 ≡ false → is_text_form (b ∷ xs) behind ≡ false
no_text b xs behind e = rw e refl

name_low : (b : ℕ) → begins_name b ≡ true → 65 ≤ b
name_low b h = elim (or_cases (is_ascii_lowercase b || is_ascii_uppercase b) (eqb b 95) h) [
  | inl e ↦ elim (or_cases (is_ascii_lowercase b) (is_ascii_uppercase b) e) [
    | inl f ↦ let low = leb-true 97 b (and_parts (leb 97 b) (leb b 122) f).0 in omega arith
    | inr f ↦ let low = leb-true 65 b (and_parts (leb 65 b) (leb b 90) f).0 in low
  ]
  | inr e ↦ let is = eqb-true b 95 e in omega arith
]

digit_low : (b : ℕ) → is_ascii_digit b ≡ true → (48 ≤ b) × (b < 58)
digit_low b h = let parts = and_parts (leb 48 b) (leb b 57) h in let low = leb-true 48 b parts.0 in let high = leb-true b 57 parts.1 in (low, omega arith)

-- a name: the form of its longest part, and none of a longer one
pub name_front : (b : ℕ) (rest behind : List ℕ) → begins_name b ≡ true → form_of (b ∷ take (prefix_len is_name_byte rest) rest) behind ≡ Some a_name
name_front b rest behind h =
    let low = name_low b h in
    rw (no_blank b (take (prefix_len is_name_byte rest) rest) (omega arith), h, all_within is_name_byte rest) refl

name_past : (b k : ℕ) (rest behind : List ℕ) → begins_name b ≡ true → prefix_len is_name_byte rest < k → k ≤ length rest → form_of (b ∷ take k rest) behind ≡ None
name_past b zero rest behind h past l = absurd (omega arith)
name_past b (suc k) [] behind h past l = absurd (omega arith)
name_past b (suc k) (c ∷ rest) behind h past l =
    let low = name_low b h in
    let xs = c ∷ take k rest in
    no_form (b ∷ xs) behind (no_blank b xs (omega arith)) (no_name b xs (inr (all_past is_name_byte (c ∷ rest) (suc k) past l)))
    (no_digits b xs (inl (and_right _ _ (lt-leb b 57 (omega arith))))) (no_text b xs behind (ne_eqb b 39 (λ e. omega arith)))
    (no_mark b c (take k rest) (ne_eqb b 60 (λ e. omega arith)) (ne_eqb b 62 (λ e. omega arith)))

-- a number
pub number_front : (b : ℕ) (rest behind : List ℕ) → begins_name b ≡ false → is_ascii_digit b ≡ true → form_of (b ∷ take (prefix_len is_ascii_digit rest) rest) behind ≡ Some a_number
number_front b rest behind n h =
    let low = digit_low b h in
    rw (no_blank b (take (prefix_len is_ascii_digit rest) rest) low.0, n, is_digits_all b (take (prefix_len is_ascii_digit rest) rest), h, all_within is_ascii_digit rest) refl

number_past : (b k : ℕ) (rest behind : List ℕ) → begins_name b ≡ false → is_ascii_digit b ≡ true → prefix_len is_ascii_digit rest < k → k ≤ length rest → form_of (b ∷ take k rest) behind ≡ None
number_past b zero rest behind n h past l = absurd (omega arith)
number_past b (suc k) [] behind n h past l = absurd (omega arith)
number_past b (suc k) (c ∷ rest) behind n h past l =
    let low = digit_low b h in
    let xs = c ∷ take k rest in
    no_form (b ∷ xs) behind (no_blank b xs low.0) (no_name b xs (inl n))
    (no_digits b xs (inr (all_past is_ascii_digit (c ∷ rest) (suc k) past l))) (no_text b xs behind (ne_eqb b 39 (λ e. omega arith)))
    (no_mark b c (take k rest) (ne_eqb b 60 (λ e. omega arith)) (ne_eqb b 62 (λ e. omega arith)))

-- behind a quote: a text where one ends there, and nothing else
pub text_form : (k : ℕ) (rest : List ℕ) → form_of (39 ∷ take k rest) (drop k rest) ≡ form_if (closes_at k rest) a_text
text_form k rest = by (take k rest) (drop k rest)
  where
    chosen : (t : Bool) → option_or (form_if t a_text) None ≡ form_if t a_text
    chosen true = refl
    chosen false = refl

    by : (xs behind : List ℕ) → form_of (39 ∷ xs) behind ≡ form_if (closes_text xs && not (begins_with_quote behind)) a_text
    by [] behind = refl
    by (c ∷ []) behind = (chosen (closes_text (c ∷ []) && not (begins_with_quote behind)))
    by (c ∷ d ∷ xs) behind = rw (no_digits 39 (c ∷ d ∷ xs) (inl refl)) (chosen (closes_text (c ∷ d ∷ xs) && not (begins_with_quote behind)))

-- a comment
pub comment_front : (rest behind : List ℕ) → form_of (45 ∷ 45 ∷ take (position_or_len (λ x. eqb x 10) rest) rest) behind ≡ Some blank
comment_front rest behind = rw (all_within (λ x. not (eqb x 10)) rest) refl

comment_past : (k : ℕ) (rest behind : List ℕ) → position_or_len (λ x. eqb x 10) rest < k → k ≤ length rest → form_of (45 ∷ 45 ∷ take k rest) behind ≡ None
comment_past k rest behind past l =
    no_form (45 ∷ 45 ∷ take k rest) behind (all_past (λ x. not (eqb x 10)) rest k past l) refl (no_digits 45 (45 ∷ take k rest) (inl refl)) refl
    (no_mark 45 45 (take k rest) refl refl)

-- a byte that begins none of these
pub record IsOther (b : ℕ) : Type 0 where
  pub name : begins_name b ≡ false
  pub digit : is_ascii_digit b ≡ false
  pub quote : eqb b 39 ≡ false

one_front : (b : ℕ) (behind : List ℕ) → IsOther b → form_of (b ∷ []) behind ≡ option_or (form_if (is_blank_byte b) blank) (mark_form (mark_of_bytes (b ∷ [])))
one_front b behind other = rw (no_name b [] (inl other.name), no_digits b [] (inl other.digit), no_text b [] behind other.quote) refl

two_front : (b c : ℕ) (behind : List ℕ) → IsOther b → (eqb b 45 && eqb c 45) ≡ false → form_of (b ∷ c ∷ []) behind ≡ mark_form (mark_of_bytes (b ∷ c ∷ []))
two_front b c behind other dash =
    rw (no_name b (c ∷ []) (inl other.name), no_digits b (c ∷ []) (inl other.digit), no_text b (c ∷ []) behind other.quote, dash) refl

three_past : (b c d : ℕ) (xs behind : List ℕ) → IsOther b → (eqb b 45 && eqb c 45) ≡ false → form_of (b ∷ c ∷ d ∷ xs) behind ≡ None
three_past b c d xs behind other dash =
    rw (no_name b (c ∷ d ∷ xs) (inl other.name), no_digits b (c ∷ d ∷ xs) (inl other.digit), no_text b (c ∷ d ∷ xs) behind other.quote, dash) refl

-- A length at the front of some bytes: no longer part has a form, and where the part of this length has none it has at most one byte.
pub record IsFront (rest : List ℕ) (n : ℕ) : Type 0 where
  pub within : n ≤ length rest
  pub longest : (m : ℕ) → n < m → m ≤ length rest → form_of (take m rest) (drop m rest) ≡ None
  pub short : form_of (take n rest) (drop n rest) ≡ None → n ≤ 1

none_of : {A : Type 0} (o : Option A) (x : A) → o ≡ Some x → o ≡ None → ⊥
none_of o x e f = cc

name_is_front : (b : ℕ) (rest : List ℕ) → begins_name b ≡ true → IsFront (b ∷ rest) (1 + prefix_len is_name_byte rest)
name_is_front b rest h =
    let p = prefix_len is_name_byte rest in
    let more : 1 + prefix_len is_name_byte rest ≡ suc (prefix_len is_name_byte rest) = omega arith in
    let most = prefix_len-le-length is_name_byte rest in
    rw more (record {
      within = omega arith;
      longest = past;
      short = λ e. absurd (none_of _ _ (name_front b rest (drop p rest) h) e);
    })
  where
    past : (m : ℕ) → suc (prefix_len is_name_byte rest) < m → m ≤ length (b ∷ rest) → form_of (take m (b ∷ rest)) (drop m (b ∷ rest)) ≡ None
    past zero g l = absurd (omega arith)
    past (suc k) g l = name_past b k rest (drop k rest) h (omega arith) (omega arith)

number_is_front : (b : ℕ) (rest : List ℕ) → begins_name b ≡ false → is_ascii_digit b ≡ true → IsFront (b ∷ rest) (1 + prefix_len is_ascii_digit rest)
number_is_front b rest n h =
    let p = prefix_len is_ascii_digit rest in
    let more : 1 + prefix_len is_ascii_digit rest ≡ suc (prefix_len is_ascii_digit rest) = omega arith in
    let most = prefix_len-le-length is_ascii_digit rest in
    rw more (record {
      within = omega arith;
      longest = past;
      short = λ e. absurd (none_of _ _ (number_front b rest (drop p rest) n h) e);
    })
  where
    past : (m : ℕ) → suc (prefix_len is_ascii_digit rest) < m → m ≤ length (b ∷ rest) → form_of (take m (b ∷ rest)) (drop m (b ∷ rest)) ≡ None
    past zero g l = absurd (omega arith)
    past (suc k) g l = number_past b k rest (drop k rest) n h (omega arith) (omega arith)

text_is_front : (rest : List ℕ) (o : Option ℕ) → EndsText rest o → IsFront (39 ∷ rest) (option_map_or (λ n. n + 1) o 0)
text_is_front rest None ends = record { within = omega arith; longest = past; short = λ e. omega arith }
  where
    past : (m : ℕ) → 0 < m → m ≤ length (39 ∷ rest) → form_of (take m (39 ∷ rest)) (drop m (39 ∷ rest)) ≡ None
    past zero g l = absurd (omega arith)
    past (suc k) g l = rw (text_form k rest, ends k (omega arith)) refl
text_is_front rest (Some n) ends =
    let more : n + 1 ≡ suc n = omega arith in
    rw more (record {
      within = omega arith;
      longest = past;
      short = λ e. absurd (none_of _ a_text (rw (text_form n rest, ends.2) refl) e);
    })
  where
    past : (m : ℕ) → suc n < m → m ≤ length (39 ∷ rest) → form_of (take m (39 ∷ rest)) (drop m (39 ∷ rest)) ≡ None
    past zero g l = absurd (omega arith)
    past (suc k) g l = rw (text_form k rest, ends.3 k (omega arith) (omega arith)) refl

comment_is_front : (rest : List ℕ) → IsFront (45 ∷ 45 ∷ rest) (2 + position_or_len (λ x. eqb x 10) rest)
comment_is_front rest =
    let p = position_or_len (λ x. eqb x 10) rest in
    let more : 2 + position_or_len (λ x. eqb x 10) rest ≡ suc (suc (position_or_len (λ x. eqb x 10) rest)) = omega arith in
    let most = prefix_len-le-length (λ x. not (eqb x 10)) rest in
    rw more (record {
      within = omega arith;
      longest = past;
      short = λ e. absurd (none_of _ _ (comment_front rest (drop p rest)) e);
    })
  where
    past : (m : ℕ) → suc (suc (position_or_len (λ x. eqb x 10) rest)) < m → m ≤ length (45 ∷ 45 ∷ rest) → form_of (take m (45 ∷ 45 ∷ rest)) (drop m (45 ∷ 45 ∷ rest)) ≡ None
    past zero g l = absurd (omega arith)
    past (suc zero) g l = absurd (omega arith)
    past (suc (suc k)) g l = comment_past k rest (drop k rest) (omega arith) (omega arith)

mark_is_front : (b c : ℕ) (rest : List ℕ) → IsOther b → (eqb b 45 && eqb c 45) ≡ false → (t : Bool) → is_some (mark_of_bytes (b ∷ c ∷ [])) ≡ t → IsFront (b ∷ c ∷ rest) (cond t 2 1)
mark_is_front b c rest other dash t e = record { within = within t; longest = past t e; short = short t e }
  where
    within : (t : Bool) → cond t 2 1 ≤ length (b ∷ c ∷ rest)
    within true = omega arith
    within false = omega arith

    none : (o : Option Mark) → is_some o ≡ false → mark_form o ≡ None
    none None e = refl
    none (Some m) e = cc

    some : (o : Option Mark) → is_some o ≡ true → mark_form o ≡ None → ⊥
    some None e f = cc
    some (Some m) e f = cc

    past : (t : Bool) → is_some (mark_of_bytes (b ∷ c ∷ [])) ≡ t → (m : ℕ) → cond t 2 1 < m → m ≤ length (b ∷ c ∷ rest) → form_of (take m (b ∷ c ∷ rest)) (drop m (b ∷ c ∷ rest)) ≡ None
    past t e zero g l = absurd (omega arith)
    past true e (suc zero) g l = absurd (omega arith)
    past false e (suc zero) g l = absurd (omega arith)
    past true e (suc (suc zero)) g l = absurd (omega arith)
    past false e (suc (suc zero)) g l = two_front b c rest other dash ∙ none (mark_of_bytes (b ∷ c ∷ [])) e
    past t e (suc (suc (suc k))) g l = far rest l
      where
        far : (rest : List ℕ) → suc (suc (suc k)) ≤ length (b ∷ c ∷ rest) → form_of (take (suc (suc (suc k))) (b ∷ c ∷ rest)) (drop (suc (suc (suc k))) (b ∷ c ∷ rest)) ≡ None
        far [] l = absurd (omega arith)
        far (d ∷ rest) l = three_past b c d (take k rest) (drop k rest) other dash

    short : (t : Bool) → is_some (mark_of_bytes (b ∷ c ∷ [])) ≡ t → form_of (take (cond t 2 1) (b ∷ c ∷ rest)) (drop (cond t 2 1) (b ∷ c ∷ rest)) ≡ None → cond t 2 1 ≤ 1
    short true e f = absurd (some (mark_of_bytes (b ∷ c ∷ [])) e (sym (two_front b c rest other dash) ∙ f))
    short false e f = omega arith

other_is_front : (b : ℕ) (rest : List ℕ) → IsOther b → IsFront (b ∷ rest) (other_length (b ∷ rest))
other_is_front b [] other = record { within = omega arith; longest = λ m g l. absurd (omega arith); short = λ e. omega arith }
other_is_front b (c ∷ rest) other =
    elim (eqb b 45 && eqb c 45) as (λ t. (eqb b 45 && eqb c 45) ≡ t → IsFront (b ∷ c ∷ rest) (cond t (2 + position_or_len (λ x. eqb x 10) rest) (cond (is_some (mark_of_bytes (b ∷ c ∷ []))) 2 1))) [
      | true ↦ λ e.
          let parts = and_parts (eqb b 45) (eqb c 45) e in
          rw (eqb-true b 45 parts.0, eqb-true c 45 parts.1) (comment_is_front rest)
      | false ↦ λ e. mark_is_front b c rest other e (is_some (mark_of_bytes (b ∷ c ∷ []))) refl
    ] refl

-- the length that is computed is such a length
pub front_is : (b : ℕ) (rest : List ℕ) → IsFront (b ∷ rest) (front_length (b ∷ rest))
front_is b rest =
    elim (begins_name b) as (λ t. begins_name b ≡ t → IsFront (b ∷ rest) (cond t (1 + prefix_len is_name_byte rest) (cond (is_ascii_digit b) (1 + prefix_len is_ascii_digit rest) (cond (eqb b 39) (option_map_or (λ n. n + 1) (closed_length rest) 0) (other_length (b ∷ rest)))))) [
      | true ↦ λ e. name_is_front b rest e
      | false ↦ λ e. elim (is_ascii_digit b) as (λ t. is_ascii_digit b ≡ t → IsFront (b ∷ rest) (cond t (1 + prefix_len is_ascii_digit rest) (cond (eqb b 39) (option_map_or (λ n. n + 1) (closed_length rest) 0) (other_length (b ∷ rest))))) [
        | true ↦ λ f. number_is_front b rest e f
        | false ↦ λ f. elim (eqb b 39) as (λ t. eqb b 39 ≡ t → IsFront (b ∷ rest) (cond t (option_map_or (λ n. n + 1) (closed_length rest) 0) (other_length (b ∷ rest)))) [
          | true ↦ λ g. let is : b ≡ 39 = eqb-true b 39 g in rw is (text_is_front rest (closed_length rest) (ends_text rest))
          | false ↦ λ g. other_is_front b rest (record { name = e; digit = f; quote = g })
        ] refl
      ] refl
    ] refl
