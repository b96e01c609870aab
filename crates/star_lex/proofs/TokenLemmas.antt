-- The content of the front of some bytes, by the first byte.
use Rattle.std.proofs.Common.{◌≡◌, ◌≢◌, ◌≤◌, ◌<◌, ◌+◌, ◌∙◌, ℕ, zero, suc, Bool, true, false, ◌&&◌, List, [], ◌∷◌, Option, Some, None, is_some, Ok, Err, length, take, drop, get_or, eqb, cond, ap, inl, refl, arith}
use Rattle.std.specs.List.{list_all, prefix_len, position_or_len}
use Rattle.std.specs.Option.{option_or, option_map_or}
use Rattle.std.specs.Char.{is_ascii_digit}
use Rattle.std.proofs.lemmas.Bool.{ne_eqb}
use Rattle.std.proofs.lemmas.List.{length-take-le}
use Rattle.blink_base.specs.Identifiers.{begins_name, is_name_byte}
use Rattle.star_lex.specs.declared.token.Mark.{Mark}
use Rattle.star_lex.specs.declared.token.LexFault.TheVariants as fault
use Rattle.star_lex.specs.Forms.{blank, a_name, a_number, a_text, form_if, form_of, mark_form, mark_of_bytes, is_blank, content_of}
use Rattle.star_lex.specs.Lex.{front_length, closed_length, other_length, mark_content, content_if_formed, front_content}
use Rattle.star_lex.proofs.PrefixLemmas.{all_within}
use Rattle.star_lex.proofs.FormLemmas.{IsOther, EndsText, ends_text, name_front, number_front, text_form, no_name, no_digits, no_text}

-- a name
name_length : (b : ℕ) (rest : List ℕ) → begins_name b ≡ true → front_length (b ∷ rest) ≡ suc (prefix_len is_name_byte rest)
name_length b rest e = rw e (omega arith)

pub name_content : (left : List ℕ) (n at : ℕ) → 0 < length left → n ≡ front_length left → begins_name (get_or left 0 0) ≡ true → front_content n at left ≡ content_of a_name (take n left) at
name_content [] n at some is e = absurd (omega arith)
name_content (b ∷ rest) n at some is e = rw (is, name_length b rest e) (ap (λ o. content_if_formed o (suc (prefix_len is_name_byte rest)) at (b ∷ rest)) (name_front b rest (drop (prefix_len is_name_byte rest) rest) e))

pub name_all : (left : List ℕ) (n : ℕ) → 0 < length left → n ≡ front_length left → begins_name (get_or left 0 0) ≡ true → list_all is_name_byte (take n left) ≡ true
name_all [] n some is e = absurd (omega arith)
name_all (b ∷ rest) n some is e = rw (is, name_length b rest e, e) (all_within is_name_byte rest)

-- a number
number_length : (b : ℕ) (rest : List ℕ) → begins_name b ≡ false → is_ascii_digit b ≡ true → front_length (b ∷ rest) ≡ suc (prefix_len is_ascii_digit rest)
number_length b rest e f = rw (e, f) (omega arith)

pub number_content : (left : List ℕ) (n at : ℕ) → 0 < length left → n ≡ front_length left → begins_name (get_or left 0 0) ≡ false → is_ascii_digit (get_or left 0 0) ≡ true
    → front_content n at left ≡ content_of a_number (take n left) at
number_content [] n at some is e f = absurd (omega arith)
number_content (b ∷ rest) n at some is e f = rw (is, number_length b rest e f) (ap (λ o. content_if_formed o (suc (prefix_len is_ascii_digit rest)) at (b ∷ rest)) (number_front b rest (drop (prefix_len is_ascii_digit rest) rest) e f))

pub number_all : (left : List ℕ) (n : ℕ) → 0 < length left → n ≡ front_length left → begins_name (get_or left 0 0) ≡ false → is_ascii_digit (get_or left 0 0) ≡ true → list_all is_ascii_digit (take n left) ≡ true
number_all [] n some is e f = absurd (omega arith)
number_all (b ∷ rest) n some is e f = rw (is, number_length b rest e f, f) (all_within is_ascii_digit rest)

-- a number has a digit
pub number_some : (left : List ℕ) (n : ℕ) → 0 < length left → n ≡ front_length left → begins_name (get_or left 0 0) ≡ false → is_ascii_digit (get_or left 0 0) ≡ true → 0 < length (take n left)
number_some [] n some front plain digit = absurd (omega (arith, some))
number_some (b ∷ rest) n some front plain digit = rw (front, number_length b rest plain digit) (omega arith)

-- a text, or one that is not closed
pub text_open : (left : List ℕ) (n at : ℕ) → 0 < length left → get_or left 0 0 ≡ 39 → n ≡ 0 → front_content n at left ≡ Err (fault.OpenText at)
text_open [] n at some is e = absurd (omega arith)
text_open (b ∷ rest) n at some is e = rw (e, is) refl

closed_content : (rest : List ℕ) (o : Option ℕ) (at : ℕ) → EndsText rest o → option_map_or (λ n. n + 1) o 0 ≢ 0
    → (2 ≤ length (take (option_map_or (λ n. n + 1) o 0) (39 ∷ rest)))
    × (front_content (option_map_or (λ n. n + 1) o 0) at (39 ∷ rest) ≡ content_of a_text (take (option_map_or (λ n. n + 1) o 0) (39 ∷ rest)) at)
closed_content rest None at ends some = absurd (some refl)
closed_content rest (Some n) at ends some =
    let more : n + 1 ≡ suc n = omega arith in
    let form : form_of (39 ∷ take n rest) (drop n rest) ≡ Some a_text = text_form n rest ∙ ap (λ t. form_if t a_text) ends.2 in
    let long = length-take-le n rest ends.1 in
    rw more (omega arith, ap (λ o. content_if_formed o (suc n) at (39 ∷ rest)) form)

pub text_closed : (left : List ℕ) (n at : ℕ) → 0 < length left → n ≡ front_length left → get_or left 0 0 ≡ 39 → n ≢ 0
    → (2 ≤ length (take n left)) × (front_content n at left ≡ content_of a_text (take n left) at)
text_closed [] n at some is e closed = absurd (omega arith)
text_closed (b ∷ rest) n at some is e closed =
    let size : n ≡ option_map_or (λ m. m + 1) (closed_length rest) 0 = is ∙ ap (λ x. front_length (x ∷ rest)) e in
    rw (size, e) (closed_content rest (closed_length rest) at (ends_text rest) (λ none. closed (size ∙ none)))

-- white space, a mark, or none of them
other_some : (b : ℕ) (rest : List ℕ) → 1 ≤ other_length (b ∷ rest)
other_some b [] = omega arith
other_some b (c ∷ rest) = by (eqb b 45 && eqb c 45) (is_some (mark_of_bytes (b ∷ c ∷ [])))
  where
    by : (s t : Bool) → 1 ≤ cond s (2 + position_or_len (λ x. eqb x 10) rest) (cond t 2 1)
    by true t = omega arith
    by false true = omega arith
    by false false = omega arith

other_form : (b : ℕ) (xs behind : List ℕ) → IsOther b → form_of (b ∷ xs) behind ≡ option_or (form_if (is_blank (b ∷ xs)) blank) (mark_form (mark_of_bytes (b ∷ xs)))
other_form b xs behind other = rw (no_name b xs (inl other.name), no_digits b xs (inl other.digit), no_text b xs behind other.quote) refl

form_content : (b : ℕ) (rest : List ℕ) (n at : ℕ) (t : Bool) (m : Option Mark) → eqb b 39 ≡ false
    → content_if_formed (option_or (form_if t blank) (mark_form m)) n at (b ∷ rest) ≡ cond t (Ok None) (mark_content m at)
form_content b rest n at true m e = refl
form_content b rest n at false None e = rw e refl
form_content b rest n at false (Some m) e = refl

pub other_content : (left : List ℕ) (n at : ℕ) → 0 < length left → n ≡ front_length left → begins_name (get_or left 0 0) ≡ false → is_ascii_digit (get_or left 0 0) ≡ false → get_or left 0 0 ≢ 39
    → front_content n at left ≡ cond (is_blank (take n left)) (Ok None) (mark_content (mark_of_bytes (take n left)) at)
other_content [] n at some is e f g = absurd (omega arith)
other_content (b ∷ rest) n at some is e f g = by n (is ∙ rw (e, f, ne_eqb b 39 g) refl)
  where
    by : (n : ℕ) → n ≡ other_length (b ∷ rest) → front_content n at (b ∷ rest) ≡ cond (is_blank (take n (b ∷ rest))) (Ok None) (mark_content (mark_of_bytes (take n (b ∷ rest))) at)
    by zero size = let some = other_some b rest in absurd (omega arith)
    by (suc n) size =
        let other : IsOther b = record { name = e; digit = f; quote = ne_eqb b 39 g } in
        ap (λ o. content_if_formed o (suc n) at (b ∷ rest)) (other_form b (take n rest) (drop n rest) other)
        ∙ form_content b rest (suc n) at (is_blank (b ∷ take n rest)) (mark_of_bytes (b ∷ take n rest)) (ne_eqb b 39 g)
