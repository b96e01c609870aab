-- The texts with a front lie between it and it with last characters behind it.
use Rattle.std.proofs.Common.{◌≡◌, ℕ, zero, suc, ◌+◌, ◌*◌, ◌/◌, ◌%◌, ◌<◌, ◌≤◌, Bool, true, false, ◌&&◌, ◌||◌, List, [], ◌∷◌, ◌++◌, length, nat_eq, nat_lt, nat_le, IsUtf8, refl, sym, ap, ◌∙◌, subst, true≢false, arith, append_assoc, append-nil, length-append, ◌⊎◌, inl, inr}
use Rattle.std.specs.List.{list_all, starts_with}
use Rattle.std.specs.Char.{is_ascii}
use Rattle.std.specs.Prelude.{slice_index}
use Rattle.std.specs.Str.{is_utf8}
use Rattle.std.specs.declared.cmp.Ordering.TheVariants.{Less, Equal, Greater}
use Rattle.std.specs.Ordering.{is_le, is_lt, ordering_then}
use Rattle.std.specs.Cmp.{nat_cmp_is}
use Rattle.std.proofs.Common.{cond}
use Rattle.std.proofs.lemmas.Bool.{ltb-true, leb-true, cases_lt, eqb-true, eq-eqb}
use Rattle.std.proofs.lemmas.Str.{IsUtf8-from_is_utf8, IsUtf8-from_ascii, IsUtf8-past_char}
use lib.Utf8.{scalar, scalars, encode, encodes, scalar_cases}
use Rattle.blink_base.specs.declared.value.Value.TheVariants.{Text}
use Rattle.blink_base.specs.Values.{text_cmp, value_cmp}
use Rattle.blink_base.specs.RowFits.{is_good}
use Rattle.blink_base.specs.Tests.{begins_with}
use Rattle.blink_base.specs.Texts.{is_text}
use Rattle.blink_lists.proofs.GroupLemmas.{both}
use Rattle.cell_predicates.specs.Prefixes.{last_letter, last_letters, behind_front, PrefixIsRange}

-- ---- bytes in order

below_first : (x y : ℕ) (xs ys : List ℕ) → x < y → text_cmp (x ∷ xs) (y ∷ ys) ≡ Less
below_first x y xs ys lt = ap (λ o. ordering_then o (text_cmp xs ys)) (sym (nat_cmp_is x y Less lt))

above_first : (x y : ℕ) (xs ys : List ℕ) → y < x → text_cmp (x ∷ xs) (y ∷ ys) ≡ Greater
above_first x y xs ys lt = ap (λ o. ordering_then o (text_cmp xs ys)) (sym (nat_cmp_is x y Greater lt))

same_first : (x y : ℕ) (xs ys : List ℕ) → x ≡ y → text_cmp (x ∷ xs) (y ∷ ys) ≡ text_cmp xs ys
same_first x y xs ys e = ap (λ o. ordering_then o (text_cmp xs ys)) (sym (nat_cmp_is x y Equal e))

-- a first byte that is no more, and what is behind where it is the same
step : (x y : ℕ) (xs ys : List ℕ) → x ≤ y → (x ≡ y → text_cmp xs ys ≡ Less) → text_cmp (x ∷ xs) (y ∷ ys) ≡ Less
step x y xs ys le h = from (cases_lt x y)
  where
    from : ((x < y) ⊎ (y ≤ x)) → text_cmp (x ∷ xs) (y ∷ ys) ≡ Less
    from (inl lt) = below_first x y xs ys lt
    from (inr ge) = let e : x ≡ y = omega (arith, le, ge) in same_first x y xs ys e ∙ h e

-- ---- a character below the last one

abbrev shape : Bool → Bool → Bool → ℕ → List ℕ
shape true b d c = c ∷ []
shape false true d c = (192 + c / 64) ∷ (128 + c % 64) ∷ []
shape false false true c = (224 + c / 4096) ∷ (128 + c / 64 % 64) ∷ (128 + c % 64) ∷ []
shape false false false c = (240 + c / 262144) ∷ (128 + c / 4096 % 64) ∷ (128 + c / 64 % 64) ∷ (128 + c % 64) ∷ []

cond-shape : (a b d : Bool) (c : ℕ)
    → cond a (c ∷ []) (cond b ((192 + c / 64) ∷ (128 + c % 64) ∷ []) (cond d ((224 + c / 4096) ∷ (128 + c / 64 % 64) ∷ (128 + c % 64) ∷ []) ((240 + c / 262144) ∷ (128 + c / 4096 % 64) ∷ (128 + c / 64 % 64) ∷ (128 + c % 64) ∷ []))) ≡ shape a b d c
cond-shape true b d c = refl
cond-shape false true d c = refl
cond-shape false false true c = refl
cond-shape false false false c = refl

encode-shape : (c : ℕ) → encode c ≡ shape (nat_lt c 128) (nat_lt c 2048) (nat_lt c 65536) c
unfolding encode
encode-shape c = cond-shape (nat_lt c 128) (nat_lt c 2048) (nat_lt c 65536) c

shape-low : (a b d : Bool) (c : ℕ) (xs ys : List ℕ) → nat_lt c 128 ≡ a → nat_lt c 2048 ≡ b → nat_lt c 65536 ≡ d → c < 1114111 → text_cmp (shape a b d c ++ xs) (last_letter ++ ys) ≡ Less
shape-low true b d c xs ys e k m lt = let small : c < 128 = ltb-true c 128 e in below_first c 244 xs (143 ∷ 191 ∷ 191 ∷ ys) (omega (arith, small))
shape-low false true d c xs ys e k m lt = let small : c < 2048 = ltb-true c 2048 k in below_first (192 + c / 64) 244 ((128 + c % 64) ∷ xs) (143 ∷ 191 ∷ 191 ∷ ys) (omega (arith, small))
shape-low false false true c xs ys e k m lt = let small : c < 65536 = ltb-true c 65536 m in below_first (224 + c / 4096) 244 ((128 + c / 64 % 64) ∷ (128 + c % 64) ∷ xs) (143 ∷ 191 ∷ 191 ∷ ys) (omega (arith, small))
shape-low false false false c xs ys e k m lt =
    step (240 + c / 262144) 244 ((128 + c / 4096 % 64) ∷ (128 + c / 64 % 64) ∷ (128 + c % 64) ∷ xs) (143 ∷ 191 ∷ 191 ∷ ys) (omega (arith, lt))
    (λ e0. step (128 + c / 4096 % 64) 143 ((128 + c / 64 % 64) ∷ (128 + c % 64) ∷ xs) (191 ∷ 191 ∷ ys) (omega (arith, lt, e0))
    (λ e1. step (128 + c / 64 % 64) 191 ((128 + c % 64) ∷ xs) (191 ∷ ys) (omega (arith, lt))
    (λ e2. step (128 + c % 64) 191 xs ys (omega (arith, lt)) (λ e3. absurd (omega (arith, lt, e0, e1, e2, e3))))))

low : (c : ℕ) (xs ys : List ℕ) → c < 1114111 → text_cmp (encode c ++ xs) (last_letter ++ ys) ≡ Less
low c xs ys lt = ap (λ l. text_cmp (l ++ xs) (last_letter ++ ys)) (encode-shape c) ∙ shape-low (nat_lt c 128) (nat_lt c 2048) (nat_lt c 65536) c xs ys refl refl refl lt

last_is : encode 1114111 ≡ last_letter
unfolding encode
last_is = refl

scalar-few : (c : ℕ) → scalar c ≡ true → c < 1114112
scalar-few c s = from (scalar_cases c s)
  where
    from : ((c < 55296) ⊎ ((57344 ≤ c) × (c < 1114112))) → c < 1114112
    from (inl lt) = omega (arith, lt)
    from (inr h) = h.1

one_more : (c : ℕ) (cs : List ℕ) (n : ℕ) → scalar c ≡ true → length (encode c ++ encodes cs) < 4 * suc n → (length (encodes cs) < 4 * n → is_lt (text_cmp (encodes cs) (last_letters n)) ≡ true)
    → is_lt (text_cmp (encode c ++ encodes cs) (last_letters (suc n))) ≡ true
one_more c cs n s lt r = from (cases_lt c 1114111)
  where
    last : c ≡ 1114111 → is_lt (text_cmp (encode c ++ encodes cs) (last_letters (suc n))) ≡ true
    last e =
        let letter : encode c ≡ last_letter = ap encode e ∙ last_is in
        let parts : length (encode c ++ encodes cs) ≡ length (encode c) + length (encodes cs) = length-append (encode c) (encodes cs) in
        let four : length (encode c) ≡ 4 = ap length letter in
        ap (λ l. is_lt (text_cmp (l ++ encodes cs) (last_letters (suc n)))) letter ∙ r (omega (arith, lt, parts, four))

    from : ((c < 1114111) ⊎ (1114111 ≤ c)) → is_lt (text_cmp (encode c ++ encodes cs) (last_letters (suc n))) ≡ true
    from (inl less) = ap is_lt (low c (encodes cs) (last_letters n) less)
    from (inr ge) = let few = scalar-few c s in last (omega (arith, few, ge))

all_low : (cs : List ℕ) (n : ℕ) → scalars cs ≡ true → length (encodes cs) < 4 * n → is_lt (text_cmp (encodes cs) (last_letters n)) ≡ true
all_low [] zero s lt = absurd (omega (arith, lt))
all_low [] (suc n) s lt = refl
all_low (c ∷ cs) zero s lt = absurd (omega (arith, lt))
all_low (c ∷ cs) (suc n) s lt = one_more c cs n (both (scalar c) (scalars cs) s).0 lt (all_low cs n (both (scalar c) (scalars cs) s).1)

-- ---- texts

abbrev top : List ℕ
top = last_letters 64

unequal : (a b : ℕ) → (a ≡ b → ⊥) → nat_eq a b ≡ false
unequal a b n = by (nat_eq a b) refl
  where
    by : (c : Bool) → nat_eq a b ≡ c → nat_eq a b ≡ false
    by true e = absurd (n (eqb-true a b e))
    by false e = e

between : (front text : List ℕ) → ((rest : List ℕ) → text ≡ front ++ rest → is_lt (text_cmp rest top) ≡ true) → starts_with nat_eq text front ≡ (is_le (text_cmp front text) && is_lt (text_cmp text (front ++ top)))
between [] [] h = sym (h [] refl)
between [] (x ∷ text) h = sym (h (x ∷ text) refl)
between (f ∷ front) [] h = refl
between (f ∷ front) (x ∷ text) h = from (cases_lt f x) (cases_lt x f) (λ e. between front text (λ rest k. h rest (λ i. e i ∷ k i)))
  where
    from : ((f < x) ⊎ (x ≤ f)) → ((x < f) ⊎ (f ≤ x)) → (x ≡ f → starts_with nat_eq text front ≡ (is_le (text_cmp front text) && is_lt (text_cmp text (front ++ top))))
        → starts_with nat_eq (x ∷ text) (f ∷ front) ≡ (is_le (text_cmp (f ∷ front) (x ∷ text)) && is_lt (text_cmp (x ∷ text) (f ∷ front ++ top)))
    from (inl lt) other r =
        let right : (is_le (text_cmp (f ∷ front) (x ∷ text)) && is_lt (text_cmp (x ∷ text) (f ∷ front ++ top))) ≡ false = λ i. is_le (below_first f x front text lt i) && is_lt (above_first x f text (front ++ top) lt i) in
        ap (λ b. b && starts_with nat_eq text front) (unequal f x (λ e. omega (arith, lt, e))) ∙ sym right
    from (inr ge) (inl gt) r =
        let right : (is_le (text_cmp (f ∷ front) (x ∷ text)) && is_lt (text_cmp (x ∷ text) (f ∷ front ++ top))) ≡ false = ap (λ o. is_le o && is_lt (text_cmp (x ∷ text) (f ∷ front ++ top))) (above_first f x front text gt) in
        ap (λ b. b && starts_with nat_eq text front) (unequal f x (λ e. omega (arith, gt, e))) ∙ sym right
    from (inr ge) (inr le) r =
        let e : x ≡ f = omega (arith, ge, le) in
        let right : (is_le (text_cmp (f ∷ front) (x ∷ text)) && is_lt (text_cmp (x ∷ text) (f ∷ front ++ top))) ≡ (is_le (text_cmp front text) && is_lt (text_cmp text (front ++ top)))
        = λ i. is_le (same_first f x front text (sym e) i) && is_lt (same_first x f text (front ++ top) e i) in
        ap (λ b. b && starts_with nat_eq text front) (eq-eqb f x (sym e)) ∙ r e ∙ sym right

-- a text is UTF-8
small : (bytes : List ℕ) → list_all is_ascii bytes ≡ true → (i : ℕ) → slice_index bytes i < 128
small [] all i = omega arith
small (b ∷ rest) all zero = ltb-true b 128 (both (is_ascii b) (list_all is_ascii rest) all).0
small (b ∷ rest) all (suc i) = small rest (both (is_ascii b) (list_all is_ascii rest) all).1 i

utf8_of : (bytes : List ℕ) → is_text bytes ≡ true → IsUtf8 bytes
utf8_of bytes h = by (list_all is_ascii bytes) (is_utf8 bytes) refl refl h
  where
    by : (a b : Bool) → list_all is_ascii bytes ≡ a → is_utf8 bytes ≡ b → (list_all is_ascii bytes || is_utf8 bytes) ≡ true → IsUtf8 bytes
    by true b e k t = IsUtf8-from_ascii bytes (small bytes e)
    by false true e k t = IsUtf8-from_is_utf8 bytes k
    by false false e k t = absurd (true≢false (sym (let u : (list_all is_ascii bytes || is_utf8 bytes) ≡ false = λ i. e i || k i in sym u ∙ t)))

-- what stands behind characters of a text is a text
utf8_behind : (ds rest : List ℕ) → IsUtf8 (encodes ds ++ rest) → IsUtf8 rest
utf8_behind [] rest u = u
utf8_behind (d ∷ ds) rest u = utf8_behind ds rest (IsUtf8-past_char ((encode d ++ encodes ds) ++ rest) (encodes ds ++ rest) d u (append_assoc (encode d) (encodes ds) rest))

pub prefix_of_text : (front text : List ℕ) → IsUtf8 front → is_good (Text text) ≡ true
    → begins_with front (Text text) ≡ (is_le (value_cmp (Text front) (Text text)) && is_lt (value_cmp (Text text) (Text (behind_front front))))
prefix_of_text front text u g = between front text rest_low
  where
    parts : (is_text text ≡ true) × (nat_le (length text) 255 ≡ true)
    parts = both (is_text text) (nat_le (length text) 255) g

    rest_low : (rest : List ℕ) → text ≡ front ++ rest → is_lt (text_cmp rest top) ≡ true
    rest_low rest e =
        let whole : IsUtf8 (encodes u.0 ++ rest) = subst IsUtf8 (e ∙ ap (λ l. l ++ rest) (sym u.1.1)) (utf8_of text parts.0) in
        let v : IsUtf8 rest = utf8_behind u.0 rest whole in
        let few : length text ≤ 255 = leb-true (length text) 255 parts.1 in
        let sum : length text ≡ length front + length rest = ap length e ∙ length-append front rest in
        let size : length (encodes v.0) ≡ length rest = ap length v.1.1 in
        subst (λ l. is_lt (text_cmp l top) ≡ true) v.1.1 (all_low v.0 64 v.1.0 (omega (arith, few, sum, size)))

pub prefix_is_range : PrefixIsRange
prefix_is_range front text f g = prefix_of_text front text (utf8_of front f) g

-- letters one after another
one_letter : (m : ℕ) → last_letters m ++ last_letter ≡ last_letters (m + 1)
one_letter zero = sym (append-nil last_letter)
one_letter (suc m) =
    let next : suc m + 1 ≡ suc (m + 1) = omega arith in
    append_assoc last_letter (last_letters m) last_letter ∙ ap (λ l. last_letter ++ l) (one_letter m) ∙ ap last_letters (sym next)

pub letters_more : (front word : List ℕ) (n : ℕ) → word ≡ front ++ last_letters n → word ++ encode 1114111 ≡ front ++ last_letters (n + 1)
letters_more front word n e =
    (λ i. e i ++ last_is i) ∙ append_assoc front (last_letters n) last_letter ∙ ap (λ l. front ++ l) (one_letter n)

pub no_letters : (front : List ℕ) → front ≡ front ++ last_letters 0
no_letters front = sym (append-nil front)
