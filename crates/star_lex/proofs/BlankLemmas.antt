-- The white space in front of a text.
use Rattle.std.proofs.Common.{◌≡◌, ◌≢◌, ◌+◌, ◌∙◌, ℕ, zero, suc, Bool, true, false, not, ◌&&◌, List, [], ◌∷◌, take, drop, get_or, eqb, cond, ap, refl, arith}
use Rattle.std.specs.List.{list_all, position_or_len}
use Rattle.std.proofs.lemmas.Bool.{eqb-true}
use Rattle.star_lex.specs.Forms.{is_blank, is_blank_byte}
use Rattle.star_lex.specs.Lex.{front_length}
use Rattle.star_lex.specs.TextKinds.{begins_blank, begins_comment, blank_length}
use Rattle.star_lex.proofs.PrefixLemmas.{all_within}

-- a comment
pub blank_comment : (text : List ℕ) → begins_comment text ≡ true → blank_length text ≡ 2 + position_or_len (λ x. eqb x 10) (drop 2 text)
blank_comment [] e = cc
blank_comment (b ∷ []) e = cc
blank_comment (b ∷ c ∷ rest) e = by (eqb b 45) (eqb c 45) refl refl e
  where
    more : 2 + position_or_len (λ x. eqb x 10) rest ≡ suc (suc (position_or_len (λ x. eqb x 10) rest))
    more = omega arith

    comment : blank_length (45 ∷ 45 ∷ rest) ≡ 2 + position_or_len (λ x. eqb x 10) rest
    comment = rw (more, all_within (λ x. not (eqb x 10)) rest) refl

    by : (s t : Bool) → eqb b 45 ≡ s → eqb c 45 ≡ t → (s && t) ≡ true → blank_length (b ∷ c ∷ rest) ≡ 2 + position_or_len (λ x. eqb x 10) rest
    by true true f g e = let x = eqb-true b 45 f in let y = eqb-true c 45 g in rw (x, y) comment
    by true false f g e = cc
    by false t f g e = cc

-- neither
pub blank_none : (text : List ℕ) → is_blank_byte (get_or text 0 0) ≡ false → begins_comment text ≡ false → blank_length text ≡ 0
blank_none [] e f = refl
blank_none (b ∷ rest) e f = rw (no (front_length (b ∷ rest)) rest f) refl
  where
    both : (s t u : Bool) → (s && t) ≡ false → (s && t && u) ≡ false
    both true true u e = cc
    both true false u e = refl
    both false t u e = refl

    no : (n : ℕ) (rest : List ℕ) → begins_comment (b ∷ rest) ≡ false → is_blank (take n (b ∷ rest)) ≡ false
    no zero rest f = refl
    no (suc zero) rest f = e
    no (suc (suc n)) [] f = e
    no (suc (suc n)) (c ∷ rest) f = both (eqb b 45) (eqb c 45) (list_all (λ x. not (eqb x 10)) (take n rest)) f

-- its length tells whether it is there
pub blank_there : (text : List ℕ) (n : ℕ) → n ≡ blank_length text → n ≢ 0 → (begins_blank text ≡ true) × (n ≡ front_length text)
blank_there text n size some = by (begins_blank text) refl size
  where
    by : (t : Bool) → begins_blank text ≡ t → n ≡ cond t (front_length text) 0 → (begins_blank text ≡ true) × (n ≡ front_length text)
    by true e size = (e, size)
    by false e size = absurd (some size)

pub blank_gone : (text : List ℕ) → 0 ≡ blank_length text → begins_blank text ≡ false
blank_gone text none = by (begins_blank text) refl none
  where
    by : (t : Bool) → begins_blank text ≡ t → 0 ≡ cond t (front_length text) 0 → begins_blank text ≡ false
    by true e none = let no : is_blank (take 0 text) ≡ true = ap (λ n. is_blank (take n text)) none ∙ e in cc
    by false e none = e
