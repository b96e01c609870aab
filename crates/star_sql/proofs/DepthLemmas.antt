-- Too many parentheses are open at once exactly where some prefix has them.
use Rattle.std.proofs.Common.{◌≡◌, ℕ, ◌+◌, ◌<◌, ◌≤◌, Bool, true, ltb, [], ◌∷◌, ◌++◌, refl, ap, ◌∙◌, arith, inl, inr}
use Rattle.std.specs.List.{count_by}
use Rattle.std.proofs.lemmas.Bool.{cases_lt, lt-ltb, ltb-true, or_cases, or_right}
use Rattle.std.proofs.lemmas.List.Sums.{sum_by-cons}
use Rattle.star_lex.specs.declared.token.TokenKind.{TokenKind}
use Rattle.star_sql.specs.Spelling.{Spelled}
use Rattle.star_sql.specs.ParseResult.{counted, opens, closes, is_deep_from, is_deep, DepthByPrefixes}

-- some prefix has too many, behind tokens that opened and closed so many
record DeepFrom (opened closed : ℕ) (ts : Spelled) : Type 0 where
  front : Spelled
  behind : Spelled
  parts : ts ≡ front ++ behind
  deep : (closed + count_by closes front) + 32 < opened + count_by opens front

count_first : (p : TokenKind → Bool) (t : TokenKind) (front : Spelled) → count_by p (t ∷ front) ≡ counted (p t) + count_by p front
count_first p t front = sum_by-cons (λ x. counted (p x)) t front

found : (ts : Spelled) (o c : ℕ) → is_deep_from o c ts ≡ true → DeepFrom o c ts
found [] o c e = absurd cc
found (t ∷ ts) o c e =
    elim (or_cases (ltb ((c + counted (closes t)) + 32) (o + counted (opens t))) (is_deep_from (o + counted (opens t)) (c + counted (closes t)) ts) e) [
      | inl lt ↦
          let l : (c + counted (closes t)) + 32 < o + counted (opens t) = ltb-true _ _ lt in
          record { front = t ∷ []; behind = ts; parts = refl; deep = omega arith }
      | inr more ↦
          let d = found ts (o + counted (opens t)) (c + counted (closes t)) more in
          record { front = t ∷ d.front; behind = d.behind; parts = ap (λ (s : Spelled). t ∷ s) d.parts; deep = omega (arith, d.deep, count_first opens t d.front, count_first closes t d.front) }
    ]

again : (front behind : Spelled) (o c : ℕ) → o ≤ c + 32 → (c + count_by closes front) + 32 < o + count_by opens front → is_deep_from o c (front ++ behind) ≡ true
again [] behind o c le deep = absurd (omega arith)
again (t ∷ front) behind o c le deep =
    elim (cases_lt ((c + counted (closes t)) + 32) (o + counted (opens t))) [
      | inl lt ↦ rw (lt-ltb _ _ lt) refl
      | inr ge ↦ or_right _ _ (again front behind (o + counted (opens t)) (c + counted (closes t)) ge (omega (arith, count_first opens t front, count_first closes t front)))
    ]

pub by_prefixes : DepthByPrefixes
by_prefixes kinds = (
  λ e. let d = found kinds 0 0 e in record { front = d.front; behind = d.behind; parts = d.parts; deep = omega (arith, d.deep) },
  λ d. ap is_deep d.parts ∙ again d.front d.behind 0 0 (omega arith) (omega (arith, d.deep)),
)
