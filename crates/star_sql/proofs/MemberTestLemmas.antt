-- Tests of each member of a list.
use Rattle.std.proofs.Common.{◌≡◌, ℕ, ◌+◌, ◌≤◌, Bool, true, List, [], ◌∷◌, ◌++◌, length, map, refl, ap, ◌∙◌, append_assoc, arith}
use Rattle.std.specs.List.{list_all}
use Rattle.std.proofs.lemmas.List.{length-append}
use Rattle.std.proofs.lemmas.List.Folds.{list_all-map}
use Rattle.blink_lists.specs.Lists.{separated}
use Rattle.star_lex.specs.declared.token.TokenKind.{TokenKind}
use Rattle.star_sql.specs.Spelling.{Spelled}
use Rattle.star_sql.specs.WellFormed.{some_and_all}
use Rattle.std.proofs.lemmas.Bool.{and_parts, and_from}

-- a test of what a list was mapped to is a test of the list
pub some_mapped : {X Y : Type 0} (test : Y → Bool) (f : X → Y) (xs : List X) → some_and_all test (map f xs) ≡ some_and_all (λ x. test (f x)) xs
some_mapped test f [] = refl
some_mapped test f (x ∷ xs) = list_all-map test f (x ∷ xs)

-- two tests that agree
all_alike : {X : Type 0} (f g : X → Bool) → ((x : X) → f x ≡ g x) → (xs : List X) → list_all f xs ≡ list_all g xs
all_alike f g same [] = refl
all_alike f g same (x ∷ xs) = rw (same x, all_alike f g same xs) refl

pub some_alike : {X : Type 0} (f g : X → Bool) → ((x : X) → f x ≡ g x) → (xs : List X) → some_and_all f xs ≡ some_and_all g xs
some_alike f g same [] = refl
some_alike f g same (x ∷ xs) = all_alike f g same (x ∷ xs)

-- a test that follows from another
all_imply : {X : Type 0} (f g : X → Bool) → ((x : X) → f x ≡ true → g x ≡ true) → (xs : List X) → list_all f xs ≡ true → list_all g xs ≡ true
all_imply f g step [] h = refl
all_imply f g step (x ∷ xs) h =
    let b = and_parts (f x) (list_all f xs) h in
    and_from (g x) (list_all g xs) (step x b.0) (all_imply f g step xs b.1)

pub some_imply : {X : Type 0} (f g : X → Bool) → ((x : X) → f x ≡ true → g x ≡ true) → (xs : List X) → some_and_all f xs ≡ true → some_and_all g xs ≡ true
some_imply f g step [] h = absurd cc
some_imply f g step (x ∷ xs) h = all_imply f g step (x ∷ xs) h

-- a test that follows from another for members whose spelling is no longer than that of the list
module _ {X : Type 0} (mark : TokenKind) (spelled : X → Spelled) (f g : X → Bool) (n : ℕ) (step : (x : X) → f x ≡ true → length (spelled x) ≤ n → g x ≡ true) where
  all_short : (xs : List X) → list_all f xs ≡ true → length (separated (mark ∷ []) (map spelled xs)) ≤ n → list_all g xs ≡ true
  all_short [] h le = refl
  all_short (x ∷ []) h le = and_from (g x) true (step x (and_parts (f x) true h).0 le) refl
  all_short (x ∷ y ∷ ys) h le =
      let b = and_parts (f x) (list_all f (y ∷ ys)) h in
      let rest : Spelled = mark ∷ separated (mark ∷ []) (map spelled (y ∷ ys)) in
      let l : length ((spelled x ++ mark ∷ []) ++ separated (mark ∷ []) (map spelled (y ∷ ys))) ≡ length (spelled x) + length rest = ap length (append_assoc (spelled x) (mark ∷ []) (separated (mark ∷ []) (map spelled (y ∷ ys)))) ∙ length-append (spelled x) rest in
      and_from (g x) (list_all g (y ∷ ys)) (step x b.0 (omega arith)) (all_short (y ∷ ys) b.1 (omega arith))

  pub some_short : (xs : List X) → some_and_all f xs ≡ true → length (separated (mark ∷ []) (map spelled xs)) ≤ n → some_and_all g xs ≡ true
  some_short [] h le = absurd cc
  some_short (x ∷ xs) h le = all_short (x ∷ xs) h le
