-- Records of numbers that go up by one.
use Rattle.std.proofs.Common.{◌≡◌, ℕ, zero, suc, ◌+◌, List, ◌++◌, sym, ap, ◌∙◌, append_assoc, append-nil, arith}
use Rattle.std.specs.List.{flat_map}
use Rattle.blink_lists.specs.Lists.{numbers_from}

module _ (f : ℕ → List ℕ) where
  flat_map-numbers : (a n : ℕ) → flat_map f (numbers_from a (n + 1)) ≡ flat_map f (numbers_from a n) ++ f (a + n)
  flat_map-numbers a zero = let e : a ≡ a + 0 = omega arith in append-nil (f a) ∙ ap f e
  flat_map-numbers a (suc n) =
      let m : suc n + 1 ≡ suc (n + 1) = omega arith in
      let e : (a + 1) + n ≡ a + suc n = omega arith in
      ap (λ k. flat_map f (numbers_from a k)) m
      ∙ ap (λ l. f a ++ l) (flat_map-numbers (a + 1) n)
      ∙ ap (λ k. f a ++ (flat_map f (numbers_from (a + 1) n) ++ f k)) e
      ∙ sym (append_assoc (f a) (flat_map f (numbers_from (a + 1) n)) (f (a + suc n)))

  -- the next record behind those of the first n numbers from a on
  pub one_record_more : (front : List ℕ) (a n k : ℕ) → k ≡ a + n → (front ++ flat_map f (numbers_from a n)) ++ f k ≡ front ++ flat_map f (numbers_from a (n + 1))
  one_record_more front a n k e =
      append_assoc front (flat_map f (numbers_from a n)) (f k)
      ∙ ap (λ j. front ++ (flat_map f (numbers_from a n) ++ f j)) e
      ∙ ap (λ l. front ++ l) (sym (flat_map-numbers a n))
