-- Items that were read, in front of what is left.
use Rattle.std.proofs.Common.{◌≡◌, List, [], ◌∷◌, ◌++◌, Result, Ok, Err, refl, ap, sym, append_assoc, append-nil}
use Rattle.blink_lists.specs.FirstFault.{before}

module _ {X E : Type 0} where
  -- items in front of those that are left; a fault in what is left counts
  abbrev pub behind : List X → Result (List X) E → Result (List X) E
  behind done (Err why) = Err why
  behind done (Ok left) = Ok (done ++ left)

  -- none in front
  pub behind_none : (left : Result (List X) E) → behind [] left ≡ left
  behind_none (Err why) = refl
  behind_none (Ok left) = refl

  -- one more is read
  pub behind_before : (done : List X) (x : X) (left : Result (List X) E) → behind done (before (Ok x) left) ≡ behind (done ++ x ∷ []) left
  behind_before done x (Err why) = refl
  behind_before done x (Ok left) = ap (λ all. Ok all) (sym (append_assoc done (x ∷ []) left))

  -- none is left
  pub behind_end : (done : List X) → behind done (Ok []) ≡ Ok done
  behind_end done = ap (λ all. Ok all) (append-nil done)
