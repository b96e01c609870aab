-- Pieces with a mark between each two.
use Rattle.std.proofs.Common.{◌≡◌, List, [], ◌∷◌, ◌++◌, sym, append_assoc, append-nil}
use Rattle.std.proofs.lemmas.Grind.{flat_map-append}
use Rattle.std.specs.List.{flat_map}
use Rattle.blink_lists.specs.Lists.{separated}

-- the first piece, and the others behind a mark each
pub separated_first : {X : Type 0} (mark first : List X) (others : List (List X)) → separated mark (first ∷ others) ≡ first ++ flat_map (λ piece. mark ++ piece) others
separated_first mark first [] = sym (append-nil first)
separated_first mark first (next ∷ others) = rw (separated_first mark next others) (simp append_assoc)

-- five pieces, and then two lists of more
pub separated_parts : {X : Type 0} (old mark a b c d e end : List X) (more rest : List (List X))
    → old ++ a ++ (mark ++ b) ++ (mark ++ c) ++ flat_map (λ piece. mark ++ piece) (d ∷ e ∷ []) ++ flat_map (λ piece. mark ++ piece) more ++ flat_map (λ piece. mark ++ piece) rest ++ end
    ≡ old ++ (separated mark (a ∷ b ∷ c ∷ d ∷ e ∷ (more ++ rest)) ++ end)
separated_parts old mark a b c d e end more rest =
    rw (separated_first mark e (more ++ rest), flat_map-append (λ piece. mark ++ piece) more rest, append-nil (mark ++ e)) (simp append_assoc)
