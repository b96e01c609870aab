-- The limits that arguments say.
use Rattle.std.proofs.Common.{◌≡◌, ◌≢◌, List, [], ◌∷◌, length, map, refl}
use Rattle.std.specs.Prelude.{None}
use Rattle.report_text.specs.Texts.{Bytes}
use Rattle.blink_run.specs.Options.{limits_of}

-- arguments that are no pairs say none
pub limits_of-none : {X : Type 0} (f : X → Bytes) (args : List X) → length args ≢ 0 → length args ≢ 2 → length args ≢ 4 → limits_of (map f args) ≡ None
limits_of-none f [] no0 no2 no4 = absurd (no0 refl)
limits_of-none f (a ∷ []) no0 no2 no4 = refl
limits_of-none f (a ∷ n ∷ []) no0 no2 no4 = absurd (no2 refl)
limits_of-none f (a ∷ n ∷ b ∷ []) no0 no2 no4 = refl
limits_of-none f (a ∷ n ∷ b ∷ m ∷ []) no0 no2 no4 = absurd (no4 refl)
limits_of-none f (a ∷ n ∷ b ∷ m ∷ c ∷ rest) no0 no2 no4 = refl
