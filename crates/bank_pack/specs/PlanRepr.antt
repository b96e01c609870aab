-- What a plan keeps. Source: this project's own.
use Rattle.std.specs.Prelude.{ℕ, List, [], ◌∷◌}
use Rattle.bank_pack.specs.Banks.{BankColumns}

-- columns and widths, side by side
abbrev pub bank_made : List ℕ → List ℕ → BankColumns
bank_made [] ws = []
bank_made (c ∷ cs) [] = []
bank_made (c ∷ cs) (w ∷ ws) = record { column = c; width = w } ∷ bank_made cs ws
