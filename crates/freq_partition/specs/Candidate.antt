-- What a list of classes with its cost stands for. Source: this project's own.
use Rattle.std.specs.Prelude.{ℕ, ◌+◌, ◌*◌, [], ◌∷◌, ◌++◌, take}
use Rattle.freq_partition.specs.declared.candidate.Candidate.{Candidate}
use Rattle.freq_partition.specs.Division.{Division}
use Rattle.freq_partition.specs.declared.candidate.TheConstants.{CLASS_COST}

-- the division that the classes are
abbrev pub division_in : Candidate → Division
division_in c = record { widths = take c.count c.widths; sizes = take c.count c.sizes; cost = c.cost }

-- the division with one class more, of so many rows
abbrev pub with_class : Division → ℕ → ℕ → ℕ → Division
with_class d width size rows = record { widths = d.widths ++ width ∷ []; sizes = d.sizes ++ size ∷ []; cost = d.cost + (width * rows + CLASS_COST) }
