-- Answers one behind the other, of which the first fault counts. Source: this project's own.
use Rattle.std.specs.Prelude.{List, ◌∷◌, Result, Ok, Err}

-- something in front of what is behind it; the first fault counts
abbrev pub before : {X E : Type 0} → Result X E → Result (List X) E → Result (List X) E
before (Err why) rest = Err why
before (Ok first) (Err later) = Err later
before (Ok first) (Ok rest) = Ok (first ∷ rest)
