-- What a request of the program asks for. Source: this project's own.
use Rattle.std.specs.Prelude.{◌≤◌}
use Rattle.blink_gen.specs.declared.limits.TheConstants.{MOST_DEMO_ROWS, MOST_SEED}
use Rattle.star_engine.specs.Soundness.{AreLimits}
use Rattle.blink_run.specs.declared.arguments.Request.{Request}
use Rattle.blink_run.specs.declared.arguments.Request.TheVariants.{Run, Count, Demo, Unknown}
use Rattle.blink_run.specs.Program.{Asked, to_run, to_count, to_demo, nothing_known}

abbrev pub asked_of : Request → Asked
asked_of (Run limits) = to_run limits
asked_of (Count bounds) = to_count bounds.column.now bounds.low bounds.high
asked_of (Demo seed rows) = to_demo seed rows
asked_of Unknown = nothing_known

-- the limits of a script are some that an engine may have, and the numbers of a demonstration are some that it may have
abbrev pub IsAllowed : Request → Type 0
IsAllowed (Run limits) = AreLimits limits
IsAllowed (Count bounds) = Unit {0}
IsAllowed (Demo seed rows) = (seed ≤ MOST_SEED) × (rows ≤ MOST_DEMO_ROWS)
IsAllowed Unknown = Unit {0}
