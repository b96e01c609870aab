-- Room for further blocks. Source: this project's own.
use Rattle.std.specs.Prelude.{◌≡◌, ℕ, ◌+◌, Bool, true, false, nat_lt}
use Rattle.word_pool.specs.Region.{Region, live_count}
use Rattle.word_pool.specs.declared.fault.PoolError.{PoolError}
use Rattle.word_pool.specs.declared.fault.PoolError.TheVariants.{Full, Memory}

-- whether so many blocks beside the live ones are more than the limit
abbrev pub passes_limit : Region → ℕ → Bool
passes_limit region blocks = nat_lt region.limit (live_count region.slots + blocks)

-- the fault of a reservation has its cause: Full where the limit is passed, want of memory only where it isn't
abbrev pub IsCause : PoolError → Bool → Type 0
IsCause Full passes = passes ≡ true
IsCause Memory passes = passes ≡ false
