-- What contracts see of a source, a sink and a store in memory. Source: this project's own.
use Rattle.std.specs.Prelude.{ℕ, ◌+◌, ◌-◌, ◌<◌, Bool, true, false, List, [], ◌∷◌, length, map, String, Vec, Contains, Result, Ok, Err, string_bytes, if◌then◌else◌, refl}
use Rattle.std.specs.FinMap.{from_entries, code}
use Rattle.std.specs.Coded.{Coded, code_by, coded×, coded_list, coded_ℕ}
use Rattle.std.specs.declared.alloc.Global.{Global}
use Rattle.blink_edge.specs.declared.store.StoreError.{StoreError}
use Rattle.blink_edge.specs.declared.store.StoreError.TheVariants.{Failed, Memory}
use Rattle.blink_edge.specs.Causes.{next}
use Rattle.blink_edge.specs.Files.{Files}

-- which calls of an object are to fail, counted from 1; how many were made, and how many of them failed
pub record Plan : Type 0 where
  pub failing : List ℕ
  pub calls : ℕ
  pub faults : ℕ

-- before the first call
abbrev pub fresh : List ℕ → Plan
fresh failing = record { failing = failing; calls = 0; faults = 0 }

-- the next call is one of those that are to fail
abbrev pub IsPlanned : Plan → Type 0
IsPlanned plan = Contains plan.failing (next plan.calls)

-- a plan after a call: the call is counted, and so is its fault, where it failed
abbrev pub after_call : Bool → Plan → Plan
after_call failed plan = record { failing = plan.failing; calls = next plan.calls; faults = (if failed then next plan.faults else plan.faults) }

-- a call of a store that failed, other than for want of memory
abbrev pub is_failed : {T : Type 0} → Result T StoreError → Bool
is_failed (Ok found) = false
is_failed (Err Failed) = true
is_failed (Err Memory) = false

-- a source in memory: the bytes left, the most bytes of a piece, and the plan of its calls
pub record Supply : Type 0 where
  pub left : List ℕ
  pub piece : ℕ
  pub plan : Plan

-- a sink in memory: the bytes given, how many it holds at most, and the plan of its calls
pub record Delivery : Type 0 where
  pub given : List ℕ
  pub room : ℕ
  pub plan : Plan

-- the given bytes and a piece of so many are together longer than the room
abbrev pub IsTooLong : Delivery → ℕ → Type 0
IsTooLong delivery n = delivery.room < length delivery.given + n

-- how many more bytes a sink is sure to take: all that there is room for, where no call is to fail
abbrev pub sure_room_of : List ℕ → ℕ → List ℕ → ℕ
sure_room_of [] room given = room - length given
sure_room_of (call ∷ calls) room given = 0

-- a store in memory: its files, and the plan of its calls
pub record Shelved : Type 0 where
  pub files : Files
  pub plan : Plan

-- a name and the content that was put under it, as bytes
abbrev pub file_of : String Global × Vec ℕ Global → List ℕ × List ℕ
file_of entry = (string_bytes entry.0, entry.1.items)

-- the files that entries hold
abbrev pub files_of : List (String Global × Vec ℕ Global) → Files
files_of entries = from_entries (map file_of entries)

-- a plan is coded as the tuple of its parts
abbrev pub plan_code : Coded Plan
plan_code =
    code_by (List ℕ × (ℕ × ℕ))
    (coded× (coded_list coded_ℕ) (coded× coded_ℕ coded_ℕ))
    (λ p. (p.failing, (p.calls, p.faults)))
    (λ t. record { failing = t.0; calls = t.1.0; faults = t.1.1 })
    (λ _. refl)

-- a store is coded as the pair of its parts
abbrev pub shelved_code : Coded Shelved
shelved_code =
    code_by (Files × Plan)
    (coded× (code (coded_list coded_ℕ) (coded_list coded_ℕ)) plan_code)
    (λ s. (s.files, s.plan))
    (λ p. record { files = p.0; plan = p.1 })
    (λ _. refl)
