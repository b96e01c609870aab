-- The system under a folder, and what it tells. Source: this project's own.
use Rattle.std.specs.Prelude.{ℕ, Option, None}
use Rattle.blink_edge.specs.declared.folder.Folder.{Folder}
use Rattle.blink_edge.specs.Files.{Files}

-- the system whose files it stands over
abbrev pub system_under : {F : Type 0} → Folder F → F
system_under folder = folder.system

-- how often it has failed
abbrev pub folder_faults : {F : Type 0} → Folder F → ℕ
folder_faults folder = folder.faults

-- it tells nothing of its files
abbrev pub untold : Option Files
untold = None
