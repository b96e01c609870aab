-- What `bind` asks of the tables that are there. Source: this project's own.
use Rattle.std.specs.Prelude.{◌≡◌, true, List, ℕ, Some}
use Rattle.blink_base.specs.declared.schema.Schema.{Schema}
use Rattle.blink_base.specs.RowFits.{is_schema}
use Rattle.star_bind.specs.BoundQuery.{Schemas}

-- each schema is one that a table may have
abbrev pub AreAllowed : Schemas → Type 0
AreAllowed schemas = (name : List ℕ) (schema : Schema) → schemas name ≡ Some schema → is_schema schema ≡ true
