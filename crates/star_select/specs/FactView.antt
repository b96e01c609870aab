-- What the code keeps of the fact of a query. Source: this project's own.
use Rattle.word_pool.specs.declared.ledger.Ledger.{Ghosts}
use Rattle.star_select.specs.declared.fact.Fact.{Fact}
use Rattle.star_select.specs.FactRows.{FactRows, fact_rows}

-- the fact that it stands for
abbrev pub fact_of : {M : Type 0} {L : Ghosts M} → Fact M L → FactRows
fact_of f = fact_rows f.image.now f.query.now f.keys.now
