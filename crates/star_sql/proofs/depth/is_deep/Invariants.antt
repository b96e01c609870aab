use Rattle.std.proofs.Common.{◌≡◌, ◌-◌, ◌≤◌, length}
use Rattle.star_sql.specs.ParseResult.{is_deep, is_deep_from}
use Rattle.star_sql.proofs.depth.is_deep.Given as goal

abbrev pub invariant-loop : goal.invariant-loop
invariant-loop l = record {
  so_far : is_deep_from l.opened l.closed l.rest ≡ is_deep l.fn.tokens;
  opened : l.opened ≤ l.counter;
  closed : l.closed ≤ l.counter;
  left : length l.rest ≡ l.end - l.counter;
}
