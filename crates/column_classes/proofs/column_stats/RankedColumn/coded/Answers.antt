use Rattle.std.proofs.Common.{ap, ◌∙◌}
use Rattle.std.specs.List.{list_any}
use Rattle.blink_histogram.specs.Ranks.{counted}
use Rattle.blink_base.specs.Values.{same_value}
use Rattle.blink_lists.specs.Lists.{joined}
use Rattle.order_codes.specs.Dictionary.{are_classes}
use Rattle.column_classes.proofs.ColumnClassLemmas.{classes_have_values}
use Rattle.column_classes.proofs.DividedColumnLemmas.{made_classes, made_dict}
use Rattle.column_classes.proofs.column_stats.RankedColumn.coded.Goals as goal

pub of-requires-clause-classes : goal.of-requires-clause-classes
of-requires-clause-classes g c = ap are_classes c.as_slice.ensures ∙ made_classes c.args.self c.args.divided c.in_ok-classes.classes c.requires c.in_ok-classes.ensures

pub of-requires-clause-values : goal.of-requires-clause-values
of-requires-clause-values g c v =
    ap (λ l. list_any (same_value v) (joined l)) (c.as_slice.ensures ∙ c.in_ok-classes.ensures c.requires.0 c.requires.2) ∙ classes_have_values c.args.divided c.requires.0 (counted c.args.self.column) v c.requires.2.ordered

pub unreachable-requires : goal.unreachable-requires
unreachable-requires g c =
    made_dict c.in_ok-classes.classes (are_classes c.in_ok-classes.classes) c.of-2.result c.of-2.ensures (made_classes c.args.self c.args.divided c.in_ok-classes.classes c.requires c.in_ok-classes.ensures) c.in-None.is
