use Rattle.column_classes.proofs.CodedColumnLemmas.{places_more}
use Rattle.column_classes.proofs.dicts.add_column.Goals as goal

pub returns-clause-places : goal.returns-clause-places
returns-clause-places g c rows is before =
    places_more rows c.args.codes.now.dicts c.push.new.self c.args.codes.now.places c.push-2.new.self c.in_ok-dict.dict c.args.column.column _ is before c.in_ok-dict.ensures.places c.in_ok-push.ensures.ok c.in_ok-push-2.ensures.ok
