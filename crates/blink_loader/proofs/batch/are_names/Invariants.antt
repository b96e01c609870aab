use Rattle.std.proofs.Common.{◌≡◌, drop}
use Rattle.std.specs.List.{list_all, zip}
use Rattle.csv.specs.Records.{fields_of}
use Rattle.blink_loader.specs.Records.{same_name}
use Rattle.blink_loader.proofs.batch.are_names.Given as goal

abbrev pub invariant-loop-place : goal.invariant-loop-place
invariant-loop-place l =
    list_all (λ p. same_name p.0.name p.1) (zip l.columns (fields_of l.header)) ≡ list_all (λ p. same_name p.0.name p.1) (drop l.place (zip l.columns (fields_of l.header)))
