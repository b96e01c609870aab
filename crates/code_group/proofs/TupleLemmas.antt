-- Equal tuples are one.
use Rattle.std.proofs.lemmas.Cmp.{nat_list_eq_equiv}
use Rattle.blink_lists.specs.Groups.{IsSame}
use Rattle.code_group.specs.TupleHash.{one_tuple}
use Rattle.code_group.specs.Tuples.{same_tuple}

pub tells_tuples : IsSame same_tuple
tells_tuples = record {
  one = one_tuple;
  itself = nat_list_eq_equiv.refl;
  back = nat_list_eq_equiv.symm;
}
