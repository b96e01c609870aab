use Rattle.std.proofs.Common.{ℕ, ◌≡◌, ◌-◌, ◌+◌, List, ◌<◌, ◌^◌, map, IsTrue}
use Rattle.std.specs.Prelude.{bit_and, bit_xor}
use Rattle.masked_compare.specs.Fields.{is_shape}
use Rattle.masked_compare.specs.Marks.{guards_of, tops_of, IsMarked, tops_where, lacks, marked_in}
use Rattle.masked_compare.proofs.TopLemmas.{failing_fact, failed}
use Rattle.masked_compare.proofs.shape.Shape.failing.Goals as goal

at : (ws : List ℕ) (x g t : ℕ) → g ≡ guards_of ws → t ≡ tops_of ws → IsTrue (is_shape ws) → x < 2 ^ 64 → IsMarked ws x → (failed (bit_xor x g) (2 ^ 64 - 1 - t) t ≡ tops_where ws (map lacks (marked_in ws x))) × (bit_and (bit_xor x g) (2 ^ 64 - 1 - t) + (2 ^ 64 - 1 - t) < 2 ^ 64)
at ws x g t ge te s xb m =
    let f = failing_fact ws x s xb m in
    rw (ge, te) (f.gives, f.fits)

pub overflow_add-result : goal.overflow_add-result
overflow_add-result c = record { fits = (at c.args.self c.args.inside c.guards.result c.tops-tops.result c.guards.ensures.value c.tops-tops.ensures.value c.guards.ensures.shape c.ranges.inside.fits c.requires).1 }

pub returns : goal.returns
returns c = (at c.args.self c.args.inside c.guards.result c.tops-tops.result c.guards.ensures.value c.tops-tops.ensures.value c.guards.ensures.shape c.ranges.inside.fits c.requires).0
