use Rattle.std.proofs.Common.{◌≡◌, ◌<◌, List, [], ◌∷◌, ◌++◌, Bor, map, length, slice_index_or, sym, ◌∙◌, arith}
use Rattle.std.proofs.lemmas.Option.{slice_get-get_or}
use Rattle.star_bind.specs.declared.query.Tie.{Tie}
use Rattle.star_bind.specs.BoundQuery.{scope_of}
use Rattle.cell_layout.specs.Image.{TableImage}
use Rattle.star_select.specs.ImageAnswer.{rows_in}
use Rattle.star_select.proofs.QueryAnswerLemmas.{keys-next, ties-decoded}
use Rattle.star_select.proofs.query_answer.all_keys.Goals as goal

pub returns-in_err-tie_keys-clause-decodes : goal.returns-in_err-tie_keys-clause-decodes
returns-in_err-tie_keys-clause-decodes g c schemas s is =
    let test = c.loop-place-test.true in
    let count = c.len-place-end.ensures in
    let lt : c.loop-place.place < length c.args.query.now.ties = omega (arith, test, count) in
    let images : List TableImage = map (λ (i : Bor TableImage). i.now) c.args.images.now in
    let tie : Tie = slice_index_or c.args.query.now.ties c.loop-place.place (record { dimension = 0; column = 0 }) in
    (ties-decoded c.args.query.now (scope_of schemas s) (rows_in images) c.loop-place.place (record { dimension = 0; column = 0 }) c.args.decodes.now c.loop-place.decodes c.tie_keys.new.decodes lt (c.loop-place.invariant.decodes schemas s is)
    (c.tie_keys.ensures.decodes schemas s tie is (slice_get-get_or c.args.query.now.ties c.loop-place.place (record { dimension = 0; column = 0 }) lt))).1

pub returns-in_err-push-clause-decodes : goal.returns-in_err-push-clause-decodes
returns-in_err-push-clause-decodes g c schemas s is =
    let test = c.loop-place-test.true in
    let count = c.len-place-end.ensures in
    let lt : c.loop-place.place < length c.args.query.now.ties = omega (arith, test, count) in
    let images : List TableImage = map (λ (i : Bor TableImage). i.now) c.args.images.now in
    let tie : Tie = slice_index_or c.args.query.now.ties c.loop-place.place (record { dimension = 0; column = 0 }) in
    (ties-decoded c.args.query.now (scope_of schemas s) (rows_in images) c.loop-place.place (record { dimension = 0; column = 0 }) c.args.decodes.now c.loop-place.decodes c.tie_keys.new.decodes lt (c.loop-place.invariant.decodes schemas s is)
    (c.tie_keys.ensures.decodes schemas s tie is (slice_get-get_or c.args.query.now.ties c.loop-place.place (record { dimension = 0; column = 0 }) lt))).1

pub loop-place-preserved : goal.loop-place-preserved
loop-place-preserved g c =
    let test = c.loop-place-test.true in
    let count = c.len-place-end.ensures in
    let lt : c.loop-place.place < length c.args.query.now.ties = omega (arith, test, count) in
    let images : List TableImage = map (λ (i : Bor TableImage). i.now) c.args.images.now in
    let tie : Tie = slice_index_or c.args.query.now.ties c.loop-place.place (record { dimension = 0; column = 0 }) in
    let items : c.push.new.self.items ≡ c.loop-place.keys.items ++ c.in_ok-tie_keys.field-0 ∷ [] = c.in_ok-push.ensures.items in
    record {
      keys = λ schemas s is.
          items
          ∙ (let had = c.loop-place.invariant.keys schemas s is in let value = c.in_ok-tie_keys.ensures.keys schemas s tie is (slice_get-get_or c.args.query.now.ties c.loop-place.place (record { dimension = 0; column = 0 }) lt) in λ i. had i ++ value i ∷ [])
          ∙ sym (keys-next c.args.query.now (scope_of schemas s) images c.loop-place.place (record { dimension = 0; column = 0 }) lt);
      decodes = λ schemas s is. (ties-decoded c.args.query.now (scope_of schemas s) (rows_in images) c.loop-place.place (record { dimension = 0; column = 0 }) c.args.decodes.now c.loop-place.decodes c.tie_keys.new.decodes lt (c.loop-place.invariant.decodes schemas s is)
          (c.tie_keys.ensures.decodes schemas s tie is (slice_get-get_or c.args.query.now.ties c.loop-place.place (record { dimension = 0; column = 0 }) lt))).0;
    }
