use Rattle.std.proofs.Common.{◌≡◌, ◌∙◌, sym, ap, find, position, slice_get, Some, None}
use Rattle.std.proofs.lemmas.List.Folds.{find_at}
use Rattle.blink_lists.proofs.FindLemmas.{place_is, no_place, finds_none, find-map}
use Rattle.star_engine.specs.EngineRepr.{table_of}
use Rattle.star_engine.proofs.StepLemmas.{called}
use Rattle.star_engine.proofs.engine.Engine.find.Goals as goal

pub returns-in_err-at-clause-first : goal.returns-in_err-at-clause-first
returns-in_err-at-clause-first g c =
    let name = c.args.name.now in
    let ts = c.args.self.now.tables in
    let missing : position (called name) ts ≡ None = ap (position (called name)) (sym c.as_slice.ensures) ∙ sym c.in_err-at.ensures in
    rw c.from_residual.ensures (sym (finds_none (called name) ts (no_place (called name) ts missing)))

pub returns-in_err-at-clause-accepted : goal.returns-in_err-at-clause-accepted
returns-in_err-at-clause-accepted g c = λ tables of.
    let name = c.args.name.now in
    let ts = c.args.self.now.tables in
    let missing : position (called name) ts ≡ None = ap (position (called name)) (sym c.as_slice.ensures) ∙ sym c.in_err-at.ensures in
    rw c.from_residual.ensures (sym (finds_none (called name) ts (no_place (called name) ts missing)) ∙ ap (find (called name)) of.accepted ∙ find-map table_of (called name) tables)

pub returns-clause-first : goal.returns-clause-first
returns-clause-first g c =
    let name = c.args.name.now in
    let ts = c.args.self.now.tables in
    let there : position (called name) ts ≡ Some c.in_ok-at.at = ap (position (called name)) (sym c.as_slice.ensures) ∙ sym c.in_ok-at.ensures in
    let place = place_is (called name) ts c.in_ok-at.at there in
    c.get.ensures.value ∙ ap (slice_get ts) place.0 ∙ sym (find_at (called name) ts)

pub returns-clause-accepted : goal.returns-clause-accepted
returns-clause-accepted g c = λ tables of.
    let name = c.args.name.now in
    let ts = c.args.self.now.tables in
    let there : position (called name) ts ≡ Some c.in_ok-at.at = ap (position (called name)) (sym c.as_slice.ensures) ∙ sym c.in_ok-at.ensures in
    let place = place_is (called name) ts c.in_ok-at.at there in
    c.get.ensures.value ∙ ap (slice_get ts) place.0 ∙ sym (find_at (called name) ts) ∙ ap (find (called name)) of.accepted ∙ find-map table_of (called name) tables
