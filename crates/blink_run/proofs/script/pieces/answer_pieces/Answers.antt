use Rattle.std.proofs.Common.{◌+◌, ◌∙◌, refl, [], ◌∷◌, map, take, drop, is_some, arith}
use Rattle.std.proofs.lemmas.List.{take_all}
use Rattle.blink_run.specs.PiecesRun.{sink_view}
use Rattle.blink_run.specs.PieceSpans.{text_at}
use Rattle.blink_run.proofs.PiecesRunLemmas.{none_answered, never_before, pieces_more, pieces_split, IfErr-from_is}
use Rattle.blink_run.proofs.StoreAskedLemmas.{not_asked, asked_again}
use Rattle.blink_run.proofs.EngineStartLemmas.{answered_on, stopped_on, never_on}
use Rattle.blink_run.proofs.script.pieces.answer_pieces.Goals as goal

pub loop-place-init : goal.loop-place-init
loop-place-init g c =
    let told_files = g.S.Store.files c.args.store.now in
    record {
      answered = λ limits state stands. none_answered limits told_files (is_some told_files) state _ c.args.engine.now stands;
      sound = c.requires.sound;
      store = not_asked g.S.Store.files g.S.Store.faults g.S.Store.never_fails ⊥ c.args.store.now (λ e. e);
      unasked = λ limits state stands never. refl;
    }

pub loop-place-preserved : goal.loop-place-preserved
loop-place-preserved g c =
    let sink = sink_view g.W.Sink.given g.W.Sink.faults g.W.Sink.sure_room c.loop-place.output in
    let told_files = g.S.Store.files c.args.store.now in
    let now = g.S.Store.files c.loop-place.store in
    let f = text_at c.args.script.now in
    let places = c.args.places.now in
    let i = c.loop-place.place-index in
    let text = c.text_at-text.result.now in
    let more = pieces_more f places i _ text c.loop-place-test.true c.text_at-text.ensures.text in
    record {
      answered = λ limits state stands.
          rw more at (answered_on limits told_files now c.loop-place.invariant.store.kept state (map f (take i places)) (text ∷ []) _ _ _ _ c.loop-place.engine _ c.answer_piece.new.engine
          (c.loop-place.invariant.answered limits state stands) (λ s p. c.in_ok-refused.ensures.answered limits s p));
      sound = c.in_ok-refused.ensures.sound;
      store = asked_again g.S.Store.files g.S.Store.faults g.S.Store.never_fails ⊥ c.args.store.now c.loop-place.store c.answer_piece.new.store c.loop-place.invariant.store c.in_ok-refused.ensures.store;
      unasked = λ limits state stands never.
          let here = rw (← more) at never in
          let before = never_before limits (is_some told_files) state (map f (take i places)) (text ∷ []) here in
          never_on limits told_files now c.loop-place.invariant.store.kept state (map f (take i places)) (text ∷ []) _ _ sink _ c.loop-place.engine
          (c.loop-place.invariant.answered limits state stands) (λ s p. c.in_ok-refused.ensures.unasked limits s p) here ∙ c.loop-place.invariant.unasked limits state stands before;
    }

pub returns-clause-answered : goal.returns-clause-answered
returns-clause-answered g c limits state stands =
    let all = take_all c.loop-place.place-index c.args.places.now (omega arith) in
    rw all at (c.loop-place.invariant.answered limits state stands)

pub returns-in_err-refused-clause-stopped : goal.returns-in_err-refused-clause-stopped
returns-in_err-refused-clause-stopped g c =
    let told_files = g.S.Store.files c.args.store.now in
    let now = g.S.Store.files c.loop-place.store in
    let f = text_at c.args.script.now in
    let places = c.args.places.now in
    let i = c.loop-place.place-index in
    let text = c.text_at-text.result.now in
    let more = pieces_more f places i _ text c.loop-place-test.true c.text_at-text.ensures.text in
    IfErr-from_is c.from_residual.result _ _ c.from_residual.ensures.1 (λ why is limits state stands.
    let stopped = stopped_on limits told_files now c.loop-place.invariant.store.kept state (map f (take i places)) (text ∷ []) _ _ _ _ c.loop-place.engine (map f (drop (i + 1) places)) _
    (c.loop-place.invariant.answered limits state stands) (λ s p. c.in_err-refused.ensures.stopped limits s p) in
    rw is (rw (more, pieces_split f places (i + 1)) at stopped))

pub returns-clause-unasked : goal.returns-clause-unasked
returns-clause-unasked g c limits state stands never =
    let all = take_all c.loop-place.place-index c.args.places.now (omega arith) in
    c.loop-place.invariant.unasked limits state stands (rw all never)

pub returns-in_err-refused-clause-unasked : goal.returns-in_err-refused-clause-unasked
returns-in_err-refused-clause-unasked g c limits state stands never =
    let sink = sink_view g.W.Sink.given g.W.Sink.faults g.W.Sink.sure_room c.loop-place.output in
    let told_files = g.S.Store.files c.args.store.now in
    let now = g.S.Store.files c.loop-place.store in
    let f = text_at c.args.script.now in
    let places = c.args.places.now in
    let i = c.loop-place.place-index in
    let text = c.text_at-text.result.now in
    let more = pieces_more f places i _ text c.loop-place-test.true c.text_at-text.ensures.text in
    let split = pieces_split f places (i + 1) in
    let here = rw (← more) at (never_before limits (is_some told_files) state (map f (take (i + 1) places)) (map f (drop (i + 1) places)) (rw split never)) in
    let before = never_before limits (is_some told_files) state (map f (take i places)) (text ∷ []) here in
    never_on limits told_files now c.loop-place.invariant.store.kept state (map f (take i places)) (text ∷ []) _ _ sink _ c.loop-place.engine
    (c.loop-place.invariant.answered limits state stands) (λ s p. c.in_err-refused.ensures.unasked limits s p) here ∙ c.loop-place.invariant.unasked limits state stands before
