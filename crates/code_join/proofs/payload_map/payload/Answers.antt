use Rattle.std.proofs.Common.{◌<◌, ap, sym, ◌∙◌, subst, Some, None, true≢false, length, replicate, take, slice_set, slice_index_or}
use Rattle.std.specs.Option.{is_some, option_or}
use Rattle.std.proofs.lemmas.List.{length-map}
use Rattle.std.proofs.lemmas.Option.{slice_get_within}
use Rattle.order_codes.specs.Dictionary.{class_at}
use Rattle.code_join.specs.Keys.{place_of_key}
use Rattle.code_join.proofs.KeyLemmas.{some-same}
use Rattle.code_join.proofs.KeyCodeLemmas.{no_places, next_noted, next_kept}
use Rattle.code_join.proofs.payload_map.payload.Goals as goal
use Rattle.code_join.proofs.payload_map.payload.Goals.{in-Some, in_default}

pub loop-at-init : goal.loop-at-init
loop-at-init g c = c.in_ok-places.ensures ∙ ap (λ n. replicate n None) c.size.ensures ∙ no_places (class_at c.args.dict.now c.args.class)

pub note-requires : goal.note-requires
note-requires g c =
    let within = slice_get_within (class_at c.args.dict.now c.args.class) c.in-Some.code c.key.result.now ((c.code_of.ensures.code c.in-Some.code).1 c.in-Some.is) in
    subst (λ n. c.in-Some.code < n) (sym (ap length c.loop-at.invariant ∙ length-map (class_at c.args.dict.now c.args.class) (place_of_key (take c.loop-at.at c.args.keys.now)))) within

pub loop-at-preserved : goal.loop-at-preserved
loop-at-preserved g c =
    let within : c.loop-at.at < length c.args.keys.now = subst (λ n. c.loop-at.at < n) c.len-at-end.ensures.number c.loop-at-test.true in
    elim c.match-code_of.branch [
      | in-Some w ↦
          ap (λ ps. ps.items) w.places-is ∙ w.note.ensures
          ∙ ap (λ os. slice_set os w.in-Some.code (option_or (slice_index_or os w.in-Some.code None) (Some c.loop-at.at))) c.loop-at.invariant
          ∙ next_noted c.args.keys.now c.loop-at.at c.key.result.now (class_at c.args.dict.now c.args.class) within c.key.ensures w.in-Some.code ((c.code_of.ensures.code w.in-Some.code).1 w.in-Some.is)
          (λ other h. some-same other w.in-Some.code (sym ((c.code_of.ensures.code other).0 h) ∙ w.in-Some.is))
      | in_default w ↦
          ap (λ ps. ps.items) w.places-is ∙ c.loop-at.invariant
          ∙ next_kept c.args.keys.now c.loop-at.at c.key.result.now (class_at c.args.dict.now c.args.class) within c.key.ensures
          (λ code h. true≢false (sym (ap is_some (sym w.in_default.is ∙ (c.code_of.ensures.code code).0 h))))
    ]
