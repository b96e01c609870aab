use Rattle.std.proofs.Common.{◌≡◌, ◌-◌, ◌∙◌, length, take, drop, refl, sym, ap, arith}
use Rattle.std.proofs.lemmas.List.{length-append, length-take, length-drop, drop_all, take_all}
use Rattle.blink_edge.specs.Memory.{Supply}
use Rattle.blink_edge.proofs.PieceLemmas.{piece_moved}
use Rattle.blink_edge.proofs.bytes_in.BytesInSource.take.Goals as goal

pub returns-clause-bytes : goal.returns-clause-bytes
returns-clause-bytes c =
    let at = c.self.inside.at in
    let items = c.self.inside.bytes.items in
    let is = c.deref.ensures.value in
    let inside = c.self.invariant in
    let whole : take (length items - at) (drop at items) ≡ drop at items = take_all _ (drop at items) (omega (arith, length-drop at items)) in
    let rest : take (length c.deref.result.now - at) (drop at c.deref.result.now) ≡ drop at items = rw is whole in
    let count = rw rest at c.min-count.ensures in
    let long = length-drop at items in
    let copied = rw rest at c.copy_from_slice.ensures.after in
    let moved = piece_moved items c.args.into.now (drop at items) c.copy_from_slice.new.self at c.min-count.result refl copied (omega arith) in (
      ap (λ (s : Supply). s.left) (sym c.self.view_is) ∙ moved,
      λ none some.
          let n = c.min-count.result in
          let size = length-append c.copy_from_slice.new.self (drop n c.args.into.now) in
          let behind = length-drop n c.args.into.now in
          let front = ap length copied ∙ length-take n (drop at items) in
          let least = c.min.ensures in
          drop_all _ items (omega (arith, none, some, size, behind, front, count, least, long, inside.0, inside.1)),
    )
