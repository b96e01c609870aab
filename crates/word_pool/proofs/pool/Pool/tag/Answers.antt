use Rattle.std.proofs.Common.{refl, sym, ap, ◌∙◌, ◌≡◌, ℕ, Some}
use Rattle.word_pool.specs.Region.{Region}
use Rattle.word_pool.proofs.RegionLemmas.{held}
use Rattle.word_pool.proofs.pool.Pool.tag.Goals as goal

some_is : (x y : ℕ) → Some x ≡ Some y → x ≡ y
some_is x y e = cc

pub tag-requires : goal.tag-requires
tag-requires g c =
    let h = held c.self.inside.numbers.tags c.self.inside.blocks c.args.self.now.slots c.args.id.0 (ap (λ (v : Region). v.slots) c.self.view_is) c.requires in
    rw (h.tag) refl

pub returns : goal.returns
returns g c =
    let h = held c.self.inside.numbers.tags c.self.inside.blocks c.args.self.now.slots c.args.id.0 (ap (λ (v : Region). v.slots) c.self.view_is) c.requires in
    some_is _ _ (sym c.tag.ensures ∙ h.tag)
