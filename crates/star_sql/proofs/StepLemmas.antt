-- Steps of a parser: what a step that did not fail tells, and how what was taken is put together.
use Rattle.std.proofs.Common.{◌≡◌, Bool, true, false, cond, List, ◌++◌, Option, Some, None, refl, sym, ap, ◌∙◌, append_assoc, ◌⊎◌, inl, inr}
use Rattle.star_sql.specs.Parsers.{◌>>=◌, cases_of}

-- the value of a step that did not fail
pub bind_some : {A B : Type 0} (r : Option A) (f : A → Option B) (y : B) → (r >>= f) ≡ Some y → (x : A) × (r ≡ Some x) × (f x ≡ Some y)
bind_some (Some x) f y e = (x, refl, e)
bind_some None f y e = absurd cc

-- a test that did not fail
pub guard_some : {A : Type 0} (b : Bool) (x y : A) → cond b (Some x) None ≡ Some y → (b ≡ true) × (x ≡ y)
guard_some true x y e = (refl, cc)
guard_some false x y e = absurd cc

-- which way a test went
pub chosen : {A : Type 0} (b : Bool) (x y z : A) → cond b x y ≡ z → ((b ≡ true) × (x ≡ z)) ⊎ ((b ≡ false) × (y ≡ z))
chosen true x y z e = inl (refl, e)
chosen false x y z e = inr (refl, e)

-- which case it was
pub cased : {A B : Type 0} (o : Option A) (none : B) (some : A → B) (z : B) → cases_of o none some ≡ z → ((o ≡ None) × (none ≡ z)) ⊎ ((x : A) × (o ≡ Some x) × (some x ≡ z))
cased None none some z e = inl (refl, e)
cased (Some x) none some z e = inr (x, refl, e)

-- a list that goes on after a part, and then after another
pub goes_on_after : {A : Type 0} {whole s : List A} (a b rest : List A) → whole ≡ a ++ s → s ≡ b ++ rest → whole ≡ (a ++ b) ++ rest
goes_on_after {A} {whole} {s} a b rest p q = p ∙ ap (λ (t : List A). a ++ t) q ∙ sym (append_assoc a b rest)

abbrev there : {A : Type 0} → A → Option A
there x = Some x

pub some_is : {A : Type 0} (x y : A) → there x ≡ there y → x ≡ y
some_is x y e = cc
