-- The script of the demonstration is short, and its shelf doesn't fail.
use Rattle.std.proofs.Common.{◌≡◌, ◌≤◌, ℕ, List, [], ◌∷◌, map, length, inl, inr, refl, arith}
use Rattle.std.specs.Prelude.{Some}
use Rattle.std.proofs.lemmas.Bool.{leb-true}
use Rattle.blink_base.specs.declared.limits.TheConstants.{LONGEST_INPUT}
use Rattle.blink_edge.specs.Causes.{Rose}
use Rattle.blink_edge.specs.Files as store
use Rattle.blink_edge.specs.Memory.{Shelved, fresh}
use Rattle.blink_gen.specs.Demo.{demo_script}
use Rattle.report_text.specs.Texts.{Bytes}
use Rattle.blink_run.specs.Ends.{IsAsked}
use Rattle.blink_run.specs.Program.{nothing_known, demo_form}

pub script_short : length demo_script ≤ LONGEST_INPUT
unfolding demo_script
script_short = leb-true (length demo_script) LONGEST_INPUT refl

-- a count that stands at none has not risen
none_rose : (before after : ℕ) → before ≡ 0 → after ≡ before → Rose before after → ⊥
none_rose before after none same (inl less) = absurd (omega arith)
none_rose before after none same (inr last) = absurd (omega arith)

-- a shelf that is to fail at no call has no fault
pub shelf_calm : (before after : Shelved) (files : store.Files) (failed : Type 0) → before ≡ record { files = files; plan = fresh [] }
    → IsAsked (λ s. Some s.files) (λ s. s.plan.faults) (λ s. s.plan.failing ≡ []) failed before after → failed → ⊥
shelf_calm before after files failed is asked fails =
    let never : before.plan.failing ≡ [] = rw is refl in
    let none : before.plan.faults ≡ 0 = rw is refl in
    none_rose before.plan.faults after.plan.faults none (asked.sure never).1 (asked.rose fails)

-- arguments that aren't two ask for no demonstration
pub demo-none : {X : Type 0} (f : X → Bytes) (args : List X) → (length args ≡ 2 → ⊥) → nothing_known ≡ demo_form (map f args)
demo-none f [] h = refl
demo-none f (a ∷ []) h = refl
demo-none f (a ∷ b ∷ []) h = absurd (h refl)
demo-none f (a ∷ b ∷ c ∷ args) h = refl
