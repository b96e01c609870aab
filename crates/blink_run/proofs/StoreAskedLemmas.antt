-- A store that may have been asked.
use Rattle.std.proofs.Common.{◌∙◌, ℕ, Option, refl, arith}
use Rattle.blink_edge.specs.Files as store
use Rattle.blink_run.specs.Ends.{IsAsked}

module _ {S : Type 0} (files : S → Option store.Files) (faults : S → ℕ) (never_fails : S → Type 0) where
  -- one that wasn't, where its fault isn't the answer
  pub not_asked : (failed : Type 0) (x : S) → ¬ failed → IsAsked files faults never_fails failed x x
  not_asked failed x never = record { kept = refl; rose = λ is. absurd (never is); quiet = λ _. refl; later = omega arith; sure = λ sure. (sure, refl) }

  -- once without a fault, and then again
  pub asked_again : (failed : Type 0) (a b c : S) → IsAsked files faults never_fails ⊥ a b → IsAsked files faults never_fails failed b c → IsAsked files faults never_fails failed a c
  asked_again failed a b c p q = record {
    kept = q.kept ∙ p.kept;
    rose = λ is. rw (← p.quiet (λ e. e)) (q.rose is);
    quiet = λ calm. q.quiet calm ∙ p.quiet (λ e. e);
    later = (let l = p.later in let m = q.later in omega arith);
    sure = λ sure. let first = p.sure sure in let second = q.sure first.0 in (second.0, second.1 ∙ first.1);
  }

  -- the same under another name of the fault
  pub asked_as : (failed other : Type 0) (a b : S) → (other → failed) → (¬ other → ¬ failed) → IsAsked files faults never_fails failed a b → IsAsked files faults never_fails other a b
  asked_as failed other a b to from p = record { kept = p.kept; rose = λ is. p.rose (to is); quiet = λ calm. p.quiet (from calm); later = p.later; sure = p.sure }
