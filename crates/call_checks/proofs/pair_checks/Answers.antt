-- `call_checks::pair_checks` meets its contract: past both jobs, the words of two numbers are compared. Assumes nothing.
use Rattle.std.proofs.Common.{◌≡◌, refl, [], ◌∷◌, ℕ, sym, ◌∙◌, ap, eqb-true, eq-eqb, eqb, arith, ℤ, SFits, w32, of_z, to_z}
use Rattle.std.proofs.Math.Facts.{to_z-of_z}
use Rattle.std.proofs.Math.Option.{Option, none}
use Rattle.ground_arithmetic.specs.Bools.{same_tests}
use Rattle.ground_arithmetic.specs.Linear.{eq_z, eq_z_show, eq_z_true, eq_show}
use Rattle.paper_board.specs.declared.Refusal.{Refusal}
use Rattle.paper_board.specs.declared.Refusal.TheVariants as Refused
use Rattle.paper_entries.specs.Paper.Checks.{line, job_check, pair_checks, first_refusal}
use Rattle.call_checks.proofs.pair_checks.Goals as goal

both_jobs : (n : ℕ) (a b : ℤ) → none ≡ first_refusal (job_check n a ∷ []) → none ≡ first_refusal (job_check n b ∷ [])
    → first_refusal (line Refused.Same (eq_z a b) ∷ []) ≡ first_refusal (pair_checks n a b)
unfolding first_refusal
both_jobs n a b p q = grind arith

same_words : (a b : ℤ) → SFits w32 a → SFits w32 b → eqb (of_z w32 a) (of_z w32 b) ≡ eq_z a b
same_words a b p q =
    same_tests _ _ (λ e. let same : a ≡ b = sym (to_z-of_z p) ∙ ap (to_z w32) (eqb-true _ _ e) ∙ to_z-of_z q in rw same (eq_z_show b b refl))
    (λ e. let same : a ≡ b = eq_show a b (eq_z_true a b e) in rw same (eq-eqb _ _ refl))

-- the code compares words
words_tested : (r : Option Refusal) (a b : ℤ) → SFits w32 a → SFits w32 b
    → r ≡ first_refusal (line Refused.Same (eqb (of_z w32 a) (of_z w32 b)) ∷ []) → r ≡ first_refusal (line Refused.Same (eq_z a b) ∷ [])
words_tested r a b p q h = h ∙ rw (same_words a b p q)

pub returns : goal.returns
returns c =
    let f = c.ranges in
    let first = simp (to_z-of_z, f.a) at c.in_ok-job_check.ensures in
    let second = simp (to_z-of_z, f.b) at c.in_ok-job_check-2.ensures in
    words_tested _ _ _ f.a f.b c.refuse_if.ensures ∙ both_jobs _ _ _ first second
