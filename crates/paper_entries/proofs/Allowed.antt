-- What an entry that meets no refusal of the table says, in the paper's words.
use Rattle.std.specs.Prelude.{◌≡◌, Bool, true, false, not, cond, ◌&&◌, ℕ, ◌<◌, ◌≤◌, eqb, ℤ, pos}
use Rattle.std.proofs.Math.Path.{subst⁻¹}
use Rattle.std.proofs.Common.{⊎_elim}
use mathlib.Core.List.Memᴰ
use mathlib.Core.List.{List, ◌∷◌, Memᴰ}
use Rattle.std.proofs.Math.Option.{none}
use Rattle.std.specs.Int.Signed.{le_z, lt_z}
use Rattle.std.proofs.lemmas.Bool.{not-false}
use Rattle.ground_arithmetic.specs.Bools.{and_parts, and_both}
use Rattle.ground_arithmetic.specs.Linear.{whole, none_below}
use Rattle.paper_board.specs.declared.Refusal.TheVariants as Refused
use Rattle.paper_board.specs.Paper.View.{Side}
use Rattle.paper_board.specs.Paper.Facts.{Fact, is_bound, is_valid, is_invalid, AboutJobs}
use Rattle.paper_board.specs.Paper.Limits.{Fits, job_limit}
use Rattle.paper_entries.specs.Paper.Entry.{Statement, arc, mark, cut, Entry, addition, other, number, added_row, stated}
use Rattle.paper_entries.specs.Paper.Checks.{Check, line, is_job, statement_checks, checks, first_refusal}
use Rattle.paper_entries.specs.CheckLines.{passed}
use Rattle.paper_entries.proofs.CallNumbers.{pair_numbers, mark_numbers, cut_numbers, addition_numbers}

-- facts about jobs of a board of n jobs, one and all
abbrev pub AllAboutJobs : ℕ → List Fact → Type 0
AllAboutJobs n fs = (f : Fact) → Memᴰ f fs → AboutJobs n f

-- the entry is one that a board of n jobs can take
abbrev pub Allowed : ℕ → Entry → Type 0
Allowed n (addition l e d m) = (n < job_limit) × Fits (added_row l e d m) × (number m ≤ 1)
Allowed n (other s) = AllAboutJobs n (stated s)

known : (n : ℕ) (s : Statement) → first_refusal (statement_checks n s) ≡ none → AllAboutJobs n (stated s)
known n (arc a b) g f i =
    let h = pair_numbers n a b g in
    subst⁻¹ (AboutJobs n) (Memᴰ.eq_of_singleton i) (h.first.high, h.second.high, h.different)
known n (mark j m) g f i = subst⁻¹ (AboutJobs n) (Memᴰ.eq_of_singleton i) (either (eqb (number m) 1))
  where
    either : (t : Bool) → AboutJobs n (cond t (is_valid (number j)) (is_invalid (number j)))
    either true = (mark_numbers n j m g).job.high
    either false = (mark_numbers n j m g).job.high
known n (cut j e d) g f i = ⊎_elim bound (λ i'. bound (Memᴰ.eq_of_singleton i')) (Memᴰ.cases_cons i)
  where
    bound : {s : Side} {z : ℤ} → f ≡ is_bound s (number j) z → AboutJobs n f
    bound is = subst⁻¹ (AboutJobs n) is (cut_numbers n j e d g).job.high

pub checks_allow : (n : ℕ) (e : Entry) → first_refusal (checks n e) ≡ none → Allowed n e
checks_allow n (addition l e d m) g =
    let h = addition_numbers n l e d m g in (
      h.room,
      record { length = h.length; earliest = h.window.earliest; latest = h.window.latest },
      omega (whole, none_below m h.low),
    )
checks_allow n (other s) g = known n s g

-- ---- on a board of more jobs

more_jobs : (n m : ℕ) → n ≤ m → (z : ℤ) → is_job n z ≡ true → is_job m z ≡ true
more_jobs n m le z t =
    let (a, b) = and_parts (le_z (pos 0) z) (lt_z z (pos n)) t in
    and_both (le_z (pos 0) z) (lt_z z (pos m)) a (omega whole)

-- check 2 with a weaker test
weaker : (t u : Bool) (cs : List Check) → (t ≡ true → u ≡ true)
    → first_refusal (line Refused.Job (not t) ∷ cs) ≡ none → first_refusal (line Refused.Job (not u) ∷ cs) ≡ none
unfolding first_refusal
weaker t u cs h g =
    let (m, rest) = passed (line Refused.Job (not t)) cs g in
    rw (h (not-false t m)) rest

-- a statement that meets no refusal of the table meets none on a board of more jobs either
pub checks_more : (n m : ℕ) → n ≤ m → (s : Statement) → first_refusal (statement_checks n s) ≡ none → first_refusal (statement_checks m s) ≡ none
checks_more n m le (arc a b) g = weaker (is_job n a && is_job n b) (is_job m a && is_job m b) _ both g
  where
    both : (is_job n a && is_job n b) ≡ true → (is_job m a && is_job m b) ≡ true
    both t =
        let (ja, jb) = and_parts (is_job n a) (is_job n b) t in
        and_both (is_job m a) (is_job m b) (more_jobs n m le a ja) (more_jobs n m le b jb)
checks_more n m le (mark j k) g = weaker (is_job n j) (is_job m j) _ (more_jobs n m le j) g
checks_more n m le (cut j x d) g = weaker (is_job n j) (is_job m j) _ (more_jobs n m le j) g
