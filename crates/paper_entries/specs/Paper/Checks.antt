-- "Refusals by the gate": the checks of the table in their order, as far as each sort of entry has them, and the planner's.
use Rattle.std.specs.Prelude.{Bool, true, false, not, ◌&&◌, List, [], ◌∷◌, ℕ, leb, ℤ, pos}
use Rattle.std.proofs.Math.Option.{Option, none, some}
use Rattle.std.specs.Int.Signed.{le_z, lt_z}
use Rattle.ground_arithmetic.specs.Linear.{eq_z}
use Rattle.paper_board.specs.declared.Refusal.{Refusal}
use Rattle.paper_board.specs.declared.Refusal.TheVariants as Refused
use Rattle.paper_board.specs.Paper.Limits.{job_limit}
use Rattle.paper_board.specs.Paper.Tests.{between, is_length, is_time}
use Rattle.paper_entries.specs.Paper.Entry.{Statement, arc, mark, cut, Entry, addition, other}

-- "numbered from 0": is z the number of a job on a board of n jobs?
abbrev pub is_job : ℕ → ℤ → Bool
is_job n z = le_z (pos 0) z && lt_z z (pos n)

-- one line of the table: the refusal, and whether it refuses the call
pub record Check : Type 0 where
  pub refusal : Refusal
  pub refuses : Bool

abbrev pub line : Refusal → Bool → Check
line r t = record { refusal = r; refuses = t }

-- 2 job, "a number that no job has"
abbrev pub job_check : ℕ → ℤ → Check
job_check n j = line Refused.Job (not (is_job n j))

-- 2 job, and 3 same, "an arc or pair names one job twice"
abbrev pub pair_checks : ℕ → ℤ → ℤ → List Check
pair_checks n a b = line Refused.Job (not (is_job n a && is_job n b)) ∷ line Refused.Same (eq_z a b) ∷ []

-- 5 time, "E or D outside the limits", and 6 window, "E above D"
abbrev pub time_check : ℤ → ℤ → Check
time_check e d = line Refused.Time (not (is_time e && is_time d))

abbrev pub window_check : ℤ → ℤ → Check
window_check e d = line Refused.Window (lt_z d e)

-- 7 mark, "mark: not 1 or 2"
abbrev pub statement_checks : ℕ → Statement → List Check
statement_checks n (arc a b) = pair_checks n a b
statement_checks n (mark j m) = job_check n j ∷ line Refused.Mark (not (between (pos 1) (pos 2) m)) ∷ []
statement_checks n (cut j e d) = job_check n j ∷ time_check e d ∷ window_check e d ∷ []

-- 1 full, "an addition to 64 jobs"; 4 length, "below 1 or above 10000"; 7 mark, "addition: not 0 or 1"
abbrev pub checks : ℕ → Entry → List Check
checks n (addition l e d m) =
    line Refused.Full (leb job_limit n)
    ∷ line Refused.Length (not (is_length l))
    ∷ time_check e d
    ∷ window_check e d
    ∷ line Refused.Mark (not (between (pos 0) (pos 1) m))
    ∷ []
checks n (other s) = statement_checks n s

-- 9 budget, "below 0 or above 1000000": the planner's own check
abbrev pub budget_limit : ℤ
budget_limit = pos 1000000

abbrev pub budget_check : ℤ → Check
budget_check z = line Refused.Budget (not (between (pos 0) budget_limit z))

-- the first refusal that the call meets
unfoldable pub first_refusal : List Check → Option Refusal
first_refusal [] = none
first_refusal (c ∷ cs) = elim c.refuses [ true ↦ some c.refusal | false ↦ first_refusal cs ]
