-- What an entry states: the board that shows it, nothing inferred yet; and when the code can put it there.
use Rattle.std.specs.Prelude.{◌≡◌, refl, List, [], ◌∷◌, ℕ, suc, ◌<◌, ◌≤◌, ℤ, set}
use Rattle.std.proofs.Common.{subst, ⊎_elim}
use Rattle.std.proofs.Math.Path.{subst⁻¹}
use mathlib.Core.List.Memᴰ
use Rattle.std.proofs.Math.Option.{Option, none, some}
use Rattle.paper_board.specs.declared.Board.{Board}
use Rattle.paper_board.specs.Paper.Facts.{Fact, AboutJobs}
use Rattle.paper_board.specs.Paper.View as Rows
use Rattle.paper_board.specs.Paper.Limits.{job_limit, Fits, Within}
use Rattle.paper_board.specs.Paper.Parts.{filled, with_jobs}
use Rattle.paper_board.specs.Paper.Values.{fact_of}
use Rattle.paper_rules.specs.Update.Updates.{append, update, ◌and_then◌}
use Rattle.paper_rules.specs.Update.Extension.{Extends, HasRow, Updated}
use Rattle.paper_rules.specs.Update.Appended.{appended}
use Rattle.paper_rules.specs.Update.Updated.{updated}
use Rattle.engine_updates.specs.Applicable.{Applicable}
use Rattle.paper_rules.specs.Inference.AboutMore.{about_more}
use Rattle.paper_entries.proofs.Allowed.{AllAboutJobs}
use Rattle.paper_entries.specs.ShowsEntry.{HoldAll}
use Rattle.paper_entries.proofs.RawShown.{updated_all}
use Rattle.paper_entries.specs.Paper.Enter.{update_all}
use Rattle.call_statements.specs.declared.Stated.{Stated}
use Rattle.call_statements.specs.declared.Stated.TheVariants.{Row, One, Two}

-- the row that is stated
abbrev stated_row : ℤ → ℤ → ℤ → ℕ → Rows.Row
stated_row length earliest latest mark = record { mark = mark; length = length; earliest = earliest; latest = latest }

abbrev pub raw_of : Board → Stated → Option Board
raw_of b (Row length earliest latest mark) = some (append b (stated_row length earliest latest mark))
raw_of b (One f) = update_all b (fact_of f ∷ [])
raw_of b (Two f g) = update_all b (fact_of f ∷ fact_of g ∷ [])

-- a row makes one job more
abbrev pub jobs_with : ℕ → Stated → ℕ
jobs_with n (Row length earliest latest mark) = suc n
jobs_with n (One f) = n
jobs_with n (Two f g) = n

-- the board b with the number of jobs that there are with what is stated
abbrev pub grown : Board → Stated → Board
grown b s = with_jobs b (jobs_with b.jobs s)

-- there is a place for the row, which is within its limits, and the facts are about jobs of the board
abbrev pub Storable : ℕ → Stated → Type 0
Storable n (Row length earliest latest mark) = (n < job_limit) × Fits (stated_row length earliest latest mark) × (mark ≤ 1)
Storable n (One f) = AboutJobs n (fact_of f) × Applicable f
Storable n (Two f g) = AboutJobs n (fact_of f) × Applicable f × AboutJobs n (fact_of g) × Applicable g

-- the facts are about jobs that have a place
abbrev pub HavePlaces : Stated → Type 0
HavePlaces (Row length earliest latest mark) = Unit
HavePlaces (One f) = AboutJobs job_limit (fact_of f)
HavePlaces (Two f g) = AboutJobs job_limit (fact_of f) × AboutJobs job_limit (fact_of g)

-- facts that have a place among n jobs have one among all
pub have_places : (n : ℕ) (s : Stated) → n ≤ job_limit → Storable n s → HavePlaces s
have_places n (Row length earliest latest mark) l h = tt
have_places n (One f) l (known, _) = about_more l (fact_of f) known
have_places n (Two f g) l (first, _, second, _) = (about_more l (fact_of f) first, about_more l (fact_of g) second)

-- the board that shows what is stated is within its limits
module _ (b : Board) (h : Within b) where
  facts_within : (fs : List Fact) → AllAboutJobs b.jobs fs → (c : Board) → update_all b fs ≡ some c → Within c
  facts_within fs known c is = (subst (Extends b.jobs (HoldAll fs) b) is (updated_all b h fs known)).more.within

  pub stated_within : (s : Stated) → Storable b.jobs s → (c : Board) → raw_of b s ≡ some c → Within c
  stated_within (Row length earliest latest mark) (room, fits, low) c is =
      let r = stated_row length earliest latest mark in
      (subst (Extends (suc b.jobs) (HasRow b.jobs r) b) is (appended b r h room fits low)).more.within
  stated_within (One f) (known, _) c is =
      facts_within (fact_of f ∷ []) (λ x m. subst⁻¹ (AboutJobs b.jobs) (Memᴰ.eq_of_singleton m) known) c is
  stated_within (Two f g) (first, _, second, _) c is = facts_within (fact_of f ∷ fact_of g ∷ []) either c is
    where
      either : AllAboutJobs b.jobs (fact_of f ∷ fact_of g ∷ [])
      either x m =
          ⊎_elim (λ e. subst⁻¹ (AboutJobs b.jobs) e first) (λ l. subst⁻¹ (AboutJobs b.jobs) (Memᴰ.eq_of_singleton l) second)
          (Memᴰ.cases_cons m)

-- ---- facts that the board shows

pub one_shown : (b : Board) (f : Fact) → update b f ≡ some b → update_all b (f ∷ []) ≡ some b
unfolding update_all ◌and_then◌
one_shown b f e = rw e

pub two_shown : (b : Board) (f g : Fact) → update b f ≡ some b → update b g ≡ some b → update_all b (f ∷ g ∷ []) ≡ some b
unfolding update_all ◌and_then◌
two_shown b f g e d = rw (e, d)

-- ---- a row put at the first place without a job

pub row_stated : (b : Board) (length start end : ℤ) (mark : ℕ)
    → raw_of b (Row length start end mark)
    ≡ some (filled (grown b (Row length start end mark)) (set b.lengths b.jobs length) (set b.earliest b.jobs start) (set b.latest b.jobs end) (set b.marks b.jobs mark) b.after b.before)
row_stated b length start end mark = refl

-- ---- facts put on the board

-- the board that a fact leads to is within its limits
pub step_within : (b c : Board) (f : Fact) → Within b → AboutJobs b.jobs f → update b f ≡ some c → Within c
step_within b c f within known e = (subst (Updated b f) e (updated b within f known)).more.within

pub one_fact : (b : Board) (f : Fact) → update_all b (f ∷ []) ≡ update b f
unfolding update_all ◌and_then◌
one_fact b f = same (update b f)
  where
    same : (o : Option Board) → (o and_then (λ c. some c)) ≡ o
    same none = refl
    same (some c) = refl

pub first_fails : (b : Board) (f g : Fact) → update b f ≡ none → update_all b (f ∷ g ∷ []) ≡ none
unfolding update_all ◌and_then◌
first_fails b f g e = rw e

-- the second fact is put on what the first one leaves
pub second_fact : (b c : Board) (f g : Fact) → update b f ≡ some c → update_all b (f ∷ g ∷ []) ≡ update c g
unfolding update_all ◌and_then◌
second_fact b c f g e = rw e (one_fact c g)

-- which is within its limits, and has the same jobs
pub first_leaves : (b c : Board) (f g : Fact) → Within b → AboutJobs b.jobs f → AboutJobs b.jobs g → update b f ≡ some c → Within c × AboutJobs c.jobs g
first_leaves b c f g within known other e =
    let step = subst (Updated b f) e (updated b within f known) in
    (step_within b c f within known e, subst⁻¹ (λ n. AboutJobs n g) step.more.jobs other)

pub ruleset shown_facts = (one_shown, two_shown)

pub ruleset put_facts = (one_fact, first_fails, second_fact, have_places)
