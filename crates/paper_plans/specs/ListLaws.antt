-- Laws of lists of job numbers: what is in them, what `keep` makes of them, and how many are kept.
use Rattle.std.specs.Prelude.{◌≡◌, refl, ◌≢◌, Bool, true, false, cond, ◌&&◌, ltb, length}
use Rattle.std.proofs.Common.{sym, ◌∙◌, subst, arith, eq-eqb, ne_eqb}
use Rattle.std.proofs.Math.Path.{ap}
use Rattle.std.proofs.Math.Bool.{and-false}
use mathlib.Core.List.{List, [], ◌∷◌}
use Prim.Native.Nat.{ℕ, zero, suc, ◌+◌, ◌≤◌, ◌<◌}
use Rattle.std.proofs.Math.Decide.{ℕ_discrete}
use Rattle.ground_arithmetic.specs.Bools.{is_false, refuted}
use Rattle.paper_board.specs.BoardTests.Decides.{Decides, holds, restated, retested, same_decision, passed, failed, ◌and◌, lt}
use Rattle.paper_plans.specs.Paper.Lists.{range, keep, every, among}

-- ---- one job more

module _ (j : ℕ) (js : List ℕ) where
  pub among_first : among (j ∷ js) j ≡ true
  unfolding among
  among_first = rw (eq-eqb j j refl)

  pub among_rest : (k : ℕ) → j ≢ k → among (j ∷ js) k ≡ among js k
  unfolding among
  among_rest k ne = rw (ne_eqb j k ne)

  pub among_later : (k : ℕ) → among js k ≡ true → among (j ∷ js) k ≡ true
  among_later k e = go (ℕ_discrete j k)
    where
      go : Dec (j ≡ k) → among (j ∷ js) k ≡ true
      go (yes d) = subst (λ (x : ℕ). among (j ∷ js) x ≡ true) d among_first
      go (no ne) = among_rest k ne ∙ e

  keep_first : (t : ℕ → Bool) → t j ≡ true → keep t (j ∷ js) ≡ j ∷ keep t js
  unfolding keep
  keep_first t e = rw e

  keep_rest : (t : ℕ → Bool) → t j ≡ false → keep t (j ∷ js) ≡ keep t js
  unfolding keep
  keep_rest t e = rw e

-- ---- what is in a list

pub none_among : (k : ℕ) → among [] k ≡ false
unfolding among
none_among k = refl

pub keep_among : (t : ℕ → Bool) (l : List ℕ) (k : ℕ) → among (keep t l) k ≡ (t k && among l k)
unfolding keep
keep_among t [] k = rw (none_among k) (sym (and-false (t k)))
keep_among t (j ∷ js) k = go (t j) refl (ℕ_discrete j k) (keep_among t js k)
  where
    go : (b : Bool) → t j ≡ b → Dec (j ≡ k) → among (keep t js) k ≡ (t k && among js k)
        → among (cond b (j ∷ keep t js) (keep t js)) k ≡ (t k && among (j ∷ js) k)
    go true e (yes d) ih = rw (← d) (rw (among_first j (keep t js), among_first j js, e))
    go true e (no ne) ih = rw (among_rest j (keep t js) k ne, among_rest j js k ne) ih
    go false e (yes d) ih = ih ∙ rw (← d, e)
    go false e (no ne) ih = rw (among_rest j js k ne) ih

range_is : (i n k : ℕ) → Decides (among (range i n) k) ((i ≤ k) × (k < i + n))
unfolding range
range_is i zero k = retested (none_among k) (failed λ h. omega arith)
range_is i (suc n) k = go (ℕ_discrete i k) (range_is (suc i) n k)
  where
    go : Dec (i ≡ k) → Decides (among (range (suc i) n) k) ((suc i ≤ k) × (k < suc i + n))
        → Decides (among (i ∷ range (suc i) n) k) ((i ≤ k) × (k < i + suc n))
    go (yes d) ih = retested (rw (← d) (among_first i (range (suc i) n))) (passed (omega arith))
    go (no ne) ih = retested (among_rest i (range (suc i) n) k ne) (restated ih (λ h. omega arith) (λ h. omega arith))

pub below_among : (n k : ℕ) → among (range 0 n) k ≡ ltb k n
below_among n k = same_decision (range_is 0 n k) (restated (lt k n) (λ h. omega arith) (λ h. omega arith))

pub every_is : (t : ℕ → Bool) (l : List ℕ) → Decides (every t l) ((k : ℕ) → among l k ≡ true → t k ≡ true)
unfolding every
every_is t [] = record { yes = λ e k a. absurd (refuted (none_among k) a); show = λ h. refl }
every_is t (j ∷ js) =
    restated (holds (t j) and every_is t js)
    (λ h k a. go h k a (ℕ_discrete j k))
    (λ h. (h j (among_first j js), λ k a. h k (among_later j js k a)))
  where
    go : (t j ≡ true) × ((k : ℕ) → among js k ≡ true → t k ≡ true) → (k : ℕ) → among (j ∷ js) k ≡ true → Dec (j ≡ k) → t k ≡ true
    go h k a (yes d) = rw (← d) h.0
    go h k a (no ne) = h.1 k (sym (among_rest j js k ne) ∙ a)

-- ---- what is kept

pub keep_same : (s t : ℕ → Bool) (l : List ℕ) → ((k : ℕ) → among l k ≡ true → s k ≡ t k) → keep s l ≡ keep t l
unfolding keep
keep_same s t [] h = refl
keep_same s t (j ∷ js) h = rw (h j (among_first j js), keep_same s t js λ k a. h k (among_later j js k a))

pub keep_keep : (s t : ℕ → Bool) (l : List ℕ) → keep s (keep t l) ≡ keep (λ k. t k && s k) l
unfolding keep
keep_keep s t [] = refl
keep_keep s t (j ∷ js) = go (t j) (s j) refl (keep_keep s t js)
  where
    go : (a b : Bool) → s j ≡ b → keep s (keep t js) ≡ keep (λ k. t k && s k) js
        → keep s (cond a (j ∷ keep t js) (keep t js)) ≡ cond (a && b) (j ∷ keep (λ k. t k && s k) js) (keep (λ k. t k && s k) js)
    go true true e ih = keep_first j (keep t js) s e ∙ ap (λ (l : List ℕ). j ∷ l) ih
    go true false e ih = keep_rest j (keep t js) s e ∙ ih
    go false b e ih = ih

pub none_kept : (t : ℕ → Bool) (l : List ℕ) → ((k : ℕ) → t k ≡ false) → keep t l ≡ []
unfolding keep
none_kept t [] h = refl
none_kept t (j ∷ js) h = rw (h j) (none_kept t js h)

pub all_kept : (t : ℕ → Bool) (l : List ℕ) → ((k : ℕ) → t k ≡ true) → keep t l ≡ l
unfolding keep
all_kept t [] h = refl
all_kept t (j ∷ js) h = rw (h j) (ap (λ (l : List ℕ). j ∷ l) (all_kept t js h))

-- The least member comes first, and the rest is the list without it.
module _ (t s : ℕ → Bool) (k : ℕ) (inside : t k ≡ true) (least : (j : ℕ) → j < k → t j ≡ false)
    (outside : s k ≡ false) (others : (j : ℕ) → j ≢ k → s j ≡ t j) where
  first_from : (i n : ℕ) → i ≤ k → k < i + n → keep t (range i n) ≡ k ∷ keep s (range i n)
  unfolding range
  first_from i zero l h = absurd (omega arith)
  first_from i (suc n) l h = go (ℕ_discrete i k) λ d. first_from (suc i) n (omega arith) (omega arith)
    where
      go : Dec (i ≡ k) → (i ≢ k → keep t (range (suc i) n) ≡ k ∷ keep s (range (suc i) n))
          → keep t (i ∷ range (suc i) n) ≡ k ∷ keep s (i ∷ range (suc i) n)
      go (yes d) ih =
          let rest : List ℕ = range (suc k) n in
          let same : keep s rest ≡ keep t rest = keep_same s t rest λ j a. others j λ e. omega (arith, (range_is (suc k) n j).yes a) in
          rw d (keep_first k rest t inside ∙ ap (λ (l : List ℕ). k ∷ l) (sym (keep_rest k rest s outside ∙ same)))
      go (no ne) ih =
          keep_rest i (range (suc i) n) t (least i (omega arith))
          ∙ ih ne
          ∙ ap (λ (l : List ℕ). k ∷ l) (sym (keep_rest i (range (suc i) n) s (others i ne ∙ least i (omega arith))))

pub lowest_first : (t : ℕ → Bool) (n k : ℕ) → k < n → t k ≡ true → ((j : ℕ) → j < k → t j ≡ false)
    → (s : ℕ → Bool) → s k ≡ false → ((j : ℕ) → j ≢ k → s j ≡ t j) → keep t (range 0 n) ≡ k ∷ keep s (range 0 n)
lowest_first t n k l inside least s outside others = first_from t s k inside least outside others 0 n (omega arith) (omega arith)

-- ---- no number twice

abbrev pub Distinct : List ℕ → Type 0
Distinct [] = Unit {0}
Distinct (j ∷ js) = (among js j ≡ false) × Distinct js

pub keep_distinct : (t : ℕ → Bool) (l : List ℕ) → Distinct l → Distinct (keep t l)
unfolding keep
keep_distinct t [] d = tt
keep_distinct t (j ∷ js) (n, d) = go (t j) (keep_distinct t js d)
  where
    go : (b : Bool) → Distinct (keep t js) → Distinct (cond b (j ∷ keep t js) (keep t js))
    go true ih = (keep_among t js j ∙ rw n (and-false (t j)), ih)
    go false ih = ih

pub range_distinct : (i n : ℕ) → Distinct (range i n)
unfolding range
range_distinct i zero = tt
range_distinct i (suc n) = (is_false _ λ e. omega (arith, (range_is (suc i) n i).yes e), range_distinct (suc i) n)

-- ---- how many are kept

-- a test that only j fails in addition keeps one less
pub one_less : (s t : ℕ → Bool) (j : ℕ) → t j ≡ true → s j ≡ false → ((k : ℕ) → j ≢ k → s k ≡ t k)
    → (l : List ℕ) → Distinct l → among l j ≡ true → suc (length (keep s l)) ≡ length (keep t l)
one_less s t j inside outside others [] d a = absurd (refuted (none_among j) a)
one_less s t j inside outside others (i ∷ is) (n, d) a = go (ℕ_discrete i j) λ ne. one_less s t j inside outside others is d (sym (among_rest i is j ne) ∙ a)
  where
    go : Dec (i ≡ j) → (i ≢ j → suc (length (keep s is)) ≡ length (keep t is)) → suc (length (keep s (i ∷ is))) ≡ length (keep t (i ∷ is))
    go (yes e) ih =
        let same : keep s is ≡ keep t is = keep_same s t is λ k m. others k λ q. refuted n (rw (e ∙ q) m) in
        rw (keep_first i is t (rw e inside), keep_rest i is s (rw e outside), same)
    go (no ne) ih = at (t i) refl
      where
        at : (b : Bool) → t i ≡ b → suc (length (keep s (i ∷ is))) ≡ length (keep t (i ∷ is))
        at true e = rw (keep_first i is t e, keep_first i is s (others i (λ q. ne (sym q)) ∙ e)) (ap suc (ih ne))
        at false e = rw (keep_rest i is t e, keep_rest i is s (others i (λ q. ne (sym q)) ∙ e)) (ih ne)

pub kept_at_most : (t : ℕ → Bool) (l : List ℕ) → length (keep t l) ≤ length l
unfolding keep
kept_at_most t [] = omega arith
kept_at_most t (j ∷ js) = go (t j) (kept_at_most t js)
  where
    go : (b : Bool) → length (keep t js) ≤ length js → length (cond b (j ∷ keep t js) (keep t js)) ≤ suc (length js)
    go true ih = omega (arith, ih)
    go false ih = omega (arith, ih)

pub range_length : (i n : ℕ) → length (range i n) ≡ n
unfolding range
range_length i zero = refl
range_length i (suc n) = ap suc (range_length (suc i) n)

-- where none is kept, none passes
pub none_passes : (t : ℕ → Bool) (l : List ℕ) → length (keep t l) ≡ 0 → (k : ℕ) → among l k ≡ true → t k ≡ false
none_passes t l e k a = is_false (t k) λ p. refuted (nothing (keep t l) e) (keep_among t l k ∙ rw (p, a))
  where
    nothing : (m : List ℕ) → length m ≡ 0 → among m k ≡ false
    nothing [] z = none_among k
    nothing (j ∷ js) z = absurd (omega arith)
