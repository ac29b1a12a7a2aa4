-- Lists of job numbers.
use Rattle.std.specs.Prelude.{Bool, true, false, cond, ◌&&◌, ◌||◌, List, [], ◌∷◌, ℕ, zero, suc, eqb}

-- n numbers from i upwards
unfoldable pub range : ℕ → ℕ → List ℕ
range i zero = []
range i (suc n) = i ∷ range (suc i) n

-- those that pass the test, in the order of the list
unfoldable pub keep : (ℕ → Bool) → List ℕ → List ℕ
keep t [] = []
keep t (j ∷ js) = cond (t j) (j ∷ keep t js) (keep t js)

-- does each pass the test?
unfoldable pub every : (ℕ → Bool) → List ℕ → Bool
every t [] = true
every t (j ∷ js) = t j && every t js

-- is k in the list?
unfoldable pub among : List ℕ → ℕ → Bool
among [] k = false
among (j ∷ js) k = eqb j k || among js k
