-- `first_refusal` line by line: what the first line of a list of checks decides, and what a list without refusal says of it.
use Rattle.std.specs.Prelude.{◌≡◌, refl, Bool, true, false, List, [], ◌∷◌}
use Rattle.std.proofs.Common.{◌∙◌}
use Rattle.std.proofs.Math.Option.{Option, none, some}
use Rattle.ground_arithmetic.specs.Bools.{clash}
use Rattle.paper_entries.specs.Paper.Checks.{Check, first_refusal}

pub no_line : none ≡ first_refusal []
unfolding first_refusal
no_line = refl

pub refuses_first : (c : Check) (cs : List Check) → c.refuses ≡ true → some c.refusal ≡ first_refusal (c ∷ cs)
unfolding first_refusal
refuses_first c cs e = rw (e, first_refusal)

pub passes_on : (c : Check) (cs : List Check) → c.refuses ≡ false → first_refusal cs ≡ first_refusal (c ∷ cs)
unfolding first_refusal
passes_on c cs e = rw (e, first_refusal)

some_none : {A : Type 0} {a : A} → ◌≡◌ {A = Option A} (some a) none → ⊥
some_none {a} e = clash (cc)

-- a check that doesn't refuse, and those after it
pub passed : (c : Check) (cs : List Check) → first_refusal (c ∷ cs) ≡ none → (c.refuses ≡ false) × (first_refusal cs ≡ none)
passed c cs e = go c.refuses refl
  where
    go : (t : Bool) → c.refuses ≡ t → (c.refuses ≡ false) × (first_refusal cs ≡ none)
    go true m = absurd (some_none (refuses_first c cs m ∙ e))
    go false m = (m, passes_on c cs m ∙ e)
