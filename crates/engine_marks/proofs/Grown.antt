-- A set that grows with the jobs passed, where they pass the test.
use Rattle.std.specs.Prelude.{ℕ, ◌+◌, ◌≡◌, refl, Bool, true, false, cond}
use Rattle.std.proofs.Common.{sym, ◌∙◌}
use Rattle.ground_sets.specs.Bit.{set_of, with}
use Rattle.ground_sets.specs.BitLaws.{set_of_with, set_of_same}

pub none_passed : (t : ℕ → Bool) → 0 ≡ set_of 0 t
unfolding set_of
none_passed t = refl

-- one job more
pub grown : (n : ℕ) (t : ℕ → Bool) (set : ℕ) → set ≡ set_of n t → (r : ℕ) → r ≡ cond (t n) (with set n) set → r ≡ set_of (n + 1) t
grown n t set e r d = d ∙ rw e (go (t n) refl)
  where
    go : (s : Bool) → t n ≡ s → cond s (with (set_of n t) n) (set_of n t) ≡ set_of (n + 1) t
    go true h = sym (set_of_with n t h)
    go false h = sym (set_of_same n t h)
