-- The bytes at the start of a text that pass a test, up to the first that doesn't.
use Rattle.std.specs.Prelude.{ℕ, suc, ◌+◌, ◌≤◌, ◌<◌, length, get_or, drop, Bool, true, false, cond, List, [], ◌∷◌, ◌≡◌, refl}
use Rattle.std.specs.List.{prefix_len}
use Rattle.std.proofs.Common.{drop_of_length-le, drop-cons, add-one, arith}

abbrev pub prefix : (ℕ → Bool) → List ℕ → List ℕ
prefix test [] = []
prefix test (c ∷ t) = cond (test c) (c ∷ prefix test t) []

module _ (test : ℕ → Bool) where
  pub prefix_length : (t : List ℕ) → prefix_len test t ≡ length (prefix test t)
  prefix_length [] = refl
  prefix_length (c ∷ t) = go (test c) (prefix_length t)
    where
      go : (b : Bool) → prefix_len test t ≡ length (prefix test t) → cond b (1 + prefix_len test t) 0 ≡ length (cond b (c ∷ prefix test t) [])
      go true e = omega (arith, e)
      go false e = refl

  pub prefix_within : (t : List ℕ) → length (prefix test t) ≤ length t
  prefix_within [] = omega arith
  prefix_within (c ∷ t) = go (test c) (prefix_within t)
    where
      go : (b : Bool) → length (prefix test t) ≤ length t → length (cond b (c ∷ prefix test t) []) ≤ suc (length t)
      go true h = omega arith
      go false h = omega arith

  -- the byte at k is one more, or ends them
  module _ (t : List ℕ) (k : ℕ) where
    pub prefix_goes_on : k < length t → test (get_or t k 0) ≡ true → length (prefix test (drop k t)) ≡ suc (length (prefix test (drop (k + 1) t)))
    prefix_goes_on h e = rw (add-one k, drop-cons t k 0 h, e)

    pub prefix_ends : k < length t → test (get_or t k 0) ≡ false → length (prefix test (drop k t)) ≡ 0
    prefix_ends h e = rw (drop-cons t k 0 h, e)

    pub prefix_over : length t ≤ k → length (prefix test (drop k t)) ≡ 0
    prefix_over h = rw (drop_of_length-le t h)
