-- What is left of a slice past its first elements, as the code reads `&l[k..]`.
use Rattle.std.specs.Prelude.{ℕ, ◌-◌, length, take, drop, List, ◌≡◌}
use Rattle.std.proofs.Common.{length-drop, take_all, ap, ◌∙◌, arith}

module _ {A : Type 0} (l : List A) (k : ℕ) where
  abbrev pub rest : List A
  rest = take (length l - k) (drop k l)

  pub rest_drop : rest ≡ drop k l
  rest_drop = take_all (length l - k) (drop k l) (omega (arith, length-drop k l))

  pub rest_length : length rest ≡ length l - k
  rest_length = ap length rest_drop ∙ length-drop k l
