-- A format filled in with numbers that the code holds as bits, which give them back.
use Rattle.std.specs.Prelude.{ℕ, ◌≤◌, ℤ, List, [], ◌∷◌}
use Rattle.std.specs.Int.{w32}
use Rattle.std.proofs.Common.{SFits}
use Rattle.std.proofs.lemmas.Int.{to_z-of_z}
use Rattle.text_decimals.specs.Magnitude.{held}
use Rattle.text_decimals.specs.Written.{Written, weaken_written}
use Rattle.text_formats.specs.Format.{filled}

module _ {o p : _} (f ns : List ℕ) where
  pub one_number : (z : ℤ) {m n : ℕ} → SFits w32 z
      → Written o p (filled f ns (held z ∷ [])) m → m ≤ n → Written o p (filled f ns (z ∷ [])) n
  one_number z h w = weaken_written (simp (to_z-of_z, h) at w)

  pub three_numbers : (x y z : ℤ) {m n : ℕ} → SFits w32 x → SFits w32 y → SFits w32 z
      → Written o p (filled f ns (held x ∷ held y ∷ held z ∷ [])) m → m ≤ n
      → Written o p (filled f ns (x ∷ y ∷ z ∷ [])) n
  three_numbers x y z e g h w = weaken_written (simp (to_z-of_z, e, g, h) at w)
