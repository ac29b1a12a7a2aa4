-- A format filled in from its first byte on: what is written for that byte, and then for the rest.
use Rattle.std.specs.Prelude.{ℕ, ◌^◌, ◌<◌, ℤ, pos, length, get_or, List, [], ◌∷◌, ◌≡◌}
use Rattle.std.proofs.Common.{arith, ne_eqb}
use Rattle.std.specs.Int.Signed.{mag}
use Rattle.std.specs.Int.{w32}
use Rattle.std.proofs.lemmas.Int.{to_z-of_z}
use Rattle.text_decimals.specs.Decimal.{natural, decimal}
use Rattle.text_decimals.specs.Magnitude.{held}
use Rattle.text_decimals.specs.declared.Page.{Page}
use Rattle.text_decimals.specs.Written.{Written, nothing_written, append_written}
use Rattle.text_formats.specs.Format.{filled, natural_mark, number_mark, room}
use Rattle.text_decimals.specs.Rest.{rest, rest_drop}

pub none_printed : (o : Page) (f ns : List ℕ) (zs : List ℤ) → length f < 1 → Written o o (filled f ns zs) (room f)
unfolding filled
none_printed o [] ns zs e = nothing_written o
none_printed o (c ∷ f) ns zs e = absurd (omega arith)

module _ {o p q : Page} where
  pub natural_printed : (f ns : List ℕ) (zs : List ℤ) → 0 < length f → get_or f 0 0 ≡ natural_mark
      → Written o p (natural (get_or ns 0 0)) 20 → Written p q (filled (rest f 1) (rest ns 1) zs) (room (rest f 1))
      → Written o q (filled f ns zs) (room f)
  unfolding filled
  natural_printed [] ns zs some e first after = absurd (omega arith)
  natural_printed (c ∷ f) ns zs some e first after =
      rw e (append_written first (rw (rest_drop (c ∷ f) 1, rest_drop ns 1) at after) (omega arith))

  pub number_printed : (f ns : List ℕ) (zs : List ℤ) → 0 < length f → get_or f 0 0 ≡ number_mark
      → mag (get_or zs 0 (pos 0)) < 2 ^ 31
      → Written o p (decimal (held (get_or zs 0 (pos 0)))) 11 → Written p q (filled (rest f 1) ns (rest zs 1)) (room (rest f 1))
      → Written o q (filled f ns zs) (room f)
  unfolding filled
  number_printed [] ns zs some e fits first after = absurd (omega arith)
  number_printed (c ∷ f) ns zs some e fits first after =
      let same = to_z-of_z w32 (get_or zs 0 (pos 0)) (record { sfits = fits }) in
      rw e (append_written (rw same at first) (rw (rest_drop (c ∷ f) 1, rest_drop zs 1) at after) (omega arith))

  pub byte_printed : (f ns : List ℕ) (zs : List ℤ) → 0 < length f
      → (get_or f 0 0 ≡ natural_mark → ⊥) → (get_or f 0 0 ≡ number_mark → ⊥)
      → Written o p (get_or f 0 0 ∷ []) 1 → Written p q (filled (rest f 1) ns zs) (room (rest f 1))
      → Written o q (filled f ns zs) (room f)
  unfolding filled
  byte_printed [] ns zs some e d first after = absurd (omega arith)
  byte_printed (c ∷ f) ns zs some e d first after =
      rw (ne_eqb c natural_mark e, ne_eqb c number_mark d)
      (append_written first (rw (rest_drop (c ∷ f) 1) at after) (omega arith))
