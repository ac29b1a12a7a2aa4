-- What the first byte of a format takes of the numbers and of the room.
use Rattle.std.specs.Prelude.{ℕ, suc, ◌+◌, length, get_or, List, [], ◌∷◌, ◌≡◌, refl}
use Rattle.std.proofs.Common.{ne_eqb}
use Rattle.text_formats.specs.Format.{marks, natural_mark, number_mark, room}
use Rattle.text_decimals.specs.Rest.{rest, rest_drop}

-- f is a byte longer than g, and takes so much more room, and so many more naturals and numbers
pub record ByteTakes (f g : List ℕ) (most naturals numbers : ℕ) : Type 0 where
  pub longer : length f ≡ suc (length g)
  pub room_more : room f ≡ most + room g
  pub naturals_more : marks natural_mark f ≡ naturals + marks natural_mark g
  pub numbers_more : marks number_mark f ≡ numbers + marks number_mark g

-- the first byte of f takes so much
abbrev pub FirstTakes : List ℕ → ℕ → ℕ → ℕ → Type 0
FirstTakes f = ByteTakes f (rest f 1)

pub natural_takes : (f : List ℕ) → (length f ≡ 0 → ⊥) → get_or f 0 0 ≡ natural_mark → FirstTakes f 20 1 0
natural_takes [] some e = absurd (some refl)
natural_takes (c ∷ f) some e =
    rw (rest_drop (c ∷ f) 1, e) (record { longer = refl; room_more = refl; naturals_more = refl; numbers_more = refl })

pub number_takes : (f : List ℕ) → (length f ≡ 0 → ⊥) → get_or f 0 0 ≡ number_mark → FirstTakes f 11 0 1
number_takes [] some e = absurd (some refl)
number_takes (c ∷ f) some e =
    rw (rest_drop (c ∷ f) 1, e) (record { longer = refl; room_more = refl; naturals_more = refl; numbers_more = refl })

pub byte_takes : (f : List ℕ) → (length f ≡ 0 → ⊥) → (get_or f 0 0 ≡ natural_mark → ⊥) → (get_or f 0 0 ≡ number_mark → ⊥) → FirstTakes f 1 0 0
byte_takes [] some e d = absurd (some refl)
byte_takes (c ∷ f) some e d =
    let other = ne_eqb c natural_mark e in
    let else = ne_eqb c number_mark d in
    rw (rest_drop (c ∷ f) 1) (record { longer = refl; room_more = rw (other, else); naturals_more = rw other; numbers_more = rw else })
