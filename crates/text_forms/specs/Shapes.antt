-- What is tested of the shapes: the numbers of each can be told, and no text is written by two of them.
use Rattle.std.specs.Prelude.{ℕ, zero, suc, ◌<◌, ℤ, length, get_or, Bool, true, Some, None, ◌&&◌, List, [], ◌∷◌, ◌≡◌, refl}
use Rattle.std.proofs.Math.Bool.{and-eq-true_iff}
use Rattle.std.proofs.Common.{arith}
use Rattle.text_scans.specs.Apart.{apart, apart_unread}
use Rattle.text_scans.specs.ScannedIsFilled.{scannable, AllShort, filled_is_scanned}
use Rattle.text_formats.specs.Format.{number_mark, filled, marks}
use Rattle.text_forms.specs.Paper.Forms.{FormShape, said, first_of}

-- no text of a later shape, nor the empty line, is written by this one too
abbrev alone : FormShape → List FormShape → Bool
alone s [] = apart [] s.format
alone s (t ∷ ss) = apart t.format s.format && alone s ss

abbrev pub distinct : List FormShape → Bool
distinct [] = true
distinct (s ∷ ss) = scannable s.format && (alone s ss && distinct ss)

pub record DistinctShapes (s : FormShape) (ss : List FormShape) : Type 0 where
  pub plain : scannable s.format ≡ true
  pub alone : alone s ss ≡ true
  pub rest : distinct ss ≡ true

pub distinct_parts : (s : FormShape) (ss : List FormShape) → distinct (s ∷ ss) ≡ true → DistinctShapes s ss
distinct_parts s ss h =
    let (plain, others) = (and-eq-true_iff (scannable s.format) (alone s ss && distinct ss)).0 h in
    let (alone, rest) = (and-eq-true_iff (alone s ss) (distinct ss)).0 others in
    record { plain = plain; alone = alone; rest = rest }

alone_at : (d s : FormShape) (ss : List FormShape) → alone s ss ≡ true → (k : ℕ) → k < length ss → apart (get_or ss k d).format s.format ≡ true
alone_at d s [] h k l = absurd (omega arith)
alone_at d s (t ∷ ss) h zero l = ((and-eq-true_iff (apart t.format s.format) (alone s ss)).0 h).0
alone_at d s (t ∷ ss) h (suc k) l = alone_at d s ss ((and-eq-true_iff (apart t.format s.format) (alone s ss)).0 h).1 k (omega arith)

plain_at : (d : FormShape) (ss : List FormShape) → distinct ss ≡ true → (k : ℕ) → k < length ss → scannable (get_or ss k d).format ≡ true
plain_at d [] h k l = absurd (omega arith)
plain_at d (s ∷ ss) h zero l = (distinct_parts s ss h).plain
plain_at d (s ∷ ss) h (suc k) l = plain_at d ss (distinct_parts s ss h).rest k (omega arith)

-- the text of a shape is read by that shape
pub filled_is_said : (d : FormShape) (ss : List FormShape) → distinct ss ≡ true → (k : ℕ) → k < length ss
    → (zs : List ℤ) → AllShort zs → length zs ≡ marks number_mark (get_or ss k d).format
    → first_of ss (filled (get_or ss k d).format [] zs) ≡ Some (said (get_or ss k d) zs)
unfolding first_of
filled_is_said d [] h k l zs short each = absurd (omega arith)
filled_is_said d (s ∷ ss) h zero l zs short each = rw (filled_is_scanned s.format zs (distinct_parts s ss h).plain short each, first_of)
filled_is_said d (s ∷ ss) h (suc k) l zs short each =
    let parts = distinct_parts s ss h in
    let less : k < length ss = omega arith in
    rw (apart_unread (get_or ss k d).format s.format zs (plain_at d ss parts.rest k less) (alone_at d s ss parts.alone k less) short each, first_of)
    (filled_is_said d ss parts.rest k less zs short each)

alone_last : (s : FormShape) (ss : List FormShape) → alone s ss ≡ true → apart [] s.format ≡ true
alone_last s [] h = h
alone_last s (t ∷ ss) h = alone_last s ss ((and-eq-true_iff (apart t.format s.format) (alone s ss)).0 h).1

-- the empty line is read by none
pub empty_is_none : (ss : List FormShape) → distinct ss ≡ true → first_of ss [] ≡ None
unfolding first_of filled
empty_is_none [] h = refl
empty_is_none (s ∷ ss) h =
    let parts = distinct_parts s ss h in
    rw (apart_unread [] s.format [] refl (alone_last s ss parts.alone) tt refl, first_of) (empty_is_none ss parts.rest)
