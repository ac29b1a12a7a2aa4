-- What the loop over a format keeps: the numbers found so far come before those of what is left of the format and of the text.
use Rattle.std.specs.Prelude.{ℕ, zero, suc, ◌+◌, ◌≤◌, ◌<◌, eqb, ℤ, pos, length, get_or, take, drop, set, cond, true, false, List, [], ◌∷◌, ◌++◌, ◌≡◌, refl, Option, Some, None}
use Rattle.std.proofs.Math.Dec.{eqb-suc-zero}
use Rattle.std.proofs.Common.{length-set, take-suc-set, get_or-set_other, append-nil, append_assoc, sym, ap, ◌∙◌, add-one, arith, eq-eqb, ne_eqb, drop-cons, drop_of_length-le}
use Rattle.std.specs.Bool.{then_some}
use Rattle.std.proofs.lemmas.List.{nil_from_length}
use Rattle.text_numerals.specs.Numerals.{number_at, found}
use Rattle.text_decimals.specs.Rest.{rest, rest_drop}
use Rattle.text_formats.specs.Format.{number_mark, scan, with_first, marks}
use Rattle.text_scans.specs.Scan.{placed, scanned, starts_with}
use Rattle.text_scans.specs.Steps.{scan_number, scan_no_number, scan_byte}

-- numbers before those of a scan
abbrev before : List ℤ → Option (List ℤ) → Option (List ℤ)
before front None = None
before front (Some zs) = Some (front ++ zs)

before_none : (o : Option (List ℤ)) → o ≡ before [] o
before_none None = refl
before_none (Some zs) = refl

before_first : (front : List ℤ) (z : ℤ) (o : Option (List ℤ)) → before front (with_first z o) ≡ before (front ++ z ∷ []) o
before_first front z None = refl
before_first front z (Some zs) = ap Some (sym (append_assoc front (z ∷ []) zs))

pub record ScanState (n : ℕ) (format text f t : List ℕ) (zs : List ℤ) (k : ℕ) : Type 0 where
  pub same : scan format text ≡ before (take k zs) (scan f t)
  pub full : length zs ≡ n
  pub room : k + marks number_mark f ≤ n
  pub zeros : (i : ℕ) → k ≤ i → get_or zs i (pos 0) ≡ pos 0

marks_first : (f : List ℕ) → 0 < length f → marks number_mark f ≡ cond (eqb (get_or f 0 0) number_mark) 1 0 + marks number_mark (drop 1 f)
marks_first [] more = absurd (omega arith)
marks_first (c ∷ f) more = refl

none_placed : (n i : ℕ) → get_or (placed n []) i (pos 0) ≡ pos 0
none_placed zero i = refl
none_placed (suc n) zero = refl
none_placed (suc n) (suc i) = none_placed n i

-- as many as there are places
places_held : (n : ℕ) → length (placed n []) ≡ n
places_held zero = refl
places_held (suc n) = ap suc (places_held n)

pub at_start : (n : ℕ) (format text : List ℕ) → marks number_mark format ≤ n → ScanState n format text format text (placed n []) 0
at_start n format text h = record { same = before_none (scan format text); full = places_held n; room = omega arith; zeros = λ i l. none_placed n i }

module _ (n : ℕ) (format text f t : List ℕ) (zs : List ℤ) (k : ℕ) (s : ScanState n format text f t zs k) (more : 0 < length f) where
  mark_counted : get_or f 0 0 ≡ number_mark → marks number_mark f ≡ 1 + marks number_mark (drop 1 f)
  mark_counted m = rw (eq-eqb (get_or f 0 0) number_mark m) at (marks_first f more)

  pub place_left : get_or f 0 0 ≡ number_mark → k < n
  place_left m = omega (arith, s.room, mark_counted m)

  pub number_taken : get_or f 0 0 ≡ number_mark → (j : ℕ) (z : ℤ) → number_at t ≡ found j z
      → ScanState n format text (drop 1 f) (drop j t) (set zs k z) (k + 1)
  number_taken m j z e =
      record {
        same = rw (s.same, scan_number f t j z more m e, add-one k, take-suc-set zs k z (omega (arith, s.full, place_left m))) (before_first (take k zs) z (scan (drop 1 f) (drop j t)));
        full = length-set zs k z ∙ s.full;
        room = omega (arith, s.room, mark_counted m);
        zeros = λ i l. get_or-set_other zs k i z (pos 0) (omega arith) ∙ s.zeros i (omega arith);
      }

  pub number_missing : get_or f 0 0 ≡ number_mark → number_at t ≡ None → None ≡ scanned n (scan format text)
  number_missing m e = rw (s.same, scan_no_number f t more m e)

  pub byte_taken : (get_or f 0 0 ≡ number_mark → ⊥) → starts_with (get_or f 0 0) t ≡ true → ScanState n format text (drop 1 f) (drop 1 t) zs k
  byte_taken m e =
      let counted = rw (ne_eqb (get_or f 0 0) number_mark m) at (marks_first f more) in
      record { same = rw (s.same, scan_byte f t more m, e); full = s.full; room = omega (arith, s.room, counted); zeros = s.zeros }

  pub byte_missing : (get_or f 0 0 ≡ number_mark → ⊥) → starts_with (get_or f 0 0) t ≡ false → None ≡ scanned n (scan format text)
  byte_missing m e = rw (s.same, scan_byte f t more m, e)

-- the byte at i of the format
module _ (n : ℕ) (format text t : List ℕ) (zs : List ℤ) (i k : ℕ) (s : ScanState n format text (drop i format) t zs k) (more : i < length format) where
  abbrev c : ℕ
  c = get_or format i 0

  abbrev f : List ℕ
  f = drop (i + 1) format

  here : ScanState n format text (c ∷ f) t zs k
  here = rw (add-one, ← drop-cons format i 0 more) s

  pub place_left_at : c ≡ number_mark → k < length zs
  place_left_at m = omega (arith, here.full, place_left n format text (c ∷ f) t zs k here (omega arith) m)

  pub number_taken_at : c ≡ number_mark → (j : ℕ) (z : ℤ) → number_at t ≡ found j z → ScanState n format text f (rest t j) (set zs k z) (k + 1)
  number_taken_at m j z e = rw rest_drop (number_taken n format text (c ∷ f) t zs k here (omega arith) m j z e)

  pub number_missing_at : c ≡ number_mark → number_at t ≡ None → None ≡ scanned n (scan format text)
  number_missing_at m e = number_missing n format text (c ∷ f) t zs k here (omega arith) m e

  module _ (other : c ≡ number_mark → ⊥) where
    pub byte_taken_at : (x : ℕ) (others : List ℕ) → t ≡ x ∷ others → x ≡ c → ScanState n format text f others zs k
    byte_taken_at x others is e =
        record {
          same = rw (here.same, scan_byte (c ∷ f) t (omega arith) other, is, eq-eqb x c e);
          full = here.full;
          room = omega (arith, rw (ne_eqb c number_mark other) at here.room);
          zeros = here.zeros;
        }

    pub other_byte : (x : ℕ) (others : List ℕ) → t ≡ x ∷ others → (x ≡ c → ⊥) → None ≡ scanned n (scan format text)
    other_byte x others is e = rw (here.same, scan_byte (c ∷ f) t (omega arith) other, is, ne_eqb x c e)

    pub no_byte : length t ≡ 0 → None ≡ scanned n (scan format text)
    no_byte e = rw (here.same, scan_byte (c ∷ f) t (omega arith) other, nil_from_length t e)

-- the numbers found so far are all of them where the other places hold 0
all_placed : (n k : ℕ) (zs : List ℤ) → length zs ≡ n → ((i : ℕ) → k ≤ i → get_or zs i (pos 0) ≡ pos 0) → placed n (take k zs) ≡ zs
all_placed zero zero [] h zeros = refl
all_placed zero (suc k) [] h zeros = refl
all_placed zero k (z ∷ zs) h zeros = absurd (omega arith)
all_placed (suc n) k [] h zeros = absurd (omega arith)
all_placed (suc n) zero (z ∷ zs) h zeros =
    rw (zeros 0 (omega arith)) (ap (λ l. pos 0 ∷ l) (all_placed n 0 zs (omega arith) λ i l. zeros (suc i) (omega arith)))
all_placed (suc n) (suc k) (z ∷ zs) h zeros =
    ap (λ l. z ∷ l) (all_placed n k zs (omega arith) λ i l. zeros (suc i) (omega arith))

pub at_end : (n : ℕ) (format text f t : List ℕ) (zs : List ℤ) (k : ℕ) → ScanState n format text f t zs k → length f ≡ 0
    → then_some (eqb (length t) 0) zs ≡ scanned n (scan format text)
unfolding scan
at_end n format text (c ∷ f) t zs k s e = absurd (omega arith)
at_end n format text [] (x ∷ t) zs k s e = rw (s.same, eqb-suc-zero (length t))
at_end n format text [] [] zs k s e = rw (s.same, append-nil (take k zs), all_placed n k zs s.full s.zeros)

-- no byte of the format is left
pub past_end : (n : ℕ) (format text t : List ℕ) (zs : List ℤ) (i k : ℕ) → ScanState n format text (drop i format) t zs k → length format ≤ i
    → then_some (eqb (length t) 0) zs ≡ scanned n (scan format text)
past_end n format text t zs i k s e = at_end n format text [] t zs k (rw (drop_of_length-le format e) at s) refl
