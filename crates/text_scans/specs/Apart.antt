-- Two formats apart: no text is both of them filled in.
use Rattle.std.specs.Prelude.{ℕ, ◌+◌, eqb, ℤ, length, Bool, true, false, cond, not, ◌&&◌, List, [], ◌∷◌, ◌≡◌, refl, None}
use Rattle.std.proofs.Math.Bool.{and-eq-true_iff}
use Rattle.std.proofs.lemmas.Bool.{false≢true, not-true}
use Rattle.std.proofs.Common.{◌∙◌, arith, eqb-true}
use Rattle.text_scans.specs.ScannedIsFilled.{scannable, AllShort, Scannable, scannable_parts, mark_scanned, byte_scanned}
use Rattle.text_formats.specs.Format.{number_mark, filled, scan, marks}
use Rattle.text_scans.specs.Steps.{scan_nothing}

-- are two formats the same up to a byte of which each has another, neither of them a mark, or the first up to its end?
abbrev pub apart : List ℕ → List ℕ → Bool
apart [] [] = false
apart [] (d ∷ g) = true
apart (c ∷ f) [] = false
apart (c ∷ f) (d ∷ g) = cond (eqb c d) (apart f g) (not (eqb c number_mark) && not (eqb d number_mark))

-- a text that is the first filled in is not read by the other
pub apart_unread : (f g : List ℕ) (zs : List ℤ) → scannable f ≡ true → apart f g ≡ true → AllShort zs → length zs ≡ marks number_mark f → scan g (filled f [] zs) ≡ None
unfolding filled
apart_unread [] [] zs s a short each = absurd (false≢true a)
apart_unread [] (d ∷ g) zs s a short each = scan_nothing d g
apart_unread (c ∷ f) [] zs s a short each = absurd (false≢true a)
apart_unread (c ∷ f) (d ∷ g) zs s a short each =
    let parts = scannable_parts c f s in
    go parts (λ ys. apart_unread f g ys parts.rest) (eqb c d) refl (eqb c number_mark) refl zs short a each
  where
    go : Scannable c f → ((ys : List ℤ) → apart f g ≡ true → AllShort ys → length ys ≡ marks number_mark f → scan g (filled f [] ys) ≡ None)
        → (b : Bool) → eqb c d ≡ b → (m : Bool) → eqb c number_mark ≡ m → (ys : List ℤ) → AllShort ys
        → cond b (apart f g) (not (eqb c number_mark) && not (eqb d number_mark)) ≡ true → length ys ≡ cond m 1 0 + marks number_mark f
        → scan (d ∷ g) (filled (c ∷ f) [] ys) ≡ None
    go parts rest true same true m [] short a each = absurd (omega arith)
    go parts rest true same true m (y ∷ ys) short a each =
        rw (← eqb-true c d same) (mark_scanned c f parts g m y ys short.0 ∙ rw (rest ys a short.1 (omega arith)))
    go parts rest true same false m ys short a each =
        byte_scanned c f parts g m d (rw (eqb-true c d same) at m) ys ∙ rw (same, rest ys a short (omega arith))
    go parts rest false same m e ys short a each =
        let (first, second) = (and-eq-true_iff (not (eqb c number_mark)) (not (eqb d number_mark))).0 a in
        byte_scanned c f parts g (not-true (eqb c number_mark) first) d (not-true (eqb d number_mark) second) ys ∙ rw same
