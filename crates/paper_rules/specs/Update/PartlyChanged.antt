-- Elements of a list changed, each as its place says: one element, or the first n.
use Rattle.std.specs.Prelude.{◌≡◌, ◌≢◌, length, get_or, set}
use Rattle.std.proofs.Math.Path.{refl, ap}
use Rattle.std.proofs.Common.{◌∙◌, sym, add-one, arith, length-set, ext_get_or, get_or-set_same, get_or-set_other}
use mathlib.Core.List.{List, [], ◌∷◌}
use Prim.Native.Nat.{ℕ, zero, suc, ◌+◌, ◌<◌, ◌≤◌}
use Rattle.std.proofs.Math.Decide.{dec_lt, ℕ_discrete}

module _ {A : Type 0} where
  -- element k, which past the end reads d
  abbrev pub changed : (ℕ → A → A) → ℕ → A → List A → List A
  changed f k d l = set l k (f k (get_or l k d))

  -- the first n elements
  unfoldable pub partly : (ℕ → A → A) → ℕ → List A → List A
  partly f zero l = l
  partly f (suc n) [] = []
  partly f (suc n) (x ∷ l) = f 0 x ∷ partly (λ k. f (suc k)) n l

  -- one more
  partly_next : (f : ℕ → A → A) (n : ℕ) (l : List A) (d : A) → changed f n d (partly f n l) ≡ partly f (suc n) l
  unfolding partly
  partly_next f zero [] d = refl
  partly_next f zero (x ∷ l) d = refl
  partly_next f (suc n) [] d = refl
  partly_next f (suc n) (x ∷ l) d = ap (λ m. f 0 x ∷ m) (partly_next (λ k. f (suc k)) n l d)

  -- and as a loop counts
  pub partly_more : (f : ℕ → A → A) (n : ℕ) (l : List A) (d : A) → changed f n d (partly f n l) ≡ partly f (n + 1) l
  partly_more f n l d = partly_next f n l d ∙ ap (λ k. partly f k l) (sym (add-one n))

  pub length_partly : (f : ℕ → A → A) (n : ℕ) (l : List A) → length (partly f n l) ≡ length l
  unfolding partly
  length_partly f zero l = refl
  length_partly f (suc n) [] = refl
  length_partly f (suc n) (x ∷ l) = ap suc (length_partly (λ k. f (suc k)) n l)

  pub get_d_changed : (f : ℕ → A → A) (n : ℕ) (l : List A) (k : ℕ) (d : A) → k < n → k < length l
      → get_or (partly f n l) k d ≡ f k (get_or l k d)
  unfolding partly
  get_d_changed f zero l k d h m = absurd (omega arith)
  get_d_changed f (suc n) [] k d h m = absurd (omega arith)
  get_d_changed f (suc n) (x ∷ l) zero d h m = refl
  get_d_changed f (suc n) (x ∷ l) (suc k) d h m = get_d_changed (λ i. f (suc i)) n l k d (omega arith) (omega arith)

  pub get_d_kept : (f : ℕ → A → A) (n : ℕ) (l : List A) (k : ℕ) (d : A) → n ≤ k → get_or (partly f n l) k d ≡ get_or l k d
  unfolding partly
  get_d_kept f zero l k d h = refl
  get_d_kept f (suc n) [] k d h = refl
  get_d_kept f (suc n) (x ∷ l) zero d h = absurd (omega arith)
  get_d_kept f (suc n) (x ∷ l) (suc k) d h = get_d_kept (λ i. f (suc i)) n l k d (omega arith)

  pub partly_keeps : (f : ℕ → A → A) (n : ℕ) (l : List A) (k : ℕ) (d : A) → ((x : A) → f k x ≡ x)
      → get_or (partly f n l) k d ≡ get_or l k d
  unfolding partly
  partly_keeps f zero l k d h = refl
  partly_keeps f (suc n) [] k d h = refl
  partly_keeps f (suc n) (x ∷ l) zero d h = h x
  partly_keeps f (suc n) (x ∷ l) (suc k) d h = partly_keeps (λ i. f (suc i)) n l k d h

  -- the list that has these elements
  pub partly_is : (f : ℕ → A → A) (n : ℕ) (l m : List A) (d : A) → length l ≡ length m
      → ((k : ℕ) → k < length l → k < n → f k (get_or l k d) ≡ get_or m k d)
      → ((k : ℕ) → k < length l → n ≤ k → get_or l k d ≡ get_or m k d)
      → partly f n l ≡ m
  partly_is f n l m d same new old =
      ext_get_or d (partly f n l) m (length_partly f n l ∙ same) λ k h.
      go k (omega (arith, length_partly f n l)) (dec_lt k n)
    where
      go : (k : ℕ) → k < length l → Dec (k < n) → get_or (partly f n l) k d ≡ get_or m k d
      go k inside (yes h) = get_d_changed f n l k d h inside ∙ new k inside h
      go k inside (no h) = get_d_kept f n l k d (omega arith) ∙ old k inside (omega arith)

  -- the list m with one element put in, where the others are those of m
  pub partly_put : (f : ℕ → A → A) (n j : ℕ) (l m : List A) (a d : A) → length l ≡ length m → j < n → j < length l
      → ((x : A) → f j x ≡ a)
      → ((k : ℕ) → k ≢ j → k < length l → k < n → f k (get_or l k d) ≡ get_or m k d)
      → ((k : ℕ) → k < length l → n ≤ k → get_or l k d ≡ get_or m k d)
      → partly f n l ≡ set m j a
  partly_put f n j l m a d same job inside at others old =
      partly_is f n l (set m j a) d (rw length-set same) new λ k size above.
      old k size above ∙ sym (get_or-set_other m j k a d (λ e. omega arith))
    where
      new : (k : ℕ) → k < length l → k < n → f k (get_or l k d) ≡ get_or (set m j a) k d
      new k size below = go (ℕ_discrete k j)
        where
          go : Dec (k ≡ j) → f k (get_or l k d) ≡ get_or (set m j a) k d
          go (yes e) = rw e (at (get_or l j d) ∙ sym (get_or-set_same m j a d (omega arith)))
          go (no ne) = others k ne size below ∙ sym (get_or-set_other m j k a d ne)
