-- Laws of the search: what is found satisfies P where each part's finding does, and where nothing is found no part found
-- anything.
use Rattle.std.specs.Prelude.{◌≡◌, refl, Bool, true, false, ℕ, zero, suc, ◌<◌}
use Rattle.std.proofs.Common.{subst, arith, below_more}
use Rattle.std.proofs.Math.Bool.{or-true}
use Rattle.std.proofs.Math.Option.{Option, none, some}
use Rattle.ground_arithmetic.specs.Bools.{clash, refuted}
use Rattle.paper_board.specs.Paper.Facts.{Fact}
use Rattle.paper_board.specs.BoardTests.Decides.{Decides}
use Rattle.paper_closure.specs.Find.{guard, ◌or_else◌, first, any}

-- whatever o finds satisfies P
pub record Finds (P : Fact → Type 0) (o : Option Fact) : Type 0 where
  pub found : (f : Fact) → o ≡ some f → P f

found_it : {P : Fact → Type 0} (f : Fact) → P f → Finds P (some f)
found_it {P} f h = record { found = λ g e. let same : f ≡ g = cc in subst P same h }

found_nothing : {P : Fact → Type 0} → Finds P none
found_nothing = record { found = λ f e. clash (cc) }

-- a guard finds its fact where what its test decides holds
pub guard_finds : {P : Fact → Type 0} {t : Bool} {Q : Type 0} → Decides t Q → (f : Fact) → (Q → P f) → Finds P (guard t f)
unfolding guard
guard_finds {t = true} d f h = found_it f (h (d.yes refl))
guard_finds {t = false} d f h = found_nothing

infixl 20 ◌else◌
pub ◌else◌ : {P : Fact → Type 0} {o p : Option Fact} → Finds P o → Finds P p → Finds P (o or_else p)
unfolding ◌or_else◌
◌else◌ {o = none} h k = k
◌else◌ {o = some f} h k = h

pub first_finds : {P : Fact → Type 0} (n : ℕ) (g : ℕ → Option Fact) → ((k : ℕ) → Finds P (g k)) → Finds P (first n g)
unfolding first
first_finds zero g h = found_nothing
first_finds (suc n) g h = first_finds n g h else h n

pub guard_none : {t : Bool} {Q : Type 0} → Decides t Q → (f : Fact) → guard t f ≡ none → Q → ⊥
unfolding guard
guard_none {t = true} d f e q = clash (cc)
guard_none {t = false} d f e q = refuted refl (d.show q)

pub or_else_none : (o p : Option Fact) → (o or_else p) ≡ none → (o ≡ none) × (p ≡ none)
unfolding ◌or_else◌
or_else_none none p e = (refl, e)
or_else_none (some f) p e = clash (cc)

pub first_none : (n : ℕ) (g : ℕ → Option Fact) → first n g ≡ none → (k : ℕ) → k < n → g k ≡ none
unfolding first
first_none zero g e k l = absurd (omega arith)
first_none (suc n) g e k l =
    let (before, last) = or_else_none (first n g) (g n) e in
    below_more (λ m. g m ≡ none) n (first_none n g before) last k (omega arith)

-- the test holds of a number below n
pub some_below : (n : ℕ) {t : ℕ → Bool} {P : ℕ → Type 0} → ((k : ℕ) → Decides (t k) (P k))
    → Decides (any n t) ((k : ℕ) × (k < n) × P k)
unfolding any
some_below n d = record { yes = member n d; show = λ (k, l, p). shown n d k l p }
  where
    member : (n : ℕ) {t : ℕ → Bool} {P : ℕ → Type 0} → ((k : ℕ) → Decides (t k) (P k)) → any n t ≡ true → (k : ℕ) × (k < n) × P k
    member zero d e = absurd (refuted refl e)
    member (suc n) {t} {P} d e = go (any n t) refl (member n d)
      where
        go : (b : Bool) → any n t ≡ b → (any n t ≡ true → (k : ℕ) × (k < n) × P k) → (k : ℕ) × (k < suc n) × P k
        go true q ih = let (k, l, h) = ih q in (k, omega arith, h)
        go false q ih = (n, omega arith, (d n).yes (rw q at e))

    shown : (n : ℕ) {t : ℕ → Bool} {P : ℕ → Type 0} → ((k : ℕ) → Decides (t k) (P k)) → (k : ℕ) → k < n → P k → any n t ≡ true
    shown zero d k l p = absurd (omega arith)
    shown (suc n) {t} {P} d k l p =
        below_more (λ m. P m → any (suc n) t ≡ true) n (λ m b q. rw (shown n d m b q)) (λ q. rw ((d n).show q, or-true)) k (omega arith) p
