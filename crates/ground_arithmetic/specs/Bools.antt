-- What the outcome of a Boolean test tells, and what a clash of constructors does.
use Rattle.std.specs.Prelude.{◌≡◌, refl, Bool, true, false, cond, ◌&&◌, ℕ}
use Rattle.std.proofs.Common.{sym, ◌∙◌, arith}

-- `clash (cc)` proves anything where two constructors in reach would have to be equal
pub clash {ℓ} : {A : Type ℓ} → ◌≡◌ {A = ℕ} 0 1 → A
clash e = absurd (omega (arith, e))

pub is_true : (t : Bool) → (t ≡ false → ⊥) → t ≡ true
is_true true h = refl
is_true false h = absurd (h refl)

pub is_false : (t : Bool) → (t ≡ true → ⊥) → t ≡ false
is_false false h = refl
is_false true h = absurd (h refl)

-- a test that failed was not true
pub refuted : {t : Bool} → t ≡ false → t ≡ true → ⊥
refuted {t} p q = clash (cc)

pub and_parts : (a b : Bool) → (a && b) ≡ true → (a ≡ true) × (b ≡ true)
and_parts true b e = (refl, e)
and_parts false b e = clash (cc)

pub and_both : (a b : Bool) → a ≡ true → b ≡ true → (a && b) ≡ true
and_both a b p q = rw (p, q)

-- `p && q` in the code asks q only where p holds: the answer is q's where it is asked, and p's where it is not
pub and_asked : {p q a b : Bool} → p ≡ a → p ≡ true → q ≡ b → q ≡ (a && b)
and_asked first holds second = rw (sym first ∙ holds) second

pub and_unasked : {p a : Bool} → p ≡ a → p ≡ false → (b : Bool) → p ≡ (a && b)
and_unasked first fails b = rw (sym first ∙ fails) fails

-- two tests that imply each other are the same
pub same_tests : (a b : Bool) → (a ≡ true → b ≡ true) → (b ≡ true → a ≡ true) → a ≡ b
same_tests true b f g = sym (f refl)
same_tests false true f g = g refl
same_tests false false f g = refl

-- a test decides which of two values is taken
pub by_test : {A : Type 0} (P : A → Type 0) (t : Bool) (x y : A) → (t ≡ true → P x) → (t ≡ false → P y) → P (cond t x y)
by_test P true x y p q = p refl
by_test P false x y p q = q refl
