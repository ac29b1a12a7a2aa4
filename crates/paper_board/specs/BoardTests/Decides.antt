-- Tests that decide statements, and that the connectives of tests decide those of statements: so what a long test decides
-- is said once for both directions.
use Rattle.std.specs.Prelude.{◌≡◌, refl, Bool, true, false, not, ◌&&◌, ℕ, zero, suc, ◌≤◌, ◌<◌, eqb, leb, ltb, ℤ, ◌≤ℤ◌, ◌<ℤ◌}
use Rattle.std.proofs.Common.{sym, ◌∙◌, arith, below_more, leb-true, le-leb, ltb-true, lt-ltb, eqb-true, eq-eqb}
use Rattle.std.specs.Bool.{beq}
use Rattle.std.specs.Int.Signed.{le_z, lt_z}
use Rattle.std.proofs.lemmas.Bool.{not-true}
use Rattle.ground_arithmetic.specs.Bools.{clash, is_false, refuted, and_parts, and_both, same_tests}
use Rattle.ground_arithmetic.specs.Linear.{whole}
use Rattle.paper_board.specs.Paper.View.{View, Live, Valid}
use Rattle.paper_board.specs.Paper.Tests.{live, valid, implies}
use Rattle.paper_board.specs.BoardTests.Live.{live_yes, live_show, valid_yes, valid_show}
use Rattle.paper_board.specs.BoardTests.WithinLimits.{all}

pub record Decides (t : Bool) (P : Type 0) : Type 0 where
  pub yes : t ≡ true → P
  pub show : P → t ≡ true

pub holds : (t : Bool) → Decides t (t ≡ true)
holds t = record { yes = λ e. e; show = λ e. e }

-- the same statement in other words
pub restated : {t : Bool} {P Q : Type 0} → Decides t P → (P → Q) → (Q → P) → Decides t Q
restated d f g = record { yes = λ e. f (d.yes e); show = λ q. d.show (g q) }

-- a test that is equal to one that decides the statement
pub retested : {s t : Bool} {P : Type 0} → s ≡ t → Decides t P → Decides s P
retested e d = record { yes = λ x. d.yes (sym e ∙ x); show = λ p. e ∙ d.show p }

-- tests that decide the same are the same
pub same_decision : {s t : Bool} {P : Type 0} → Decides s P → Decides t P → s ≡ t
same_decision {s} {t} d e = same_tests s t (λ h. e.show (d.yes h)) (λ h. d.show (e.yes h))

-- a test whose outcome is known
pub passed : {P : Type 0} → P → Decides true P
passed p = record { yes = λ e. p; show = λ q. refl }

pub failed : {P : Type 0} → (P → ⊥) → Decides false P
failed n = record { yes = λ e. clash (cc); show = λ p. absurd (n p) }

infixl 35 ◌and◌
pub ◌and◌ : {s t : Bool} {P Q : Type 0} → Decides s P → Decides t Q → Decides (s && t) (P × Q)
◌and◌ {s} {t} d e =
    record {
      yes = λ h. let (p, q) = and_parts s t h in (d.yes p, e.yes q);
      show = λ h. and_both s t (d.show h.0) (e.show h.1);
    }

-- the outcome of `s && t` is that of t where s holds, and that of s where it fails
pub second_asked : {s t : Bool} {P Q : Type 0} → s ≡ true → Decides s P → Decides t Q → Decides t (P × Q)
second_asked h d e = rw h at (d and e)

pub first_failed : {s : Bool} {P Q : Type 0} → s ≡ false → Decides s P → Decides s (P × Q)
first_failed h d = record { yes = λ e. absurd (refuted h e); show = λ p. d.show p.0 }

pub implied : {s t : Bool} {P Q : Type 0} → Decides s P → Decides t Q → Decides (implies s t) (P → Q)
unfolding implies
implied {s = true} d e = restated e (λ q p. q) (λ f. f (d.yes refl))
implied {s = false} d e = record { yes = λ h p. absurd (refuted refl (d.show p)); show = λ f. refl }

pub negated : {t : Bool} {P : Type 0} → Decides t P → Decides (not t) (P → ⊥)
negated {t} d =
    record { yes = λ h p. refuted (not-true t h) (d.show p); show = λ n. rw (is_false t λ e. n (d.yes e)) }

pub every : (n : ℕ) {t : ℕ → Bool} {P : ℕ → Type 0}
    → ((k : ℕ) → Decides (t k) (P k)) → Decides (all n t) ((k : ℕ) → k < n → P k)
unfolding all
every zero d = record { yes = λ e k l. absurd (omega arith); show = λ h. refl }
every (suc n) {t} {P} d =
    restated (every n d and d n)
    (λ h k l. below_more P n h.0 h.1 k (omega arith))
    (λ h. (λ k l. h k (omega arith), h n (omega arith)))

pub le : (m n : ℕ) → Decides (leb m n) (m ≤ n)
le m n = record { yes = leb-true m n; show = le-leb m n }

pub lt : (m n : ℕ) → Decides (ltb m n) (m < n)
lt m n = record { yes = ltb-true m n; show = lt-ltb m n }

pub eq : (m n : ℕ) → Decides (eqb m n) (m ≡ n)
eq m n = record { yes = eqb-true m n; show = eq-eqb m n }

pub same : (s t : Bool) → Decides (beq s t) (s ≡ t)
same true true = record { yes = λ e. refl; show = λ e. refl }
same true false = record { yes = λ e. cc; show = λ e. cc }
same false true = record { yes = λ e. cc; show = λ e. cc }
same false false = record { yes = λ e. refl; show = λ e. refl }

pub live_is : (v : View) (j : ℕ) → Decides (live v j) (Live v j)
live_is v j = record { yes = live_yes v j; show = live_show v j }

pub valid_is : (v : View) (j : ℕ) → Decides (valid v j) (Valid v j)
valid_is v j = record { yes = valid_yes v j; show = valid_show v j }

-- orders of times
pub at_most : (x y : ℤ) → Decides (le_z x y) (x ≤ℤ y)
at_most x y = record { yes = λ e. omega whole; show = λ h. omega whole }

pub earlier : (x y : ℤ) → Decides (lt_z x y) (x <ℤ y)
earlier x y = record { yes = λ e. omega whole; show = λ h. omega whole }

pub not_at_most : (x y : ℤ) → Decides (not (le_z x y)) (y <ℤ x)
not_at_most x y =
    record {
      yes = λ e. omega (whole, not-true (le_z x y) e);
      show = λ h. let f : le_z x y ≡ false = omega whole in rw f;
    }
