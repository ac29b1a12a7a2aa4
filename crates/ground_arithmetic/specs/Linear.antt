-- Whole numbers of either sign, made cheap for `omega`, which reads ℕ alone: z is `above z - below z`.
-- `omega (whole, plus a b)` proves a linear fact over times; each sum or negation that occurs is listed by its law.
use Rattle.std.specs.Prelude.{◌≡◌, refl, Bool, true, false, ◌&&◌, ℕ, zero, suc, ◌+◌, ◌≤◌, ◌<◌, ltb, ℤ, pos, negsuc, neg_ℤ, ◌+ℤ◌, ◌≤ℤ◌, ◌<ℤ◌}
use Rattle.std.proofs.Common.{ap, arith, leb→le, le→leb, ltb→lt, lt→ltb, ltb-true, ltb-false, leb-false}
use Rattle.std.proofs.Math.IntN.{sub_ℕ}
use Rattle.std.specs.Int.Signed.{le_z, lt_z}
use Rattle.ground_arithmetic.specs.Bools.{clash, is_true, is_false, and_parts, and_both}

abbrev pub above : ℤ → ℕ
above (pos n) = n
above (negsuc n) = 0

abbrev pub below : ℤ → ℕ
below (pos n) = 0
below (negsuc n) = suc n

pub le_read : (a b : ℤ) → a ≤ℤ b → above a + below b ≤ above b + below a
le_read (pos a) (pos b) h = omega (arith, leb→le a b h.le)
le_read (pos a) (negsuc b) h = absurd h.le
le_read (negsuc a) (pos b) h = omega arith
le_read (negsuc a) (negsuc b) h = omega (arith, leb→le b a h.le)

pub le_show : (a b : ℤ) → above a + below b ≤ above b + below a → a ≤ℤ b
le_show (pos a) (pos b) h = record { le = le→leb a b (omega arith) }
le_show (pos a) (negsuc b) h = absurd (omega arith)
le_show (negsuc a) (pos b) h = record { le = tt }
le_show (negsuc a) (negsuc b) h = record { le = le→leb b a (omega arith) }

pub lt_read : (a b : ℤ) → a <ℤ b → above a + below b < above b + below a
lt_read (pos a) (pos b) h = omega (arith, ltb→lt a b h.lt)
lt_read (pos a) (negsuc b) h = absurd h.lt
lt_read (negsuc a) (pos b) h = omega arith
lt_read (negsuc a) (negsuc b) h = omega (arith, ltb→lt b a h.lt)

pub lt_show : (a b : ℤ) → above a + below b < above b + below a → a <ℤ b
lt_show (pos a) (pos b) h = record { lt = lt→ltb a b (omega arith) }
lt_show (pos a) (negsuc b) h = absurd (omega arith)
lt_show (negsuc a) (pos b) h = record { lt = tt }
lt_show (negsuc a) (negsuc b) h = record { lt = lt→ltb b a (omega arith) }

pub eq_read : (a b : ℤ) → a ≡ b → above a + below b ≡ above b + below a
eq_read a b h = rw h

pub eq_show : (a b : ℤ) → above a + below b ≡ above b + below a → a ≡ b
eq_show (pos a) (pos b) h = ap pos (omega arith)
eq_show (pos a) (negsuc b) h = absurd (omega arith)
eq_show (negsuc a) (pos b) h = absurd (omega arith)
eq_show (negsuc a) (negsuc b) h = ap negsuc (omega arith)

-- a difference of two naturals
sub_is : (a b : ℕ) → above (sub_ℕ a b) + b ≡ a + below (sub_ℕ a b)
sub_is a b = go (ltb a b) refl
  where
    go : (t : Bool) → ltb a b ≡ t → above (sub_ℕ a b) + b ≡ a + below (sub_ℕ a b)
    go true e = rw (e, sub_ℕ) (omega (arith, ltb-true a b e))
    go false e = rw (e, sub_ℕ) (omega (arith, ltb-false a b e))

pub plus : (a b : ℤ) → above (a +ℤ b) + (below a + below b) ≡ (above a + above b) + below (a +ℤ b)
plus (pos a) (pos b) = omega arith
plus (pos a) (negsuc b) = omega (arith, sub_is a (suc b))
plus (negsuc a) (pos b) = omega (arith, sub_is b (suc a))
plus (negsuc a) (negsuc b) = omega arith

pub minus : (a : ℤ) → above (neg_ℤ a) + above a ≡ below (neg_ℤ a) + below a
minus (pos zero) = refl
minus (pos (suc a)) = omega arith
minus (negsuc a) = omega arith

-- the tests of the code, as the order that they decide
pub le_z_true : (a b : ℤ) → le_z a b ≡ true → above a + below b ≤ above b + below a
le_z_true a b e = le_read a b (record { le = rw e tt })

pub lt_z_true : (a b : ℤ) → lt_z a b ≡ true → above a + below b < above b + below a
lt_z_true a b e = lt_read a b (record { lt = rw e tt })

pub le_z_false : (a b : ℤ) → le_z a b ≡ false → above b + below a < above a + below b
le_z_false (pos a) (pos b) e = omega (arith, leb-false a b e)
le_z_false (pos a) (negsuc b) e = omega arith
le_z_false (negsuc a) (pos b) e = clash (cc)
le_z_false (negsuc a) (negsuc b) e = omega (arith, leb-false b a e)

pub lt_z_false : (a b : ℤ) → lt_z a b ≡ false → above b + below a ≤ above a + below b
lt_z_false (pos a) (pos b) e = omega (arith, ltb-false a b e)
lt_z_false (pos a) (negsuc b) e = omega arith
lt_z_false (negsuc a) (pos b) e = clash (cc)
lt_z_false (negsuc a) (negsuc b) e = omega (arith, ltb-false b a e)

pub le_z_show : (a b : ℤ) → above a + below b ≤ above b + below a → le_z a b ≡ true
le_z_show a b h = is_true (le_z a b) λ e. omega (arith, le_z_false a b e)

pub lt_z_show : (a b : ℤ) → above a + below b < above b + below a → lt_z a b ≡ true
lt_z_show a b h = is_true (lt_z a b) λ e. omega (arith, lt_z_false a b e)

pub le_z_show_not : (a b : ℤ) → above b + below a < above a + below b → le_z a b ≡ false
le_z_show_not a b h = is_false (le_z a b) λ e. omega (arith, le_z_true a b e)

pub lt_z_show_not : (a b : ℤ) → above b + below a ≤ above a + below b → lt_z a b ≡ false
lt_z_show_not a b h = is_false (lt_z a b) λ e. omega (arith, lt_z_true a b e)

-- are two numbers equal?
unfoldable pub eq_z : ℤ → ℤ → Bool
eq_z a b = le_z a b && le_z b a

pub eq_z_true : (a b : ℤ) → eq_z a b ≡ true → above a + below b ≡ above b + below a
unfolding eq_z
eq_z_true a b e = let (l, g) = and_parts (le_z a b) (le_z b a) e in omega (arith, le_z_true a b l, le_z_true b a g)

pub eq_z_show : (a b : ℤ) → above a + below b ≡ above b + below a → eq_z a b ≡ true
unfolding eq_z
eq_z_show a b h = and_both (le_z a b) (le_z b a) (le_z_show a b (omega arith)) (le_z_show b a (omega arith))

-- a number that is not negative, as a natural
pub none_below : (z : ℤ) → pos 0 ≤ℤ z → below z ≡ 0
none_below (pos n) h = refl
none_below (negsuc n) h = absurd h.le

pub ruleset whole = (arith, le_read, le_show, lt_read, lt_show, eq_read, eq_show, le_z_true, lt_z_true, le_z_false, lt_z_false, le_z_show, lt_z_show, le_z_show_not, lt_z_show_not, eq_z_true, eq_z_show)
