-- The jobs to pair with a job, over numbers and words: what is known of those that are left out, rule by rule.
use Rattle.std.specs.Prelude.{◌≡◌, refl, ◌≢◌, ◌⊎◌, Bool, true, false, ◌||◌, List, ℕ, ◌<◌, ◌^◌, ℤ, pos, neg_ℤ, ◌+ℤ◌, ◌-ℤ◌, get_or, ◌≤ℤ◌}
use Rattle.std.proofs.Common.{sym, ap, ◌∙◌, subst, inl, inr, ⊎_elim, arith}
use Rattle.std.proofs.Math.Bool.{or-true}
use Rattle.std.proofs.Math.Decide.{ℕ_discrete}
use Rattle.ground_sets.specs.Bit.{bit, union, intersection, difference, without}
use Rattle.ground_walks.specs.Takes.{Takes}
use Rattle.ground_sets.specs.BitLaws.{bit_zero, bit_union, bit_intersection, bit_difference, bit_without, without_lt, difference_lt, subset_yes, part_below}
use Rattle.ground_walks.specs.Walk.{Left, taken_out}
use Rattle.ground_arithmetic.specs.Bools.{refuted, is_true}
use Rattle.ground_arithmetic.specs.Linear.{whole, plus, minus}
use Rattle.ground_arithmetic.specs.Time.{lesser, lesser_left, lesser_right}
use Rattle.paper_board.specs.Paper.Limits.{job_limit}
use Rattle.paper_board.specs.BoardTests.Decides.{Decides, retested, ◌and◌, negated, holds, eq}
use Rattle.engine_sums.specs.Sums.{length_at}

pub or_parts : (a b : Bool) → (a || b) ≡ true → (a ≡ true) ⊎ (b ≡ true)
or_parts true b e = inl refl
or_parts false b e = inr e

-- ---- R3

-- job k, started at `end`, ends in time
abbrev pub InTime : List ℤ → List ℤ → ℤ → ℕ → Type 0
InTime latest lengths end k = (end +ℤ length_at lengths k) ≤ℤ get_or latest k (pos 0)

abbrev pub AllInTime : List ℤ → List ℤ → ℕ → ℤ → Type 0
AllInTime latest lengths set end = (k : ℕ) → bit set k ≡ true → InTime latest lengths end k

-- the jobs of the set that are left out end in time
abbrev pub LateLeft : List ℤ → List ℤ → ℕ → ℤ → ℕ → Type 0
LateLeft latest lengths set end = Left (λ k. bit set k ≡ true) (InTime latest lengths end)

-- the members of w: jobs after i, where i or they are valid
pub record KeptApart (i valids after w : ℕ) : Type 0 where
  pub width : w < 2 ^ job_limit
  pub member : (k : ℕ) → bit w k ≡ true → (bit after k ≡ true) × ((bit valids i ≡ true) ⊎ (bit valids k ≡ true))

-- job k ends in time after i, or has an arc to i, or lies after it and one of the two is valid
abbrev pub OrderKnown : List ℤ → List ℤ → ℕ → ℕ → ℕ → ℕ → ℤ → ℕ → Type 0
OrderKnown latest lengths i valids before after end k =
    InTime latest lengths end k ⊎ (bit before k ≡ true) ⊎ ((bit after k ≡ true) × ((bit valids i ≡ true) ⊎ (bit valids k ≡ true)))

abbrev pub OrderLeft : List ℤ → List ℤ → ℕ → ℕ → ℕ → ℕ → ℕ → ℤ → ℕ → Type 0
OrderLeft latest lengths i lives valids before after end =
    Left (λ k. (bit lives k ≡ true) × (i ≢ k)) (OrderKnown latest lengths i valids before after end)

module _ (latest lengths : List ℤ) where
  -- one job more
  pub in_time_lesser : (set : ℕ) {left k rest : ℕ} {downward : Bool} (least : ℤ) → Takes job_limit downward left k rest
      → ((j : ℕ) → bit set j ≡ true → bit left j ≡ false → InTime latest lengths least j)
      → (j : ℕ) → bit set j ≡ true → bit rest j ≡ false
      → InTime latest lengths (lesser least (get_or latest k (pos 0) -ℤ length_at lengths k)) j
  in_time_lesser set {k = k} least taken before =
      taken_out taken (InTime latest lengths next) (λ j. bit set j ≡ true)
      (λ j e out. let now = before j e out in
      omega (whole, now, lesser_left least gap, plus next (length_at lengths j), plus least (length_at lengths j)))
      (omega (whole, lesser_right least gap, plus next (length_at lengths k), plus (get_or latest k (pos 0)) (neg_ℤ (length_at lengths k)), minus (length_at lengths k)))
    where
      gap : ℤ
      gap = get_or latest k (pos 0) -ℤ length_at lengths k

      next : ℤ
      next = lesser least gap

  module _ (i lives valids before after : ℕ) (end : ℤ) where
    -- where i ends by a time after which all end in time, nothing is left
    pub none_ordered : (least : ℤ) → end ≤ℤ least → AllInTime latest lengths lives least
        → OrderLeft latest lengths i lives valids before after end 0
    none_ordered least l all =
        record {
          member = λ k e. absurd (refuted (bit_zero k) e);
          done = λ k (e, _) _. let now = all k e in inl (omega (whole, now, plus end (length_at lengths k), plus least (length_at lengths k)));
        }

    -- else those that have no arc to i and are not kept apart from it are tested
    pub late_ordered : (kept w : ℕ) → lives < 2 ^ job_limit → i < job_limit → union before kept < 2 ^ job_limit → KeptApart i valids after kept
        → LateLeft latest lengths (difference job_limit (without job_limit lives i) (union before kept)) end w
        → OrderLeft latest lengths i lives valids before after end w
    late_ordered kept w fits place narrow apart left =
        record {
          member = λ k e. ((tested k).yes (left.member k e)).0;
          done = λ k l out. go k l out (bit set k) refl;
        }
      where
        set : ℕ
        set = difference job_limit (without job_limit lives i) (union before kept)

        tested : (k : ℕ) → Decides (bit set k) (((bit lives k ≡ true) × (i ≢ k)) × (bit (union before kept) k ≡ true → ⊥))
        tested k =
            retested (bit_difference job_limit (without job_limit lives i) (union before kept) k (without_lt job_limit lives i fits) narrow)
            (retested (bit_without job_limit lives i k fits place) (holds (bit lives k) and negated (eq i k)) and negated (holds (bit (union before kept) k)))

        go : (k : ℕ) → (bit lives k ≡ true) × (i ≢ k) → bit w k ≡ false → (t : Bool) → bit set k ≡ t → OrderKnown latest lengths i valids before after end k
        go k l out true e = inl (left.done k e out)
        go k l out false e =
            let has = is_true (bit (union before kept) k) λ f. refuted e ((tested k).show (l, refuted f)) in
            inr (⊎_elim inl (λ x. inr (apart.member k x)) (or_parts (bit before k) (bit kept k) (sym (bit_union before kept k) ∙ has)))

-- ---- R1

-- all jobs after m are in w
abbrev Inside : List ℕ → ℕ → ℕ → Type 0
Inside after m w = (c : ℕ) → bit (get_or after m 0) c ≡ true → bit w c ≡ true

-- x lies after a job of the set of which all jobs after it are in w
abbrev Via : List ℕ → ℕ → ℕ → ℕ → Type 0
Via after set w x = (m : ℕ) × (bit set m ≡ true) × (bit (get_or after m 0) x ≡ true) × Inside after m w

abbrev pub Reaches : List ℕ → ℕ → ℕ → Type 0
Reaches after set w = (x : ℕ) → bit set x ≡ true → Inside after x w ⊎ Via after set w x

-- a walk over the set: the jobs `left` are still to be looked at, and `all` holds the jobs after those looked at
pub record Looked (after : List ℕ) (set left all : ℕ) : Type 0 where
  pub width : left < 2 ^ job_limit
  pub inside : (x : ℕ) → bit left x ≡ true → bit set x ≡ true
  pub via : (x : ℕ) → bit all x ≡ true → Via after set all x
  pub done : (x : ℕ) → bit set x ≡ true → bit left x ≡ false → Inside after x all ⊎ Via after set all x

pub none_looked : (after : List ℕ) (set : ℕ) → set < 2 ^ job_limit → Looked after set set 0
none_looked after set fits =
    record {
      width = fits;
      inside = λ x e. e;
      via = λ x e. absurd (refuted (bit_zero x) e);
      done = λ x e out. absurd (refuted out e);
    }

-- the next job k that is left is looked at
module _ {after : List ℕ} {set left all k others : ℕ} {downward : Bool} (p : Looked after set left all) (taken : Takes job_limit downward left k others) (narrow : union all (get_or after k 0) < 2 ^ job_limit) where
  abbrev next : ℕ
  next = union all (get_or after k 0)

  abbrev rest : ℕ
  rest = difference job_limit others next

  fits : others < 2 ^ job_limit
  fits = omega (arith, taken.falls, p.width)

  still : (x : ℕ) → Decides (bit rest x) (((bit left x ≡ true) × (k ≢ x)) × (bit next x ≡ true → ⊥))
  still x =
      retested (bit_difference job_limit others next x fits narrow)
      (retested (ap (λ w. bit w x) taken.left ∙ bit_without job_limit left k x p.width taken.width) (holds (bit left x) and negated (eq k x)) and negated (holds (bit next x)))

  wider : (m : ℕ) → Inside after m all → Inside after m next
  wider m h c e = bit_union all (get_or after k 0) c ∙ rw (h c e)

  now : Inside after k next
  now c e = bit_union all (get_or after k 0) c ∙ rw e (or-true (bit all c))

  more : (x : ℕ) → Via after set all x → Via after set next x
  more x (m, i, e, h) = (m, i, e, wider m h)

  reached : (x : ℕ) → bit next x ≡ true → Via after set next x
  reached x e =
      ⊎_elim (λ o. more x (p.via x o)) (λ n. (k, p.inside k taken.member, n, now))
      (or_parts (bit all x) (bit (get_or after k 0) x) (sym (bit_union all (get_or after k 0) x) ∙ e))

  passed : (x : ℕ) → bit set x ≡ true → bit rest x ≡ false → (t : Bool) → bit left x ≡ t → Dec (k ≡ x) → Inside after x next ⊎ Via after set next x
  passed x e out false d same = ⊎_elim (λ h. inl (wider x h)) (λ v. inr (more x v)) (p.done x e d)
  passed x e out true d (yes same) = inl (subst (λ y. Inside after y next) same now)
  passed x e out true d (no ne) = inr (reached x (is_true (bit next x) λ f. refuted out ((still x).show ((d, ne), refuted f))))

  pub look : Looked after set rest next
  look =
      record {
        width = difference_lt job_limit _ _ fits;
        inside = λ x e. p.inside x ((still x).yes e).0.0;
        via = reached;
        done = λ x e out. passed x e out (bit left x) refl (ℕ_discrete k x);
      }

  pub look_falls : rest < left
  look_falls = part_below rest left k (λ x e. ((still x).yes e).0.0) taken.member (λ e. ((still k).yes e).0.1 refl)

-- there are arcs from i to all jobs after m
abbrev JoinsAll : List ℕ → ℕ → ℕ → ℕ → Type 0
JoinsAll afters i after m = (c : ℕ) → bit (get_or afters m 0) c ≡ true → i ≢ c → bit after c ≡ true

-- there are arcs from i to all jobs after k, or k lies after such a job, valid and after i
abbrev pub JoinKnown : List ℕ → ℕ → ℕ → ℕ → ℕ → Type 0
JoinKnown afters i valids after k =
    JoinsAll afters i after k ⊎ ((m : ℕ) × (bit after m ≡ true) × (bit valids m ≡ true) × (bit (get_or afters m 0) k ≡ true) × JoinsAll afters i after m)

abbrev pub JoinLeft : List ℕ → ℕ → ℕ → ℕ → ℕ → Type 0
JoinLeft afters i valids after = Left (λ k. (bit after k ≡ true) × (bit valids k ≡ true)) (JoinKnown afters i valids after)

module _ (afters : List ℕ) (i valids after through : ℕ) (is : through ≡ intersection after valids) where
  through_bit : (k : ℕ) → Decides (bit through k) ((bit after k ≡ true) × (bit valids k ≡ true))
  through_bit k = retested (ap (λ w. bit w k) is ∙ bit_intersection after valids k) (holds (bit after k) and holds (bit valids k))

  pub none_joined : (onward : ℕ) → onward < 2 ^ job_limit → after < 2 ^ job_limit → i < job_limit → Reaches afters through onward
      → difference job_limit (without job_limit onward i) after ≡ 0 → JoinLeft afters i valids after 0
  none_joined onward fits narrow place reaches empty =
      record {
        member = λ k e. absurd (refuted (bit_zero k) e);
        done = λ k l out. ⊎_elim (λ h. inl (joins k h)) (λ (m, t, e, h). let (a, v) = (through_bit m).yes t in inr (m, a, v, e, joins m h)) (reaches k ((through_bit k).show l));
      }
    where
      joins : (m : ℕ) → Inside afters m onward → JoinsAll afters i after m
      joins m h c e ne =
          subset_yes job_limit (without job_limit onward i) after (without_lt job_limit onward i fits) narrow empty c
          ((retested (bit_without job_limit onward i c fits place) (holds (bit onward c) and negated (eq i c))).show (h c e, ne))

  pub all_joined : JoinLeft afters i valids after through
  all_joined =
      record {
        member = λ k e. (through_bit k).yes e;
        done = λ k l out. absurd (refuted out ((through_bit k).show l));
      }
