-- The search at one job, over numbers: R4 and R5 on one side, and R6.
use Rattle.std.specs.Prelude.{◌≡◌, refl, ◌≢◌, ◌⊎◌, Bool, true, false, List, ℕ, ℤ, pos, ◌+ℤ◌, get_or, ◌<ℤ◌}
use Rattle.std.proofs.Math.Path.{subst⁻¹}
use Rattle.std.proofs.Common.{inl, inr}
use Rattle.std.proofs.Math.Option.{Option, none, some}
use Rattle.std.specs.Int.Signed.{le_z}
use Rattle.ground_sets.specs.Bit.{bit}
use Rattle.ground_sets.specs.BitLaws.{bit_intersection}
use Rattle.ground_arithmetic.specs.Bools.{refuted}
use Rattle.ground_arithmetic.specs.Linear.{whole}
use Rattle.paper_board.specs.declared.Board.{Board}
use Rattle.paper_board.specs.Paper.View.{View, Live, Valid, Side, early, late, Beyond, view, row_of}
use Rattle.paper_board.specs.Paper.Limits.{Within}
use Rattle.paper_board.specs.Paper.Facts.{Fact, is_bound, is_invalid, Holds}
use Rattle.paper_rules.specs.Paper.Rules.{E, D, L}
use Rattle.paper_board.specs.Paper.Tests.{valid}
use Rattle.paper_board.specs.BoardTests.Live.{roomy}
use Rattle.paper_board.specs.BoardTests.Decides.{Decides, retested, ◌and◌, holds, valid_is}
use Rattle.paper_rules.specs.Inference.Infers.{Infers, r45, r6}
use Rattle.engine_sums.specs.Sums.{Sum, bound_at}
use Rattle.engine_sums.specs.RaiseExact.{times_of, bound_is, energy_is, sum_beyond, sum_of, exceeds_beyond}
use Rattle.paper_rules.specs.Inference.SumBeyond.{sum_pushes, pushing_sum}
use Rattle.engine_bound_beyond.specs.BoundBeyond.{LastUnder, BoundBeyond, pushing}
use Rattle.engine_findings.specs.Searched.{Searched, JobsObey}
use Rattle.engine_job_rules.specs.SideSettled.{SideSettled, LastEnds, all_obeyed}

-- ---- one side

-- the words of the jobs that lie beyond each job on side s
abbrev pub side_words : Board → Side → List ℕ
side_words b early = b.before
side_words b late = b.after

-- the numbers and words are those of the board on side s
pub record SideRead (b : Board) (s : Side) (times lengths : List ℤ) (beyond : List ℕ) (valids : ℕ) : Type 0 where
  pub within : Within b
  pub is_times : times ≡ times_of b s
  pub is_lengths : lengths ≡ b.lengths
  pub is_beyond : beyond ≡ side_words b s
  pub is_valid : (x : ℕ) → bit valids x ≡ valid (view b) x

-- where another job represents job j on side s, R4 or R5 is settled at j (`engine_dominance`)
abbrev pub Represented : View → Side → ℕ → ℕ → Type 0
Represented v s r j = r ≢ j → SideSettled v s j

abbrev pub SideSearched : Side → ℕ → ℕ → List ℤ → List ℤ → List ℕ → ℕ → Option Fact → Type 0
SideSearched s j r times lengths beyond valids o =
    (b : Board) → SideRead b s times lengths beyond valids → Live (view b) j → Represented (view b) s r j
    → Searched (view b) (SideSettled (view b) s j) o

-- a sum of valid jobs beyond j that is above its bound is what R4 or R5 infers, and not shown yet
pub sum_infers : (b : Board) → Within b → (s : Side) (j w : ℕ) → Live (view b) j
    → ((k : ℕ) → bit w k ≡ true → Valid (view b) k × Beyond (view b) s k j)
    → (z : ℤ) → Sum s (times_of b s) b.lengths w z → bound_at s (times_of b s) j <ℤ z
    → Infers (view b) (is_bound s j z) × (Holds (view b) (is_bound s j z) → ⊥)
sum_infers b h s j w live members z p above =
    let sum = sum_beyond b h s j w members z p in (
      subst⁻¹ (λ x. Infers (view b) (is_bound s j x)) sum.is (r45 s j sum.set _ live (sum_pushes (view b) s j z sum)),
      λ m. omega (whole, m.1 live, bound_is b s j),
    )

-- a bound as a fact
abbrev pub told : Side → ℕ → Option ℤ → Option Fact
told s j none = none
told s j (some z) = some (is_bound s j z)

pub beyond_bit : (b : Board) → Within b → (s : Side) (j k : ℕ) → Decides (bit (get_or (side_words b s) j 0) k) (Beyond (view b) s k j)
beyond_bit b h early j k = retested (h.twice k j) (holds ((view b).arc k j))
beyond_bit b h late j k = holds ((view b).arc j k)

module _ (b : Board) (h : Within b) (valids : ℕ) (is_valid : (x : ℕ) → bit valids x ≡ valid (view b) x) where
  pub pushing_bit : (s : Side) (j k : ℕ) → Decides (bit (pushing (side_words b s) valids j) k) (Valid (view b) k × Beyond (view b) s k j)
  pushing_bit s j k =
      retested (bit_intersection valids (get_or (side_words b s) j 0) k) (retested (is_valid k) (valid_is (view b) k) and beyond_bit b h s j k)

  last_ends : (s : Side) (j : ℕ) → LastUnder s (times_of b s) b.lengths (side_words b s) (pushing (side_words b s) valids j) j → LastEnds (view b) s j
  last_ends s j l =
      record {
        last = l.last;
        valid = ((pushing_bit s j l.last).yes l.member).0;
        apart = bit l.rest;
        others = others;
        together = rw (← bound_is b s j, ← bound_is b s l.last, ← energy_is b h (bit l.rest) (λ k e. (members k e).0)) l.ends.together;
        sums = λ S m p within.
            let (y, sum, up, part) = pushing_sum (view b) s j S m p in
            omega (whole, up, l.ends.sums y (sum_of b h s j l.rest y sum λ k e. within k (part k e)), bound_is b s j);
      }
    where
      members : (k : ℕ) → bit l.rest k ≡ true → Valid (view b) k × Beyond (view b) s k j
      members k e = (pushing_bit s j k).yes ((l.apart k).yes e).0.0

      others : (k : ℕ) → Valid (view b) k → Beyond (view b) s k j → l.last ≢ k → Beyond (view b) s k l.last ⊎ (bit l.rest k ≡ true)
      others k v beyond ne = go (bit (get_or (side_words b s) l.last 0) k) refl
        where
          go : (t : Bool) → bit (get_or (side_words b s) l.last 0) k ≡ t → Beyond (view b) s k l.last ⊎ (bit l.rest k ≡ true)
          go true e = inl ((beyond_bit b h s l.last k).yes e)
          go false e = inr ((l.apart k).show (((pushing_bit s j k).show (v, beyond), ne), refuted e))

  side_says : (s : Side) (j : ℕ) → Live (view b) j → (o : Option ℤ)
      → BoundBeyond s (times_of b s) b.lengths (side_words b s) valids j o
      → Searched (view b) (SideSettled (view b) s j) (told s j o)
  side_says s j live none (inl under) = inl λ S m p.
      let (y, sum, l, _) = pushing_sum (view b) s j S m p in
      omega (whole, l, exceeds_beyond b h s j _ (pushing_bit s j) (bound_at s (times_of b s) j) none under y sum, bound_is b s j)
  side_says s j live none (inr l) = inr (last_ends s j l)
  side_says s j live (some z) (p, above) = sum_infers b h s j _ live (λ k e. (pushing_bit s j k).yes e) z p above

pub side_searched : {s : Side} {j r : ℕ} {times lengths : List ℤ} {beyond : List ℕ} {valids : ℕ} (o : Option ℤ)
    → BoundBeyond s times lengths beyond valids j o → SideSearched s j r times lengths beyond valids (told s j o)
side_searched {s} {j} {valids = valids} o g b h live _ =
    side_says b h.within valids h.is_valid s j live o (rw (h.is_times, h.is_lengths, h.is_beyond) at g)

-- ---- a job

-- the view shows what R6 infers of job i, and R4 and R5 are settled there
pub record JobSettled (v : View) (i : ℕ) : Type 0 where
  pub room : D v i <ℤ (E v i +ℤ L v i) → ⊥
  pub settled : (s : Side) → SideSettled v s i

-- the numbers and words are those of the board
pub record JobRead (b : Board) (earliest latest lengths : List ℤ) (before after : List ℕ) (valids : ℕ) : Type 0 where
  pub within : Within b
  pub is_earliest : earliest ≡ b.earliest
  pub is_latest : latest ≡ b.latest
  pub is_lengths : lengths ≡ b.lengths
  pub is_before : before ≡ b.before
  pub is_after : after ≡ b.after
  pub is_valid : (x : ℕ) → bit valids x ≡ valid (view b) x

abbrev pub JobSearched : ℕ → ℕ → ℕ → List ℤ → List ℤ → List ℤ → List ℕ → List ℕ → ℕ → Option Fact → Type 0
JobSearched i p q earliest latest lengths before after valids o =
    (b : Board) → JobRead b earliest latest lengths before after valids → Live (view b) i
    → Represented (view b) early p i → Represented (view b) late q i → Searched (view b) (JobSettled (view b) i) o

module _ {b : Board} {earliest latest lengths : List ℤ} {before after : List ℕ} {valids : ℕ} (h : JobRead b earliest latest lengths before after valids) where
  pub read_early : SideRead b early earliest lengths before valids
  read_early =
      record { within = h.within; is_times = h.is_earliest; is_lengths = h.is_lengths; is_beyond = h.is_before; is_valid = h.is_valid }

  pub read_late : SideRead b late latest lengths after valids
  read_late =
      record { within = h.within; is_times = h.is_latest; is_lengths = h.is_lengths; is_beyond = h.is_after; is_valid = h.is_valid }

  pub room_is : (i : ℕ) → le_z (get_or earliest i (pos 0) +ℤ get_or lengths i (pos 0)) (get_or latest i (pos 0)) ≡ roomy (row_of b i)
  room_is i = rw (h.is_earliest, h.is_latest, h.is_lengths)

module _ (b : Board) (i : ℕ) (live : Live (view b) i) where
  -- R6
  pub says_room : roomy (row_of b i) ≡ false → Searched (view b) (JobSettled (view b) i) (some (is_invalid i))
  says_room e = (r6 i live (omega whole), λ m. live.1 m.1)

  -- R5, where R6 and R4 find nothing
  pub says_late : roomy (row_of b i) ≡ true → SideSettled (view b) early i
      → (o : Option Fact) → Searched (view b) (SideSettled (view b) late i) o → Searched (view b) (JobSettled (view b) i) o
  says_late e x (some f) y = y
  says_late e x none y = record { room = λ l. omega whole; settled = side }
    where
      side : (s : Side) → SideSettled (view b) s i
      side early = x
      side late = y

-- where nothing is found at any job, R4 to R6 are obeyed at each
pub jobs_settled_obey : (b : Board) → Within b → ((i : ℕ) → Live (view b) i → JobSettled (view b) i) → JobsObey (view b)
jobs_settled_obey b h jobs i live =
    record { room = (jobs i live).room; pushed = λ s. all_obeyed b h s (λ j l. (jobs j l).settled s) i live }
