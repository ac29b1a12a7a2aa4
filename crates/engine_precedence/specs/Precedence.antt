-- Precedence propagation is sound: the bound that valid jobs on one side of a job leave to it is what R4 or R5 infers, and to
-- store it where the job still fits is the update by that bound.
use Rattle.std.specs.Prelude.{◌≡◌, refl, Bool, true, false, List, [], ◌∷◌, ℕ, zero, suc, ℤ, pos, ◌+ℤ◌, get_or, set, ◌≤ℤ◌, ◌<ℤ◌}
use Rattle.std.proofs.Common.{sym, ◌∙◌, subst}
use Rattle.std.proofs.Math.Option.{some}
use Rattle.std.proofs.lemmas.List.{set-get_or}
use Rattle.std.specs.Int.Signed.{le_z, lt_z}
use Rattle.ground_sets.specs.Bit.{bit, with, union}
use Rattle.ground_sets.specs.BitLaws.{bit_intersection}
use Rattle.ground_arithmetic.specs.Bools.{and_parts, is_true}
use Rattle.ground_arithmetic.specs.Linear.{whole, plus, minus}
use Rattle.ground_arithmetic.specs.Time.{Moderate}
use Rattle.paper_board.specs.declared.Board.{Board}
use Rattle.paper_board.specs.Paper.View.{Live, Valid, Side, early, late, Beyond, view}
use Rattle.paper_board.specs.Paper.Facts.{is_bound}
use Rattle.paper_board.specs.Paper.Limits.{IsTime, Within}
use Rattle.paper_board.specs.Paper.Values.{turned}
use Rattle.paper_rules.specs.Inference.Infers.{Infers}
use Rattle.paper_board.specs.BoardTests.Live.{live_show}
use Rattle.paper_board.specs.Paper.Parts.{filled}
use Rattle.paper_rules.specs.Update.Updates.{update, tighten}
use Rattle.paper_rules.specs.Update.Derives.{Derived, Derives, derived_self, derives_then, derives_further}
use Rattle.engine_sums.specs.Sums.{bound_at, length_at, Times, Lengths, Pushes}
use Rattle.engine_sums.specs.RaiseExact.{times_of}
use Rattle.engine_sums.specs.SumLaws.{turned_back, sum_range}
use Rattle.engine_bound_beyond.specs.BoundBeyond.{pushing}
use Rattle.engine_job_rules.specs.JobSearched.{side_words, beyond_bit, sum_infers}
use Rattle.engine_exclusion.specs.Gone.{Gone, AllGone, NoRoom, none_gone, only, both_gone, gone_before, gone_short}
use Rattle.engine_precedence.specs.ModerateTime.{moderate_time}

-- a board's times on the other side than s
abbrev fixed_of : Board → Side → List ℤ
fixed_of b early = b.latest
fixed_of b late = b.earliest

-- the board b with other times on side s
abbrev with_times : Side → Board → List ℤ → Board
with_times early b times = filled b b.lengths times b.latest b.marks b.after b.before
with_times late b times = filled b b.lengths b.earliest times b.marks b.after b.before

-- On any board with the times `times` on side s of which P holds, inferences lead to the times `times'`.
abbrev pub Raises : Side → (Board → Type 0) → List ℤ → List ℤ → Type 0
Raises s P times times' = (b : Board) → Within (with_times s b times) → P (with_times s b times) → Derived (with_times s b times) (with_times s b times')

-- on any such board the jobs of a set can't stay
abbrev pub Shuts : Side → (Board → Type 0) → List ℤ → ℕ → Type 0
Shuts s P times stuck = (b : Board) → Within (with_times s b times) → P (with_times s b times) → AllGone (with_times s b times) stuck

-- the rest of the board as the code reads it: the times on the other side, the lengths, the words of the jobs beyond each job on
-- side s, and valid jobs
pub record PrecedenceRead (s : Side) (fixed lengths : List ℤ) (beyond : List ℕ) (valids : ℕ) (b : Board) : Type 0 where
  pub is_fixed : fixed_of b s ≡ fixed
  pub is_lengths : b.lengths ≡ lengths
  pub is_beyond : side_words b s ≡ beyond
  pub sound : (x : ℕ) → bit valids x ≡ true → Valid (view b) x

-- R6: does a job of that length fit between the time t on side s and the other end of its window?
abbrev pub room : Side → ℤ → ℤ → ℤ → Bool
room early t fixed length = le_z (t +ℤ length) fixed
room late t fixed length = le_z (fixed +ℤ length) t

short : (s : Side) (b : Board) (j : ℕ) (t : ℤ) → room s t (get_or (fixed_of b s) j (pos 0)) (length_at b.lengths j) ≡ false → NoRoom s t (view b) j
short early b j t e = omega whole
short late b j t e = omega whole

-- arcs join live jobs
beyond_live : (b : Board) → Within b → (s : Side) (j k : ℕ) → Beyond (view b) s k j → Live (view b) j
beyond_live b h early j k arc = (h.limits.arcs k j arc).1
beyond_live b h late j k arc = (h.limits.arcs j k arc).0

-- a bound that valid jobs leave is inferred
pushes_infers : (b : Board) → Within b → (valids : ℕ) → ((x : ℕ) → bit valids x ≡ true → Valid (view b) x) → (s : Side) (j : ℕ) (z : ℤ)
    → Pushes s (times_of b s) b.lengths (pushing (side_words b s) valids j) j (some z) → Live (view b) j × Infers (view b) (is_bound s j z)
pushes_infers b h valids sound s j z (sum, above) =
    let live = beyond_live b h s j sum.first (members sum.first (sum.inside sum.first sum.member)).1 in
    (live, (sum_infers b h s j (pushing (side_words b s) valids j) live members z sum above).0)
  where
    members : (k : ℕ) → bit (pushing (side_words b s) valids j) k ≡ true → Valid (view b) k × Beyond (view b) s k j
    members k e =
        let word = get_or (side_words b s) j 0 in
        let (v, w) = and_parts (bit valids k) (bit word k) (sym (bit_intersection valids word k) ∙ e) in
        (sound k v, (beyond_bit b h s j k).yes w)

-- a bound stored where the job still fits is the update by it
moved : (s : Side) (b : Board) (times : List ℤ) (j : ℕ) (t : ℤ) → Live (view (with_times s b times)) j → lt_z (bound_at s times j) (turned s t) ≡ true
    → room s t (get_or (fixed_of (with_times s b times) s) j (pos 0)) (length_at (with_times s b times).lengths j) ≡ true
    → update (with_times s b times) (is_bound s j (turned s t)) ≡ some (with_times s b (set times j t))
unfolding update tighten
moved early b times j t live above fits = rw (live_show (view (with_times early b times)) j live, above, fits) (simp set-get_or)
moved late b times j t live above fits =
    rw (live_show (view (with_times late b times)) j live, above, turned_back late t, fits) (simp set-get_or)

times_are : (s : Side) (b : Board) (times : List ℤ) → times_of (with_times s b times) s ≡ times
times_are early b times = refl
times_are late b times = refl

-- the times on side s are read by nothing else
same_rest : (s : Side) (b : Board) (times times' : List ℤ) (fixed lengths : List ℤ) (beyond : List ℕ) (valids : ℕ)
    → PrecedenceRead s fixed lengths beyond valids (with_times s b times) → PrecedenceRead s fixed lengths beyond valids (with_times s b times')
same_rest early b times times' fixed lengths beyond valids r =
    record { is_fixed = r.is_fixed; is_lengths = r.is_lengths; is_beyond = r.is_beyond; sound = r.sound }
same_rest late b times times' fixed lengths beyond valids r =
    record { is_fixed = r.is_fixed; is_lengths = r.is_lengths; is_beyond = r.is_beyond; sound = r.sound }

module _ (s : Side) (fixed lengths : List ℤ) (beyond : List ℕ) (valids : ℕ) (times : List ℤ) where
  pub raises_none : Raises s (PrecedenceRead s fixed lengths beyond valids) times times
  raises_none b h p = derived_self (with_times s b times) h

  -- one bound more
  pub raises_then : (times' : List ℤ) → Raises s (PrecedenceRead s fixed lengths beyond valids) times times' → (j : ℕ) (t : ℤ)
      → Pushes s times' lengths (pushing beyond valids j) j (some (turned s t))
      → room s t (get_or fixed j (pos 0)) (length_at lengths j) ≡ true
      → Raises s (PrecedenceRead s fixed lengths beyond valids) times (set times' j t)
  raises_then times' run j t push fits b h p =
      let derived = run b h p in
      let c = with_times s b times' in
      let rest = same_rest s b times times' fixed lengths beyond valids p in
      let pushed : Pushes s (times_of c s) c.lengths (pushing (side_words c s) valids j) j (some (turned s t)) =
      rw (times_are s b times', rest.is_lengths, rest.is_beyond) push in
      let (live, infers) = pushes_infers c derived.more.within valids rest.sound s j (turned s t) pushed in
      let above = is_true (lt_z (bound_at s times' j) (turned s t)) (λ e. omega (whole, push.1)) in
      let same = moved s b times' j t live above (rw (rest.is_fixed, rest.is_lengths) fits) in
      subst (Derives (with_times s b times)) same (derives_further (with_times s b times) c derived (is_bound s j (turned s t)) infers)

  pub shuts_none : Shuts s (PrecedenceRead s fixed lengths beyond valids) times 0
  shuts_none b h p = none_gone (with_times s b times)

  -- a job that does not fit with its bound
  pub shuts_job : (j : ℕ) (t : ℤ) → Pushes s times lengths (pushing beyond valids j) j (some (turned s t))
      → room s t (get_or fixed j (pos 0)) (length_at lengths j) ≡ false
      → (it : ℕ) → it ≡ with 0 j → Shuts s (PrecedenceRead s fixed lengths beyond valids) times it
  shuts_job j t push full it e b h p =
      let c = with_times s b times in
      let pushed : Pushes s (times_of c s) c.lengths (pushing (side_words c s) valids j) j (some (turned s t)) =
      rw (times_are s b times, p.is_lengths, p.is_beyond) push in
      let (live, infers) = pushes_infers c h valids p.sound s j (turned s t) pushed in
      let gone : Gone c j = gone_short c s j t live infers (short s c j t (rw (p.is_fixed, p.is_lengths) full)) in
      record { gone = λ x m. subst (Gone c) (only j x (rw e at m)) gone }

  -- one run after another
  raises_on : (times' times'' : List ℤ) → Raises s (PrecedenceRead s fixed lengths beyond valids) times times'
      → Raises s (PrecedenceRead s fixed lengths beyond valids) times' times'' → Raises s (PrecedenceRead s fixed lengths beyond valids) times times''
  raises_on times' times'' run more b h p =
      let derived = run b h p in
      let rest = more b derived.more.within (same_rest s b times times' fixed lengths beyond valids p) in
      derives_then (with_times s b times) (with_times s b times') derived (some (with_times s b times'')) rest

-- some moves, and what can't stay, then more of both
pub pushed_on : (s : Side) (fixed lengths : List ℤ) (beyond : List ℕ) (valids : ℕ) (times times' times'' : List ℤ) (first others all : ℕ)
    → let read = PrecedenceRead s fixed lengths beyond valids in
    Raises s read times times' → Shuts s read times first → Raises s read times' times'' × Shuts s read times' others → all ≡ union first others
    → Raises s read times times'' × Shuts s read times all
pushed_on s fixed lengths beyond valids times times' times'' first others all run shut (more, later) e = (
  raises_on s fixed lengths beyond valids times times' times'' run more,
  λ b h p.
      let derived = run b h p in
      let before = gone_before (with_times s b times) (with_times s b times') derived others
      (later b derived.more.within (same_rest s b times times' fixed lengths beyond valids p)) in
      both_gone (with_times s b times) first others (shut b h p) before all e,
)

-- ---- the times stay times

-- a bound that jobs leave is far from the ends of an i32
pub pushed_moderate : (s : Side) {times lengths : List ℤ} (w j : ℕ) (t : ℤ) → Times times → Lengths lengths
    → Pushes s times lengths w j (some (turned s t)) → Moderate t
pushed_moderate s w j t hours work (sum, above) =
    let (low, high) = sum_range hours work sum in
    moderate_time s t (omega whole, omega whole)

-- a time stored among times
pub times_set : (times : List ℤ) → Times times → (j : ℕ) (t : ℤ) → IsTime t → Times (set times j t)
times_set times h j t is = record { time = go times h.time j }
  where
    go : (l : List ℤ) → ((k : ℕ) → IsTime (get_or l k (pos 0))) → (i k : ℕ) → IsTime (get_or (set l i t) k (pos 0))
    go [] all i k = all k
    go (x ∷ l) all zero zero = is
    go (x ∷ l) all zero (suc k) = all (suc k)
    go (x ∷ l) all (suc i) zero = all zero
    go (x ∷ l) all (suc i) (suc k) = go l (λ m. all (suc m)) i k

-- a bound that is above the old one, and with which the job still fits, is a time
pub room_time : (s : Side) (t old fixed length : ℤ) → IsTime old → IsTime fixed → pos 0 ≤ℤ length → turned s old <ℤ turned s t
    → room s t fixed length ≡ true → IsTime t
room_time early t old fixed length o f l up fits =
    record { low = omega (whole, o.low); high = omega (whole, plus t length, f.high) }
room_time late t old fixed length o f l up fits =
    record { low = omega (whole, plus fixed length, f.low); high = omega (whole, minus t, minus old, o.high) }
