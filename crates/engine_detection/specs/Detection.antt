-- Detectable precedence is sound: a job that would end too late after another comes before it, as R3 infers.
use Rattle.std.specs.Prelude.{◌≡◌, true, List, ◌≢◌, ℕ, ◌<◌, ◌^◌, ℤ, pos, ◌+ℤ◌, get_or, set}
use Rattle.std.proofs.Common.{sym, ap}
use Rattle.std.specs.Int.Signed.{lt_z}
use Rattle.ground_sets.specs.Bit.{bit, difference, with, without}
use Rattle.ground_sets.specs.BitLaws.{bit_difference, bit_without, without_lt}
use Rattle.ground_arithmetic.specs.Linear.{whole}
use Rattle.paper_board.specs.declared.Board.{Board}
use Rattle.paper_board.specs.Paper.View.{Live, view}
use Rattle.paper_board.specs.Paper.Limits.{job_limit}
use Rattle.paper_board.specs.BoardTests.Decides.{retested, ◌and◌, negated, holds, eq}
use Rattle.paper_rules.specs.Inference.Infers.{r3}
use Rattle.paper_board.specs.BoardTests.Sets.{Subset}
use Rattle.engine_sums.specs.Sums.{Times, Lengths}
use Rattle.engine_arcs.specs.Arcs.{ArcsAlone, Sound, sound_none, sound_link, sound_then}

-- the windows of the board and its lengths are in range
abbrev pub WindowsInRange : Board → Type 0
WindowsInRange b = Times b.earliest × Times b.latest × Lengths b.lengths

-- where P, said of a board's windows and lengths, holds of the board b, inferences lead from its arcs to those of c
abbrev pub BoardSound : (List ℤ → List ℤ → List ℤ → Board → Type 0) → Board → Board → Type 0
BoardSound P b c = Sound (P b.earliest b.latest b.lengths) b.before b.after c.before c.after

-- what has been inferred since from a board that differs in arcs alone
pub sound_since : (P : List ℤ → List ℤ → List ℤ → Board → Type 0) (b c d : Board) → ArcsAlone b c → BoardSound P c d
    → Sound (P b.earliest b.latest b.lengths) c.before c.after d.before d.after
sound_since P b c d kept run = rw (ap (λ x. x.earliest) kept, ap (λ x. x.latest) kept, ap (λ x. x.lengths) kept) at run

-- the arrays are the board's own
pub record ArraysRead (earliest latest lengths : List ℤ) (b : Board) : Type 0 where
  pub is_earliest : b.earliest ≡ earliest
  pub is_latest : b.latest ≡ latest
  pub is_lengths : b.lengths ≡ lengths

-- two live jobs of the board
pub record Pair (first second : ℕ) (earliest latest lengths : List ℤ) (b : Board) : Type 0 where
  pub live : Live (view b) first × Live (view b) second
  pub differ : first ≢ second
  pub read : ArraysRead earliest latest lengths b

-- a live job of the board, and other live ones
pub record Beside (job others : ℕ) (earliest latest lengths : List ℤ) (b : Board) : Type 0 where
  pub live : Live (view b) job
  pub beside : (k : ℕ) → bit others k ≡ true → Live (view b) k × (job ≢ k)
  pub read : ArraysRead earliest latest lengths b

-- live jobs of the board, and live jobs that they are held against
pub record Meeting (due others : ℕ) (earliest latest lengths : List ℤ) (b : Board) : Type 0 where
  pub lives : (k : ℕ) → bit due k ≡ true → Live (view b) k
  pub beside : (k : ℕ) → bit others k ≡ true → Live (view b) k
  pub read : ArraysRead earliest latest lengths b

-- live jobs of the board
pub record AllLive (live : ℕ) (earliest latest lengths : List ℤ) (b : Board) : Type 0 where
  pub members : (k : ℕ) → bit live k ≡ true → Live (view b) k
  pub read : ArraysRead earliest latest lengths b

module _ (earliest latest lengths : List ℤ) (before after : List ℕ) where
  -- R3 at a pair
  pub detected : (first second : ℕ) (before' after' : List ℕ)
      → lt_z (get_or latest second (pos 0)) (get_or earliest first (pos 0) +ℤ get_or lengths first (pos 0) +ℤ get_or lengths second (pos 0)) ≡ true
      → before' ≡ set before first (with (get_or before first 0) second) → after' ≡ set after second (with (get_or after second 0) first)
      → Sound (Pair first second earliest latest lengths) before after before' after'
  detected first second before' after' late e d =
      sound_link (Pair first second earliest latest lengths) before after before after (sound_none (Pair first second earliest latest lengths) before after)
      second first before' after' e d λ b h p derived.
      let test = rw (← p.read.is_latest, ← p.read.is_lengths, ← p.read.is_earliest) at late in
      r3 first second p.live.0 p.live.1 p.differ (omega (whole, test))

  -- the same pair, named the other way round
  pub turned_pair : (first second : ℕ) (before' after' : List ℕ) → Sound (Pair first second earliest latest lengths) before after before' after'
      → Sound (Pair second first earliest latest lengths) before after before' after'
  turned_pair first second before' after' run b h p =
      run b h (record { live = (p.live.1, p.live.0); differ = λ e. p.differ (sym e); read = p.read })

  -- one other job more
  pub beside_more : (job others : ℕ) (before' after' : List ℕ) → Sound (Beside job others earliest latest lengths) before after before' after'
      → (k : ℕ) → bit others k ≡ true → (before'' after'' : List ℕ) → Sound (Pair job k earliest latest lengths) before' after' before'' after''
      → Sound (Beside job others earliest latest lengths) before after before'' after''
  beside_more job others before' after' run k member before'' after'' rest =
      sound_then (Beside job others earliest latest lengths) before after before' after' run (Pair job k earliest latest lengths) before'' after'' rest
      λ b h p derived. let (live, ne) = p.beside k member in record { live = (p.live, live); differ = ne; read = record { is_earliest = p.read.is_earliest; is_latest = p.read.is_latest; is_lengths = p.read.is_lengths } }

  -- one job more that is due, with the others that are not kept apart from it
  pub job_detected : (due others : ℕ) → others < 2 ^ job_limit → (before' after' : List ℕ) → Sound (Meeting due others earliest latest lengths) before after before' after'
      → (job near apart : ℕ) → job < job_limit → bit due job ≡ true → apart < 2 ^ job_limit
      → near ≡ difference job_limit (without job_limit others job) apart → (before'' after'' : List ℕ)
      → Sound (Beside job near earliest latest lengths) before' after' before'' after''
      → Sound (Meeting due others earliest latest lengths) before after before'' after''
  job_detected due others width before' after' run job near apart place member fits e before'' after'' rest =
      sound_then (Meeting due others earliest latest lengths) before after before' after' run (Beside job near earliest latest lengths) before'' after'' rest
      λ b h p derived. record {
        live = p.lives job member;
        beside = λ k m.
            let tests = retested (bit_difference job_limit (without job_limit others job) apart k (without_lt job_limit others job width) fits)
            (retested (bit_without job_limit others job k width place) (holds (bit others k) and negated (eq job k)) and negated (holds (bit apart k))) in
            let ((live, ne), _) = tests.yes (rw e at m) in
            (p.beside k live, ne);
        read = record { is_earliest = p.read.is_earliest; is_latest = p.read.is_latest; is_lengths = p.read.is_lengths };
      }

  -- jobs that are due, and others, all of them live
  pub all_detected : (live due others : ℕ) → Subset due live → Subset others live → (before' after' : List ℕ)
      → Sound (Meeting due others earliest latest lengths) before after before' after' → Sound (AllLive live earliest latest lengths) before after before' after'
  all_detected live due others those beside before' after' run b h p =
      run b h (record { lives = λ k m. p.members k (those k m); beside = λ k m. p.members k (beside k m); read = p.read })
