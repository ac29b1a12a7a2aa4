-- A turn of propagation: arcs, or a window on one side, from the board that the turn before has left.
use Rattle.std.specs.Prelude.{◌≡◌, refl, true, List, ℕ, ℤ}
use Rattle.std.proofs.Common.{sym, ◌∙◌}
use Rattle.std.proofs.Math.Option.{some}
use Rattle.ground_sets.specs.Bit.{bit, intersection, union, difference}
use Rattle.ground_sets.specs.BitLaws.{bit_intersection}
use Rattle.ground_arithmetic.specs.Bools.{and_parts}
use Rattle.paper_board.specs.declared.Board.{Board}
use Rattle.paper_board.specs.Paper.View.{Live, Valid, early, late, view}
use Rattle.paper_board.specs.Paper.Limits.{job_limit}
use Rattle.paper_board.specs.Paper.Parts.{filled}
use Rattle.paper_rules.specs.Update.Derives.{Derived, derives_then}
use Rattle.paper_board.specs.BoardTests.Sets.{subset_difference}
use Rattle.engine_exclusion.specs.Gone.{AllGone, Crossed, Unfit, none_gone, both_gone, gone_before, crossed_gone, unfit_gone}
use Rattle.engine_arcs.specs.Arcs.{Sound}
use Rattle.engine_detection.specs.Detection.{AllLive}
use Rattle.engine_transitivity.specs.Transitivity.{AllValid}
use Rattle.engine_precedence.specs.Precedence.{Raises, PrecedenceRead, Shuts}

-- live jobs of the board and valid ones, and its arrays
pub record Marked (live valids : ℕ) (earliest latest lengths : List ℤ) (b : Board) : Type 0 where
  pub lives : AllLive live earliest latest lengths b
  pub sound : AllValid valids b

-- the board b with other windows and arcs
abbrev pub tabled : Board → List ℤ → List ℤ → List ℕ → List ℕ → Board
tabled b earliest latest before after = filled b b.lengths earliest latest b.marks after before

-- After some turns from the board b: the words are those of live and of valid jobs of b, and the arrays were derived from it.
pub record Turns (b : Board) (live valids : ℕ) (earliest latest : List ℤ) (before after : List ℕ) : Type 0 where
  pub lives : (x : ℕ) → bit live x ≡ true → Live (view b) x
  pub sound : (x : ℕ) → bit valids x ≡ true → Valid (view b) x
  pub derived : Derived b (tabled b earliest latest before after)

module _ (b : Board) (live valids : ℕ) (earliest latest : List ℤ) (before after : List ℕ) (h : Turns b live valids earliest latest before after) where
  abbrev at : Board
  at = tabled b earliest latest before after

  -- a run from there
  on : (earliest' latest' : List ℤ) (before' after' : List ℕ) → Derived at (tabled b earliest' latest' before' after')
      → Turns b live valids earliest' latest' before' after'
  on earliest' latest' before' after' run =
      let end = tabled b earliest' latest' before' after' in
      record { lives = h.lives; sound = h.sound; derived = derives_then b at h.derived (some end) run }

  turn_arcs : (before' after' : List ℕ) → Sound (Marked live valids earliest latest b.lengths) before after before' after'
      → Turns b live valids earliest latest before' after'
  turn_arcs before' after' run =
      on earliest latest before' after' (run at h.derived.more.within
      (record { lives = record { members = h.lives; read = record { is_earliest = refl; is_latest = refl; is_lengths = refl } }; sound = h.sound }))

  turn_early : (times : List ℤ) → Raises early (PrecedenceRead early latest b.lengths before valids) earliest times
      → Turns b live valids times latest before after
  turn_early times run =
      on times latest before after (run at h.derived.more.within
      (record { is_fixed = refl; is_lengths = refl; is_beyond = refl; sound = h.sound }))

  turn_late : (times : List ℤ) → Raises late (PrecedenceRead late earliest b.lengths after valids) latest times
      → Turns b live valids earliest times before after
  turn_late times run =
      on earliest times before after (run at h.derived.more.within
      (record { is_fixed = refl; is_lengths = refl; is_beyond = refl; sound = h.sound }))

-- where a turn leads, from any board
abbrev pub Onward : ℕ → ℕ → List ℤ → List ℤ → List ℤ → List ℕ → List ℕ → List ℤ → List ℤ → List ℕ → List ℕ → Type 0
Onward live valids lengths earliest latest before after earliest' latest' before' after' =
    (b : Board) → b.lengths ≡ lengths → Turns b live valids earliest latest before after → Turns b live valids earliest' latest' before' after'

-- from any such board the jobs of a set can't stay
abbrev pub Shut : ℕ → ℕ → List ℤ → List ℤ → List ℤ → List ℕ → List ℕ → ℕ → Type 0
Shut live valids lengths earliest latest before after stuck =
    (b : Board) → b.lengths ≡ lengths → Turns b live valids earliest latest before after → AllGone b stuck

-- the same from one board on, and to another
abbrev pub BoardOnward : ℕ → ℕ → Board → Board → Type 0
BoardOnward live valids b c = Onward live valids b.lengths b.earliest b.latest b.before b.after c.earliest c.latest c.before c.after

abbrev pub BoardShut : ℕ → ℕ → Board → ℕ → Type 0
BoardShut live valids b stuck = Shut live valids b.lengths b.earliest b.latest b.before b.after stuck

-- the two boards differ in windows and arcs alone
abbrev pub TablesAlone : Board → Board → Type 0
TablesAlone b c = c ≡ tabled b c.earliest c.latest c.before c.after

pub shut_none : (live valids : ℕ) (lengths earliest latest : List ℤ) (before after : List ℕ) → Shut live valids lengths earliest latest before after 0
shut_none live valids lengths earliest latest before after b same h = none_gone b

pub shut_early : (live valids : ℕ) (lengths earliest latest : List ℤ) (before after : List ℕ) (stuck : ℕ)
    → Shuts early (PrecedenceRead early latest lengths before valids) earliest stuck → Shut live valids lengths earliest latest before after stuck
shut_early live valids lengths earliest latest before after stuck shuts b same h =
    let at = tabled b earliest latest before after in
    let read : PrecedenceRead early latest lengths before valids at = record { is_fixed = refl; is_lengths = same; is_beyond = refl; sound = h.sound } in
    gone_before b at h.derived stuck (shuts at h.derived.more.within read)

pub shut_late : (live valids : ℕ) (lengths earliest latest : List ℤ) (before after : List ℕ) (stuck : ℕ)
    → Shuts late (PrecedenceRead late earliest lengths after valids) latest stuck → Shut live valids lengths earliest latest before after stuck
shut_late live valids lengths earliest latest before after stuck shuts b same h =
    let at = tabled b earliest latest before after in
    let read : PrecedenceRead late earliest lengths after valids at = record { is_fixed = refl; is_lengths = same; is_beyond = refl; sound = h.sound } in
    gone_before b at h.derived stuck (shuts at h.derived.more.within read)

-- R2
pub shut_crossed : (live valids : ℕ) (lengths earliest latest : List ℤ) (before after : List ℕ) (w set found : ℕ) → set ≡ intersection w valids
    → Crossed before after set found → Shut live valids lengths earliest latest before after found
shut_crossed live valids lengths earliest latest before after w set found e crossed b same h =
    let at = tabled b earliest latest before after in
    gone_before b at h.derived found (crossed_gone at h.derived.more.within set found members crossed)
  where
    members : (k : ℕ) → bit set k ≡ true → Valid (view b) k
    members k i = h.sound k (and_parts (bit w k) (bit valids k) (sym (bit_intersection w valids k) ∙ (rw e at i))).1

-- R6
pub shut_unfit : (live valids : ℕ) (lengths earliest latest : List ℤ) (before after : List ℕ) (w set found : ℕ) → set ≡ intersection w live
    → Unfit earliest latest lengths set found → Shut live valids lengths earliest latest before after found
shut_unfit live valids lengths earliest latest before after w set found e unfit b same h =
    let at = tabled b earliest latest before after in
    gone_before b at h.derived found (unfit_gone at set found members (rw (← same) at unfit))
  where
    members : (k : ℕ) → bit set k ≡ true → Live (view b) k
    members k i = h.lives k (and_parts (bit w k) (bit live k) (sym (bit_intersection w live k) ∙ (rw e at i))).1

-- nothing
pub stays : (live valids : ℕ) (lengths earliest latest : List ℤ) (before after : List ℕ) → Onward live valids lengths earliest latest before after earliest latest before after
stays live valids lengths earliest latest before after b same h = h

-- the arcs alone
arcs_alone : (live valids : ℕ) (lengths earliest latest : List ℤ) (before after before' after' : List ℕ)
    → Sound (Marked live valids earliest latest lengths) before after before' after'
    → Onward live valids lengths earliest latest before after earliest latest before' after'
arcs_alone live valids lengths earliest latest before after before' after' arcs b same h =
    turn_arcs b live valids earliest latest before after h before' after' (rw (← same) at arcs)

-- arcs by R3
pub arcs_detected : (live valids : ℕ) (lengths earliest latest : List ℤ) (before after before' after' : List ℕ)
    → Sound (AllLive live earliest latest lengths) before after before' after'
    → Onward live valids lengths earliest latest before after earliest latest before' after'
arcs_detected live valids lengths earliest latest before after before' after' detected =
    arcs_alone live valids lengths earliest latest before after before' after' (λ b h p. detected b h p.lives)

-- arcs by R1
pub arcs_joined : (live valids : ℕ) (lengths earliest latest : List ℤ) (before after before' after' : List ℕ) (w through : ℕ)
    → through ≡ intersection w valids → Sound (AllValid through) before after before' after'
    → Onward live valids lengths earliest latest before after earliest latest before' after'
arcs_joined live valids lengths earliest latest before after before' after' w through e joined =
    arcs_alone live valids lengths earliest latest before after before' after' λ b h p. joined b h λ x m.
    p.sound x (and_parts (bit w x) (bit valids x) (sym (bit_intersection w valids x) ∙ (rw e at m))).1

-- the windows on one side
pub early_alone : (live valids : ℕ) (lengths earliest latest : List ℤ) (before after : List ℕ) (earliest' : List ℤ)
    → Raises early (PrecedenceRead early latest lengths before valids) earliest earliest'
    → Onward live valids lengths earliest latest before after earliest' latest before after
early_alone live valids lengths earliest latest before after earliest' raised b same h =
    turn_early b live valids earliest latest before after h earliest' (rw (← same) at raised)

pub late_alone : (live valids : ℕ) (lengths earliest latest : List ℤ) (before after : List ℕ) (latest' : List ℤ)
    → Raises late (PrecedenceRead late earliest lengths after valids) latest latest'
    → Onward live valids lengths earliest latest before after earliest latest' before after
late_alone live valids lengths earliest latest before after latest' lowered b same h =
    turn_late b live valids earliest latest before after h latest' (rw (← same) at lowered)

-- Some turns from any such board: the arrays that they lead to, the jobs that are still looked at, and those that can't stay.
abbrev pub Run : ℕ → ℕ → ℕ → List ℤ → List ℤ → List ℤ → List ℕ → List ℕ → List ℤ → List ℤ → List ℕ → List ℕ → ℕ → Type 0
Run live rest valids lengths earliest latest before after earliest' latest' before' after' stuck =
    (b : Board) → b.lengths ≡ lengths → Turns b live valids earliest latest before after → Turns b rest valids earliest' latest' before' after' × AllGone b stuck

pub run_none : (live valids : ℕ) (lengths earliest latest : List ℤ) (before after : List ℕ)
    → Run live live valids lengths earliest latest before after earliest latest before after 0
run_none live valids lengths earliest latest before after b same h = (h, none_gone b)

module _ (live rest valids : ℕ) (lengths earliest latest : List ℤ) (before after : List ℕ) (earliest' latest' : List ℤ) (before' after' : List ℕ) (stuck : ℕ)
    (run : Run live rest valids lengths earliest latest before after earliest' latest' before' after' stuck) where
  -- one turn more: nothing is asked any more of those that it finds
  pub run_on : (earliest'' latest'' : List ℤ) (before'' after'' : List ℕ) (more rest' stuck' : ℕ)
      → Onward rest valids lengths earliest' latest' before' after' earliest'' latest'' before'' after'' → Shut rest valids lengths earliest' latest' before' after' more
      → rest' ≡ difference job_limit rest more → stuck' ≡ union stuck more
      → Run live rest' valids lengths earliest latest before after earliest'' latest'' before'' after'' stuck'
  run_on earliest'' latest'' before'' after'' more rest' stuck' onward shut e d b same h =
      let (at, gone) = run b same h in
      let next = onward b same at in
      (record { lives = λ x m. at.lives x (subset_difference rest more x (rw e at m)); sound = next.sound; derived = next.derived }, both_gone b stuck more gone (shut b same at) stuck' d)

  -- all of it
  pub run_onward : Onward live valids lengths earliest latest before after earliest' latest' before' after'
  run_onward b same h = record { lives = h.lives; sound = h.sound; derived = (run b same h).0.derived }

  pub run_shut : Shut live valids lengths earliest latest before after stuck
  run_shut b same h = (run b same h).1
