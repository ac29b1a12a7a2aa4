-- The computed closure ends, and gives the least board above b that obeys the rules, or there is none.
use Rattle.std.specs.Prelude.{◌≡◌, refl, ℕ, zero, suc, ◌<◌, pos, ◌≤ℤ◌}
use Rattle.std.proofs.Math.Option.{Option, none, some}
use Rattle.std.proofs.Common.{arith}
use Rattle.ground_arithmetic.specs.Linear.{whole}
use Rattle.paper_board.specs.declared.Board.{Board}
use Rattle.paper_board.specs.Paper.View.{Valid, view}
use Rattle.paper_board.specs.Paper.Facts.{Fact, Holds}
use Rattle.paper_rules.specs.Inference.Infers.{Obeys}
use Rattle.paper_board.specs.Paper.Limits.{Within}
use Rattle.paper_rules.specs.Order.OrderLaws.{holds_up}
use Rattle.paper_rules.specs.Inference.Forced.{forced, valid_live}
use Rattle.paper_rules.specs.Update.Extension.{above_self, Extends}
use Rattle.paper_rules.specs.Update.ExtendsThen.{extends_then, one_extension}
use Rattle.paper_rules.specs.Update.Updates.{update, ◌and_then◌}
use Rattle.paper_rules.specs.Update.Updated.{updated}
use Rattle.paper_rules.specs.Update.Derives.{infers_known}
use Rattle.paper_closure.specs.Find.{find}
use Rattle.paper_closure.specs.FindSound.{find_sound}
use Rattle.paper_closure.specs.FindComplete.{find_complete}
use Rattle.paper_closure.specs.Measure.{measure, measure_falls, measure_bound}
use Rattle.paper_closure.specs.Closure.{close, closure}

-- what closing b gives: the least board above b that obeys the rules; or none, where no view above b does
abbrev pub ClosedTo : Board → Option Board → Type 0
ClosedTo b = Extends b.jobs Obeys b

-- the lengths of valid jobs are not negative
pub lengths : (b : Board) → Within b → (k : ℕ) → Valid (view b) k → pos 0 ≤ℤ ((view b).row k).length
lengths b h k v = omega (whole, ((h.limits.rows k).live v.0 (valid_live (view b) k v).1).length.low)

closes : (n : ℕ) (b : Board) → Within b → measure b < n → ClosedTo b (close n b)
unfolding close
closes zero b h m = absurd (omega arith)
closes (suc n) b h m = found (find (view b)) refl (λ c w l. closes n c w l)
  where
    -- what is inferred holds in every view above that obeys the rules, so it costs nothing to demand it first
    found : (o : Option Fact) → find (view b) ≡ o → ((c : Board) → Within c → measure c < n → ClosedTo c (close n c))
        → ClosedTo b (elim o [ none ↦ some b | some f ↦ update b f and_then (λ c. close n c) ])
    found none e rest =
        record { more = above_self b h; meets = find_complete (view b) (lengths b h) e; least = λ w up ob _. up }
    found (some f) e rest =
        let (i, unshown) = find_sound (view b) f e in
        extends_then b.jobs (λ w. Holds w f) Obeys Obeys b
        (λ v w up. holds_up v w up f)
        (λ w _ ob. ob)
        (λ w up ob _. (forced (view b) w up ob f i, ob))
        (update b f)
        (λ c. close n c)
        (updated b h f (infers_known (view b) f i))
        λ c x. rest c x.more.within (omega (arith, measure_falls b c x.more f i unshown x.meets))

pub closure_closes : (b : Board) → Within b → ClosedTo b (closure b)
unfolding closure
closure_closes b h = closes _ b h (omega (arith, measure_bound b h))

-- Which inference comes first doesn't matter: any least board above b that obeys the rules is the computed one.
pub closure_is : (b : Board) → Within b → (o : Option Board) → ClosedTo b o → closure b ≡ o
closure_is b h o x = one_extension b.jobs Obeys b (λ w ob. ob) (closure b) o (closure_closes b h) x
