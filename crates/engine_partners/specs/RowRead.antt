-- A row of the pairs: what it reads of the board, and that nothing is left to infer at a pair of it that is not among its partners.
use Rattle.std.specs.Prelude.{◌≡◌, ◌≢◌, ◌⊎◌, Bool, true, ◌&&◌, ◌||◌, List, ℕ, ℤ, pos, ◌+ℤ◌, get_or, ◌<ℤ◌}
use Rattle.std.proofs.Common.{sym, ap, ◌∙◌, inl, inr, ⊎_elim}
use Rattle.std.proofs.Math.Bool.{or-true}
use Rattle.std.specs.Int.Signed.{lt_z}
use Rattle.ground_sets.specs.Bit.{bit, union}
use Rattle.ground_sets.specs.BitLaws.{bit_union}
use Rattle.ground_arithmetic.specs.Bools.{refuted, is_false}
use Rattle.ground_arithmetic.specs.Linear.{whole}
use Rattle.paper_board.specs.declared.Board.{Board}
use Rattle.paper_board.specs.Paper.View.{View, Live, Valid, Arc, view}
use Rattle.paper_board.specs.Paper.Limits.{Within}
use Rattle.paper_rules.specs.Paper.Rules.{E, D, L}
use Rattle.paper_board.specs.Paper.Tests.{live, valid}
use Rattle.paper_board.specs.BoardTests.Decides.{Decides, retested, ◌and◌, holds, live_is, valid_is}
use Rattle.engine_pair_rules.specs.PairSearched.{PairRead}
use Rattle.engine_partners.specs.Partners.{OrderKnown, OrderLeft, JoinKnown, JoinLeft, or_parts}
use Rattle.engine_partners.specs.PairSettled.{PairsLeft}

-- the numbers and words are those of the board at the live job i, with `before` and `after` its sets and `end` its earliest end
pub record RowRead (b : Board) (i lives valids before after : ℕ) (end : ℤ) (latest lengths : List ℤ) (afters : List ℕ) : Type 0 where
  pub within : Within b
  pub here : Live (view b) i
  pub is_live : (x : ℕ) → bit lives x ≡ live (view b) x
  pub is_valid : (x : ℕ) → bit valids x ≡ valid (view b) x
  pub is_before : before ≡ get_or b.before i 0
  pub is_after : after ≡ get_or b.after i 0
  pub is_end : end ≡ E (view b) i +ℤ L (view b) i
  pub is_latest : latest ≡ b.latest
  pub is_lengths : lengths ≡ b.lengths
  pub is_afters : afters ≡ b.after

-- the jobs that are left to pair with i, on any board that these are read from
abbrev pub RowLeft : ℕ → ℕ → ℕ → ℕ → ℕ → ℤ → List ℤ → List ℤ → List ℕ → ℕ → Type 0
RowLeft i lives valids before after end latest lengths afters w =
    (b : Board) → RowRead b i lives valids before after end latest lengths afters → PairsLeft (view b) i w

module _ {b : Board} {i lives valids before after : ℕ} {end : ℤ} {latest lengths : List ℤ} {afters : List ℕ}
    (h : RowRead b i lives valids before after end latest lengths afters) where
  abbrev v : View
  v = view b

  live_bit : (x : ℕ) → Decides (bit lives x) (Live v x)
  live_bit x = retested (h.is_live x) (live_is v x)

  valid_bit : (x : ℕ) → Decides (bit valids x) (Valid v x)
  valid_bit x = retested (h.is_valid x) (valid_is v x)

  after_bit : (x : ℕ) → Decides (bit after x) (Arc v i x)
  after_bit x = retested (ap (λ w. bit w x) h.is_after) (holds (v.arc i x))

  before_bit : (x : ℕ) → Decides (bit before x) (Arc v x i)
  before_bit x = retested (ap (λ w. bit w x) h.is_before ∙ h.within.twice x i) (holds (v.arc x i))

  onward_bit : (k x : ℕ) → Decides (bit (get_or afters k 0) x) (Arc v k x)
  onward_bit k x = retested (ap (λ ws. bit (get_or ws k 0) x) h.is_afters) (holds (v.arc k x))

  -- what the search reads at a pair of the row
  pub pair_read : (k : ℕ) → Live v k × (i ≢ k) → (late : Bool) → late ≡ lt_z (get_or latest k (pos 0)) (end +ℤ get_or lengths k (pos 0))
      → PairRead v i k valids after before (get_or afters k 0) late
  pair_read k (l, ne) late is_late =
      record {
        first = h.here;
        second = l;
        differ = ne;
        joins = h.within.limits.arcs;
        valid_bit = valid_bit;
        after_bit = after_bit;
        before_bit = before_bit;
        onward_bit = onward_bit k;
        is_late = is_late ∙ rw (h.is_latest, h.is_lengths, h.is_end);
      }

  one_valid : (k : ℕ) → (bit valids i ≡ true) ⊎ (bit valids k ≡ true) → Valid v i ⊎ Valid v k
  one_valid k = ⊎_elim (λ e. inl ((valid_bit i).yes e)) (λ e. inr ((valid_bit k).yes e))

  order_settled : (k : ℕ) → OrderKnown latest lengths i valids before after end k → D v k <ℤ (E v i +ℤ L v i +ℤ L v k)
      → Arc v k i ⊎ (Arc v i k × (Valid v i ⊎ Valid v k))
  order_settled k (inl in_time) l =
      let now = rw (h.is_end, h.is_latest, h.is_lengths) at in_time in
      absurd (omega (whole, now, l))
  order_settled k (inr (inl e)) l = inl ((before_bit k).yes e)
  order_settled k (inr (inr (e, one))) l = inr ((after_bit k).yes e, one_valid k one)

  join_settled : (k : ℕ) → JoinKnown afters i valids after k
      → ((c : ℕ) → Arc v k c → i ≢ c → Arc v i c) ⊎ ((m : ℕ) × Valid v m × Arc v i m × Arc v m k × ((c : ℕ) → Arc v m c → i ≢ c → Arc v i c))
  join_settled k = ⊎_elim
      (λ joins. inl λ c e ne. (after_bit c).yes (joins c ((onward_bit k c).show e) ne))
      (λ (m, forth, one, on, joins). inr (m, (valid_bit m).yes one, (after_bit m).yes forth, (onward_bit m k).yes on, λ c e ne. (after_bit c).yes (joins c ((onward_bit m c).show e) ne)))

-- the partners by each rule together are all that is left of the row
module _ (i lives valids before after : ℕ) (end : ℤ) (latest lengths : List ℤ) (afters : List ℕ) (late both through : ℕ)
    (ordered : OrderLeft latest lengths i lives valids before after end late)
    (excluded : (k : ℕ) → bit both k ≡ (bit after k && bit before k && bit valids i))
    (joined : JoinLeft afters i valids after through) where
  abbrev all : ℕ
  all = union (union late both) through

  all_bit : (k : ℕ) → bit all k ≡ ((bit late k || bit both k) || bit through k)
  all_bit k = bit_union (union late both) through k ∙ ap (λ t. t || bit through k) (bit_union late both k)

  in_late : (k : ℕ) → bit late k ≡ true → bit all k ≡ true
  in_late k e = all_bit k ∙ rw e

  in_both : (k : ℕ) → bit both k ≡ true → bit all k ≡ true
  in_both k e = all_bit k ∙ rw (e, or-true (bit late k))

  in_through : (k : ℕ) → bit through k ≡ true → bit all k ≡ true
  in_through k e = all_bit k ∙ rw (e, or-true (bit late k || bit both k))

  pub row_left : RowLeft i lives valids before after end latest lengths afters all
  row_left b h =
      record {
        member = λ k e. ⊎_elim (λ m. ⊎_elim (from_late k) (from_both k) (or_parts _ _ m)) (from_through k) (or_parts _ _ (sym (all_bit k) ∙ e));
        done = λ k l out.
            record {
              join = λ vk forth. join_settled h k (joined.done k ((after_bit h k).show forth, (valid_bit h k).show vk) (is_false _ λ e. refuted out (in_through k e)));
              exclude = λ vi forth back. refuted out (in_both k (excluded k ∙ (after_bit h k and before_bit h k and valid_bit h i).show ((forth, back), vi)));
              order = order_settled h k (ordered.done k ((live_bit h k).show l.0, l.1) (is_false _ λ e. refuted out (in_late k e)));
            };
      }
    where
      arc : (k : ℕ) → Arc (view b) i k → Live (view b) k × (i ≢ k)
      arc k e = let (_, l, ne) = h.within.limits.arcs i k e in (l, ne)

      from_late : (k : ℕ) → bit late k ≡ true → Live (view b) k × (i ≢ k)
      from_late k e = let (l, ne) = ordered.member k e in ((live_bit h k).yes l, ne)

      from_both : (k : ℕ) → bit both k ≡ true → Live (view b) k × (i ≢ k)
      from_both k e = arc k ((after_bit h k and before_bit h k and valid_bit h i).yes (sym (excluded k) ∙ e)).0.0

      from_through : (k : ℕ) → bit through k ≡ true → Live (view b) k × (i ≢ k)
      from_through k e = arc k ((after_bit h k).yes (joined.member k e).0)
