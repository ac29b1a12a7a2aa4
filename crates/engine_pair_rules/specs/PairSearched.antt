-- The search at one pair of jobs, over numbers and words: R1 through the second job, R2 and R3.
use Rattle.std.specs.Prelude.{◌≡◌, ◌≢◌, Bool, true, false, not, ◌&&◌, eqb, ℕ, ◌<◌, ◌^◌, ◌+ℤ◌, ◌<ℤ◌}
use Rattle.std.proofs.Common.{ap, ◌∙◌, eq-eqb, ne_eqb}
use Rattle.std.proofs.Math.Option.{Option, none, some}
use Rattle.std.proofs.Math.Decide.{ℕ_discrete}
use Rattle.std.specs.Int.Signed.{lt_z}
use Rattle.ground_sets.specs.Bit.{bit}
use Rattle.ground_sets.specs.BitLaws.{bit_zero}
use Rattle.ground_walks.specs.Walk.{trailing_lowest}
use Rattle.ground_arithmetic.specs.Bools.{is_true, refuted}
use Rattle.paper_board.specs.Paper.Limits.{job_limit}
use Rattle.paper_board.specs.Paper.View.{View, Live, Valid, Arc}
use Rattle.paper_board.specs.Paper.Facts.{Fact, is_arc, is_invalid}
use Rattle.paper_rules.specs.Paper.Rules.{E, D, L}
use Rattle.paper_board.specs.BoardTests.Decides.{Decides, retested, passed, failed, ◌and◌, negated, eq, earlier}
use Rattle.paper_rules.specs.Inference.Infers.{r1, r2, r3}
use Rattle.engine_findings.specs.Searched.{Searched, PairObeys}

-- the members of w: jobs after k, which is valid and after i, that are neither i nor after i
pub record Unjoined (i k valids after onward w : ℕ) : Type 0 where
  pub width : w < 2 ^ job_limit
  pub members : (x : ℕ) → bit w x ≡ (bit valids k && bit after k && (bit onward x && not (eqb i x) && not (bit after x)))

-- the words and numbers are those of the view at i and another job k
pub record PairRead (v : View) (i k valids after before onward : ℕ) (late : Bool) : Type 0 where
  pub first : Live v i
  pub second : Live v k
  pub differ : i ≢ k
  pub joins : (x y : ℕ) → Arc v x y → Live v x × Live v y × (x ≢ y)
  pub valid_bit : (x : ℕ) → Decides (bit valids x) (Valid v x)
  pub after_bit : (x : ℕ) → Decides (bit after x) (Arc v i x)
  pub before_bit : (x : ℕ) → Decides (bit before x) (Arc v x i)
  pub onward_bit : (x : ℕ) → Decides (bit onward x) (Arc v k x)
  pub is_late : late ≡ lt_z (D v k) (E v i +ℤ L v i +ℤ L v k)

-- what the search at the pair has to say, whatever the view that these are read from
abbrev pub PairSearched : ℕ → ℕ → ℕ → ℕ → ℕ → ℕ → Bool → Option Fact → Type 0
PairSearched i k valids after before onward late o =
    (v : View) → PairRead v i k valids after before onward late → Searched v (PairObeys v i k) o

-- what the test of the pair has to say: no rule applies exactly where the pair obeys them
abbrev pub PairTested : ℕ → ℕ → ℕ → ℕ → ℕ → ℕ → Bool → Bool → Type 0
PairTested i k valids after before onward late t =
    (v : View) → PairRead v i k valids after before onward late → Decides (not t) (PairObeys v i k)

-- the tests of the code decide the premises of the rules
module _ (v : View) (i k valids after before onward : ℕ) (late : Bool)
    (h : PairRead v i k valids after before onward late) where
  excluded : Decides (bit after k && bit before k && bit valids i) ((Arc v i k × Arc v k i) × Valid v i)
  excluded = h.after_bit k and h.before_bit k and h.valid_bit i

  ordered : Decides (late && not (bit before k)) ((D v k <ℤ (E v i +ℤ L v i +ℤ L v k)) × (Arc v k i → ⊥))
  ordered = retested h.is_late (earlier (D v k) (E v i +ℤ L v i +ℤ L v k)) and negated (h.before_bit k)

  joined : (w : ℕ) → Unjoined i k valids after onward w → (c : ℕ)
      → Decides (bit w c) ((Valid v k × Arc v i k) × ((Arc v k c × (i ≢ c)) × (Arc v i c → ⊥)))
  joined w u c = retested (u.members c)
      (h.valid_bit k and h.after_bit k and (h.onward_bit c and negated (eq i c) and negated (h.after_bit c)))

module _ (i k valids after before onward : ℕ) (late : Bool) where
  abbrev Says : Option Fact → Type 0
  Says = PairSearched i k valids after before onward late

  abbrev Tested : Bool → Type 0
  Tested = PairTested i k valids after before onward late

  -- R2
  pub says_exclude : (bit after k && bit before k && bit valids i) ≡ true → Says (some (is_invalid k))
  says_exclude e v h =
      let ((forth, back), vi) = (excluded v i k valids after before onward late h).yes e in
      (r2 i k vi h.second forth back, λ m. h.second.1 m.1)

  -- R3
  pub says_order : (late && not (bit before k)) ≡ true → Says (some (is_arc k i))
  says_order e v h =
      let (ends-late, apart) = (ordered v i k valids after before onward late h).yes e in
      (r3 i k h.first h.second h.differ ends-late, λ m. apart (m.2 h.second h.first))

  module _ (w : ℕ) (u : Unjoined i k valids after onward w) where
    -- R1
    pub says_join : (c : ℕ) → bit w c ≡ true → Says (some (is_arc i c))
    says_join c e v h =
        let ((vk, forth), ((on, ne), apart)) = (joined v i k valids after before onward late h w u c).yes e in
        let live = (h.joins k c on).1 in
        (r1 i k c h.first vk live ne forth on, λ m. apart (m.2 h.first live))

    pub says_nothing : (bit after k && bit before k && bit valids i) ≡ false
        → (late && not (bit before k)) ≡ false
        → w ≡ 0 → Says none
    says_nothing x y z v h =
        record {
          join = λ vk forth c on ne. is_true (v.arc i c) λ e.
              let none : bit w c ≡ false = ap (λ (n : ℕ). bit n c) z ∙ bit_zero c in
              refuted none ((joined v i k valids after before onward late h w u c).show ((vk, forth), ((on, ne), refuted e)));
          exclude = λ vi forth back. refuted x ((excluded v i k valids after before onward late h).show ((forth, back), vi));
          order = λ ends-late. is_true (v.arc k i) λ e.
              refuted y ((ordered v i k valids after before onward late h).show (ends-late, refuted e));
        }

  -- where a rule applies, the pair does not obey it
  pub tested_exclude : (bit after k && bit before k && bit valids i) ≡ true → Tested true
  tested_exclude e v h =
      let ((forth, back), vi) = (excluded v i k valids after before onward late h).yes e in
      failed λ obeys. obeys.exclude vi forth back

  pub tested_order : (late && not (bit before k)) ≡ true → Tested true
  tested_order e v h =
      let (ends-late, apart) = (ordered v i k valids after before onward late h).yes e in
      failed λ obeys. apart (obeys.order ends-late)

  -- where neither R2 nor R3 applies, R1 decides
  pub tested_join : (w : ℕ) → Unjoined i k valids after onward w → (bit after k && bit before k && bit valids i) ≡ false
      → (late && not (bit before k)) ≡ false
      → Tested (not (eqb w 0))
  tested_join w u x y v h = go (ℕ_discrete w 0)
    where
      go : Dec (w ≡ 0) → Decides (not (not (eqb w 0))) (PairObeys v i k)
      go (yes z) = rw (eq-eqb w 0 z) (passed (says_nothing w u x y z v h))
      go (no some-job) =
          let low = trailing_lowest job_limit w some-job u.width in
          let ((vk, forth), ((on, ne), apart)) = (joined v i k valids after before onward late h w u _).yes low.member in
          rw (ne_eqb w 0 some-job) (failed λ obeys. apart (obeys.join vk forth _ on ne))
