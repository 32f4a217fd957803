-- What is known of the portions of a round, of the calls that are over behind it and of the listed lines, and how a run
-- goes on in it, whatever fails.
use Rattle.std.proofs.Common.{◌≡◌, refl, sym, ap, ◌∙◌, subst, ℕ, ◌<◌, true, false, not, ◌&&◌, Option, Some, None, List, length, drop, inl, inr, arith, Bool}
use Rattle.std.specs.Prelude.{is_some, slice_index, ◌==◌, ◌||◌}
use Rattle.std.specs.Io.KnownBytes.{Consumes}
use Rattle.std.proofs.lemmas.Bool.{ne_eqb}
use Rattle.std.proofs.Math.Seq.{drop-append_seam}
use Rattle.std.proofs.Math.Bool.{and-false}
use Rattle.trau_io.specs.declared.line.Side.{Side}
use Rattle.trau_io.specs.declared.line.Side.TheVariants.{Up, Pcm, Down, Out}
use Rattle.trau_io.specs.declared.ends.CallEnd.{CallEnd}
use Rattle.trau_io.specs.Lines.{LineState}
use Rattle.round_lines.specs.Memory as round_lines
use Rattle.round_lines.specs.Memory.{fails_in, LinesMemory}
use Rattle.round_lines.specs.declared.transfer.Outlet.{Outlet}
use Rattle.round_lines.specs.Transfer.{has_failed}
use Rattle.round_lines.specs.Rounds.{IsIncoming, IsOutgoing, portion_at, call_at}
use Rattle.switchboard.specs.Calls.{Done, opened_at, closed_at}
use Rattle.switchboard.specs.State.{State, gone_in}
use Rattle.switchboard.specs.Open.{opened_now, open_now}
use Rattle.farm_rounds.specs.Calls.{Call, call_in}
use Rattle.farm_rounds.specs.Memory.{FarmMemory}
use Rattle.farm_rounds.specs.Working.{goes_on_call}
use Rattle.run_spec.specs.Run.{Run}
use Rattle.farm_run.specs.Match.{AtClock}
use Rattle.farm_run.specs.Outgoing.{PassesOn}
use Rattle.farm_run.specs.Runs.{is_listed, ReadsOn}
use Rattle.farm_run.specs.Stages.{NoneUsedAgain}
use Rattle.farm_run.specs.Standing.{Standing, standing, is_over, StandingGoesOn, KnowsListed, HasFlags}
use Rattle.farm_run.proofs.Listed.Boards.{over_shut, open_opened, open_gone, gone_told, over_told}
use Rattle.farm_run.proofs.Listed.Counts.{portion_cases}
use Rattle.farm_run.proofs.Worked.Round.{WorkedRound, PortionFacts, filled_call, filled_periods, worked_call, up_long, pcm_long, MeetsRun}
use Rattle.farm_run.proofs.Listed.Tests.{or_left}
use Rattle.farm_run.proofs.Worked.Facts.{lines_kept, incoming_after, outgoing_between, portion_facts}
use Rattle.farm_run.proofs.Listed.Round.{listed_cases, listed_still, marked, listed_kept, listed_incoming, marks_kept, was_down, was_out}
use Rattle.farm_rounds.proofs.Failed.Gained.{fewer_up, fewer_pcm}
use Rattle.farm_rounds.proofs.Drain.GoingOn.{goes_on_at}
use Rattle.farm_run.proofs.Told.Boards.{told_done}
use Rattle.farm_run.proofs.Worked.Clock.{told_is}
use Rattle.farm_run.specs.Ending.{told_after, is_told}

-- what a line gave in a round is a prefix
front_read : (u v : Option (List ℕ)) (front xs : List ℕ) → Consumes u v front → u ≡ Some xs → (k : ℕ) × (v ≡ Some (drop k xs))
front_read None v front xs c e = cc
front_read (Some zs) None front xs c e = absurd c
front_read (Some zs) (Some ys) front xs c e = (length front, ap Some (sym (drop-append_seam front ys) ∙ ap (drop (length front)) (sym c ∙ same zs xs e)))
  where
    same : (zs xs : List ℕ) → Some zs ≡ Some xs → zs ≡ xs
    same zs xs e = cc

-- a line that failed is passed over, or nothing happens to it
passed_over : (before now : LineState) (was stands : Outlet) (octets : List ℕ) →
    PassesOn before now was stands octets → has_failed was ≡ true → now ≡ before
passed_over before now was stands octets (inl g) q = (g.passed q).0
passed_over before now was stands octets (inr e) q = e.0

-- an end is told of an open call that isn't open afterwards
over_by : (p q g p' q' g' : Bool) → p' ≡ p → q' ≡ q → (p && not q && not g) ≡ true → (p' && not q' && not g') ≡ false → (g' || q') ≡ true
over_by true false false true false true a b e f = refl
over_by true false false true false false a b e f = cc
over_by true false false true true g' a b e f = cc
over_by true false false false q' g' a b e f = cc
over_by true false true p' q' g' a b e f = cc
over_by true true g p' q' g' a b e f = cc
over_by false q g p' q' g' a b e f = cc

module _ (t n : ℕ) (b : State) (farm after : FarmMemory) (before now : ℕ → Side → LineState) (ends : List CallEnd)
    (w : WorkedRound t n farm after before now ends) (a : AtClock t b farm.calls)
    (knows : KnowsListed b farm.failed) (b' : State) (told : b' ≡ told_after b ends)
    (o : (c : ℕ) → open_now b' c ≡ (open_now b c && not (is_told c ends))) where
  -- telling ends executes no order
  done_is : b'.done ≡ b.done
  done_is = ap (λ (s : State). s.done) told ∙ told_done b ends

  -- ---- the portions

  -- there are as many portions as open calls
  long : length w.filled_portions ≡ length farm.live
  long = w.filled_number ∙ w.number

  -- what is known of the portion at a place
  record KnownPortion (k c : ℕ) : Type 0 where
    call : Call
    called : call_in farm.calls c ≡ Some call
    facts : PortionFacts n (before c) (w.between c) (now c) c call (portion_at w.planned_portions k)
        (portion_at w.filled_portions k) (portion_at w.worked_portions k) (portion_at w.drained_portions k)
    filled_at : call_at w.filled_portions k ≡ c
    is_open : open_now b c ≡ true

  -- the portion of an open call, by where its number stands
  known_portion : (k c : ℕ) → k < length farm.live → slice_index farm.live k ≡ c → KnownPortion k c
  known_portion k c l e =
      let f = portion_facts t n farm after before now ends w k c l e in
      let open_is : open_now b c ≡ true = sym (a.matches.is_open c) ∙ ap is_some f.1 in
      record {
        call = f.0;
        called = f.1;
        facts = f.2;
        filled_at = filled_call _ _ _ _ _ _ _ _ f.2.front;
        is_open = open_is;
      }

  -- ---- the calls that are over

  -- a call that is over stays so
  over_on : (c : ℕ) → is_over b c ≡ true → is_over b' c ≡ true
  over_on c e = subst (λ (s : State). is_over s c ≡ true) (sym told) (over_told b ends c e)

  -- **A call is over behind the round where its portion lacks one of the periods.**
  lacks : (k c : ℕ) → k < length farm.live → slice_index farm.live k ≡ c →
      round_lines.whole_in (portion_at w.filled_portions k).lines < n → is_over b' c ≡ true
  lacks k c l e less =
      over_by (opened_now b c) (is_some (closed_at c b.done)) (gone_in b c) (opened_now b' c) (is_some (closed_at c b'.done)) (gone_in b' c)
      (ap (λ (ds : List Done). is_some (opened_at c ds)) done_is) (ap (λ (ds : List Done). is_some (closed_at c ds)) done_is) s.is_open
      (o c ∙ ap (λ (x : Bool). open_now b c && not x) ended ∙ and-false (open_now b c))
    where
      s : KnownPortion k c
      s = known_portion k c l e

      place : (portion_at w.worked_portions k).lines ≡ (portion_at w.filled_portions k).lines
      place = s.facts.front.lines

      apart : round_lines.whole_in (portion_at w.filled_portions k).lines ≡ (portion_at w.filled_portions k).lines.periods → ⊥
      apart q = absurd (omega (arith, q, less, filled_periods _ _ _ _ _ _ _ _ s.facts.front))

      goes : goes_on_call w.worked_portions c ≡ false
      goes =
          ap (goes_on_call w.worked_portions) (sym (worked_call _ _ _ _ _ _ _ _ s.facts.front))
          ∙ goes_on_at w.worked_portions k w.worked_rising (omega (arith, l, long, w.worked_number))
          ∙ ap (λ (p : LinesMemory). round_lines.whole_in p == p.periods) place
          ∙ ne_eqb (round_lines.whole_in (portion_at w.filled_portions k).lines) (portion_at w.filled_portions k).lines.periods apart

      ended : is_told c ends ≡ true
      ended = told_is t n b farm after before now ends w a c (ap is_some s.called) ∙ ap not goes

  -- an incoming line that failed in the round gave less than all of it
  failed_short : (k c : ℕ) (side : Side) → k < length farm.live → slice_index farm.live k ≡ c → IsIncoming side →
      fails_in (portion_at w.filled_portions k).lines side ≡ true → round_lines.whole_in (portion_at w.filled_portions k).lines < n
  failed_short k c Up l e i f =
      let s = known_portion k c l e in
      let short = s.facts.front.fills.up.short f in
      fewer_up (portion_at w.filled_portions k).lines n (omega (arith, short, up_long _ _ _ _ _ _ _ _ s.facts.front))
  failed_short k c Pcm l e i f =
      let s = known_portion k c l e in
      let short = s.facts.front.fills.pcm.short f in
      fewer_pcm (portion_at w.filled_portions k).lines n (omega (arith, short, pcm_long _ _ _ _ _ _ _ _ s.facts.front))
  failed_short k c Down l e i f = absurd i
  failed_short k c Out l e i f = absurd i

  -- ---- the listed lines, and the run

  -- **After the round the board knows of the listed lines what it is to know.**
  pub knows_after : KnowsListed b' after.failed
  knows_after = record { opened = opened; ended = ended }
    where
      opened : (c : ℕ) (side : Side) → is_listed after.failed c side ≡ true → opened_now b' c ≡ true
      opened c side q = ap (λ (ds : List Done). is_some (opened_at c ds)) done_is ∙ elim (listed_cases t n farm after before now ends w c side q) [
        | inl m ↦ knows.opened c side m
        | inr m ↦ let p = marked t n farm after before now ends w c side m in let z = known_portion m.k c p.0 p.1 in open_opened b c z.is_open
      ]

      ended : (c : ℕ) (side : Side) → IsIncoming side → is_listed after.failed c side ≡ true → gone_in b' c ≡ true
      ended c side i q = elim (listed_cases t n farm after before now ends w c side q) [
        | inl m ↦ subst (λ (s : State). gone_in s c ≡ true) (sym told) (gone_told b ends c (knows.ended c side i m))
        | inr m ↦
            let p = marked t n farm after before now ends w c side m in
            let z = known_portion m.k c p.0 p.1 in
            open_gone b b' c done_is z.is_open (lacks m.k c p.0 p.1 (failed_short m.k c side p.0 p.1 i (sym (marks_kept t n farm after before now ends w m.k c side p.0 p.1 i) ∙ p.2)))
      ]

  -- a call that is over has no portion
  no_portion_of : (c : ℕ) → is_over b c ≡ true → is_some (call_in farm.calls c) ≡ false
  no_portion_of c e = a.matches.is_open c ∙ over_shut b c e

  -- **The run goes on.**
  pub goes_after : StandingGoesOn (standing b farm.failed before) (standing b' after.failed now)
  goes_after = record {
    over = over_on;
    read_on = read_on;
    lines = λ c s i e. ap (λ (l : LineState). l.to_come) (lines_kept t n farm after before now ends w c (no_portion_of c e) s);
    listed = λ c s i e. listed_kept t n farm after before now ends w c s (no_portion_of c e);
  }
    where
      given : (c : ℕ) (side : Side) (octets : List ℕ) → IsIncoming side →
          (before c side).to_come ≡ Some octets → (k : ℕ) → k < length farm.live →
          slice_index farm.live k ≡ c → (i : ℕ) × ((w.between c side).to_come ≡ Some (drop i octets))
      given c Up octets i e k l q = let s = known_portion k c l q in front_read (before c Up).to_come (w.between c Up).to_come _ octets s.facts.front.fills.up.given e
      given c Pcm octets i e k l q = let s =
          known_portion k c l q in front_read (before c Pcm).to_come (w.between c Pcm).to_come _ octets s.facts.front.fills.pcm.given e
      given c Down octets i e k l q = absurd i
      given c Out octets i e k l q = absurd i

      read_on : ReadsOn before now
      read_on c side octets i e = elim (portion_cases t n farm after before now ends w c) [
        | inl m ↦ let g =
            given c side octets i e m.0 m.1 m.2 in (g.0, ap (λ (l : LineState). l.to_come) (incoming_after t n farm after before now ends w c side i) ∙ g.1)
        | inr none ↦ (0, ap (λ (l : LineState). l.to_come) (lines_kept t n farm after before now ends w c none side) ∙ e)
      ]

  -- **A line that failed before the round isn't used in it.**
  pub unused_after : NoneUsedAgain (is_listed farm.failed) (is_listed after.failed) before now
  unused_after = record { lines = lines; listed = listed_still t n farm after before now ends w }
    where
      over : (c : ℕ) (side : Side) → IsIncoming side → is_listed farm.failed c side ≡ true → now c side ≡ before c side
      over c side i q = lines_kept t n farm after before now ends w c
          (no_portion_of c (or_left (gone_in b c) (is_some (closed_at c b.done)) (knows.ended c side i q))) side

      outgoing : (c : ℕ) (side : Side) → IsOutgoing side → now c side ≡ w.between c side → now c side ≡ before c side
      outgoing c side i e = e ∙ outgoing_between t n farm after before now ends w c side i

      portioned : (side : Side) (k c : ℕ) → k < length farm.live → slice_index farm.live k ≡ c →
          is_listed farm.failed c side ≡ true → now c side ≡ before c side
      portioned Up k c l e q = over c Up tt q
      portioned Pcm k c l e q = over c Pcm tt q
      portioned Down k c l e q =
          let s = known_portion k c l e in
          outgoing c Down tt (passed_over _ _ _ _ _ s.facts.drains.down (was_down t n farm after before now ends w k c l e ∙ q))
      portioned Out k c l e q =
          let s = known_portion k c l e in
          outgoing c Out tt (passed_over _ _ _ _ _ s.facts.drains.out (was_out t n farm after before now ends w k c l e ∙ q))

      lines : (c : ℕ) (side : Side) → is_listed farm.failed c side ≡ true → now c side ≡ before c side
      lines c side q = elim (portion_cases t n farm after before now ends w c) [
        | inl m ↦ portioned side m.0 c m.1 m.2 q
        | inr none ↦ lines_kept t n farm after before now ends w c none side
      ]

  -- **So the round meets a run that goes on from behind it.**
  pub meets_run : (r : Run) (last : Standing) → HasFlags r last → StandingGoesOn (standing b' after.failed now) last →
      MeetsRun r n w.filled_portions (standing b' after.failed now) last
  meets_run r last flags on = record {
    on = on;
    flags = flags;
    listed = λ k side l i.
        let within : k < length farm.live = omega (arith, l, long) in
        let s = known_portion k (slice_index farm.live k) within refl in
        ap (λ (d : ℕ). is_listed after.failed d side) s.filled_at ∙ listed_incoming t n farm after before now ends w k (slice_index farm.live k) side within refl i;
    over = λ k l less.
        let within : k < length farm.live = omega (arith, l, long) in
        let s = known_portion k (slice_index farm.live k) within refl in
        ap (is_over b') s.filled_at ∙ lacks k (slice_index farm.live k) within refl less;
  }
