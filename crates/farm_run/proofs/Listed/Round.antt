-- Which lines are listed behind a round, whatever fails.
use Rattle.std.proofs.Common.{◌≡◌, refl, sym, ap, ◌∙◌, subst, ℕ, ◌<◌, Bool, true, false, Some, List, length, inl, inr, ◌⊎◌, arith}
use Rattle.std.specs.Prelude.{◌||◌, is_some, slice_index}
use Rattle.std.proofs.lemmas.Bool.{cases_Bool, true≢false}
use Rattle.trau_io.specs.declared.line.Side.{Side}
use Rattle.trau_io.specs.declared.line.Side.TheVariants.{Up, Pcm, Down, Out}
use Rattle.trau_io.specs.declared.ends.CallEnd.{CallEnd}
use Rattle.trau_io.specs.Lines.{LineState}
use Rattle.round_lines.specs.declared.transfer.Outlet.{Outlet}
use Rattle.round_lines.specs.declared.transfer.Outlet.TheVariants.{Sound, FailedBefore, FailedNow}
use Rattle.round_lines.specs.Transfer.{has_failed, fails_now}
use Rattle.round_lines.specs.Memory.{LinesMemory, fails_in, outlet_before}
use Rattle.round_lines.specs.Portions.{PortionMemory}
use Rattle.round_lines.specs.Rounds.{Rising, IsIncoming, IsOutgoing, portion_at}
use Rattle.round_lines.proofs.Each.{still_rising}
use Rattle.farm_rounds.specs.Calls.{Call, call_in}
use Rattle.farm_rounds.specs.Failed.{KnowsLines}
use Rattle.farm_rounds.specs.Memory.{FarmMemory}
use Rattle.farm_rounds.proofs.Failed.Names.{Lists, same_test}
use Rattle.farm_rounds.proofs.Failed.Gained.{gained_cases, gained_still, gained_at}
use Rattle.farm_rounds.proofs.Plan.{marks}
use Rattle.farm_run.specs.Outgoing.{PassesOn}
use Rattle.farm_run.specs.Runs.{is_listed}
use Rattle.farm_run.proofs.Listed.Counts.{long, portion_cases}
use Rattle.farm_run.proofs.Worked.Round.{WorkedRound, PortionFacts, drained_call, worked_down, worked_out}
use Rattle.farm_run.proofs.Worked.Facts.{portion_facts}

-- how an outgoing line stands after a round
stands_is : (b : Bool) (before now : LineState) (was stands : Outlet) (octets : List ℕ) →
    was ≡ outlet_before b → PassesOn before now was stands octets →
    has_failed stands ≡ (b || fails_now stands)
stands_is true before now was stands octets q (inl g) = ap has_failed ((g.passed (ap has_failed q)).1 ∙ q)
stands_is false before now was stands octets q (inl g) = elim (cases_Bool (has_failed stands)) [
  | inl e ↦ let f = g.fault (ap has_failed q) e in e ∙ sym (ap fails_now f.0)
  | inr e ↦ e ∙ sym (calm stands e)
]
  where
    calm : (o : Outlet) → has_failed o ≡ false → fails_now o ≡ false
    calm Sound e = refl
    calm FailedBefore e = cc
    calm FailedNow e = cc
stands_is true before now was stands octets q (inr g) = ap has_failed (g.1 ∙ q)
stands_is false before now was stands octets q (inr g) = ap has_failed (g.1 ∙ q) ∙ sym (ap fails_now (g.1 ∙ q))

module _ (t n : ℕ) (farm after : FarmMemory) (before now : ℕ → Side → LineState)
    (ends : List CallEnd) (w : WorkedRound t n farm after before now ends) where
  -- what is known of an open call's portion, and what the call knows of its lines
  record Known (k c : ℕ) : Type 0 where
    call : Call
    called : call_in farm.calls c ≡ Some call
    facts : PortionFacts n (before c) (w.between c) (now c) c call (portion_at w.planned_portions k)
        (portion_at w.filled_portions k) (portion_at w.worked_portions k) (portion_at w.drained_portions k)
    knows : KnowsLines farm.failed c call

  known : (k c : ℕ) → k < length farm.live → slice_index farm.live k ≡ c → Known k c
  known k c l e =
      let f = portion_facts t n farm after before now ends w k c l e in
      let failed = w.known in
      record { call = f.0; called = f.1; facts = f.2; knows = failed.known c f.0 f.1 }

  -- the portions stand by rising numbers
  rising : Rising w.drained_portions
  rising = still_rising w.worked_portions w.drained_portions w.worked_rising w.drained_number (λ k l. ap (λ (s : PortionMemory). s.lines.call) (w.drains k l).kept)

  inside : (k : ℕ) → k < length farm.live → k < length w.drained_portions
  inside k l = omega (arith, l, long t n farm after before now ends w)

  -- writing leaves the marks of the incoming lines
  pub marks_kept : (k c : ℕ) (side : Side) → k < length farm.live → slice_index farm.live k ≡ c → IsIncoming side →
      fails_in (portion_at w.drained_portions k).lines side ≡ fails_in (portion_at w.filled_portions k).lines side
  marks_kept k c side l e i = by side i
    where
      s : Known k c
      s = known k c l e

      worked : (portion_at w.drained_portions k).lines ≡ record (portion_at w.worked_portions k).lines {
        down = (portion_at w.drained_portions k).lines.down;
        out =
            (portion_at w.drained_portions k).lines.out;
      }
      worked = ap (λ (x : PortionMemory). x.lines) s.facts.drains.kept

      by : (side : Side) → IsIncoming side →
          fails_in (portion_at w.drained_portions k).lines side
          ≡ fails_in (portion_at w.filled_portions k).lines side
      by Up i = ap (λ (p : LinesMemory). p.up.failed) worked ∙ ap (λ (p : LinesMemory). p.up.failed) s.facts.front.lines
      by Pcm i = ap (λ (p : LinesMemory). p.pcm.failed) worked ∙ ap (λ (p : LinesMemory). p.pcm.failed) s.facts.front.lines
      by Down i = absurd i
      by Out i = absurd i

  -- ---- the listed lines

  -- a line that is listed behind the round was so before, or a portion names it
  pub listed_cases : (c : ℕ) (side : Side) → is_listed after.failed c side ≡ true →
      (is_listed farm.failed c side ≡ true) ⊎ Lists w.drained_portions (c, side)
  listed_cases = gained_cases farm.failed after.failed w.drained_portions w.gains

  -- one that was listed still is
  pub listed_still : (c : ℕ) (side : Side) → is_listed farm.failed c side ≡ true → is_listed after.failed c side ≡ true
  listed_still = gained_still farm.failed after.failed w.drained_portions w.gains

  -- the call and the side that a portion's mark names
  pub marked : (c : ℕ) (side : Side) (m : Lists w.drained_portions (c, side)) →
      (m.k < length farm.live) × (slice_index farm.live m.k ≡ c) × (fails_in (portion_at w.drained_portions m.k).lines side ≡ true)
  marked c side m =
      let within : m.k < length farm.live = (let l = m.within in omega (arith, l, long t n farm after before now ends w)) in
      let s = known m.k (slice_index farm.live m.k) within refl in (
        within,
        sym (drained_call _ _ _ _ _ _ _ _ _ _ s.facts) ∙ sym (ap (λ (y : ℕ × Side). y.0) m.name),
        ap (fails_in (portion_at w.drained_portions m.k).lines) (ap (λ (y : ℕ × Side). y.1) m.name) ∙ m.fails,
      )

  -- **Of a call with a portion a line is listed where it was, or where it failed in the round.**
  listed_portioned : (k c : ℕ) (side : Side) → k < length farm.live → slice_index farm.live k ≡ c →
      is_listed after.failed c side ≡ (is_listed farm.failed c side || fails_in (portion_at w.drained_portions k).lines side)
  listed_portioned k c side l e =
      let s = known k c l e in
      subst (λ (d : ℕ). is_listed after.failed d side ≡ (is_listed farm.failed d side || fails_in (portion_at w.drained_portions k).lines side))
      (drained_call _ _ _ _ _ _ _ _ _ _ s.facts) (gained_at farm.failed after.failed w.drained_portions w.gains k side rising (inside k l))

  -- **Of a call with none the same lines are listed.**
  pub listed_kept : (c : ℕ) (side : Side) → is_some (call_in farm.calls c) ≡ false →
      is_listed after.failed c side ≡ is_listed farm.failed c side
  listed_kept c side none = same_test (is_listed after.failed c side) (is_listed farm.failed c side) front (listed_still c side)
    where
      front : is_listed after.failed c side ≡ true → is_listed farm.failed c side ≡ true
      front q = elim (listed_cases c side q) [
        | inl m ↦ m
        | inr m ↦ let p = marked c side m in let z = known m.k c p.0 p.1 in absurd (true≢false (sym (ap is_some z.called) ∙ none))
      ]

  -- an incoming line of an open call isn't listed before the round
  not_listed : (k c : ℕ) (side : Side) → k < length farm.live → slice_index farm.live k ≡ c →
      IsIncoming side → is_listed farm.failed c side ≡ false
  not_listed k c Up l e i = let s = known k c l e in s.knows.0
  not_listed k c Pcm l e i = let s = known k c l e in s.knows.1
  not_listed k c Down l e i = absurd i
  not_listed k c Out l e i = absurd i

  -- an incoming line of an open call is listed after the round exactly if it failed in it
  pub listed_incoming : (k c : ℕ) (side : Side) → k < length farm.live → slice_index farm.live k ≡ c → IsIncoming side →
      is_listed after.failed c side ≡ fails_in (portion_at w.filled_portions k).lines side
  listed_incoming k c side l e i =
      listed_portioned k c side l e ∙ ap (λ (x : Bool). x || fails_in (portion_at w.drained_portions k).lines side) (not_listed k c side l e i) ∙ marks_kept k c side l e i

  -- **An open call's outgoing lines are listed before and after the round as they stand in its portion.**
  pub was_down : (k c : ℕ) → k < length farm.live → slice_index farm.live k ≡ c →
      has_failed (portion_at w.worked_portions k).lines.down ≡ is_listed farm.failed c Down
  was_down k c l e = let s = known k c l e in ap has_failed (worked_down _ _ _ _ _ _ _ _ s.facts.front) ∙ marks s.call.down_failed ∙ s.knows.2

  pub was_out : (k c : ℕ) → k < length farm.live → slice_index farm.live k ≡ c →
      has_failed (portion_at w.worked_portions k).lines.out ≡ is_listed farm.failed c Out
  was_out k c l e = let s = known k c l e in ap has_failed (worked_out _ _ _ _ _ _ _ _ s.facts.front) ∙ marks s.call.out_failed ∙ s.knows.3

  -- an open call's Down line is listed after the round as it stands in the portion
  pub stands_down : (k c : ℕ) → k < length farm.live → slice_index farm.live k ≡ c →
      has_failed (portion_at w.drained_portions k).lines.down ≡ is_listed after.failed c Down
  stands_down k c l e =
      let s = known k c l e in
      stands_is s.call.down_failed _ _ _ (portion_at w.drained_portions k).lines.down _ (worked_down _ _ _ _ _ _ _ _ s.facts.front) s.facts.drains.down
      ∙ ap (λ (x : Bool). x || fails_now (portion_at w.drained_portions k).lines.down) s.knows.2 ∙ sym (listed_portioned k c Down l e)

  pub stands_out : (k c : ℕ) → k < length farm.live → slice_index farm.live k ≡ c →
      has_failed (portion_at w.drained_portions k).lines.out ≡ is_listed after.failed c Out
  stands_out k c l e =
      let s = known k c l e in
      stands_is s.call.out_failed _ _ _ (portion_at w.drained_portions k).lines.out _ (worked_out _ _ _ _ _ _ _ _ s.facts.front) s.facts.drains.out
      ∙ ap (λ (x : Bool). x || fails_now (portion_at w.drained_portions k).lines.out) s.knows.3 ∙ sym (listed_portioned k c Out l e)

  -- **Where the round's octets are held back, no outgoing line more is listed.**
  pub listed_back : w.held ≡ true → (c : ℕ) (side : Side) → IsOutgoing side → is_listed after.failed c side ≡ is_listed farm.failed c side
  listed_back q c side i = elim (portion_cases t n farm after before now ends w c) [
    | inl m ↦ by side i m.0 m.1 m.2
    | inr none ↦ listed_kept c side none
  ]
    where
      same : (k : ℕ) → portion_at w.drained_portions k ≡ portion_at w.worked_portions k
      same k = ap (λ (xs : List PortionMemory). portion_at xs k) (w.back q).1

      by : (side : Side) → IsOutgoing side → (k : ℕ) → k < length farm.live → slice_index farm.live k ≡ c →
          is_listed after.failed c side ≡ is_listed farm.failed c side
      by Down i k l e = sym (stands_down k c l e) ∙ ap (λ (x : PortionMemory). has_failed x.lines.down) (same k) ∙ was_down k c l e
      by Out i k l e = sym (stands_out k c l e) ∙ ap (λ (x : PortionMemory). has_failed x.lines.out) (same k) ∙ was_out k c l e
      by Up i k l e = absurd i
      by Pcm i k l e = absurd i
