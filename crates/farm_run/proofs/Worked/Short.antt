-- What was read of the incoming lines of a call that its lines end: of one that failed fewer octets than the round
-- takes of it.
use Rattle.std.proofs.Common.{◌≡◌, sym, ap, ◌∙◌, subst, ℕ, ◌+◌, ◌-◌, ◌*◌, ◌<◌, ◌≤◌, Bool, true, false, ◌&&◌, List, [], length, inl, inr, arith, mul-add}
use Rattle.std.specs.Prelude.{min, nat_lt}
use Rattle.std.proofs.lemmas.Bool.{cases_Bool, true≢false, lt-ltb}
use Rattle.trau_io.specs.declared.ends.CallEnd.{CallEnd}
use Rattle.trau_io.specs.declared.ends.Cause.{Cause}
use Rattle.trau_io.specs.declared.line.Line.{Line}
use Rattle.trau_io.specs.declared.line.Side.{Side}
use Rattle.trau_io.specs.declared.line.Side.TheVariants.{Up, Pcm}
use Rattle.trau_io.specs.Lines.{LineState}
use Rattle.round_lines.specs.Rounds.{portion_at}
use Rattle.switchboard.specs.Calls.{is_open, gone_at}
use Rattle.switchboard.specs.Ends.{start_of, end_of, lack_of}
use Rattle.switchboard.specs.State.{State}
use Rattle.farm_rounds.specs.Memory.{FarmMemory}
use Rattle.run_spec.specs.Run.{Run, given_in, whole_in, done_in, start_in, end_in, cause_in}
use Rattle.run_spec.proofs.Periods.SoFar.{standing_now}
use Rattle.farm_run.specs.Runs.{FailedIn, FailedBy, ReadBy, IsCutOff, IsReadTo, is_listed}
use Rattle.farm_run.specs.Match.{Matches}
use Rattle.farm_run.specs.Standing.{Standing, standing}
use Rattle.farm_run.specs.Clock.{IsAtClock}
use Rattle.farm_run.proofs.Rounds.Taken.{IsRound, places_in}
use Rattle.farm_run.proofs.Rounds.Open.{open_at}
use Rattle.farm_run.proofs.Rounds.Ends.{end_within, start_kept, not_by_lines}
use Rattle.farm_run.proofs.Clocks.Last.{rest_of}
use Rattle.farm_run.proofs.Clocks.Reach.{end_after, open_before_end, ended_before}
use Rattle.farm_run.proofs.Worked.Round.{WorkedRound, up_long, pcm_long, MeetsRun}
use Rattle.farm_run.proofs.Worked.Written as worked_written
use Rattle.farm_run.proofs.Listed.Round.{listed_kept, listed_incoming}
use Rattle.farm_rounds.proofs.Failed.Gained.{fewer_up, fewer_pcm}
use Rattle.farm_run.proofs.Worked.Calls.{OpenPortion, open_portion, open_is}

-- Each incoming line that is listed after the round from t up to u, and wasn't before, failed in it.
pub record FailedInRound (r : Run) (t u : ℕ) (was is : ℕ → Side → Bool) : Type 0 where
  pub up : (c : ℕ) → was c Up ≡ false → is c Up ≡ true → FailedIn r c 40 (r.lines c).up t u
  pub pcm : (c : ℕ) → was c Pcm ≡ false → is c Pcm ≡ true → FailedIn r c 160 (r.lines c).pcm t u

module _ (r : Run) (t n : ℕ) (b : State) (farm after : FarmMemory) (first before now : ℕ → Side → LineState) (ends : List CallEnd)
    (w : WorkedRound t n farm after before now ends) (h : IsRound r t n b.done b.left)
    (m : Matches b farm.calls) (b' : State) (last : Standing)
    (at : IsAtClock r t b farm.calls last first before)
    (meets : MeetsRun r n w.filled_portions (standing b' after.failed now) last) where
  -- whether a call is open at the clock
  abbrev alive : ℕ → Bool
  alive = is_open (gone_at (whole_in r) t b.done) b.done

  -- what is known of its portion
  abbrev Portion : ℕ → Type 0
  Portion c = OpenPortion r t n b farm after first before now ends w h m b' last at meets c

  abbrev portion : (c : ℕ) → alive c ≡ true → Portion c
  portion c o = open_portion r t n b farm after first before now ends w h m b' last at meets c o

  -- a call that lacks a period of the round ends in it
  ends_here : (c octets : ℕ) (line : List ℕ) → alive c ≡ true → places_in r b.done t n c < n →
      length line < octets * (t + n - start_of b.done c) →
      FailedIn r c octets line t (t + n)
  ends_here c octets line o less few = record {
    begun = open_before_end r t n b.done b.left c h o;
    over = over (end_in r c) (places_in r b.done t n c) less (end_after r t n b.done b.left c h o);
    by_lines = subst (λ (e : Cause). IsCutOff e → ⊥) (sym cause) (not_by_lines (whole_in r c) (given_in r c));
    short = (let e : t + n - start_in r c ≡ t + n - start_of b.done c = ap (λ (s : ℕ). t + n - s) (start_kept r t n b.done b.left c h o) in
        omega (arith, few, ap (λ (k : ℕ). octets * k) e));
  }
    where
      over : (e k : ℕ) → k < n → min (t + n) e ≡ t + k → e < t + n
      over e k l q = omega arith

      cause : cause_in r c ≡ lack_of (whole_in r c) (given_in r c)
      cause =
          ap (λ (s : ℕ). let e : CallEnd = end_of (given_in r) r.periods (done_in r) c s in e.cause) (start_kept r t n b.done b.left c h o)
          ∙ ap (λ (e : CallEnd). e.cause)
          (end_within r t n b.done b.left c h (ap (λ (x : Bool). x && nat_lt (places_in r b.done t n c) n) o ∙ lt-ltb (places_in r b.done t n c) n less))

  -- an open call began before the clock
  begun : (c : ℕ) → alive c ≡ true → start_of b.done c ≤ t
  begun c o = (open_at r t b.done c (standing_now r t b.done b.left h.so_far) o).begun

  -- what fewer octets than a round takes are in all
  few_in_all : (octets count long start : ℕ) → count ≡ min (octets * n) (long - octets * (t - start)) → count < octets * n → start ≤ t →
      octets * (t - start) + octets * n ≡ octets * (t + n - start) → long < octets * (t + n - start)
  few_in_all octets count long start e l b s = omega arith

  -- an open call's incoming line that is listed behind the round failed in it
  up_failed : (c : ℕ) → alive c ≡ true → is_listed after.failed c Up ≡ true → FailedIn r c 40 (r.lines c).up t (t + n)
  up_failed c o listed =
      let s = portion c o in
      let failed : (portion_at w.filled_portions s.k).lines.up.failed ≡ true =
      sym (listed_incoming t n farm after before now ends w s.k c Up s.within s.here tt) ∙ listed in
      let less : (portion_at w.filled_portions s.k).lines.up.count < 40 * n =
      (let l = s.facts.front.fills.up.short failed in omega (arith, l, up_long _ _ _ _ _ _ _ _ s.facts.front)) in
      let lacks : places_in r b.done t n c < n = (let l = fewer_up (portion_at w.filled_portions s.k).lines n less in omega (arith, l, s.whole)) in
      let start = begun c o in
      ends_here c 40 (r.lines c).up o lacks (few_in_all 40 (portion_at w.filled_portions s.k).lines.up.count (length (r.lines c).up)
      (start_of b.done c) s.taken.up_count less start (spread (start_of b.done c) start))
    where
      spread : (s : ℕ) → s ≤ t → 40 * (t - s) + 40 * n ≡ 40 * (t + n - s)
      spread s l = omega arith

  pcm_failed : (c : ℕ) → alive c ≡ true → is_listed after.failed c Pcm ≡ true → FailedIn r c 160 (r.lines c).pcm t (t + n)
  pcm_failed c o listed =
      let s = portion c o in
      let failed : (portion_at w.filled_portions s.k).lines.pcm.failed ≡ true =
      sym (listed_incoming t n farm after before now ends w s.k c Pcm s.within s.here tt) ∙ listed in
      let less : (portion_at w.filled_portions s.k).lines.pcm.count < 160 * n =
      (let l = s.facts.front.fills.pcm.short failed in omega (arith, l, pcm_long _ _ _ _ _ _ _ _ s.facts.front)) in
      let lacks : places_in r b.done t n c < n = (let l = fewer_pcm (portion_at w.filled_portions s.k).lines n less in omega (arith, l, s.whole)) in
      let start = begun c o in
      ends_here c 160 (r.lines c).pcm o lacks (few_in_all 160 (portion_at w.filled_portions s.k).lines.pcm.count (length (r.lines c).pcm)
      (start_of b.done c) s.taken.pcm_count less start (spread (start_of b.done c) start))
    where
      spread : (s : ℕ) → s ≤ t → 160 * (t - s) + 160 * n ≡ 160 * (t + n - s)
      spread s l = omega arith

  -- one that isn't open lists no line more
  still : (c : ℕ) (s : Side) → alive c ≡ false → is_listed after.failed c s ≡ is_listed farm.failed c s
  still c s o =
      listed_kept t n farm after before now ends w c s
      (open_is r t n b farm after first before now ends w h m b' last at meets c ∙ o)

  -- **Each line that is listed since failed in the round, short of what it takes.**
  pub short_after : FailedInRound r t (t + n) (is_listed farm.failed) (is_listed after.failed)
  short_after = record {
    up = λ c was is. elim (cases_Bool (alive c)) [ inl o ↦ up_failed c o is | inr o ↦ absurd (true≢false (sym is ∙ still c Up o ∙ was)) ];
    pcm = λ c was is. elim (cases_Bool (alive c)) [ inl o ↦ pcm_failed c o is | inr o ↦ absurd (true≢false (sym is ∙ still c Pcm o ∙ was)) ];
  }

  -- **Of the lines of a call that ended in the round its octets were read; those of calls that had ended stay.**
  pub read_after : (batch : ℕ) → n ≤ batch → ReadBy r batch t last.listed before → ReadBy r batch (t + n) last.listed now
  read_after batch few read c i ended not = elim (cases_Bool (alive c)) [
    | inl o ↦
        let s = portion c o in
        let start = begun c o in
        let same : start_in r c ≡ start_of b.done c = start_kept r t n b.done b.left c h o in (
          t,
          t + n,
          omega (arith, few),
          omega arith,
          record {
            begun = open_before_end r t n b.done b.left c h o;
            over = ended;
            up = λ sound. subst (λ (k : ℕ). IsReadTo (now c Up) k (r.lines c).up) (spread 40 (start_in r c) (start_of b.done c) same start)
                (rest_of (last.listed c Up) (now c Up) (last.lines c Up) _ (r.lines c).up sound s.up_left);
            pcm = λ sound. subst (λ (k : ℕ). IsReadTo (now c Pcm) k (r.lines c).pcm) (spread 160 (start_in r c) (start_of b.done c) same start)
                (rest_of (last.listed c Pcm) (now c Pcm) (last.lines c Pcm) _ (r.lines c).pcm sound s.pcm_left);
          },
        )
    | inr o ↦
        let k = read c i (ended_before r t (t + n) b.done b.left c h.so_far (omega arith) h.clear o i not ended) not in
        let past = k.4 in (
          k.0,
          k.1,
          k.2,
          omega (arith, k.3),
          record {
            begun = past.begun;
            over = past.over;
            up = λ sound. ap (λ (l : LineState). l.to_come) (kept c o Up) ∙ past.up sound;
            pcm = λ sound. ap (λ (l : LineState). l.to_come) (kept c o Pcm) ∙ past.pcm sound;
          },
        )
  ]
    where
      spread : (m s v : ℕ) → s ≡ v → v ≤ t → m * (t - v) + m * n ≡ m * (t + n - s)
      spread m s v same l = sym (mul-add m (t - v) n) ∙ ap (λ (k : ℕ). m * k) (sum s v same l)
        where
          sum : (s v : ℕ) → s ≡ v → v ≤ t → t - v + n ≡ t + n - s
          sum s v same l = omega (arith, same, l)

      kept : (c : ℕ) → alive c ≡ false → (s : Side) → now c s ≡ before c s
      kept = worked_written.kept r t n b farm after first before now ends w h m b' last at meets

-- **Before the first round no line failed.**
pub short_none : (r : Run) (batch t : ℕ) → FailedBy r batch t (is_listed [])
short_none r batch t = record { up = λ c e. cc; pcm = λ c e. cc }

-- lines that failed short by a period did so by any later one
pub short_later : (r : Run) (batch t u : ℕ) (fails : ℕ → Side → Bool) → t ≤ u → FailedBy r batch t fails → FailedBy r batch u fails
short_later r batch t u fails l short = record {
  up = λ c e. let f = short.up c e in (f.0, f.1, f.2, omega (arith, f.3, l), f.4);
  pcm = λ c e. let f = short.pcm c e in (f.0, f.1, f.2, omega (arith, f.3, l), f.4);
}

-- **If the lines listed before a round failed short, so did those listed after it.**
pub short_more : (r : Run) (batch t u : ℕ) (was is : List Line) → t ≤ u → u ≤ t + batch →
    FailedInRound r t u (is_listed was) (is_listed is) →
    FailedBy r batch t (is_listed was) → FailedBy r batch u (is_listed is)
short_more r batch t u was is later l failed short =
    let before = short_later r batch t u (is_listed was) later short in
    record {
      up = λ c e. elim (cases_Bool (is_listed was c Up)) [ inl q ↦ before.up c q | inr q ↦ (t, u, l, omega arith, failed.up c q e) ];
      pcm = λ c e. elim (cases_Bool (is_listed was c Pcm)) [ inl q ↦ before.pcm c q | inr q ↦ (t, u, l, omega arith, failed.pcm c q e) ];
    }
