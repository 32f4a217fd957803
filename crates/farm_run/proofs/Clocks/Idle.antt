-- The clock of a run goes on where no call is open.
use Rattle.std.proofs.Common.{◌≡◌, refl, sym, ap, ◌∙◌, subst, ℕ, ◌+◌, ◌-◌, ◌*◌, ◌<◌, ◌≤◌, Bool, true, false, not, ◌&&◌, Option, Some, None, List, [], ◌∷◌}
use Rattle.std.proofs.Common.{◌++◌, length, drop, inl, inr, arith}
use Rattle.std.specs.Prelude.{◌==◌, min, is_some, unwrap_or, IfSome}
use Rattle.std.proofs.lemmas.Bool.{eqb-true}
use Rattle.trau_io.specs.declared.line.Side.{Side}
use Rattle.trau_io.specs.declared.line.Side.TheVariants.{Up, Pcm, Down, Out}
use Rattle.trau_io.specs.Lines.{LineState}
use Rattle.switchboard.specs.Calls.{opened_at, closed_at, is_open, gone_at}
use Rattle.switchboard.specs.Ends.{start_of}
use Rattle.switchboard.specs.State.{State, told_in, first_stamp}
use Rattle.switchboard.specs.Runs.{TellsEnds}
use Rattle.farm_rounds.specs.Calls.{Kept, call_in, partner_in}
use Rattle.farm_rounds.specs.Numbers.{is_among}
use Rattle.farm_rounds.specs.Histories.{CallHistory, CallStands}
use Rattle.run_spec.specs.Run.{Run, whole_in, periods_to, who_in, law_in, IsOpened, worked_to}
use Rattle.run_spec.specs.Now.{settings_now}
use Rattle.run_spec.specs.Lines.{out_line, down_octets}
use Rattle.run_spec.proofs.Orders.OpenCalls.{gone_later}
use Rattle.run_spec.proofs.Periods.SoFar.{so_far_later}
use Rattle.farm_run.specs.Runs.{HasWritten, IsReadWhole, ReadBy}
use Rattle.farm_run.specs.Standing.{Standing, never_given}
use Rattle.farm_run.specs.Match.{AtClock, past_if, histories_at}
use Rattle.farm_run.specs.Clock.{WrittenFrom, IsAtClock}
use Rattle.farm_run.proofs.Rounds.Open.{shut_after}
use Rattle.farm_run.proofs.Ordered.Due.{open_told}
use Rattle.farm_run.proofs.Clocks.Reach.{worked_idle, ended_before}

-- **The clock goes on to the next order, or to the run's end.**
pub clock_on : (t u : ℕ) (b : State) (calls : List Kept) → AtClock t b calls → t ≤ u →
    IfSome (first_stamp b.left) (λ s. u ≤ s) → AtClock u b calls
clock_on t u b calls a l n = record {
  orders = a.orders;
  ahead = n;
  past = (let p = a.past in omega arith);
  ends = λ c. by (told_in b c) (a.ends c);
  matches = a.matches;
}
  where
    by : (o : Option ℕ) → IfSome o (λ at. at < t) → IfSome o (λ at. at < u)
    by None h = tt
    by (Some at) h = omega arith

-- The lesser of the next order's stamp and the limit comes later, and passes neither.
pub goes_to : (t until u : ℕ) (next stamp : Option ℕ) → u ≡ min (unwrap_or next until) until →
    next ≡ stamp → t < until → IfSome stamp (λ s. t < s) →
    (t < u) × (u ≤ until) × IfSome stamp (λ s. u ≤ s)
goes_to t until u next stamp is same l later =
    by stamp (subst (λ (o : Option ℕ). u ≡ min (unwrap_or o until) until) same is) later
  where
    by : (o : Option ℕ) → u ≡ min (unwrap_or o until) until → IfSome o (λ s. t < s) → (t < u) × (u ≤ until) × IfSome o (λ s. u ≤ s)
    by None is later = (omega (arith, is, l), omega (arith, is), tt)
    by (Some s) is later = (omega (arith, is, l, later), omega (arith, is), omega (arith, is))

-- A round of a batch, or of the periods up to there, has some periods and doesn't pass it.
pub goes_by : (batch t until n : ℕ) (next stamp : Option ℕ) →
    n ≡ min batch (min (unwrap_or next until) until - t) → next ≡ stamp → 1 ≤ batch → t < until →
    IfSome stamp (λ s. t < s) → (1 ≤ n) × (n ≤ batch) × (t + n ≤ until) × IfSome stamp (λ s. t + n ≤ s)
goes_by batch t until n next stamp is same some l later =
    by stamp (subst (λ (o : Option ℕ). n ≡ min batch (min (unwrap_or o until) until - t)) same is) later
  where
    by : (o : Option ℕ) → n ≡ min batch (min (unwrap_or o until) until - t) → IfSome o (λ s. t < s) →
        (1 ≤ n) × (n ≤ batch) × (t + n ≤ until) × IfSome o (λ s. t + n ≤ s)
    by None is later = (omega (arith, is, l, some), omega (arith, is), omega (arith, is, l), tt)
    by (Some s) is later = (omega (arith, is, l, later, some), omega (arith, is), omega (arith, is, l), omega (arith, is, later))

module _ (r : Run) (t u : ℕ) (b : State) (calls : List Kept) (last : Standing)
    (first now : ℕ → Side → LineState) (at : IsAtClock r t b calls last first now)
    (l : t ≤ u) (w : u ≤ r.periods)
    (n : IfSome (first_stamp b.left) (λ s. u ≤ s)) (shut : (c : ℕ) → is_open (gone_at (whole_in r) t b.done) b.done c ≡ false) where
  -- no call is open at the later clock
  shut_then : (c : ℕ) → is_open (gone_at (whole_in r) u b.done) b.done c ≡ false
  shut_then c = let e : t + (u - t) ≡ u =
      omega arith in subst (λ (v : ℕ). is_open (gone_at (whole_in r) v b.done) b.done c ≡ false) e (shut_after r t (u - t) b.done c (shut c))

  -- none has a period meanwhile
  pub idle : (c : ℕ) → IsOpened r c → worked_to r u c ≡ worked_to r t c
  idle c i = worked_idle r t u b.done b.left c at.follows.so_far l (omega arith) n (shut c) i

  -- the ends are told in time there too
  tells_on : TellsEnds (whole_in r) u b
  tells_on c o k =
      let gone : gone_at (whole_in r) t b.done c ≡ true =
      by (is_some (opened_at c b.done)) (is_some (closed_at c b.done)) (gone_at (whole_in r) t b.done c) o (ap is_some k) (shut c) in
      at.follows.tells c o k ∙ gone ∙ sym (gone_later (whole_in r) t u b.done c l gone)
    where
      by : (p q g : Bool) → p ≡ true → q ≡ false → (p && not q && not g) ≡ false → g ≡ true
      by true false true e f h = refl
      by true false false e f h = cc
      by false q g e f h = cc
      by true true g e f h = cc

  -- no open call has had anything
  same_none : (c : ℕ) → histories_at r b.done t c ≡ histories_at r b.done u c
  same_none c =
      ap (λ (x : Bool). past_if x (law_in r c) (periods_to r c (t - start_of b.done c)) (settings_now r b.done t c)) (shut c)
      ∙ sym (ap (λ (x : Bool). past_if x (law_in r c) (periods_to r c (u - start_of b.done c)) (settings_now r b.done u c)) (shut_then c))

  -- a line that is read whole by the later clock is so by the earlier one
  earlier : (c : ℕ) → IsReadWhole r u c → IsReadWhole r t c
  earlier c (inl q) = inl (omega arith)
  earlier c (inr q) = inr q

  -- **So do the board, the farm and the lines.**
  pub goes_on : IsAtClock r u b calls last first now
  goes_on = record {
    follows = record {
      so_far = so_far_later r t u b.done b.left at.follows.so_far l n;
      tells = tells_on;
      stands = λ c. subst (λ (x : Option CallHistory). CallStands c x (call_in calls c) (partner_in calls c)) (same_none c) (at.follows.stands c);
    };
    lines = record {
      up_read = λ c i q. at.lines.up_read c i (earlier c q)
          ∙ ap (λ (k : ℕ). Some (drop (40 * k) (r.lines c).up ++ never_given (last.listed c Up) (last.lines c Up))) (sym (idle c i));
      pcm_read = λ c i q. at.lines.pcm_read c i (earlier c q)
          ∙ ap (λ (k : ℕ). Some (drop (160 * k) (r.lines c).pcm ++ never_given (last.listed c Pcm) (last.lines c Pcm))) (sym (idle c i));
      others = at.lines.others;
    };
  }

  -- **What is written is what is to be written by then.**
  pub written_on : (from : ℕ) (listed : ℕ → Side → Bool) → WrittenFrom r from t listed first now → WrittenFrom r from u listed first now
  written_on from listed wrote = record {
    out = λ c i. subst (λ (k : ℕ). HasWritten (listed c Out) (first c Out) (now c Out)
        (drop (160 * worked_to r from c) (out_line (who_in r c) (periods_to r c k)))) (sym (idle c i)) (wrote.out c i);
    down = λ c i. subst (λ (k : ℕ). HasWritten (listed c Down) (first c Down) (now c Down)
        (drop (40 * worked_to r from c) (down_octets (who_in r c) (periods_to r c k)))) (sym (idle c i)) (wrote.down c i);
  }

  -- **No more is read of the lines of calls that have ended.**
  pub read_on : (batch : ℕ) (fails : ℕ → Side → Bool) → ReadBy r batch t fails now → ReadBy r batch u fails now
  read_on batch fails read c i ended not =
      let k = read c i (ended_before r t u b.done b.left c at.follows.so_far l n (shut c) i not ended) not in
      (k.0, k.1, k.2, omega (arith, k.3, l), k.4)

-- no number is among none
pub none_among : (xs : List ℕ) (c : ℕ) → (length xs == 0) ≡ true → is_among xs c ≡ false
none_among [] c e = refl
none_among (x ∷ xs) c e = let l : length (x ∷ xs) ≡ 0 = eqb-true (length (x ∷ xs)) 0 e in absurd (omega arith)

-- a farm with no call, beside the run
pub none_alive : (r : Run) (t : ℕ) (b : State) (calls : List Kept) → AtClock t b calls → TellsEnds (whole_in r) t b →
    ((c : ℕ) → is_some (call_in calls c) ≡ false) →
    (c : ℕ) → is_open (gone_at (whole_in r) t b.done) b.done c ≡ false
none_alive r t b calls a tells none c = sym (open_told (whole_in r) t b tells c) ∙ sym (a.matches.is_open c) ∙ none c
