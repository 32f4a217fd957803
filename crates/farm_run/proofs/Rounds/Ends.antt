-- The ends of calls in a round are the run's.
use Rattle.std.proofs.Common.{◌≡◌, sym, ap, ◌∙◌, subst, ℕ, ◌+◌, ◌-◌, ◌*◌, ◌<◌, ◌≤◌, Bool, true, false, Some, None, List, inl, inr, arith}
use Rattle.std.specs.Prelude.{min, ◌&&◌, nat_lt, if◌then◌else◌}
use Rattle.std.proofs.lemmas.Bool.{lt-ltb, le-ltb, ltb-true, cases_lt, eq-eqb, ne_eqb, and_parts}
use Rattle.trau_io.specs.declared.line.Side.TheVariants.{Up, Pcm}
use Rattle.trau_io.specs.declared.ends.Cause.{Cause}
use Rattle.trau_io.specs.declared.ends.Cause.TheVariants.{End, Fault}
use Rattle.trau_io.specs.declared.ends.CallEnd.{CallEnd}
use Rattle.trau_orders.specs.declared.order.Order.{Order}
use Rattle.switchboard.specs.Calls.{Done, is_open, gone_at}
use Rattle.switchboard.specs.Ends.{Given, whole_of, lack_of, end_of, start_of, ends_at}
use Rattle.round_lines.specs.Memory as round_lines
use Rattle.round_lines.specs.Memory.{LinesMemory, end_in_round}
use Rattle.round_lines.specs.Shifts.{with_periods}
use Rattle.round_lines.proofs.Shifting.{lack_shifts}
use Rattle.run_spec.specs.Run.{Run, given_in, whole_in, done_in}
use Rattle.run_spec.proofs.Periods.Settled.{at_of}
use Rattle.run_spec.proofs.Periods.SoFar.{standing_now}
use Rattle.run_spec.proofs.Ending.{end_lacks}
use Rattle.run_spec.proofs.Periods.Next.{start_run}
use Rattle.farm_run.specs.Runs.{IsCutOff}
use Rattle.farm_run.proofs.Rounds.Taken.{IsRound, IsTaken, places_in, ends_within}
use Rattle.farm_run.proofs.Rounds.Open.{IsOpenAt, open_at, no_order}

-- ---- the run's end

-- **A call that its lines end within the round has ended there in the run.**
pub end_within : (r : Run) (t n : ℕ) (ds : List Done) (left : List Order) (c : ℕ) → IsRound r t n ds left → ends_within r ds t n c ≡ true →
    end_of (given_in r) r.periods (done_in r) c (start_of ds c) ≡ record {
      call = c;
      at = t + places_in r ds t n c;
      cause = lack_of (whole_in r c) (given_in r c);
    }
end_within r t n ds left c h e =
    let parts = and_parts (is_open (gone_at (whole_in r) t ds) ds c) (nat_lt (places_in r ds t n c) n) e in
    let o = open_at r t ds c (standing_now r t ds left h.so_far) parts.0 in
    let alive = o.alive in
    let begun = o.begun in
    let within = h.within in
    let fewer : min n (start_of ds c + whole_in r c - t) < n = ltb-true (places_in r ds t n c) n parts.1 in
    let at : start_of ds c + whole_in r c ≡ t + min n (start_of ds c + whole_in r c - t) = till (start_of ds c + whole_in r c) t n alive fewer in
    end_lacks r t ds left c (start_of ds c) h.so_far o.opened o.unclosed (below (start_of ds c + whole_in r c) t n r.periods alive fewer within)
    (no_order r t n ds left (start_of ds c + whole_in r c) h (below (start_of ds c + whole_in r c) t n (t + n) alive fewer (omega arith)))
    ∙ ap (λ (at : ℕ). record { call = c; at = at; cause = lack_of (whole_in r c) (given_in r c) }) at
  where
    till : (last t n : ℕ) → t ≤ last → min n (last - t) < n → last ≡ t + min n (last - t)
    till last t n l f = omega arith

    below : (last t n P : ℕ) → t ≤ last → min n (last - t) < n → t + n ≤ P → last < P
    below last t n P l f w = omega arith

-- a call that its lines end isn't cut off
pub not_by_lines : (k : ℕ) (g : Given) → IsCutOff (lack_of k g) → ⊥
not_by_lines k g = by (nat_lt g.up (40 * (k + 1))) g.up_failed g.pcm_failed
  where
    by : (a u p : Bool) →
        IsCutOff (if a then (if u then Fault Up else End Up (g.up - 40 * k)) else if p
        then Fault Pcm else End Pcm (g.pcm - 160 * k)) → ⊥
    by true true p h = h
    by true false p h = h
    by false u true h = h
    by false u false h = h

-- it was opened in the run where it was so far
pub start_kept : (r : Run) (t n : ℕ) (ds : List Done) (left : List Order) (c : ℕ) →
    IsRound r t n ds left → is_open (gone_at (whole_in r) t ds) ds c ≡ true →
    start_of (done_in r) c ≡ start_of ds c
start_kept r t n ds left c h o = start_run r t ds left c (start_of ds c) h.so_far (open_at r t ds c (standing_now r t ds left h.so_far) o).opened

-- **There the run ends it, and it has no periods beyond.**
pub ends_there : (r : Run) (t n : ℕ) (ds : List Done) (left : List Order) (c : ℕ) → IsRound r t n ds left → ends_within r ds t n c ≡ true →
    ends_at (given_in r) r.periods (done_in r) c ≡ t + places_in r ds t n c
ends_there r t n ds left c h e =
    let parts = and_parts (is_open (gone_at (whole_in r) t ds) ds c) (nat_lt (places_in r ds t n c) n) e in
    ap (λ (s : ℕ). at_of (end_of (given_in r) r.periods (done_in r) c s)) (start_kept r t n ds left c h parts.0) ∙ ap at_of (end_within r t n ds left c h e)

-- ---- the round's end

-- what a call's lines give behind its first k periods
abbrev behind : ℕ → Given → Given
behind k g = record { up = g.up - 40 * k; pcm = g.pcm - 160 * k; up_failed = g.up_failed; pcm_failed = g.pcm_failed }

-- what is taken of that in n periods
record IsCut (n : ℕ) (all taken : Given) : Type 0 where
  pub up : taken.up ≡ min (40 * n) all.up
  pub pcm : taken.pcm ≡ min (160 * n) all.pcm
  pub up_failed : taken.up < 40 * n → taken.up_failed ≡ all.up_failed
  pub pcm_failed : taken.pcm < 160 * n → taken.pcm_failed ≡ all.pcm_failed

-- how many whole periods are in what was taken
whole_cut : (n k : ℕ) (all taken : Given) → IsCut n (behind k all) taken → whole_of taken ≡ min n (whole_of all - k)
whole_cut n k all taken h =
    let u = h.up in
    let p = h.pcm in
    omega arith

-- which line lacked the next period, by whether it was the uplink
abbrev lack_by : Bool → ℕ → Given → Cause
lack_by b n g = if b then (if g.up_failed then Fault Up else End Up (g.up - 40 * n)) else if g.pcm_failed then Fault Pcm else End Pcm (g.pcm - 160 * n)

-- where it was, only that line counts
same_up : (b : Bool) (n : ℕ) (g h : Given) → b ≡ true → g.up ≡ h.up → g.up_failed ≡ h.up_failed → lack_by b n g ≡ lack_by b n h
same_up b n g h e u f = cc

-- where it wasn't, only the Pcm line does
same_pcm : (b : Bool) (n : ℕ) (g h : Given) → b ≡ false → g.pcm ≡ h.pcm → g.pcm_failed ≡ h.pcm_failed → lack_by b n g ≡ lack_by b n h
same_pcm b n g h e u f = cc

-- why a line lacks a period is known from what was taken
lack_cut : (n w : ℕ) (all taken : Given) → IsCut n all taken → w ≡ whole_of all → w < n → lack_of w taken ≡ lack_of w all
lack_cut n w all taken h e l = elim (cases_lt all.up (40 * (w + 1))) [
  | inl m ↦
      let u = h.up in
      let same : taken.up ≡ all.up = omega arith in
      ap (λ (k : ℕ). lack_by (nat_lt k (40 * (w + 1))) w taken) same ∙ same_up (nat_lt all.up (40 * (w + 1))) w taken all (lt-ltb all.up (40 * (w + 1)) m) same
      (h.up_failed (omega arith))
  | inr m ↦
      let u = h.up in
      let p = h.pcm in
      let far : 40 * (w + 1) ≤ taken.up = omega arith in
      let same : taken.pcm ≡ all.pcm = omega arith in
      ap (λ (b : Bool). lack_by b w taken) (le-ltb taken.up (40 * (w + 1)) far ∙ sym (le-ltb all.up (40 * (w + 1)) m))
      ∙ same_pcm (nat_lt all.up (40 * (w + 1))) w taken all (le-ltb all.up (40 * (w + 1)) m) same (h.pcm_failed (omega arith))
]

-- the periods so far and what is behind them is all
with_behind : (k : ℕ) (g : Given) → k ≤ whole_of g → with_periods k (behind k g) ≡ g
with_behind k g l =
    let up : 40 * k + (g.up - 40 * k) ≡ g.up = omega arith in
    let pcm : 160 * k + (g.pcm - 160 * k) ≡ g.pcm = omega arith in
    ap (λ (n : ℕ). given_with n (160 * k + (g.pcm - 160 * k))) up ∙ ap (given_with g.up) pcm
  where
    given_with : ℕ → ℕ → Given
    given_with up pcm = record { up = up; pcm = pcm; up_failed = g.up_failed; pcm_failed = g.pcm_failed }

-- what a portion took of its call's lines is cut out of them
cut_of : (r : Run) (ds : List Done) (t n c : ℕ) (p : LinesMemory) (up pcm : List ℕ) → IsTaken r ds t n c p up pcm →
    IsCut n (behind (t - start_of ds c) (given_in r c)) (round_lines.given_in p)
cut_of r ds t n c p up pcm h = record { up = h.up_count; pcm = h.pcm_count; up_failed = h.up_failed; pcm_failed = h.pcm_failed }

-- **The whole periods of a round are the places that the call's lines give.**
pub whole_taken : (r : Run) (t n : ℕ) (ds : List Done) (left : List Order) (c : ℕ) (p : LinesMemory)
    (up pcm : List ℕ) → IsRound r t n ds left →
    is_open (gone_at (whole_in r) t ds) ds c ≡ true → IsTaken r ds t n c p up pcm →
    round_lines.whole_in p ≡ places_in r ds t n c
whole_taken r t n ds left c p up pcm h o k =
    let at = open_at r t ds c (standing_now r t ds left h.so_far) o in
    whole_cut n (t - start_of ds c) (given_in r c) (round_lines.given_in p) (cut_of r ds t n c p up pcm k)
    ∙ ap (min n) (minus_minus (start_of ds c) (whole_in r c) t at.begun)
  where
    minus_minus : (s w t : ℕ) → s ≤ t → w - (t - s) ≡ s + w - t
    minus_minus s w t l = omega arith

-- **The end that a round tells of a call is the run's.**
pub round_end : (r : Run) (t n : ℕ) (ds : List Done) (left : List Order) (c : ℕ) (p : LinesMemory)
    (up pcm : List ℕ) → IsRound r t n ds left →
    is_open (gone_at (whole_in r) t ds) ds c ≡ true → IsTaken r ds t n c p up pcm →
    end_in_round t p ≡ (if ends_within r ds t n c then Some (end_of (given_in r) r.periods (done_in r) c (start_of ds c)) else None)
round_end r t n ds left c p up pcm h o k = elim (cases_lt (places_in r ds t n c) n) [
  | inl l ↦
      let ends : ends_within r ds t n c ≡ true = ap (λ (b : Bool). b && nat_lt (places_in r ds t n c) n) o ∙ lt-ltb (places_in r ds t n c) n l in
      let lacks =
      lack_cut n (round_lines.whole_in p) (behind (t - start_of ds c) (given_in r c)) (round_lines.given_in p) (cut_of r ds t n c p up pcm k) (all_taken l) (fewer l) in
      let shifts = lack_shifts (t - start_of ds c) (round_lines.whole_in p) (behind (t - start_of ds c) (given_in r c)) in
      let before = with_behind (t - start_of ds c) (given_in r c) (gave) in
      let cause : lack_of (round_lines.whole_in p) (round_lines.given_in p) ≡ lack_of (whole_in r c) (given_in r c) =
      lacks ∙ sym shifts ∙ ap (lack_of (t - start_of ds c + round_lines.whole_in p)) before ∙ ap (λ (w : ℕ). lack_of w (given_in r c)) (sum l) in
      ap (λ (b : Bool). if b then None else Some (end_with p.call (t + round_lines.whole_in p) (lack_of (round_lines.whole_in p) (round_lines.given_in p))))
      (ne_eqb (round_lines.whole_in p) p.periods (λ e. same_not l e))
      ∙ ap (λ (d : ℕ). Some (end_with d (t + round_lines.whole_in p) (lack_of (round_lines.whole_in p) (round_lines.given_in p)))) k.call
      ∙ ap (λ (w : ℕ). Some (end_with c (t + w) (lack_of (round_lines.whole_in p) (round_lines.given_in p)))) wholes
      ∙ ap (λ (x : Cause). Some (end_with c (t + places_in r ds t n c) x)) cause
      ∙ ap Some (sym (end_within r t n ds left c h ends))
      ∙ sym (ap (λ (b : Bool). if b then Some (end_of (given_in r) r.periods (done_in r) c (start_of ds c)) else None) ends)
  | inr l ↦
      ap (λ (b : Bool). if b then None else Some (end_with p.call (t + round_lines.whole_in p) (lack_of (round_lines.whole_in p) (round_lines.given_in p))))
      (eq-eqb (round_lines.whole_in p) p.periods (full l))
      ∙ sym (ap (λ (b : Bool). if b then Some (end_of (given_in r) r.periods (done_in r) c (start_of ds c)) else None)
      (ap (λ (b : Bool). b && nat_lt (places_in r ds t n c) n) o ∙ le-ltb (places_in r ds t n c) n l))
]
  where
    end_with : ℕ → ℕ → Cause → CallEnd
    end_with call at cause = record { call = call; at = at; cause = cause }

    at : IsOpenAt r t ds c
    at = open_at r t ds c (standing_now r t ds left h.so_far) o

    wholes : round_lines.whole_in p ≡ places_in r ds t n c
    wholes = whole_taken r t n ds left c p up pcm h o k

    rest : (s w t n m : ℕ) → s ≤ t → t ≤ s + w → m ≡ min n (s + w - t) → m < n → t - s + m ≡ w
    rest s w t n m b a e l = omega arith

    fewer : places_in r ds t n c < n → round_lines.whole_in p < n
    fewer l = subst (λ (w : ℕ). w < n) (sym wholes) l

    sum : places_in r ds t n c < n → t - start_of ds c + round_lines.whole_in p ≡ whole_in r c
    sum l = rest (start_of ds c) (whole_in r c) t n (round_lines.whole_in p) at.begun at.alive wholes (fewer l)

    gave : t - start_of ds c ≤ whole_in r c
    gave = held (start_of ds c) (whole_in r c) t at.alive
      where
        held : (s w t : ℕ) → t ≤ s + w → t - s ≤ w
        held s w t l = omega arith

    all_taken : places_in r ds t n c < n → round_lines.whole_in p ≡ whole_of (behind (t - start_of ds c) (given_in r c))
    all_taken l = less (given_in r c) (t - start_of ds c) (round_lines.whole_in p) (sum l)
      where
        less : (g : Given) (k m : ℕ) → k + m ≡ whole_of g → m ≡ whole_of (behind k g)
        less g k m e = omega arith

    same_not : places_in r ds t n c < n → round_lines.whole_in p ≡ p.periods → ⊥
    same_not l e = apart (round_lines.whole_in p) p.periods n (fewer l) k.periods e
      where
        apart : (w m n : ℕ) → w < n → m ≡ n → w ≡ m → ⊥
        apart w m n l e f = absurd (omega arith)

    full : n ≤ places_in r ds t n c → round_lines.whole_in p ≡ p.periods
    full l = wholes ∙ most n (start_of ds c + whole_in r c - t) l ∙ sym k.periods
      where
        most : (n m : ℕ) → n ≤ min n m → min n m ≡ n
        most n m l = omega arith
