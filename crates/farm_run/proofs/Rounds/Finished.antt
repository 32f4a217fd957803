-- A round's job has its call's octets, and when it is finished, its octets are the next of the call's outgoing lines.
use Rattle.std.proofs.Common.{◌≡◌, sym, ap, ◌∙◌, ℕ, ◌+◌, ◌-◌, ◌*◌, ◌≤◌, true, List, ◌++◌, take, drop}
use Rattle.std.proofs.Common.{arith}
use Rattle.std.proofs.lemmas.List.{take_at, take-take, drop-drop, drop-take}
use Rattle.trau_orders.specs.declared.order.Order.{Order}
use Rattle.switchboard.specs.Calls.{Done, is_open, gone_at}
use Rattle.switchboard.specs.Ends.{start_of}
use Rattle.round_lines.specs.Memory as round_lines
use Rattle.round_lines.specs.Memory.{LinesMemory}
use Rattle.call_pair.specs.Memory.{IoMemory}
use Rattle.call_pair.specs.History.{outs_of, downs_of, io_after}
use Rattle.call_pair.proofs.Octets.{length-outs_of, length-downs_of}
use Rattle.run_spec.specs.Run.{Run, whole_in, periods_to, who_in}
use Rattle.run_spec.specs.Lines.{out_line, down_octets}
use Rattle.farm_run.proofs.Rounds.Taken.{IsRound, IsFed, IsTaken}
use Rattle.farm_run.proofs.Rounds.Ends.{whole_taken}
use Rattle.run_spec.proofs.Parts.LongerLines.{length-periods_to}
use Rattle.farm_run.proofs.Rounds.Octets.{out_of_periods, down_of_periods}

-- ---- what was taken is what the places have

-- a octets at y within what was taken are those of the line at z
taken_place : (m a x y z : ℕ) (block line : List ℕ) → take m block ≡ take m (drop x line) →
    y + a ≤ m → x + y ≡ z → take a (drop y block) ≡ take a (drop z line)
taken_place m a x y z block line e l f =
    sym (front block) ∙ ap (λ (xs : List ℕ). take a (drop y xs)) e ∙ front (drop x line) ∙ ap (take a) (drop-drop y x line ∙ ap (λ (i : ℕ). drop i line) f)
  where
    front : (xs : List ℕ) → take a (drop y (take m xs)) ≡ take a (drop y xs)
    front xs =
        let all : y + (m - y) ≡ m = omega arith in
        ap (λ (i : ℕ). take a (drop y (take i xs))) (sym all) ∙ ap (take a) (drop-take y (m - y) xs) ∙ take-take a (m - y) (drop y xs) (omega arith)

-- **A call whose buffers were filled from its lines is fed.**
pub fed_taken : (r : Run) (t n : ℕ) (ds : List Done) (left : List Order) (c : ℕ) (p : LinesMemory) (io : IoMemory) → IsRound r t n ds left →
    is_open (gone_at (whole_in r) t ds) ds c ≡ true → IsTaken r ds t n c p io.up io.pcm →
    io.call ≡ c → io.given ≡ round_lines.whole_in p → io.done ≡ 0 → IsFed r ds t n c io
fed_taken r t n ds left c p io h o k e g d =
    let lines = r.lines c in
    record {
      call = e;
      given = g ∙ whole_taken r t n ds left c p io.up io.pcm h o k;
      none_done = d;
      up = λ j l. taken_place p.up.count 40 (40 * (t - start_of ds c)) (40 * j) (40 * (t - start_of ds c + j)) io.up lines.up k.up_octets
          (omega arith) (omega arith);
      pcm = λ j l. taken_place p.pcm.count 160 (160 * (t - start_of ds c)) (160 * j) (160 * (t - start_of ds c + j)) io.pcm lines.pcm k.pcm_octets
          (omega arith) (omega arith);
    }

-- ---- its octets

-- **With the octets of its places the Out line of a call is the run's up to there.**
pub out_written : (r : Run) (t k : ℕ) (ds : List Done) (c : ℕ) (io now : IoMemory) → start_of ds c ≤ t →
    now ≡ io_after (who_in r c) k (periods_to r c (t + k - start_of ds c)) io →
    out_line (who_in r c) (periods_to r c (t + k - start_of ds c))
    ≡ out_line (who_in r c) (periods_to r c (t - start_of ds c)) ++ take (160 * k) now.out
out_written r t k ds c io now l f =
    let at : t - start_of ds c + k ≡ t + k - start_of ds c = omega arith in
    let ts = periods_to r c (t + k - start_of ds c) in
    sym (ap (λ (m : ℕ). out_line (who_in r c) (periods_to r c m)) at) ∙ out_of_periods r c (t - start_of ds c) k
    ∙ ap (λ (m : ℕ). out_line (who_in r c) (periods_to r c (t - start_of ds c)) ++ outs_of (who_in r c) k (periods_to r c m)) at
    ∙ ap (λ (xs : List ℕ). out_line (who_in r c) (periods_to r c (t - start_of ds c)) ++ xs)
    (sym (ap (λ (i : IoMemory). take (160 * k) i.out) f
    ∙ take_at (outs_of (who_in r c) k ts) (drop (160 * k) io.out) (160 * k)
    (length-outs_of (who_in r c) k ts (omega (arith, length-periods_to r c (t + k - start_of ds c))))))

-- **With the octets of its places the Down line of a call is the run's up to there.**
pub down_written : (r : Run) (t k : ℕ) (ds : List Done) (c : ℕ) (io now : IoMemory) → start_of ds c ≤ t →
    now ≡ io_after (who_in r c) k (periods_to r c (t + k - start_of ds c)) io →
    down_octets (who_in r c) (periods_to r c (t + k - start_of ds c))
    ≡ down_octets (who_in r c) (periods_to r c (t - start_of ds c)) ++ take (40 * k) now.down
down_written r t k ds c io now l f =
    let at : t - start_of ds c + k ≡ t + k - start_of ds c = omega arith in
    let ts = periods_to r c (t + k - start_of ds c) in
    sym (ap (λ (m : ℕ). down_octets (who_in r c) (periods_to r c m)) at) ∙ down_of_periods r c (t - start_of ds c) k
    ∙ ap (λ (m : ℕ). down_octets (who_in r c) (periods_to r c (t - start_of ds c)) ++ downs_of (who_in r c) k (periods_to r c m)) at
    ∙ ap (λ (xs : List ℕ). down_octets (who_in r c) (periods_to r c (t - start_of ds c)) ++ xs)
    (sym (ap (λ (i : IoMemory). take (40 * k) i.down) f
    ∙ take_at (downs_of (who_in r c) k ts) (drop (40 * k) io.down) (40 * k)
    (length-downs_of (who_in r c) k ts (omega (arith, length-periods_to r c (t + k - start_of ds c))))))
