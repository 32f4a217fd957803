-- A round of n periods, from the clock t on: how far each call comes in it, and what the round takes of the call's
-- lines. `ds` are the orders that were executed so far, the oldest first, and `left` the others.
use Rattle.std.proofs.Common.{◌≡◌, ℕ, ◌+◌, ◌-◌, ◌*◌, ◌<◌, ◌≤◌, Bool, true, List, length, take, drop}
use Rattle.std.specs.Prelude.{min, ◌==◌, IfSome, ◌&&◌, nat_lt}
use Rattle.std.specs.List.{list_any}
use Rattle.trau_orders.specs.declared.order.Order.{Order}
use Rattle.switchboard.specs.Calls.{Done, is_open, gone_at}
use Rattle.switchboard.specs.Ends.{start_of}
use Rattle.switchboard.specs.State.{first_stamp}
use Rattle.call_pair.specs.Memory.{IoMemory}
use Rattle.call_pair.specs.Periods.{up_at, pcm_at}
use Rattle.call_pair.specs.History.{Start}
use Rattle.round_lines.specs.Memory.{LinesMemory}
use Rattle.round_lines.specs.Portions.{PortionMemory}
use Rattle.run_spec.specs.Run.{Run, whole_in, up_in, pcm_in, periods_to, law_in}
use Rattle.run_spec.specs.Now.{IsSoFar, settings_now}

-- how many of the round's periods a call's lines give
abbrev pub places_in : Run → List Done → ℕ → ℕ → ℕ → ℕ
places_in r ds t n c = min n (start_of ds c + whole_in r c - t)

-- a call is open at the clock, and ends within the round because of its lines
abbrev pub ends_within : Run → List Done → ℕ → ℕ → ℕ → Bool
ends_within r ds t n c = is_open (gone_at (whole_in r) t ds) ds c && nat_lt (places_in r ds t n c) n

-- a round of at least one period: the run has all of them, and the next order doesn't come before its end
pub record IsRound (r : Run) (t n : ℕ) (ds : List Done) (left : List Order) : Type 0 where
  pub so_far : IsSoFar r t ds left
  pub some : 1 ≤ n
  pub within : t + n ≤ r.periods
  pub clear : IfSome (first_stamp left) (λ s. t + n ≤ s)

-- A call's octets in the round: it has the places that its lines give, with their octets, and none of them is done.
pub record IsFed (r : Run) (ds : List Done) (t n c : ℕ) (io : IoMemory) : Type 0 where
  pub call : io.call ≡ c
  pub given : io.given ≡ places_in r ds t n c
  pub none_done : io.done ≡ 0
  pub up : (k : ℕ) → k < io.given → up_at k io ≡ up_in r c (t - start_of ds c + k)
  pub pcm : (k : ℕ) → k < io.given → pcm_at k io ≡ pcm_in r c (t - start_of ds c + k)

-- the call at the start of the round, with these octets
abbrev pub start_at : Run → List Done → ℕ → ℕ → IoMemory → Start
start_at r ds t c io = record { law = law_in r c; past = periods_to r c (t - start_of ds c); now = settings_now r ds t c; io = io }

-- What the round took of a call's incoming lines into these buffers: of the octets behind the periods so far as many as
-- the round's periods have. A line that gave fewer failed in the round where it fails at all.
pub record IsTaken (r : Run) (ds : List Done) (t n c : ℕ) (p : LinesMemory) (up pcm : List ℕ) : Type 0 where
  pub call : p.call ≡ c
  pub periods : p.periods ≡ n
  pub up_count : let l = r.lines c in p.up.count ≡ min (40 * n) (length l.up - 40 * (t - start_of ds c))
  pub pcm_count : let l = r.lines c in p.pcm.count ≡ min (160 * n) (length l.pcm - 160 * (t - start_of ds c))
  pub up_failed : let l = r.lines c in p.up.count < 40 * n → p.up.failed ≡ l.up_failed
  pub pcm_failed : let l = r.lines c in p.pcm.count < 160 * n → p.pcm.failed ≡ l.pcm_failed
  pub up_octets : let l = r.lines c in take p.up.count up ≡ take p.up.count (drop (40 * (t - start_of ds c)) l.up)
  pub pcm_octets : let l = r.lines c in take p.pcm.count pcm ≡ take p.pcm.count (drop (160 * (t - start_of ds c)) l.pcm)

-- a portion in the round: its call is open at the clock, and its lines gave what they could
pub record IsPortion (r : Run) (ds : List Done) (t n : ℕ) (s : PortionMemory) : Type 0 where
  pub open_now : is_open (gone_at (whole_in r) t ds) ds s.lines.call ≡ true
  pub taken : IsTaken r ds t n s.lines.call s.lines s.up s.pcm

-- a call has one of these portions
abbrev pub has_portion : ℕ → List PortionMemory → Bool
has_portion c portions = list_any (λ s. c == s.lines.call) portions
