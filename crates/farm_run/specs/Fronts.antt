-- What a run that runs out of memory leaves on the lines (this project's profile). `before` are the lines before it,
-- `now` those after it.
use Rattle.std.specs.Prelude.{◌≡◌, ◌<◌, ◌≤◌, ℕ, ◌*◌, Bool, true, false, List, take}
use Rattle.std.specs.Io.KnownBytes.{Appends}
use Rattle.trau_io.specs.declared.line.Side.{Side}
use Rattle.trau_io.specs.declared.line.Side.TheVariants.{Up, Pcm, Down, Out}
use Rattle.trau_io.specs.Lines.{LineState}
use Rattle.trau_orders.specs.declared.order.Order.{Order}
use Rattle.trau_orders.specs.Lists.{AreOrders}
use Rattle.round_lines.specs.Rounds.{IsIncoming}
use Rattle.run_spec.specs.Run.{Run, end_in, IsOpened, cause_in, worked_to}
use Rattle.run_spec.specs.Lines.{out_of_call, down_of_call}
use Rattle.farm_run.specs.Runs.{AreFailures, FailedBy, HasWritten, IsCutOff, IsReadTo, IsReadWhole, IsRunOver, AreTold, KeepsSides, OnlyOpenedFail, ReadBy, ReadsOn}

-- An outgoing line has gained a prefix of these octets, maybe all; if it failed, a proper prefix, as in a run that came
-- to its end.
abbrev pub HasFront : Bool → LineState → LineState → List ℕ → Type 0
HasFront false before now octets = (n : ℕ) × Appends before.written now.written (take n octets)
HasFront true before now octets = HasWritten true before now octets

-- What a run leaves on the lines if it stops before its end.
pub record LeavesFronts (r : Run) (fails : ℕ → Side → Bool)
    (before now : ℕ → Side → LineState) : Type 0 where
  -- the outgoing lines of each call that it opens have gained a prefix of what the run gives them; those that failed, a
  -- proper prefix
  pub out : (c : ℕ) → IsOpened r c →
      HasFront (fails c Out) (before c Out) (now c Out) (out_of_call r c)
  pub down : (c : ℕ) → IsOpened r c →
      HasFront (fails c Down) (before c Down) (now c Down) (down_of_call r c)
  -- the lines of all other calls are unchanged, their counts included
  pub others : (c : ℕ) (s : Side) → (IsOpened r c → ⊥) → now c s ≡ before c s

-- What a run leaves on the lines if it stops at its period t. It has written exactly the octets of the periods before
-- t, except on lines that failed. It has read exactly these periods of the lines of a call, unless the call ended
-- before t because of its lines.
pub record StopsAt (r : Run) (t : ℕ) (fails : ℕ → Side → Bool)
    (before now : ℕ → Side → LineState) : Type 0 where
  -- the outgoing lines of each call that it opens have gained the octets of these periods; those that failed, a proper
  -- prefix of them
  pub out : (c : ℕ) → IsOpened r c →
      HasWritten (fails c Out) (before c Out) (now c Out)
      (take (160 * worked_to r t c) (out_of_call r c))
  pub down : (c : ℕ) → IsOpened r c →
      HasWritten (fails c Down) (before c Down) (now c Down)
      (take (40 * worked_to r t c) (down_of_call r c))
  -- unless the call ended before t because of its lines, exactly the octets of these periods were read of its incoming
  -- lines
  pub up_read : (c : ℕ) → IsOpened r c → fails c Up ≡ false → IsReadWhole r t c →
      IsReadTo (now c Up) (40 * worked_to r t c) (r.lines c).up
  pub pcm_read : (c : ℕ) → IsOpened r c → fails c Pcm ≡ false → IsReadWhole r t c →
      IsReadTo (now c Pcm) (160 * worked_to r t c) (r.lines c).pcm
  -- the call of an incoming line that failed ended before t, by its lines and not by an order
  pub over : (c : ℕ) (s : Side) → IsIncoming s → fails c s ≡ true →
      (end_in r c < t) × (IsCutOff (cause_in r c) → ⊥)

-- A run of these orders, in rounds of at most `batch` periods, that ran out of memory. There is no report, so `fails`
-- says which lines failed.
pub record IsCutShort (orders : List Order) (batch periods : ℕ)
    (before now : ℕ → Side → LineState) : Type 0 where
  -- the lines that failed
  pub fails : ℕ → Side → Bool
  pub told : AreFailures fails before now
  -- incoming lines were only read, from the start, and outgoing lines only written
  pub sides : KeepsSides before now
  pub reads : ReadsOn before now
  -- each outgoing line has gained a prefix of what the whole run, over what the lines gave, gives it; a line that
  -- failed, a proper prefix. Except for `others`, that follows from `stops`.
  pub fronts : (r : Run) → IsRunOver orders periods fails before now r →
      LeavesFronts r fails before now
  -- it stopped at one period, the same for all lines
  pub clock : ℕ
  pub within : clock ≤ periods
  pub stops : (r : Run) → IsRunOver orders periods fails before now r →
      StopsAt r clock fails before now
  -- each line that failed is one of a call that the run opens; an incoming one gave fewer octets than its call takes up
  -- to some period, at most a batch after the call's end and not after `clock`
  pub opened : (r : Run) → IsRunOver orders periods fails before now r → OnlyOpenedFail r fails
  pub short : (r : Run) → IsRunOver orders periods fails before now r → FailedBy r batch clock fails
  -- of a call that its lines ended before `clock`, exactly the octets up to such a period were read of its incoming
  -- lines that didn't fail
  pub read_past : (r : Run) → IsRunOver orders periods fails before now r →
      ReadBy r batch clock fails now
  -- if the orders are in range and the contents of the incoming lines are known, such a run exists
  pub there : AreOrders orders → AreTold before →
      (r : Run) × IsRunOver orders periods fails before now r
