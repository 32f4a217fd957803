-- The view and the invariant of a round, before and after its work.
use Rattle.std.specs.Prelude.{◌≡◌, ℕ, Bool, true, Option, Some, None, is_some, if◌then◌else◌, ◌==◌, ◌&&◌, ◌+◌, ◌≤◌, List, [], map, flat_map, ◌++◌}
use Rattle.std.specs.List.{All, list_any}
use Rattle.trau_io.specs.declared.ends.CallEnd.{CallEnd}
use Rattle.trau_io.specs.declared.line.Line.{Line}
use Rattle.trau_io.specs.Indices.{index_of_line}
use Rattle.std.specs.List.Sorted.{IsPermutation, IsStrictlyIncreasing}
use Rattle.round_lines.specs.Memory.{line_name, failed_in_round}
use Rattle.round_lines.specs.Portions.{PortionMemory, Fits}
use Rattle.call_number.specs.CallNumber.{IsCallNumber}
use Rattle.farm_rounds.specs.declared.open.OpenCall.{OpenCall}
use Rattle.farm_rounds.specs.Memory.{FarmMemory}
use Rattle.farm_rounds.specs.Numbers.{IsRising}
use Rattle.farm_rounds.specs.Opens.{IsOpenCall, AreOpen, AreMutual, kept_of, portion_of_open, goes_on_open}
use Rattle.farm_rounds.specs.Settling.{goes_on_in}

-- what is seen of a round: its first period, the farm, which ends with the round, and the portions of its calls
pub record RoundMemory : Type 0 where
  pub start : ℕ
  pub farm : FarmMemory
  pub portions : List PortionMemory

-- a call in a round: it and its bridge were planned for all periods of the round
pub record IsInRound (start ended : ℕ) (o : OpenCall) : Type 0 where
  pub call : IsOpenCall start o
  pub periods : start + o.lines.periods ≡ ended
  pub given : o.job.io.given ≡ o.lines.periods
  pub fresh : o.job.notes ≡ []
  pub alone : o.job.partner ≡ []
  pub bridge : o.job.bridge_end ≡ (if is_some o.partner then o.lines.periods else 0)
  pub fits : Fits o.lines.periods o.job.io.up o.job.io.pcm o.job.io.down o.job.io.out

pub record IsRound (start ended : ℕ) (live : List ℕ) (opens : List OpenCall) : Type 0 where
  pub opened : AreOpen start live opens
  pub each : All (IsInRound start ended) opens
  pub last : ended ≤ 4294967295

-- what is seen of a processed round
pub record WorkedMemory : Type 0 where
  pub farm : FarmMemory
  pub portions : List PortionMemory
  pub ends : List CallEnd

-- a call in a processed round
pub record IsWorkedCall (most : ℕ) (o : OpenCall) : Type 0 where
  pub number : IsCallNumber o.job.io.call
  pub lines : o.lines.call ≡ o.job.io.call
  pub worked : o.job.up.search.periods ≤ most
  pub fits : Fits o.lines.periods o.job.io.up o.job.io.pcm o.job.io.down o.job.io.out

-- a call goes on if its portion has all periods of the round
abbrev pub goes_on_call : List PortionMemory → ℕ → Bool
goes_on_call portions c = list_any (λ s. (s.lines.call == c) && goes_on_in s) portions

-- the partner, if it goes on
abbrev pub that_stays : (ℕ → Bool) → Option ℕ → Option ℕ
that_stays stays None = None
that_stays stays (Some p) = if stays p then Some p else None

-- a call that goes on is bridged exactly if its partner goes on too
abbrev pub StaysBridged : (ℕ → Bool) → OpenCall → Type 0
StaysBridged stays o =
    goes_on_open o ≡ true → o.job.down.bridged ≡ is_some (that_stays stays o.partner)

pub record IsWorkedRound (ended : ℕ) (live : List ℕ) (opens : List OpenCall) : Type 0 where
  pub listed : live ≡ map (λ o. o.job.io.call) opens
  pub rising : IsRising live
  pub each : All (IsWorkedCall ended) opens
  pub both : AreMutual (map kept_of opens)
  pub bridged : All (StaysBridged (goes_on_call (map portion_of_open opens))) opens

-- the partners after a round: a call whose partner has ended goes on alone, and a call that has ended has no partner
abbrev pub partner_past : (ℕ → Bool) → (ℕ → Option ℕ) → ℕ → Option ℕ
partner_past stays partner c = if stays c then that_stays stays (partner c) else None

-- The failed lines are those from before the round and those of the round, each once, in call-number order, and a
-- call's in the order Up, Pcm, Down, Out.
pub record GainsFailed (before now : List Line) (portions : List PortionMemory) : Type 0 where
  pub lines : List Line
  pub told : map line_name lines
      ≡ map line_name before ++ flat_map (λ s. failed_in_round s.lines) portions
  pub same : IsPermutation lines now
  pub order : IsStrictlyIncreasing (map (λ l. index_of_line l.call l.side) now)
