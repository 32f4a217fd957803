-- A run of recorded calls: its incoming lines and its orders are those of the recording. Lists have the newest turn
-- first.
use Rattle.std.specs.Prelude.{◌≡◌, ℕ, ◌+◌, ◌-◌, ◌*◌, Bool, ◌==◌, ◌&&◌, Option, Some, None, ⊤, List, [], ◌∷◌, ◌++◌, length, take, replicate}
use Rattle.std.specs.List.{list_any}
use Rattle.trau_alaw.specs.declared.Law.{Law}
use Rattle.trau_orders.specs.Lists.{AreOrders}
use Rattle.switchboard.specs.declared.act.Span.{Span}
use Rattle.call_spec.specs.Out.{out}
use Rattle.call_spec.specs.Down.{down}
use Rattle.call_coders.specs.Lines.{recorded_out, recorded_down}
use Rattle.run_spec.specs.Run.{Run, IsOpened, law_in, start_in, end_in, spans_in, span_at, is_of, other_in, ups_to}
use Rattle.run_calls_spec.specs.Whole.{whole_call, setting_in}
use Rattle.call_records.specs.Turns.{Turn, Partner, mode_of, starts_bridge, recorded_up, recorded_pcm, outgoing}

-- In period t of the run the call is in a bridge with the partner of the turn, whose Up line has the recorded octets up
-- to this period; or it is in none, and the turn has no partner.
abbrev pub HasPartner : Run → ℕ → ℕ → Option Span → Option Partner → Type 0
HasPartner r c t None None = ⊤
HasPartner r c t None (Some p) = ⊥
HasPartner r c t (Some x) None = ⊥
HasPartner r c t (Some x) (Some p) = (other_in c x ≡ p.number) × (ups_to r p.number (t + 1 - start_in r p.number) ≡ p.ups)

-- whether a bridge of the call starts at period t of the run
abbrev pub bridge_starts : Run → ℕ → ℕ → Bool
bridge_starts r c t = list_any (λ x. is_of c x && x.from == t) (spans_in r)

-- By the run's orders, its period t has for the call what the turn had.
pub record HasTurn (r : Run) (c t : ℕ) (turn : Turn) (past : List Turn) : Type 0 where
  pub level : (setting_in r c t).level ≡ turn.level
  pub mode : (setting_in r c t).mode ≡ mode_of turn.dtx
  pub partner : HasPartner r c t (span_at r c t) turn.partner
  pub starts : bridge_starts r c t ≡ starts_bridge turn past

-- so has each period, from the call's opening on
abbrev pub HasTurns : Run → ℕ → List Turn → Type 0
HasTurns r c [] = ⊤
HasTurns r c (turn ∷ past) = HasTurn r c (start_in r c + length past) turn past × HasTurns r c past

-- **Call c of the run is the recorded one:** it is opened with this law, its lines have the recorded octets, it ends
-- after the newest turn, and the orders have the turns' levels, DTX and bridges.
pub record IsRecordedIn (r : Run) (c : ℕ) (law : Law) (past : List Turn) : Type 0 where
  pub orders : AreOrders r.orders
  pub opened : IsOpened r c
  pub law_is : law_in r c ≡ law
  pub up : (r.lines c).up ≡ recorded_up past
  pub pcm : (r.lines c).pcm ≡ recorded_pcm past
  pub ends : end_in r c ≡ start_in r c + length past
  pub turns : HasTurns r c past

-- **The run writes what was recorded:** all octets of Out, and on Down 320 ones and the recorded frames, as far as the
-- line goes.
pub record WritesRecorded (r : Run) (c : ℕ) (past : List Turn) : Type 0 where
  pub out_is : out (whole_call r c) ≡ recorded_out (outgoing past)
  pub down_is : down (whole_call r c) ≡ take (320 * length past) (replicate 320 1 ++ recorded_down (outgoing past))

-- each run of the recording does
abbrev pub RunsWriteRecorded : ℕ → Law → List Turn → Type 0
RunsWriteRecorded number law past = (r : Run) → IsRecordedIn r number law past → WritesRecorded r number past
