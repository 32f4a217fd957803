-- The periods of turns.
use Rattle.std.proofs.Common.{◌≡◌, refl, sym, ap, ◌∙◌, ℕ, suc, pos, Bool, true, false, Option, Some, None, List, [], ◌∷◌, length}
use Rattle.std.proofs.lemmas.Bool.{true≢false}
use Rattle.std.specs.Prelude.{not, ◌||◌, is_some, option_map}
use Rattle.down_framer.specs.Bridges.{in_bridge}
use Rattle.call_leg.specs.Periods.{CallPeriod, ups_of}
use Rattle.call_leg.specs.Down.{down_periods}
use Rattle.call_coders.specs.Replay.{CanBeBridged}
use Rattle.call_coders.specs.Replay as coders
use Rattle.run_spec.specs.Run.{item_of}
use Rattle.run_spec.proofs.Periods.Next.{item_ups}
use Rattle.call_records.specs.Turns.{Turn, Partner, ups_of_turns, is_paired, periods_of}

pub ups-of : (past : List Turn) → ups_of (periods_of past) ≡ ups_of_turns past
ups-of [] = refl
ups-of (t ∷ past) = ap (λ us. t.recorded.up ∷ us) (ups-of past)

pub length-periods_of : (past : List Turn) → length (periods_of past) ≡ length past
length-periods_of [] = refl
length-periods_of (t ∷ past) = ap suc (length-periods_of past)

-- ---- bridges

in-bridge : (past : List Turn) → in_bridge (down_periods (periods_of past)) ≡ is_paired past
in-bridge [] = refl
in-bridge (t ∷ past) = by t.partner
  where
    by : (p : Option Partner) → is_some (option_map (λ p. item_of p.number p.ups) p) ≡ is_some p
    by None = refl
    by (Some p) = refl

-- **The next turn of a pair can be in a bridge, which starts with it if the newest turn isn't one of a pair.**
pub can-be-bridged : (past : List Turn) → CanBeBridged (not (is_paired past)) (periods_of past)
can-be-bridged past = by (in_bridge (down_periods (periods_of past))) (is_paired past) (in-bridge past)
  where
    by : (bridged paired : Bool) → bridged ≡ paired → (not paired ≡ true → bridged ≡ false) × ((not paired || bridged) ≡ true)
    by true true e = (λ x. absurd (true≢false (sym x)), refl)
    by true false e = absurd (true≢false e)
    by false true e = absurd (true≢false (sym e))
    by false false e = (λ _. refl, refl)

-- **What the partner hands over depends on its recorded Up line alone.**
pub item-of-turns : (number : ℕ) (up : List ℕ) (before : List Turn) → item_of number (up ∷ ups_of_turns before) ≡ coders.item_of number up (periods_of before)
item-of-turns number up before = ap (λ us. item_of number (up ∷ us)) (sym (ups-of before)) ∙ item_ups number (newest ∷ periods_of before)
  where
    newest : CallPeriod
    newest = coders.period_of up [] (pos 0) false
