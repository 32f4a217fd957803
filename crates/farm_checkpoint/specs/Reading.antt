-- What was read from a text after the first line of a mark.
use Rattle.std.specs.Prelude.{ℕ, ◌+◌, ◌<◌, ◌≡◌, List, ◌++◌, length}
use Rattle.std.specs.List.{All, flat_map}
use Rattle.farm_checkpoint.specs.declared.mark.MarkCall.{MarkCall}
use Rattle.farm_checkpoint.specs.Marks.{IsOpenAtMark, AreOpenAtMark, HasSums}
use Rattle.farm_checkpoint.specs.Text.{call_text, orders_line}

-- the text is the lines of these calls, which may be open at this period, followed by the rest
pub record AreCallLines (period : ℕ) (text : List ℕ) (calls : List MarkCall) (rest : List ℕ) : Type 0 where
  pub are_open : AreOpenAtMark period calls
  pub sums : All HasSums calls
  pub whole : text ≡ flat_map call_text calls ++ rest

-- a call's number is greater than those of these calls
abbrev pub RisesAbove : List MarkCall → MarkCall → Type 0
RisesAbove calls call = All (λ earlier. earlier.call < call.call) calls

-- the rest begins with no line that may follow these calls
pub record IsStuck (period : ℕ) (calls : List MarkCall) (rest : List ℕ) : Type 0 where
  pub no_call : (call : MarkCall) (after : List ℕ) → IsOpenAtMark period call → HasSums call → RisesAbove calls call → rest ≡ call_text call ++ after → ⊥
  pub no_orders : (after : List ℕ) → rest ≡ orders_line ++ after → ⊥

-- line n of the whole text is the first that isn't in the grammar
pub record IsBadCall (period : ℕ) (text : List ℕ) (n : ℕ) : Type 0 where
  pub calls : List MarkCall
  pub rest : List ℕ
  pub good : AreCallLines period text calls rest
  pub stuck : IsStuck period calls rest
  pub number : n ≡ length calls + 2
