-- A period of the coders, as one of the call.
use Rattle.std.proofs.Common.{◌≡◌, ℕ, List, sym, subst}
use Rattle.trau_alaw.specs.declared.Law.{Law}
use Rattle.fr_sides.specs.Memory.{receiver_memory, sender_memory}
use Rattle.call_leg.specs.Periods.{CallPeriod}
use Rattle.call_coders.specs.declared.coders.Coders.{Coders}
use Rattle.call_coders.specs.Replay.{CallStands, Replays, who_is}

abbrev pub Stood : ℕ → Law → List CallPeriod → Coders → Type 0
Stood number law past c = CallStands (who_is number law) past (receiver_memory c.receiver) (sender_memory c.sender)

abbrev pub Replayed : ℕ → Law → List CallPeriod → Coders → List ℕ → List ℕ → Type 0
Replayed number law ts c out down = Replays (who_is number law) ts (receiver_memory c.receiver) (sender_memory c.sender) out down

-- after a period
pub moved : (number : ℕ) (law same : Law) (ts : List CallPeriod) (after final : Coders) (out down : List ℕ) → same ≡ law → final ≡ after →
    Replayed number same ts after out down → Replayed number law ts final out down
moved number law same ts after final out down l f r =
    subst (λ (c : Coders). Replayed number law ts c out down) (sym f) (subst (λ (w : Law). Replayed number w ts after out down) l r)

-- before it
pub stood : (number : ℕ) (law same : Law) (past : List CallPeriod) (given before : Coders) → same ≡ law → before ≡ given → Stood number law past given →
    Stood number same past before
stood number law same past given before l b s =
    subst (λ (w : Law). Stood number w past before) (sym l) (subst (λ (c : Coders). Stood number law past c) (sym b) s)
